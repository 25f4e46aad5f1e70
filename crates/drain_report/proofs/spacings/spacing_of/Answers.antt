use Rattle.drain_report.proofs.Names.{◌≡◌, get_or, pos, ap, none_some, same_some}
use Rattle.drain_report.proofs.SpacingLists.{height_small, made_of, none_made, same_made, width_small}
use Rattle.drain_report.proofs.spacings.spacing_of.Goals as goal

pub returns-in_err-width-clause-back : goal.returns-in_err-width-clause-back
returns-in_err-width-clause-back c = λ s fit is kind.
    absurd (none_some s.width (c.in_err-width.ensures.back s.width (width_small s fit) (ap (λ ns. get_or ns 0 (pos 0)) is)))

pub returns-in_err-height-clause-back : goal.returns-in_err-height-clause-back
returns-in_err-height-clause-back c = λ s fit is kind.
    absurd (none_some s.height (c.in_err-height.ensures.back s.height (height_small s fit) (ap (λ ns. get_or ns 1 (pos 0)) is)))

pub returns-in_err-spacing-clause-back : goal.returns-in_err-spacing-clause-back
returns-in_err-spacing-clause-back c = λ s fit is kind.
    let width : c.in_ok-width.width ≡ s.width =
    same_some _ _ (c.in_ok-width.ensures.back s.width (width_small s fit) (ap (λ ns. get_or ns 0 (pos 0)) is)) in
    let height : c.in_ok-height.height ≡ s.height =
    same_some _ _ (c.in_ok-height.ensures.back s.height (height_small s fit) (ap (λ ns. get_or ns 1 (pos 0)) is)) in
    absurd (none_made c.new.result c.in_ok-width.width c.in_ok-height.height s c.in_err-spacing.was width height c.new.ensures.valid fit)

pub returns-clause-sound : goal.returns-clause-sound
returns-clause-sound c =
    made_of c.args.numbers.now c.in_ok-width.width c.in_ok-height.height c.in_ok-spacing.spacing c.of_kind.result c.args.kind c.requires.len
    c.in_ok-width.ensures.sound c.in_ok-height.ensures.sound c.in_ok-spacing.ensures.value c.of_kind.ensures

pub returns-clause-back : goal.returns-clause-back
returns-clause-back c = λ s fit is kind.
    let width : c.in_ok-width.width ≡ s.width =
    same_some _ _ (c.in_ok-width.ensures.back s.width (width_small s fit) (ap (λ ns. get_or ns 0 (pos 0)) is)) in
    let height : c.in_ok-height.height ≡ s.height =
    same_some _ _ (c.in_ok-height.ensures.back s.height (height_small s fit) (ap (λ ns. get_or ns 1 (pos 0)) is)) in
    same_made c.in_ok-width.width c.in_ok-height.height c.in_ok-spacing.spacing c.of_kind.result s c.args.kind c.in_ok-spacing.ensures.value c.of_kind.ensures
    width height kind
