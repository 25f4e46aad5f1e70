use Rattle.drain_report.proofs.Names.{get_or, pos, drop, ap, Some, none_some, same_some}
use Rattle.drain_report.proofs.FactLemmas.{corner_of, size_of, corner_narrow, size_narrow, same_place}
use Rattle.drain_report.proofs.ListLemmas.{four_then}
use Rattle.drain_report.proofs.place.PlaceFact.from_numbers.Goals as goal

pub returns-in_err-corner-clause-back : goal.returns-in_err-corner-clause-back
returns-in_err-corner-clause-back c = λ p fit is.
    absurd (none_some (corner_of p) (c.in_err-corner.ensures.back (corner_of p) (corner_narrow p fit) (ap (λ ns. get_or ns 0 (pos 0)) is) (ap (λ ns. get_or ns 1 (pos 0)) is)))

pub returns-in_err-size-clause-back : goal.returns-in_err-size-clause-back
returns-in_err-size-clause-back c = λ p fit is.
    absurd (none_some (size_of p) (c.in_err-size.ensures.back (size_of p) (size_narrow p fit) (ap (λ ns. get_or ns 2 (pos 0)) is) (ap (λ ns. get_or ns 3 (pos 0)) is)))

pub returns-in_err-inner-clause-back : goal.returns-in_err-inner-clause-back
returns-in_err-inner-clause-back c = λ p fit is. absurd (none_some p.inner (c.in_err-inner.ensures.back p.inner (ap (λ ns. drop 4 ns) is)))

pub returns-clause-sound : goal.returns-clause-sound
returns-clause-sound c =
    four_then c.args.numbers.now _ _ _ _ _ c.requires.len
    c.in_ok-corner.ensures.sound.0
    c.in_ok-corner.ensures.sound.1
    c.in_ok-size.ensures.sound.0
    c.in_ok-size.ensures.sound.1
    c.in_ok-inner.ensures.sound

pub returns-clause-back : goal.returns-clause-back
returns-clause-back c = λ p fit is.
    let corner = same_some c.in_ok-corner.corner (corner_of p) (c.in_ok-corner.ensures.back (corner_of p) (corner_narrow p fit) (ap (λ ns. get_or ns 0 (pos 0)) is) (ap (λ ns. get_or ns 1 (pos 0)) is)) in
    let size = same_some c.in_ok-size.size (size_of p) (c.in_ok-size.ensures.back (size_of p) (size_narrow p fit) (ap (λ ns. get_or ns 2 (pos 0)) is) (ap (λ ns. get_or ns 3 (pos 0)) is)) in
    let inner = same_some c.in_ok-inner.inner p.inner (c.in_ok-inner.ensures.back p.inner (ap (λ ns. drop 4 ns) is)) in
    ap (λ x. Some x) (same_place p _ _ _ _ (ap (λ x. x.row) corner) (ap (λ x. x.col) corner) (ap (λ x. record { rows = x.row; cols = x.col }) size) inner)
