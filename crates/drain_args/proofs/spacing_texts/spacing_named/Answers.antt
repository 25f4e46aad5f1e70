use Rattle.drain_args.proofs.Names.{sym, subst, IsDecimal}
use Rattle.drain_args.proofs.Decimals.{spacing_matched, texts_at_comma}
use Rattle.drain_args.proofs.spacing_texts.spacing_named.Goals as goal

pub returns-in_err-width : goal.returns-in_err-width
returns-in_err-width c = rw c.from_residual.ensures (λ s fits named.
    rw c.in_err-width.was at (texts_at_comma c.args.text.now named.width_text named.height_text c.split_once.result c.split_once.ensures.cases named.written named.width_digits named.width_places named.width_is))

pub returns-in_err-width-2 : goal.returns-in_err-width-2
returns-in_err-width-2 c = rw c.from_residual-in_err-width-2.ensures (λ s fits named. (
    let texts = rw c.in_ok-width.was at (texts_at_comma c.args.text.now named.width_text named.height_text c.split_once.result c.split_once.ensures.cases named.written named.width_digits named.width_places named.width_is) in
    (rw c.in_err-width-2.was at c.units_named.ensures) named.width_digits named.width_places
    (subst (λ t. IsDecimal t named.width_digits named.width_places) (sym texts.0) named.width_is)))

pub returns-in_err-height : goal.returns-in_err-height
returns-in_err-height c = rw c.from_residual-in_err-height.ensures (λ s fits named. (
    let texts = rw c.in_ok-width.was at (texts_at_comma c.args.text.now named.width_text named.height_text c.split_once.result c.split_once.ensures.cases named.written named.width_digits named.width_places named.width_is) in
    (rw c.in_err-height.was at c.units_named-2.ensures) named.height_digits named.height_places
    (subst (λ t. IsDecimal t named.height_digits named.height_places) (sym texts.1) named.height_is)))

pub returns : goal.returns
returns c = spacing_matched c.args.text.now c.split_once.result (c.in_ok-width.width, c.in_ok-width.height) _ _ _ _ c.spacing_of.result c.split_once.ensures.cases c.in_ok-width.was
    (rw c.in_ok-width-2.was at c.units_named.ensures) (rw c.in_ok-height.was at c.units_named-2.ensures) c.in_least_unit-width.ensures c.spacing_of.ensures
