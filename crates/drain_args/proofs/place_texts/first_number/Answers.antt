use Rattle.drain_args.proofs.Names.{◌≡◌, ◌∷◌, [], Some, None, ap, sym, ◌∙◌, whole_number, numbers_of}
use Rattle.drain_args.proofs.Commas.{numbers_at_comma, not_two, not_first}
use Rattle.drain_args.proofs.place_texts.first_number.Goals as goal

pub returns-in_err-number : goal.returns-in_err-number
returns-in_err-number c =
    let all = numbers_at_comma c.args.text.now c.split_once.result c.split_once.ensures.cases in
    let none : numbers_of c.args.text.now ≡ whole_number c.args.text.now ∷ [] = rw c.in_err-number.was at all in
    rw c.from_residual.ensures (not_two _ _ none)

pub returns-in_err-whole_number : goal.returns-in_err-whole_number
returns-in_err-whole_number c =
    let all = numbers_at_comma c.args.text.now c.split_once.result c.split_once.ensures.cases in
    let found : numbers_of c.args.text.now ≡ whole_number c.in_ok-number.number.now ∷ numbers_of c.in_ok-number.rest.now = rw c.in_ok-number.was at all in
    let none : whole_number c.in_ok-number.number.now ≡ None = sym (ap whole_number c.as_bytes.ensures.value) ∙ sym c.whole_number.ensures ∙ c.in_err-whole_number.was in
    rw c.from_residual-in_err-whole_number.ensures (λ n m more. not_first _ _ _ found none n (m ∷ more))

pub returns : goal.returns
returns c =
    let all = numbers_at_comma c.args.text.now c.split_once.result c.split_once.ensures.cases in
    let found : numbers_of c.args.text.now ≡ whole_number c.in_ok-number.number.now ∷ numbers_of c.in_ok-number.rest.now = rw c.in_ok-number.was at all in
    let number : whole_number c.in_ok-number.number.now ≡ Some c.in_ok-whole_number.field-0 = sym (ap whole_number c.as_bytes.ensures.value) ∙ sym c.whole_number.ensures ∙ c.in_ok-whole_number.was in
    found ∙ ap (λ first. first ∷ numbers_of c.in_ok-number.rest.now) number
