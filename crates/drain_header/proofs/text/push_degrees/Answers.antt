use Rattle.drain_header.proofs.Names.{◌/◌, ◌%◌, ◌∙◌, ap, rules, decimal, unsigned_abs, sign_text, is_negative, w128, to_z-of_z}
use Rattle.std.proofs.Common.{ℕ, ◌++◌}
use Rattle.drain_header.proofs.Entries.{degrees_line}
use Rattle.drain_header.proofs.text.push_degrees.Goals as goal

pub returns : goal.returns
returns c =
    let before = c.args.text.now.items in
    let same = to_z-of_z w128 c.args.units (search rules) in
    let name = c.in_ok-push.ensures ∙ ap (λ bs. before ++ bs) (c.as_bytes.ensures.value ∙ c.name.ensures) in
    let signed = c.in_ok-push-3.ensures ∙ ap (λ bs. c.push-2.new.text.items ++ bs) (c.as_bytes-2.ensures.value ∙ c.sign.ensures ∙ ap (λ z. sign_text (is_negative z)) same) in
    let whole = c.in_ok-push-4.ensures ∙ ap (λ bs. c.push-3.new.text.items ++ bs) (c.as_bytes-3.ensures.value ∙ c.format.ensures.text ∙ ap decimal (c.in_degrees-degrees.ensures.whole ∙ ap (λ (n : ℕ). n / 1000000000000000) (c.unsigned_abs.ensures.value ∙ ap unsigned_abs same))) in
    let fraction = c.in_ok-push_fraction.ensures (unsigned_abs c.args.units) (c.in_degrees-degrees.ensures.rest ∙ ap (λ (n : ℕ). n % 1000000000000000) (c.unsigned_abs.ensures.value ∙ ap unsigned_abs same)) in
    rw (← degrees_line c.args.key c.args.units before c.push.new.text.items c.push-2.new.text.items c.push-3.new.text.items c.push-4.new.text.items c.push-5.new.text.items c.push_fraction.new.text.items
    name c.in_ok-push-2.ensures signed whole c.in_ok-push-5.ensures fraction) c.push-6.ensures
