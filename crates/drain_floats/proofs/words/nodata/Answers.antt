use Rattle.drain_floats.proofs.Names.{ℤ, sym, ◌∙◌, ap, subst, rules, option_map, w64, to_z-of_z, IsFloatNumber, float_number}
use Rattle.std.proofs.Common.{Some}
use Rattle.drain_floats.proofs.Numbers.{float_number_within}
use Rattle.drain_floats.proofs.words.nodata.Goals as goal

pub returns-in-Ok-clause-number : goal.returns-in-Ok-clause-number
returns-in-Ok-clause-number c =
    let number = float_number_within c.args.word.now c.number_of.result (ap (option_map float_number) c.in-Ok.ensures.exact ∙ ap (λ (n : ℤ). Some n) (sym c.number_of.ensures)) in
    subst (λ (n : ℤ). IsFloatNumber n) (sym (to_z-of_z w64 c.number_of.result (search rules))) number
