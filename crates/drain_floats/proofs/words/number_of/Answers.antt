use Rattle.drain_floats.proofs.Names.{◌≡◌, true, pos, to_z, of_z, refl, sym, ◌∙◌, arith, w64, false≢true, ints, float_number}
use Rattle.std.specs.Float.Ieee.{Float, is_nan, to_bits}
use Rattle.std.specs.Float.Ieee.Float.{nan, inf, fin}
use Rattle.drain_floats.proofs.words.number_of.Goals as goal

-- every NaN is the one
of_nan : (x : Float) → is_nan x ≡ true → float_number x ≡ pos 2143289344
unfolding to_bits is_nan
of_nan nan h = refl
of_nan (inf s) h = absurd (false≢true h)
of_nan (fin s m e) h = absurd (false≢true h)

pub returns-then-is_nan : goal.returns-then-is_nan
returns-then-is_nan c =
    let number = c.number.ensures.value in
    let is : to_z w64 (of_z w64 c.number.result) ≡ pos 2143289344 = omega (arith, ints, number) in
    is ∙ sym (of_nan c.args.x (sym c.is_nan.ensures.value ∙ c.if-is_nan.true))
