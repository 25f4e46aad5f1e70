use Rattle.std.proofs.Common.{◌≡◌, ◌≤◌, ◌≤ℤ◌, ◌*ℤ◌, neg_ℤ, pos, arith, refl, sym, subst}
use Rattle.std.proofs.lemmas.Int.{ints, fits_signed_from_abs}
use Rattle.std.specs.Int.RustNames.{unsigned_abs}
use Rattle.drain_page.proofs.DegreeSteps.{size-of, stored, at-least, at-most}
use mir.Syntax.{w64}
use mir.Val.{to_z, of_z}
use Rattle.drain_page.proofs.degrees.in_steps.Goals as goal

pub overflow_mul-result : goal.overflow_mul-result
overflow_mul-result c =
    let degrees : to_z w64 (of_z w64 c.from.result) ≡ c.args.degrees = omega (arith, ints) in
    let steps : to_z w64 (of_z w64 c.from-2.result) ≡ pos c.args.steps = omega (arith, ints) in
    let small = size-of _ _ c.args.degrees c.args.steps degrees steps c.ranges.degrees c.ranges.steps.fits in
    fits_signed_from_abs w64 _ (omega arith)

pub returns : goal.returns
returns c =
    let degrees : to_z w64 (of_z w64 c.from.result) ≡ c.args.degrees = omega (arith, ints) in
    let steps : to_z w64 (of_z w64 c.from-2.result) ≡ pos c.args.steps = omega (arith, ints) in
    let small = size-of _ _ c.args.degrees c.args.steps degrees steps c.ranges.degrees c.ranges.steps.fits in
    let is = stored _ _ c.args.degrees c.args.steps degrees steps small in
    let product : unsigned_abs (c.args.degrees *ℤ pos c.args.steps) ≤ 140737488355328 = size-of c.args.degrees (pos c.args.steps) c.args.degrees c.args.steps refl refl c.ranges.degrees c.ranges.steps.fits in
    record {
      value = is;
      low = subst (λ z. neg_ℤ (pos 140737488355328) ≤ℤ z) (sym is) (at-least _ _ product);
      high = subst (λ z. z ≤ℤ pos 140737488355328) (sym is) (at-most _ _ product);
    }
