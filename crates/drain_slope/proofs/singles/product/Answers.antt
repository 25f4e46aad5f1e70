use Rattle.drain_slope.proofs.Names.{◌≡◌, ◌*ℤ◌, FitsSigned, ◌∙◌, ap, arith, to_z, of_z, w128, ints, to_z-of_z}
use Rattle.drain_slope.proofs.Squares.{product_value}
use Rattle.drain_slope.proofs.singles.product.Goals as goal

pub returns-clause-value : goal.returns-clause-value
returns-clause-value c =
    let low_a = c.requires.a.low in
    let high_a = c.requires.a.high in
    let low_b = c.requires.b.low in
    let high_b = c.requires.b.high in
    let fits_a : FitsSigned w128 c.args.a.number = omega (arith, ints, low_a, high_a) in
    let fits_b : FitsSigned w128 c.args.b.number = omega (arith, ints, low_b, high_b) in
    let low_p = c.product_of.ensures.low in
    let high_p = c.product_of.ensures.high in
    let fits_p : FitsSigned w128 c.product_of.result = omega (arith, ints, low_p, high_p) in
    let low_s = c.scaled.ensures.low in
    let high_s = c.scaled.ensures.high in
    let fits_s : FitsSigned w128 c.scaled.result = omega (arith, ints, low_s, high_s) in
    let both : c.product_of.result ≡ c.args.a.number *ℤ c.args.b.number = c.product_of.ensures.value ∙
    (ap (λ z. z *ℤ to_z w128 (of_z w128 c.args.b.number)) (to_z-of_z w128 c.args.a.number fits_a) ∙ ap (λ z. c.args.a.number *ℤ z) (to_z-of_z w128 c.args.b.number fits_b)) in
    let number : to_z w128 (of_z w128 c.scaled.result) ≡ (c.args.a.number *ℤ c.args.b.number) *ℤ c.args.factor = to_z-of_z w128 c.scaled.result fits_s ∙
    (c.scaled.ensures.value ∙ (ap (λ z. z *ℤ to_z w128 (of_z w128 c.args.factor)) (to_z-of_z w128 c.product_of.result fits_p ∙ both) ∙
    ap (λ z. (c.args.a.number *ℤ c.args.b.number) *ℤ z) (to_z-of_z w128 c.args.factor c.ranges.factor))) in
    product_value c.args.a.number c.args.b.number c.args.factor _ c.args.a.shift c.args.b.shift number
