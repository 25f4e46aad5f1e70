use Rattle.drain_slope.proofs.Names.{◌≡◌, ℕ, ◌*◌, ◌<◌, ◌↔◌, Bool, IsTrue, ℤ, pos, neg_ℤ, ◌-ℤ◌, ◌*ℤ◌, ◌<ℤ◌, ◌∙◌, ap, arith, to_z, of_z, w128, ints, Term, term_value, sum_value}
use Rattle.drain_slope.proofs.Squares.{products_across, sum_decides}
use Rattle.drain_slope.proofs.singles.is_steeper_by_terms.Goals as goal

-- the sign of the sum of five products decides
decides : (steeper : Bool) (h f s a b c d e : Term) (da db dc dd de : ℤ) (x y o v : ℕ) → pos x ≡ term_value h -ℤ term_value f → pos y ≡ term_value h -ℤ term_value s →
    da ≡ pos o -ℤ pos v → term_value a ≡ (term_value h *ℤ term_value h) *ℤ da →
    db ≡ pos o -ℤ pos 0 → term_value b ≡ (term_value f *ℤ term_value f) *ℤ db →
    dc ≡ pos 0 -ℤ pos v → term_value c ≡ (term_value s *ℤ term_value s) *ℤ dc →
    dd ≡ neg_ℤ (pos (2 * o)) → term_value d ≡ (term_value h *ℤ term_value f) *ℤ dd →
    de ≡ pos (2 * v) → term_value e ≡ (term_value h *ℤ term_value s) *ℤ de →
    IsTrue steeper ↔ (pos 0 <ℤ sum_value (record { a = a; b = b; c = c; d = d; e = e })) → IsTrue steeper ↔ ((y * y) * v < (x * x) * o)
decides steeper h f s a b c d e da db dc dd de x y o v is_x is_y is_da is_a is_db is_b is_dc is_c is_dd is_d is_de is_e test =
    let across = products_across (term_value h) (term_value f) (term_value s) (pos x) (pos y) (term_value a) (term_value b) (term_value c) (term_value d) (term_value e)
    da db dc o v is_x is_y is_da is_a is_db is_b is_dc is_c
    (is_d ∙ ap (λ z. (term_value h *ℤ term_value f) *ℤ z) is_dd) (is_e ∙ ap (λ z. (term_value h *ℤ term_value s) *ℤ z) is_de) in
    let sign = sum_decides (sum_value (record { a = a; b = b; c = c; d = d; e = e })) x y o v across in
    ((λ h. sign.0 (test.0 h)), (λ h. test.1 (sign.1 h)))

pub returns : goal.returns
returns c = λ x y is_x is_y.
    (let da : to_z w128 (of_z w128 c.difference.result) ≡ pos c.args.other_over -ℤ pos c.args.over = omega (arith, ints, c.difference.ensures) in
    let db : to_z w128 (of_z w128 c.difference-2.result) ≡ pos c.args.other_over -ℤ pos 0 = omega (arith, ints, c.difference-2.ensures) in
    let dc : to_z w128 (of_z w128 c.difference-3.result) ≡ pos 0 -ℤ pos c.args.over = omega (arith, ints, c.difference-3.ensures) in
    let dd : to_z w128 (of_z w128 c.minus_twice.result) ≡ neg_ℤ (pos (2 * c.args.other_over)) = omega (arith, ints, c.minus_twice.ensures) in
    let de : to_z w128 (of_z w128 c.twice.result) ≡ pos (2 * c.args.over) = omega (arith, ints, c.twice.ensures) in
    decides c.is_above_0.result c.args.h c.args.f c.args.s c.product.result c.product-2.result c.product-3.result c.product-4.result c.product-5.result
    _ _ _ _ _ x y c.args.other_over c.args.over is_x is_y
    da c.product.ensures.value db c.product-2.ensures.value dc c.product-3.ensures.value dd c.product-4.ensures.value
    de c.product-5.ensures.value c.is_above_0.ensures)
