-- The rows that two windows have in common, counted from the first of them.
use Rattle.drain_merge.proofs.Names.{◌≡◌, ℕ, ◌+◌, ◌-◌, ◌<◌, min, max, List, ap, ◌∙◌, arith, Distances, spacing_at}

module _ (xs ys : List Distances) (top_a top_b rows_a rows_b top count : ℕ) (first : top ≡ max top_a top_b)
    (counted : count ≡ min (top_a + rows_a) (top_b + rows_b) - top) where
  pub alike_from : ((k : ℕ) → k < count → spacing_at xs (top - top_a + k) ≡ spacing_at ys (top - top_b + k)) →
      (a b : ℕ) → a < rows_a → b < rows_b → top_a + a ≡ top_b + b → spacing_at xs a ≡ spacing_at ys b
  alike_from all a b in_a in_b one =
      let k = top_a + a - top in
      let at_a : a ≡ top - top_a + k = omega (arith, first, one) in
      let at_b : top - top_b + k ≡ b = omega (arith, first, one) in
      ap (spacing_at xs) at_a ∙ all k (omega (arith, first, counted, one, in_a, in_b)) ∙ ap (spacing_at ys) at_b

  pub alike_to : ((a b : ℕ) → a < rows_a → b < rows_b → top_a + a ≡ top_b + b → spacing_at xs a ≡ spacing_at ys b) →
      (k : ℕ) → k < count → spacing_at xs (top - top_a + k) ≡ spacing_at ys (top - top_b + k)
  alike_to alike k below =
      alike (top - top_a + k) (top - top_b + k) (omega (arith, first, counted, below)) (omega (arith, first, counted, below)) (omega (arith, first))
