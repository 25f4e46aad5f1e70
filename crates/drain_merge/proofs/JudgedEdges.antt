-- The edges of judged rows and columns show whether a place judges a cell, and whether two places judge one both.
use Rattle.drain_merge.proofs.Names.{◌≡◌, ◌↔◌, ℕ, ◌<◌, max, min, IsTrue, refl, arith, ltb, lt-ltb, place, Place, BothJudgeOne, JudgesSome, in_union, judged_bottom, judged_left, judged_right, judged_top, edges_within, meeting, within_edges}
use borrow.Author.Tests.{ltb-true}

-- where it has a judged row, a place judges a cell exactly where it has a judged column
pub some_judged : (p : Place) (left right : ℕ) → left ≡ judged_left p → right ≡ judged_right p → judged_top p < judged_bottom p →
    IsTrue (ltb left right) ↔ JudgesSome p
some_judged p left right l r rows = (
  (λ is.
      (let cols : left < right = ltb-true left right is in
      let at = edges_within p (place (judged_top p) (judged_left p)) (record { top = omega arith; bottom = rows; left = omega arith; right = omega (arith, l, r, cols) }) in
      (at.0, at.1))),
  (λ some.
      (let within = within_edges p (in_union p some.0) (some.0, some.1, refl) in
      let from = within.left in
      let to = within.right in
      lt-ltb left right (omega (arith, l, r, from, to)))),
)

-- where judged rows of both meet, a cell is judged at both exactly where judged columns meet
pub both_judged : (p q : Place) (top bottom left right : ℕ) → top ≡ max (judged_top p) (judged_top q) → bottom ≡ min (judged_bottom p) (judged_bottom q) →
    left ≡ max (judged_left p) (judged_left q) → right ≡ min (judged_right p) (judged_right q) → top < bottom → IsTrue (ltb left right) ↔ BothJudgeOne p q
both_judged p q top bottom left right t b l r rows = (
  (λ is.
      (let cols : left < right = ltb-true left right is in
      meeting p q (omega (arith, t, b, rows)) (omega (arith, t, b, rows)) (omega (arith, l, r, cols)) (omega (arith, l, r, cols)))),
  (λ both.
      (let at_p = within_edges p both.0 both.1 in
      let at_q = within_edges q both.0 both.2 in
      let from_p = at_p.left in
      let to_p = at_p.right in
      let from_q = at_q.left in
      let to_q = at_q.right in
      lt-ltb left right (omega (arith, l, r, from_p, to_p, from_q, to_q)))),
)
