-- Pairs of a depth and an item, as pairs of a height and an item.
use Rattle.drain_flood.proofs.Names.{List, arith, map, pos, subst, sym, ℕ, ℤ, ◌-ℤ◌, ◌∷◌, ◌≡◌, ◌≤ℤ◌, ◌≤◌, ints, All-map, IsPermutation-map, IsPermutation}
use Rattle.std.proofs.Common.{All}
use Rattle.drain_flood.specs.Stacks.{waiting_pair}

pub put_pair : (h : ℤ) (depth item : ℕ) (xs ys : List (ℕ × ℕ)) (old : List (ℤ × ℕ)) → pos 9223372036854775807 -ℤ pos depth ≡ h → old ≡ map waiting_pair xs →
    IsPermutation ((depth, item) ∷ xs) ys → IsPermutation ((h, item) ∷ old) (map waiting_pair ys)
put_pair h depth item xs ys old is view perm =
    subst (λ x. IsPermutation ((x, item) ∷ old) (map waiting_pair ys)) is
    (subst (λ l. IsPermutation (waiting_pair (depth, item) ∷ l) (map waiting_pair ys)) (sym view) (IsPermutation-map waiting_pair ((depth, item) ∷ xs) ys perm))

pub taken_pair : (h : ℤ) (depth item : ℕ) (xs ys : List (ℕ × ℕ)) (old : List (ℤ × ℕ)) → pos 9223372036854775807 -ℤ pos depth ≡ h → old ≡ map waiting_pair xs →
    IsPermutation xs ((depth, item) ∷ ys) → IsPermutation old ((h, item) ∷ map waiting_pair ys)
taken_pair h depth item xs ys old is view perm =
    subst (λ x. IsPermutation old ((x, item) ∷ map waiting_pair ys)) is
    (subst (λ l. IsPermutation l (waiting_pair (depth, item) ∷ map waiting_pair ys)) (sym view) (IsPermutation-map waiting_pair xs ((depth, item) ∷ ys) perm))

not_lower : (depth y : ℕ) → y ≤ depth → (pos 9223372036854775807 -ℤ pos depth) ≤ℤ (pos 9223372036854775807 -ℤ pos y)
not_lower depth y less = omega (arith, ints, less)

pub lowest_pair : (h : ℤ) (depth : ℕ) (ys : List (ℕ × ℕ)) → pos 9223372036854775807 -ℤ pos depth ≡ h → All (λ y. y.0 ≤ depth) ys → All (λ p. h ≤ℤ p.0) (map waiting_pair ys)
lowest_pair h depth ys is below =
    subst (λ x. All (λ (p : ℤ × ℕ). x ≤ℤ p.0) (map waiting_pair ys)) is
    (All-map (λ (p : ℤ × ℕ). (pos 9223372036854775807 -ℤ pos depth) ≤ℤ p.0) waiting_pair ys (λ k d less. not_lower depth _ (below k d less)))
