-- Numbers that rise still rise where one of equals is kept.
use Rattle.drain_merge.proofs.Names.{◌≡◌, ℕ, ◌+◌, ◌≤◌, List, [], slice_index_or, false, subst, sym, arith, dedup, IsNonDecreasing, IsSorted, IsStrictlyIncreasing, nat_tests, get_or_default, IsNonDecreasingBy-from_all_adjacent}
use Rattle.std.proofs.Common.{eqb}
use Rattle.std.specs.List.Retain.{IsFiltered, DiffersFromLast}
use Rattle.std.specs.Ordering.{is_lt, nat_cmp}
use Rattle.std.proofs.lemmas.List.Filters.{dedup_is}
use Rattle.std.proofs.lemmas.Map.Keys.{IsStrictlyIncreasing-dedup}

not_less : (a b : ℕ) → b ≤ a → is_lt (nat_cmp a b) ≡ false
not_less a b order = grind (arith, nat_tests)

sorted : (xs : List ℕ) → IsNonDecreasing xs → IsSorted nat_cmp xs
sorted xs rising k d low below = not_less (slice_index_or xs (k + 1) d) (slice_index_or xs k d) (rising k (k + 1) d (omega arith) below)

weakly : (xs : List ℕ) → IsStrictlyIncreasing xs → IsNonDecreasing xs
weakly xs up =
    IsNonDecreasingBy-from_all_adjacent (λ x. x) xs
    (λ k d below.
    (let step = up k below in
    let here = get_or_default xs k d 0 (omega arith) in
    let next = get_or_default xs (k + 1) d 0 below in
    omega (arith, step, here, next)))

pub rising_dedup : (xs ys : List ℕ) → IsFiltered (DiffersFromLast eqb) [] xs ys → IsNonDecreasing xs → IsNonDecreasing ys
rising_dedup xs ys kept rising =
    subst IsNonDecreasing (sym (dedup_is eqb xs ys kept)) (weakly (dedup eqb xs) (IsStrictlyIncreasing-dedup xs (sorted xs rising)))
