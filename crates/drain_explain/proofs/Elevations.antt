-- The least and the greatest elevation, row by row.
use Rattle.drain_explain.proofs.Names.{◌≡◌, ◌∙◌, ◌⊎◌, inl, inr, ◌≤ℤ◌, ◌<◌, ◌+◌, ℕ, ℤ, List, length, slice_index_or, Option, Some, None, sym, ap, subst, arith, cond_both, clamps, ints, AreBounds, IsElevationAbove, IsOfRow, IsRange, joined, Grid, Products, AreNumbersOf, RowNumbers, place}
use Rattle.std.proofs.Math.Nat.{eq-or-lt_of_le}
use Rattle.std.specs.Int.Signed.{≤ℤ_refl}
use Rattle.std.specs.Int.RustNames.{int_lt}
use Rattle.drain_findings.specs.declared.elevation_range.ElevationRange.{ElevationRange}

-- one height is the least and the greatest
pub alone : (z : Option ℤ) (here least greatest : ℤ) → z ≡ Some here → least ≡ here → greatest ≡ here → AreBounds (λ height. z ≡ Some height) (record { least = least; greatest = greatest })
alone z here least greatest is low high = record {
  least_is = is ∙ ap (λ v. Some v) (sym low);
  greatest_is = is ∙ ap (λ v. Some v) (sym high);
  none_below = λ height same. subst (λ v. v ≤ℤ height) (sym low) (subst (λ v. here ≤ℤ v) (one here height (sym is ∙ same)) (≤ℤ_refl here));
  none_above = λ height same. subst (λ v. height ≤ℤ v) (sym high) (subst (λ v. v ≤ℤ here) (one here height (sym is ∙ same)) (≤ℤ_refl here));
}
  where
    one : (a b : ℤ) → Some a ≡ Some b → a ≡ b
    one a b same = cc

-- the range of both is that of the numbers of either
module _ (A B Both : ℤ → Type 0) (apart : (z : ℤ) → Both z → A z ⊎ B z) (of_a : (z : ℤ) → A z → Both z) (of_b : (z : ℤ) → B z → Both z) where
  pub joined_range : (a b : Option ElevationRange) → IsRange A a → IsRange B b → IsRange Both (joined a b)
  joined_range None None none_a none_b = λ z both. elim (apart z both) [
    | inl is ↦ none_a z is
    | inr is ↦ none_b z is
  ]
  joined_range None (Some b) none_a is_b = record {
    least_is = of_b b.least is_b.least_is;
    greatest_is = of_b b.greatest is_b.greatest_is;
    none_below = λ z both. elim (apart z both) [
      | inl is ↦ absurd (none_a z is)
      | inr is ↦ is_b.none_below z is
    ];
    none_above = λ z both. elim (apart z both) [
      | inl is ↦ absurd (none_a z is)
      | inr is ↦ is_b.none_above z is
    ];
  }
  joined_range (Some a) None is_a none_b = record {
    least_is = of_a a.least is_a.least_is;
    greatest_is = of_a a.greatest is_a.greatest_is;
    none_below = λ z both. elim (apart z both) [
      | inl is ↦ is_a.none_below z is
      | inr is ↦ absurd (none_b z is)
    ];
    none_above = λ z both. elim (apart z both) [
      | inl is ↦ is_a.none_above z is
      | inr is ↦ absurd (none_b z is)
    ];
  }
  joined_range (Some a) (Some b) is_a is_b = record {
    least_is = cond_both (int_lt b.least a.least) b.least a.least Both (λ yes. of_b b.least is_b.least_is) (λ no. of_a a.least is_a.least_is);
    greatest_is = cond_both (int_lt b.greatest a.greatest) a.greatest b.greatest Both (λ yes. of_a a.greatest is_a.greatest_is) (λ no. of_b b.greatest is_b.greatest_is);
    none_below = λ z both. elim (apart z both) [
      | inl is ↦ (let low = is_a.none_below z is in omega (arith, ints, clamps))
      | inr is ↦ (let low = is_b.none_below z is in omega (arith, ints, clamps))
    ];
    none_above = λ z both. elim (apart z both) [
      | inl is ↦ (let high = is_a.none_above z is in omega (arith, ints, clamps))
      | inr is ↦ (let high = is_b.none_above z is in omega (arith, ints, clamps))
    ];
  }

-- a number below one more is that one or below it
same_or_less : (k n : ℕ) → k < n + 1 → (k ≡ n) ⊎ (k < n)
same_or_less k n less = eq-or-lt_of_le (omega (arith, less))

-- one column more
pub column_more : (row : List (Option ℤ)) (col : ℕ) (before here : Option ElevationRange) → IsRange (IsOfRow row col) before → IsRange (λ z. slice_index_or row col None ≡ Some z) here →
    IsRange (IsOfRow row (col + 1)) (joined before here)
column_more row col =
    joined_range (IsOfRow row col) (λ z. slice_index_or row col None ≡ Some z) (IsOfRow row (col + 1))
    (λ z of. elim (same_or_less of.0 col of.1) [
      | inl same ↦ inr (subst (λ k. slice_index_or row k None ≡ Some z) same of.2)
      | inr less ↦ inl (of.0, less, of.2)
    ])
    (λ z of. (of.0, omega (arith, of.1), of.2))
    (λ z is. (col, omega arith, is))

-- one row more
pub row_more : (g : Grid) (ps : Products) (r : ℕ) (numbers : RowNumbers) (above row : Option ElevationRange) → AreNumbersOf g ps r numbers → IsRange (IsElevationAbove g r) above →
    IsRange (IsOfRow numbers.z (length numbers.z)) row → IsRange (IsElevationAbove g (r + 1)) (joined above row)
row_more g ps r numbers above row are =
    joined_range (IsElevationAbove g r) (IsOfRow numbers.z (length numbers.z)) (IsElevationAbove g (r + 1))
    (λ z of. elim (same_or_less of.0.row r of.1) [
      | inl same ↦ inr (of.0.col, omega (arith, of.2, are.cols_are), are.elevation of.0.col of.2 ∙ subst (λ n. g.elevation (place n of.0.col) ≡ Some z) same of.3)
      | inr less ↦ inl (of.0, less, of.2, of.3)
    ])
    (λ z of. (of.0, omega (arith, of.1), of.2, of.3))
    (λ z of.
    let inside : of.0 < g.extent.cols = omega (arith, of.1, are.cols_are) in
    (place r of.0, omega arith, inside, sym (are.elevation of.0 inside) ∙ of.2))
    above row
