-- A row's columns are marked as the places of the row are passed, which are adjacent among the sorted places.
use Rattle.drain_grid.proofs.Names.{◌≡◌, ℕ, ◌+◌, ◌-◌, ◌*◌, ◌^◌, ◌<◌, ◌≤◌, ◌==◌, ◌||◌, Bool, true, false, List, length, get_or, set, take, drop, ltb, ltb-true, ltb-false, length-take, sym, ap, subst, ◌∙◌, arith, list_any, IsPartitionPoint, nat_tests, common_steps, get_or-drop, get_or-take, get_or_default, length-drop, take-append-drop, take_rest, list_any-append, list_any_more, list_any_none, SinkLine, is_listed, ArePlaces}
use Rattle.std.proofs.Math.Bool.{or-false}
use Rattle.drain_grid.proofs.SinkFaults.{listed_by_places}

-- some place is that of the column, in the row that begins at `first`
abbrev pub is_passed : ℕ → ℕ → List ℕ → Bool
is_passed first col places = list_any (λ y. y == first + col) places

-- the marks are at the columns whose places were passed
abbrev pub AreMarked : ℕ → List Bool → List ℕ → Type 0
AreMarked first marks passed = (col : ℕ) → col < length marks → get_or marks col false ≡ is_passed first col passed

-- the places from the row on, which give the row's listed columns
pub record IsFromRow (sinks : List SinkLine) (row first : ℕ) (tail : List ℕ) : Type 0 where
  pub reached : (k d : ℕ) → k < length tail → first ≤ get_or tail k d
  pub rising : (i j d : ℕ) → i ≤ j → j < length tail → get_or tail i d ≤ get_or tail j d
  pub told : (col : ℕ) → col < 2 ^ 32 → is_passed first col tail ≡ is_listed sinks (record { row = row; col = col })

-- a list that is taken apart at a place
passed_apart : (first col i : ℕ) (places : List ℕ) →
    is_passed first col places ≡ (is_passed first col (take i places) || is_passed first col (drop i places))
passed_apart first col i places =
    sym (ap (is_passed first col) (take-append-drop i places)) ∙ list_any-append (λ y. y == first + col) (take i places) (drop i places)

-- the places before the row are those of no column of it
none_before : (first col start : ℕ) (places : List ℕ) → ((k d : ℕ) → k < start → k < length places → get_or places k d < first) →
    is_passed first col (drop start places) ≡ is_passed first col places
none_before first col start places before =
    sym (passed_apart first col start places
    ∙ ap (λ b. b || is_passed first col (drop start places)) (list_any_none (λ y. y == first + col) (take start places) none))
  where
    none : (k d : ℕ) → k < length (take start places) → (get_or (take start places) k d == first + col) ≡ false
    none k d less =
        let same = get_or-take start places k d (omega (arith, length-take start places)) in
        let below = before k d (omega (arith, length-take start places)) (omega (arith, length-take start places)) in
        grind (arith, nat_tests, same, below)

-- the places from the partition point on
from_point : (sinks : List SinkLine) (places : List ℕ) (row first start : ℕ) → ArePlaces sinks places → first ≡ row * 2 ^ 32 →
    IsPartitionPoint (λ y. ltb y first ≡ true) (λ y. ltb y first ≡ false) places start → IsFromRow sinks row first (drop start places)
from_point sinks places row first start known begins point = record {
  reached = λ k d less.
      let there = get_or-drop start places k d in
      let far = ltb-false (get_or places (start + k) d) first (point.1 (start + k) d (omega arith) (omega (arith, length-drop start places))) in
      omega (arith, there, far);
  rising = λ i j d le less.
      let lower = get_or-drop start places i d in
      let higher = get_or-drop start places j d in
      let up = known.rising (start + i) (start + j) d (omega arith) (omega (arith, length-drop start places)) in
      omega (arith, lower, higher, up);
  told = λ col narrow.
      none_before first col start places (λ k d less inside. ltb-true (get_or places k d) first (point.0 k d (omega arith) less))
      ∙ ap (λ n. is_passed n col places) begins
      ∙ listed_by_places sinks places (record { row = row; col = col }) known narrow;
}

-- the places that are searched and those that are gone along are the same
pub from_row : (sinks lines : List SinkLine) (places searched sliced : List ℕ) (row first start : ℕ) → ArePlaces lines places → lines ≡ sinks →
    searched ≡ places → sliced ≡ places → first ≡ row * 2 ^ 32 →
    IsPartitionPoint (λ y. ltb y first ≡ true) (λ y. ltb y first ≡ false) searched start →
    IsFromRow sinks row first (take (length sliced - start) (drop start sliced))
from_row sinks lines places searched sliced row first start known same same_searched same_sliced begins point =
    subst (IsFromRow sinks row first) (sym (take_rest sliced start ∙ ap (drop start) same_sliced))
    (from_point sinks places row first start (subst (λ ss. ArePlaces ss places) same known) begins
    (subst (λ ys. IsPartitionPoint (λ y. ltb y first ≡ true) (λ y. ltb y first ≡ false) ys start) same_searched point))

-- from the first place on that lies beyond the columns, none is that of a column
pub none_after : (first i : ℕ) (marks : List Bool) (places : List ℕ) → i < length places → first + length marks ≤ get_or places i 0 →
    ((i j d : ℕ) → i ≤ j → j < length places → get_or places i d ≤ get_or places j d) → AreMarked first marks (take i places) →
    AreMarked first marks places
none_after first i marks places inside beyond rising known col less =
    known col less
    ∙ sym (passed_apart first col i places
    ∙ ap (λ b. is_passed first col (take i places) || b) (list_any_none (λ y. y == first + col) (drop i places) none)
    ∙ or-false (is_passed first col (take i places)))
  where
    none : (k d : ℕ) → k < length (drop i places) → (get_or (drop i places) k d == first + col) ≡ false
    none k d there =
        let same = get_or-drop i places k d in
        let inside_too : i + k < length places = omega (arith, length-drop i places) in
        let here = get_or_default places i d 0 inside in
        let higher = rising i (i + k) d (omega arith) inside_too in
        grind (arith, nat_tests, same, here, higher)

-- the mark of the place that is passed
pub one_more : (first col i : ℕ) (marks : List Bool) (places : List ℕ) → i < length places → get_or places i 0 ≡ first + col → col < length marks →
    AreMarked first marks (take i places) → AreMarked first (set marks col true) (take (i + 1) places)
one_more first col i marks places inside there within known other less =
    grind (arith, nat_tests, common_steps, known other, list_any_more (λ y. y == first + other) places i 0 inside)

-- the marks of all places are those of the row
pub all_marked : (sinks : List SinkLine) (row first : ℕ) (tail : List ℕ) (marks : List Bool) → IsFromRow sinks row first tail → length marks ≤ 2 ^ 32 →
    AreMarked first marks tail → (col : ℕ) → col < length marks → get_or marks col false ≡ is_listed sinks (record { row = row; col = col })
all_marked sinks row first tail marks from short marked col less = marked col less ∙ from.told col (omega arith)
