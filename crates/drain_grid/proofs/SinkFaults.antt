-- Numbers without a sign that 32 bits hold are pixels.
use Rattle.drain_grid.proofs.Names.{◌<◌, ℕ, pos, List, map, length, get_or, arith, ◌≡◌, Bool, true, false, Some, None, ◌⊎◌, inl, inr, refl, sym, ◌∙◌, [], ◌∷◌, Result, Ok, Err, ap, ◌+◌, ◌*◌, ◌^◌, ◌≤◌, ◌==◌, ◌&&◌, ◌||◌, is_ok, subst, All, AllByRecursion, list_any, ints, All-map, recursion_from_All, IsPixel, false≢true, eq-eqb, slice_get_within, Cell, SinkLine, Grid, HasData, FoundOffDataIsRight, is_listed, wide_place, ArePlaces, IsBinarySearchResult, IsNonDecreasing, nat_cmp, nat_tests, get_or_default, list_any_at, list_any_none, list_any-IsPermutation, searched, same_cell}

pub are_pixels : (xs : List ℕ) → ((i d : ℕ) → i < length xs → get_or xs i d < 4294967296) → All IsPixel (map (λ n. pos n) xs)
are_pixels xs fit = All-map IsPixel (λ n. pos n) xs (λ i d less. let h = fit i d less in record { low = omega (arith, ints, h); high = omega (arith, ints, h) })

-- The least line that lists a cell without data, said of the grid.

-- whether a listed cell has data
abbrev IsTold : Grid → (Cell → Bool) → SinkLine → Type 0
IsTold g has s = (has s.cell ≡ true → HasData g s.cell) × (has s.cell ≡ false → ¬ HasData g s.cell)

either : (b : Bool) → (b ≡ true) ⊎ (b ≡ false)
either true = inl refl
either false = inr refl

-- the answer for a cell without data
told_none : (g : Grid) (has : Cell → Bool) (s : SinkLine) → IsTold g has s → ¬ HasData g s.cell → has s.cell ≡ false
told_none g has s told none = elim (either (has s.cell)) [ inl has_some ↦ absurd (none (told.0 has_some)) | inr has_none ↦ has_none ]

pub found_off_data_is_right : FoundOffDataIsRight
found_off_data_is_right g sinks has None told found = λ n off.
    let no : has off.listed.cell ≡ false = told_none g has off.listed (told off.place off.listed off.is_there) off.no_data in
    false≢true (sym no ∙ found off.place off.listed (slice_get_within sinks off.place off.listed off.is_there) off.is_there)
found_off_data_is_right g sinks has (Some line) told found = record {
  off = record {
    place = found.place;
    listed = found.listed;
    is_there = found.is_there;
    line_is = found.line_is;
    no_data = (told found.place found.listed found.is_there).1 found.off;
  };
  first = λ n less off.
      let no = told_none g has off.listed (told off.place off.listed off.is_there) off.no_data in
      let low = found.least off.place off.listed (slice_get_within sinks off.place off.listed off.is_there) off.is_there no in
      omega (arith, less, low, off.line_is);
}

-- A cell is listed exactly where a search by halves finds its place among the rising places of the listed cells.

-- two cells of 2^32 columns have one place exactly where they are one
same_wide : (a b r k : ℕ) → b < 2 ^ 32 → k < 2 ^ 32 → (r * 2 ^ 32 + k == a * 2 ^ 32 + b) ≡ ((a == r) && (b == k))
same_wide a b r k p q = grind (arith, nat_tests)

any_over_map : {X Y : Type 0} (p : Y → Bool) (f : X → Y) (xs : List X) → list_any p (map f xs) ≡ list_any (λ x. p (f x)) xs
any_over_map p f [] = refl
any_over_map p f (x ∷ xs) = ap (λ b. p (f x) || b) (any_over_map p f xs)

listed_by_place : (sinks : List SinkLine) (c : Cell) → c.col < 2 ^ 32 → AllByRecursion (λ s. s.cell.col < 2 ^ 32) sinks →
    list_any (λ s. wide_place s.cell == wide_place c) sinks ≡ is_listed sinks c
listed_by_place [] c narrow all = refl
listed_by_place (s ∷ sinks) c narrow all =
    ap (λ b. b || list_any (λ s. wide_place s.cell == wide_place c) sinks) (same_wide c.row c.col s.cell.row s.cell.col narrow all.0)
    ∙ ap (λ b. same_cell c s.cell || b) (listed_by_place sinks c narrow all.1)

-- what a search by halves answers among rising numbers
found_by_halves : (xs : List ℕ) (x : ℕ) (r : Result ℕ ℕ) → IsBinarySearchResult (λ y. nat_cmp y x) xs r →
    ((i j : ℕ) → i ≤ j → j < length xs → get_or xs i 0 ≤ get_or xs j 0) → is_ok r ≡ list_any (λ y. y == x) xs
found_by_halves xs x (Ok i) h rising =
    let at = searched xs x (Ok i) h rising in
    sym (list_any_at (λ y. y == x) xs i 0 at.0 (eq-eqb (get_or xs i 0) x at.1))
found_by_halves xs x (Err i) h rising =
    let gap = searched xs x (Err i) h rising in
    sym (list_any_none (λ y. y == x) xs (λ k d less. differs k d less gap))
  where
    differs : (k d : ℕ) → k < length xs → (i ≤ length xs) × ((k : ℕ) → k < i → get_or xs k 0 < x) × ((k : ℕ) → i ≤ k → k < length xs → x < get_or xs k 0) →
        (get_or xs k d == x) ≡ false
    differs k d less gap =
        let same : get_or xs k d ≡ get_or xs k 0 = get_or_default xs k d 0 less in
        grind (arith, nat_tests, gap.1 k, gap.2 k)

-- the places of the list give which cells are listed
pub listed_by_places : (sinks : List SinkLine) (places : List ℕ) (c : Cell) → ArePlaces sinks places → c.col < 2 ^ 32 →
    list_any (λ y. y == wide_place c) places ≡ is_listed sinks c
listed_by_places sinks places c known narrow =
    sym (list_any-IsPermutation (λ y. y == wide_place c) (map (λ s. wide_place s.cell) sinks) places known.theirs)
    ∙ any_over_map (λ y. y == wide_place c) (λ s. wide_place s.cell) sinks
    ∙ listed_by_place sinks c narrow (recursion_from_All (λ s. s.cell.col < 2 ^ 32) sinks known.narrow)

-- the places searched and the place looked for are those of the list and the cell
pub listed_by_search : (sinks : List SinkLine) (places searched_in : List ℕ) (c : Cell) (x : ℕ) → ArePlaces sinks places → c.col < 2 ^ 32 →
    searched_in ≡ places → x ≡ wide_place c → (r : Result ℕ ℕ) → IsBinarySearchResult (λ y. nat_cmp y x) searched_in r →
    is_ok r ≡ is_listed sinks c
listed_by_search sinks places searched_in c x known narrow there place r h =
    let rising : IsNonDecreasing searched_in = subst IsNonDecreasing (sym there) known.rising in
    found_by_halves searched_in x r h (λ i j le below. rising i j 0 le below)
    ∙ ap (λ xs. list_any (λ y. y == x) xs) there
    ∙ ap (λ (p : ℕ). list_any (λ y. y == p) places) place
    ∙ listed_by_places sinks places c known narrow
