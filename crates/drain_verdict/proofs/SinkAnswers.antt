-- What a list of sinks says of a set: no refusal of its kinds applies, or its refusal is the first.
use Rattle.drain_verdict.proofs.Names.{◌≡◌, ◌<◌, is_none, is_some, not, true, false, ℤ, List, length, slice_get, Some, None, Ok, inl, inr, arith, refl, sym, ap, subst, ◌∙◌, cases_lt, lt-ltb, le-ltb, nat_tests, get_or_from_slice_get, slice_get_within, Cell, SinkLine, IsCellOf, same_cell, Extent, HasData, FoundOffDataIsRight, IsFirstOffData, IsLeastLine, IsLeastOff, IsOffAnswer, is_listed, sinks_of, GroundSet, IsRefusalIn, NoneStandsIn, StandsIn, place_in, set_grid, set_listed, AreListedVoids, has_data_but, IsBadLine, IsToldOfSinks, Refusal, BadSinkLine, SinkNotData}
use Rattle.std.proofs.Common.{ℕ, Option, Result, Err}
use Rattle.std.proofs.lemmas.List.Folds.{list_any_at}
use Rattle.drain_verdict.specs.declared.stages.SinkListing.{SinkListing}
use Rattle.drain_verdict.proofs.Order.{at_bad_line, at_off_data, first_of, none_more}

-- a cell that a line lists is listed
listed_there : (sinks : List SinkLine) (k : ℕ) (s : SinkLine) → slice_get sinks k ≡ Some s → is_listed sinks s.cell ≡ true
listed_there sinks k s at =
    let one : same_cell s.cell s.cell ≡ true = grind (arith, nat_tests) in
    list_any_at (λ t. same_cell s.cell t.cell) sinks k s (slice_get_within sinks k s at)
    (subst (λ (t : SinkLine). same_cell s.cell t.cell ≡ true) (sym (get_or_from_slice_get sinks k s s at)) one)

-- an elevation that isn't none is some
twice : (z : Option ℤ) → not (is_none z) ≡ is_some z
twice (Some height) = refl
twice None = refl

one_bad : (lines : Result (List SinkLine) ℕ) (n m : ℕ) → lines ≡ Err n → lines ≡ Err m → n ≡ m
one_bad lines n m a b = let same : Err n ≡ Err m = sym a ∙ b in cc

no_bad : (lines : Result (List SinkLine) ℕ) (n : ℕ) → IsBadLine lines None → lines ≡ Err n → ⊥
no_bad lines n fine bad = let no : Ok fine.0 ≡ Err n = sym fine.1 ∙ bad in cc

module _ (set : GroundSet) (listing : SinkListing) (e : Extent) (voids : List Cell) (sinks_are : listing.sinks ≡ set_listed set.texts) (bad_is : IsBadLine (sinks_of set.texts.given.sinks) listing.bad)
    (extent_is : e ≡ (set_grid set).extent) (voids_are : AreListedVoids (set_grid set) voids) where
  -- the first bad line is reported first
  bad_refused : (n : ℕ) → listing.bad ≡ Some n → NoneStandsIn set 8 → IsRefusalIn set (BadSinkLine n)
  bad_refused n is none =
      let bad = subst (IsBadLine (sinks_of set.texts.given.sinks)) is bad_is in
      first_of set (StandsIn set) 8 n (BadSinkLine n) refl bad none
      (at_bad_line (λ b. place_in set b < n → ¬ StandsIn set b) (λ m less stands. let same = one_bad (sinks_of set.texts.given.sinks) n m bad stands in omega (arith, less, same)))

  lines_none : listing.bad ≡ None → NoneStandsIn set 8 → NoneStandsIn set 9
  lines_none is none =
      none_more (StandsIn set) 8 none
      (at_bad_line (λ b. ¬ StandsIn set b) (λ n stands. no_bad (sinks_of set.texts.given.sinks) n (subst (IsBadLine (sinks_of set.texts.given.sinks)) is bad_is) stands))

  -- a listed cell has data exactly where it is said so
  told_there : (k : ℕ) (s : SinkLine) → slice_get listing.sinks k ≡ Some s →
      (has_data_but e voids s.cell ≡ true → HasData (set_grid set) s.cell) × (has_data_but e voids s.cell ≡ false → ¬ HasData (set_grid set) s.cell)
  told_there k s at = elim (cases_lt s.cell.row e.rows) [
    | inr past ↦ (let none = λ (has : HasData (set_grid set) s.cell). (let rows = ap (λ (x : Extent). x.rows) extent_is in let row = has.inside.row in absurd (omega (arith, past, rows, row))) in
        (λ told. absurd (let no : false ≡ true = sym (rw (le-ltb s.cell.row e.rows past) refl) ∙ told in cc), λ told. none))
    | inl row ↦ elim (cases_lt s.cell.col e.cols) [
      | inr past ↦ (let none = λ (has : HasData (set_grid set) s.cell). (let cols = ap (λ (x : Extent). x.cols) extent_is in let col = has.inside.col in absurd (omega (arith, past, cols, col))) in
          (λ told. absurd (let no : false ≡ true = sym (rw (lt-ltb s.cell.row e.rows row, le-ltb s.cell.col e.cols past) refl) ∙ told in cc), λ told. none))
      | inl col ↦ (let rows = ap (λ (x : Extent). x.rows) extent_is in
          let cols = ap (λ (x : Extent). x.cols) extent_is in
          let inside : IsCellOf (set_grid set).extent s.cell = record { row = omega (arith, row, rows); col = omega (arith, col, cols) } in
          let listed : (set_grid set).sink s.cell ≡ true = ap (λ (lines : List SinkLine). is_listed lines s.cell) (sym sinks_are) ∙ listed_there listing.sinks k s at in
          let said : has_data_but e voids s.cell ≡ is_some ((set_grid set).elevation s.cell) =
          rw (lt-ltb s.cell.row e.rows row, lt-ltb s.cell.col e.cols col) (ap not (voids_are s.cell inside ∙ rw listed refl) ∙ twice ((set_grid set).elevation s.cell)) in
          (λ told. record { inside = inside; is_data = sym said ∙ told }, λ told has. (let no : true ≡ false = sym has.is_data ∙ sym said ∙ told in cc)))
    ]
  ]

  told_of_grid : (k : ℕ) (s : SinkLine) → slice_get (set_listed set.texts) k ≡ Some s →
      (has_data_but e voids s.cell ≡ true → HasData (set_grid set) s.cell) × (has_data_but e voids s.cell ≡ false → ¬ HasData (set_grid set) s.cell)
  told_of_grid k s at = told_there k s (subst (λ (sinks : List SinkLine). slice_get sinks k ≡ Some s) (sym sinks_are) at)

  off_is : FoundOffDataIsRight → (found : Option ℕ) → IsLeastOff (has_data_but e voids) listing.sinks (length listing.sinks) found → IsOffAnswer (set_grid set) (set_listed set.texts) found
  off_is law found least =
      law (set_grid set) (set_listed set.texts) (has_data_but e voids) found told_of_grid
      (subst (λ (sinks : List SinkLine). IsLeastOff (has_data_but e voids) sinks (length sinks) found) sinks_are least)

  off_refused : FoundOffDataIsRight → (n : ℕ) → IsLeastLine (has_data_but e voids) listing.sinks (length listing.sinks) n → NoneStandsIn set 9 → IsRefusalIn set (SinkNotData n)
  off_refused law n least none =
      let first : IsFirstOffData (set_grid set) (set_listed set.texts) n = off_is law (Some n) least in
      first_of set (StandsIn set) 9 n (SinkNotData n) refl first.off none
      (at_off_data (λ b. place_in set b < n → ¬ StandsIn set b) (λ m less stands. first.first m less stands))

  -- the reported refusal is the first that applies
  pub sinks_refused : FoundOffDataIsRight → (refusal : Refusal) → IsToldOfSinks listing e voids (Some refusal) → NoneStandsIn set 8 → IsRefusalIn set refusal
  sinks_refused law (BadSinkLine n) told none = bad_refused n told none
  sinks_refused law (SinkNotData n) told none = off_refused law n told.1 (lines_none told.0 none)
  sinks_refused law refusal told none = absurd told

  -- if none is reported, none of its kinds applies
  pub sinks_none : FoundOffDataIsRight → IsToldOfSinks listing e voids None → NoneStandsIn set 8 → NoneStandsIn set 10
  sinks_none law told none =
      let never : IsOffAnswer (set_grid set) (set_listed set.texts) None = off_is law None told.1 in
      none_more (StandsIn set) 9 (lines_none told.0 none) (at_off_data (λ b. ¬ StandsIn set b) (λ n stands. never n stands))
