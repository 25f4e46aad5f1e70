-- What a spacing by row says of a set: no refusal of its kinds applies, or its refusal is the first.
use Rattle.drain_verdict.proofs.Names.{◌≡◌, ◌≢◌, ◌∙◌, ◌<◌, List, [], length, Some, None, Ok, inl, inr, arith, refl, sym, ap, subst, Refusal, BadSpacingLine, SpacingRows, Cell, HeightKind, Extent, FoundOffDataIsRight, Distances, RowSpacings, of_kind, spacing_of, unit_spacing, rows_listed, spacing_in, spacings_said, spacings_of, AreListedVoids, Listing, GivenSpacing, by_row, same, spacing_from, GroundSet, IsReadable, IsRefusalIn, NoneStandsIn, StandsIn, place_in, set_grid, AreRowsCounted, IsListedSpacing, IsListingOf, IsTextTold, IsToldOfLists, IsToldOfSpacing}
use Rattle.std.proofs.Common.{ℕ, MatchOption, Option, Result, Err}
use Rattle.drain_grid.specs.declared.spacing_text.SpacingInput.{SpacingInput}
use Rattle.drain_grid.specs.declared.spacing_text.SpacingInput.TheVariants.{Same, ByRow}
use Rattle.drain_verdict.specs.declared.listings.SpacingListing.{SpacingListing}
use Rattle.drain_verdict.specs.Given.{HasBadSpacing, HasOtherRows, ListsRows, spacings_given}
use Rattle.drain_verdict.proofs.Order.{at_bad_spacing, at_spacing_rows, first_of, none_more, readable}
use Rattle.drain_verdict.proofs.SinkAnswers.{sinks_none, sinks_refused}

-- What is found in a text.

-- what a caller says, and what is given, is the same
pub said_is : (input : SpacingInput) → spacings_said input ≡ spacings_given (spacing_from input)
said_is (Same s) = refl
said_is (ByRow text) = refl

-- no row listed, and square cells otherwise
pub unit_there : (kind : HeightKind) (line row : ℕ) → spacing_of (record { listed = []; otherwise = of_kind kind unit_spacing }) row ≡ of_kind kind (spacing_in (Err line) row)
unit_there kind line row = refl

rows_are : (lines : Result (List Distances) ℕ) (spacings : RowSpacings) → rows_listed lines ≡ Ok spacings → lines ≡ Ok spacings.listed
rows_are (Ok rows) spacings is = let same : Ok rows ≡ Ok spacings.listed = ap (λ (s : Result RowSpacings ℕ). listed_in s) is in same
  where
    listed_in : Result RowSpacings ℕ → Result (List Distances) ℕ
    listed_in (Ok s) = Ok s.listed
    listed_in (Err bad) = Err bad
rows_are (Err bad) spacings is = absurd (let no = is in cc)

-- whether a text without a bad line is refused depends on the number of its rows
pub text_told : (given : GivenSpacing) (spacings : RowSpacings) (rows : Option ℕ) → spacings_given given ≡ Ok spacings → AreRowsCounted given spacings rows → IsTextTold given None rows
text_told (same s) spacings rows is counted = counted
text_told (by_row text) spacings rows is counted =
    subst (λ (r : Option ℕ). MatchOption r ⊥ (ListsRows (by_row text))) (sym counted) (spacings.listed, rows_are (spacings_of text) spacings is, refl)

one_bad : (lines : Result RowSpacings ℕ) (n m : ℕ) → lines ≡ Err n → lines ≡ Err m → n ≡ m
one_bad lines n m a b = let same : Err n ≡ Err m = sym a ∙ b in cc

-- one with a bad line lists no rows
no_rows : (lines : Result (List Distances) ℕ) (rows : List Distances) (n : ℕ) → lines ≡ Ok rows → rows_listed lines ≡ Err n → ⊥
no_rows (Ok found) rows n is bad = let no = bad in cc
no_rows (Err line) rows n is bad = let no = is in cc

no_bad : (given : GivenSpacing) (rows : Option ℕ) (n : ℕ) → IsTextTold given None rows → HasBadSpacing given n → ⊥
no_bad (same s) rows n told bad = let no = bad in cc
no_bad (by_row text) None n told bad = told
no_bad (by_row text) (Some count) n (rows, listed, counted) bad = no_rows (spacings_of text) rows n listed bad

-- a text lists one number of rows
one_count : (given : GivenSpacing) (n m : ℕ) → ListsRows given n → ListsRows given m → n ≡ m
one_count (same s) n m one other = absurd one
one_count (by_row text) n m (rows, listed, counted) (others, listed_too, counted_too) =
    let same : rows ≡ others = (let both : Ok rows ≡ Ok others = sym listed ∙ listed_too in cc) in sym counted ∙ ap length same ∙ counted_too

counted_there : (given : GivenSpacing) (n : ℕ) → IsTextTold given None (Some n) → ListsRows given n
counted_there (same s) n told = absurd (let no = told in cc)
counted_there (by_row text) n told = told

-- where the number that was found is that of the grid's rows, no other is listed
no_other : (given : GivenSpacing) (rows : Option ℕ) (height n : ℕ) → IsTextTold given None rows → MatchOption rows (Unit {0}) (λ count. count ≡ height) → ListsRows given n → n ≡ height
no_other (same s) rows height n told fits lists = absurd lists
no_other (by_row text) None height n told fits lists = absurd told
no_other (by_row text) (Some count) height n told fits lists = one_count (by_row text) n count lists told ∙ fits

-- What that says of a set.

module _ (set : GroundSet) (listing : SpacingListing) (e : Extent) (listed : IsListedSpacing set.terrain.kind set.texts.given.spacing listing) (extent_is : e ≡ set.terrain.extent) where
  told_without : listing.bad ≡ None → IsTextTold set.texts.given.spacing None listing.rows
  told_without is = subst (λ (bad : Option ℕ). IsTextTold set.texts.given.spacing bad listing.rows) is listed.told

  -- the first bad line is reported first
  bad_refused : (n : ℕ) → listing.bad ≡ Some n → NoneStandsIn set 10 → IsRefusalIn set (BadSpacingLine n)
  bad_refused n is none =
      let bad : HasBadSpacing set.texts.given.spacing n = subst (λ (bad : Option ℕ). IsTextTold set.texts.given.spacing bad listing.rows) is listed.told in
      first_of set (StandsIn set) 10 n (BadSpacingLine n) refl bad none
      (at_bad_spacing (λ b. place_in set b < n → ¬ StandsIn set b)
      (λ m less stands. let same = one_bad (spacings_given set.texts.given.spacing) n m bad stands in omega (arith, less, same)))

  lines_none : listing.bad ≡ None → NoneStandsIn set 10 → NoneStandsIn set 11
  lines_none is none =
      none_more (StandsIn set) 10 none
      (at_bad_spacing (λ b. ¬ StandsIn set b) (λ n stands. no_bad set.texts.given.spacing listing.rows n (told_without is) stands))

  -- then a number of rows that isn't the grid's
  rows_refused : (n : ℕ) → listing.bad ≡ None → listing.rows ≡ Some n → n ≢ e.rows → NoneStandsIn set 11 → IsRefusalIn set (SpacingRows n)
  rows_refused n is rows differ none =
      let lists = counted_there set.texts.given.spacing n (subst (λ (r : Option ℕ). IsTextTold set.texts.given.spacing None r) rows (told_without is)) in
      let other : HasOtherRows set.texts.given.spacing set.terrain.extent n = (lists, λ same. differ (same ∙ ap (λ (x : Extent). x.rows) (sym extent_is))) in
      first_of set (StandsIn set) 11 n (SpacingRows n) refl other none
      (at_spacing_rows (λ b. place_in set b < n → ¬ StandsIn set b)
      (λ m less stands. let one = one_count set.texts.given.spacing n m lists stands.0 in omega (arith, less, one)))

  -- the reported refusal is the first that applies
  pub spacing_refused : (refusal : Refusal) → IsToldOfSpacing listing e (Some refusal) → NoneStandsIn set 10 → IsRefusalIn set refusal
  spacing_refused (BadSpacingLine n) told none = bad_refused n told none
  spacing_refused (SpacingRows n) (bad, rows, differ) none = rows_refused n bad rows differ (lines_none bad none)
  spacing_refused refusal told none = absurd told

  -- if none is reported, none applies
  pub spacing_none : IsToldOfSpacing listing e None → NoneStandsIn set 10 → IsReadable set
  spacing_none told none =
      readable set (none_more (StandsIn set) 11 (lines_none told.0 none)
      (at_spacing_rows (λ b. ¬ StandsIn set b)
      (λ n stands. stands.1 (no_other set.texts.given.spacing listing.rows e.rows n (told_without told.0) told.1 stands.0 ∙ ap (λ (x : Extent). x.rows) extent_is))))

-- Both lists, the sinks first.

module _ (set : GroundSet) (listing : Listing) (e : Extent) (voids : List Cell) (listed : IsListingOf set.terrain.kind listing set.texts.given)
    (extent_is : e ≡ set.terrain.extent) (voids_are : AreListedVoids (set_grid set) voids) where
  pub lists_refused : FoundOffDataIsRight → (refusal : Refusal) → IsToldOfLists listing e voids (Some refusal) → NoneStandsIn set 8 → IsRefusalIn set refusal
  lists_refused law refusal told none = elim told [
    | inl sinks ↦ sinks_refused set listing.sinks e voids listed.sinks listed.bad extent_is voids_are law refusal sinks none
    | inr spacing ↦ spacing_refused set listing.spacing e listed.spacing extent_is refusal spacing.1
        (sinks_none set listing.sinks e voids listed.sinks listed.bad extent_is voids_are law spacing.0 none)
  ]

  pub lists_none : FoundOffDataIsRight → IsToldOfLists listing e voids None → NoneStandsIn set 8 → IsReadable set
  lists_none law told none =
      spacing_none set listing.spacing e listed.spacing extent_is told.1
      (sinks_none set listing.sinks e voids listed.sinks listed.bad extent_is voids_are law told.0 none)
