-- What is listed beside the rasters, and why it is refused.
use Rattle.std.specs.Prelude.{◌≡◌, ◌≢◌, ◌⊎◌}
use Rattle.drain_verdict.specs.Names.{ℕ, List, length, MatchOption, Option, Some, None, Refusal, BadSpacingLine, SpacingRows, Cell, HeightKind, Extent, sinks_of, RowSpacings, spacing_of, GivenSpacing, by_row, same}
use Rattle.drain_verdict.specs.declared.listings.Listing.{Listing}
use Rattle.drain_verdict.specs.declared.listings.SpacingListing.{SpacingListing}
use Rattle.drain_verdict.specs.Given.{Given, HasBadSpacing, ListsRows, row_spacing}
use Rattle.drain_verdict.specs.Stages.{IsBadLine, IsToldOfSinks}
use Rattle.drain_verdict.specs.Texts.{lines_in}

-- of spacings that a text lists, how many
abbrev pub AreRowsCounted : GivenSpacing → RowSpacings → Option ℕ → Type 0
AreRowsCounted (same s) spacings counted = counted ≡ None
AreRowsCounted (by_row text) spacings counted = counted ≡ Some (length spacings.listed)

-- a text by row has this first bad line, and without one lists this number of rows
abbrev pub IsTextTold : GivenSpacing → Option ℕ → Option ℕ → Type 0
IsTextTold given (Some line) rows = HasBadSpacing given line
IsTextTold (same s) None rows = rows ≡ None
IsTextTold (by_row text) None rows = MatchOption rows ⊥ (ListsRows (by_row text))

-- this was found of what is given, on heights of this kind
pub record IsListedSpacing (kind : HeightKind) (given : GivenSpacing) (listing : SpacingListing) : Type 0 where
  pub spacing : (row : ℕ) → spacing_of listing.spacings row ≡ row_spacing kind given row
  pub told : IsTextTold given listing.bad listing.rows

-- so of both
pub record IsListingOf (kind : HeightKind) (listing : Listing) (given : Given) : Type 0 where
  pub sinks : listing.sinks.sinks ≡ lines_in (sinks_of given.sinks)
  pub bad : IsBadLine (sinks_of given.sinks) listing.sinks.bad
  pub spacing : IsListedSpacing kind given.spacing listing.spacing

-- the bad line of a text by row is reported, or else the number of its rows, if it isn't the grid's
abbrev pub IsToldOfSpacing : SpacingListing → Extent → Option Refusal → Type 0
IsToldOfSpacing listing e None = (listing.bad ≡ None) × MatchOption listing.rows (Unit {0}) (λ rows. rows ≡ e.rows)
IsToldOfSpacing listing e (Some (BadSpacingLine line)) = listing.bad ≡ Some line
IsToldOfSpacing listing e (Some (SpacingRows rows)) = (listing.bad ≡ None) × (listing.rows ≡ Some rows) × (rows ≢ e.rows)
IsToldOfSpacing listing e (Some refusal) = ⊥

-- the refusal of the sinks, or else that of the spacing; if any
abbrev pub IsToldOfLists : Listing → Extent → List Cell → Option Refusal → Type 0
IsToldOfLists listing e voids None = IsToldOfSinks listing.sinks e voids None × IsToldOfSpacing listing.spacing e None
IsToldOfLists listing e voids (Some refusal) =
    IsToldOfSinks listing.sinks e voids (Some refusal) ⊎ (IsToldOfSinks listing.sinks e voids None × IsToldOfSpacing listing.spacing e (Some refusal))
