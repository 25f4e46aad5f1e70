-- What a run on one window answers. Source: this project's own.
use Rattle.std.specs.Prelude.{◌≡◌}
use Rattle.drain_window.specs.Names.{ℕ, List, [], Result, Ok, Err, AllZip, Cell, Corner, IsNameOf, Grid, Products, NoDataNumbers, Fields, IsDemInput, GroundSet, IsReadable, IsRefusalIn, set_grid, set_numbers, set_products, Place, UnionGrid, WindowReport, SEAM_DEPTH, value_of, window_at, Window, IsFirstInside, IsPlaceIn, RulesHoldInside, audited, Report, IsReportOf}
use Rattle.drain_answer.specs.declared.refusal.Refusal.{Refusal}
use Rattle.drain_answer.specs.declared.refusal.Refusal.TheVariants.{BoxTooLarge}
use Rattle.drain_grid.specs.declared.rule.Rule.{Rule}
use Rattle.drain_header.specs.declared.header.Place.{Place as HeaderPlace}
use Rattle.drain_sets.specs.declared.raster_input.RasterInput.{RasterInput}
use Rattle.drain_union.specs.declared.union_grid.DemPart.{DemPart}
use Rattle.drain_union.specs.declared.union_grid.UnionGrid.TheVariants.{Tiles, Dem}
use Rattle.drain_union.specs.declared.verdict.UnionVerdict.{UnionVerdict}
use Rattle.drain_union.specs.declared.verdict.UnionVerdict.TheVariants.{Accepted, Rejected}
use Rattle.drain_union.specs.JudgedCounts.{AreCountsInside}
use Rattle.drain_window.specs.WindowLines.{map_origin}
use Rattle.drain_window.specs.declared.answered.WindowRefusal.{WindowRefusal}
use Rattle.drain_window.specs.declared.answered.WindowRefusal.TheVariants.{Inputs as OfInputs, OutsideMosaic}

-- the union's cell that is the first one of the ground that a report names by this grid and these tiles
abbrev pub origin_of : UnionGrid → List Corner → Cell
origin_of (Tiles side) corners = map_origin (record { side = side; corners = corners })
origin_of (Dem part) corners = part.at

-- the window that lies at this place of the ground that a report names
abbrev pub window_in : WindowReport → Place → GroundSet → Window
window_in a p s = window_at (origin_of a.grid a.tiles.items) p (set_grid s) (set_products s)

-- accepted where the rules hold at every judged cell, else rejected with the first fault, in the window's rows and
-- columns
abbrev pub IsJudgedVerdict : NoDataNumbers → Cell → Place → Grid → Products → UnionVerdict → Type 0
IsJudgedVerdict nodata origin p g ps (Accepted counts) = RulesHoldInside nodata (window_at origin p g ps) × AreCountsInside (window_at origin p g ps) counts
IsJudgedVerdict nodata origin p g ps (Rejected fault) = IsFirstInside nodata (window_at origin p g ps) fault.cell fault.rule

-- the report and the verdict on the window at a place of a grid, which begins at this cell of the union
pub record IsAnswerOn (nodata : NoDataNumbers) (origin : Cell) (p : Place) (g : Grid) (ps : Products) (v : UnionVerdict) (r : Report) : Type 0 where
  pub nodata_is : r.nodata ≡ audited nodata
  pub report : IsReportOf SEAM_DEPTH (window_at origin p g ps) r
  pub verdict : IsJudgedVerdict nodata origin p g ps v

-- the answer once the place is known to lie in the ground
abbrev pub IsPlacedAnswer : Cell → Place → GroundSet → Result (UnionVerdict × Report) Refusal → Type 0
IsPlacedAnswer origin p s (Ok a) = IsReadable s × IsAnswerOn (set_numbers s) origin p (set_grid s) (set_products s) a.0 a.1
IsPlacedAnswer origin p s (Err refusal) = IsRefusalIn s refusal

-- the place lies in the ground, and rows and columns of the union are numbers of 32 bits there
pub record IsWithin (InRange : Type 0) (p : Place) (s : GroundSet) : Type 0 where
  pub in_range : InRange
  pub placed : IsPlaceIn (set_grid s).extent p

-- no refusal applies, and the window is reported; else the place lies outside, or the refusal is the first that applies
abbrev pub IsWindowIn : Type 0 → Place → GroundSet → Result WindowReport WindowRefusal → Type 0
IsWindowIn InRange p s (Ok a) = IsWithin InRange p s × IsPlacedAnswer (origin_of a.grid a.tiles.items) p s (Ok (a.verdict, a.report))
IsWindowIn InRange p s (Err (OfInputs refusal)) = IsRefusalIn s refusal
IsWindowIn InRange p s (Err OutsideMosaic) = ¬ IsWithin InRange p s

-- the answer, with a place outside the ground as a refusal for which no header is looked at
abbrev pub as_refused : {A : Type 0} → Result A WindowRefusal → Result A Refusal
as_refused (Ok a) = Ok a
as_refused (Err (OfInputs refusal)) = Err refusal
as_refused (Err OutsideMosaic) = Err BoxTooLarge

-- this holds of the first fault, where the verdict is a rejection
abbrev pub IfRejected : UnionVerdict → (Cell → Rule → Type 0) → Type 0
IfRejected (Accepted counts) P = Unit {0}
IfRejected (Rejected fault) P = P fault.cell fault.rule

-- How a report names a ground: by the grid whose rows and columns it counts, and its list of tiles.

-- tiles of this side that have these names
abbrev pub IsOfTiles : ℕ → List (List ℕ) → UnionGrid → List Corner → Type 0
IsOfTiles side names grid tiles = (grid ≡ Tiles side) × AllZip IsNameOf names tiles

-- a part of a raster that begins at this cell of the whole, and whose header has this place
pub record IsPartOf (at : Cell) (place : HeaderPlace) (d : DemPart) : Type 0 where
  pub at_is : d.at ≡ at
  pub ulx : value_of d.ulx ≡ place.ulx
  pub uly : value_of d.uly ≡ place.uly
  pub xdim : value_of d.xdim ≡ place.xdim
  pub ydim : value_of d.ydim ≡ place.ydim

-- the part that is the input, and no tiles
abbrev pub IsOfDem : {R : Type 0} → Cell → List (RasterInput R) → UnionGrid → List Corner → Type 0
IsOfDem at dem grid tiles = (h : Fields) × IsDemInput h dem × ((d : DemPart) × IsPartOf at h.place d × (grid ≡ Dem d)) × (tiles ≡ [])
