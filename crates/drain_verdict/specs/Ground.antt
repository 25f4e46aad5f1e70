-- What the bytes of a ground mean: where it lies, how high it is, and why it is refused. A ground is whatever gives the
-- elevations: tiles, or a raster of them. Source: this project's own.
use Rattle.std.specs.Prelude.{◌≡◌, ◌↔◌, ◌<◌}
use Rattle.drain_verdict.specs.Names.{ℕ, ℤ, List, [], length, slice_index_or, Option, Some, None, Refusal, BadSide, BadName, NoTiles, RepeatedTile, BoxTooLarge, BadHeader, WrongShape, Misplaced, BadTileLength, RasterShort, SeamMismatch, BadSinkLine, SinkNotData, BadSpacingLine, SpacingRows, BadDemHeader, BadPixelSize, DemShort, OutOfMemory, ReadFailed, Coming, nth_row, Cell, HeightKind, Extent, Place, Voids, elevations, place}

-- its size; its elevations, and what their numbers stand for; which places a raster may have that lies on it; which of its own refusals apply; and the
-- place of each of these among those of its kind
pub record Ground : Type 1 where
  pub extent : Extent
  pub elevation : Cell → Option ℤ
  pub kind : HeightKind
  pub Holds : Place → Type 0
  pub Refuses : Refusal → Type 0
  pub among : Refusal → ℕ

-- the kind of a refusal, by the order of kinds: 1 to 3 come before any header is read, 4 are those of headers, 5 of the
-- lengths of a ground, 6 of rasters, 7 of a ground's values, 8 and 9 of the list of sinks, 10 and 11 of a spacing by row
abbrev pub refusal_kind : Refusal → ℕ
refusal_kind BadSide = 1
refusal_kind (BadName k) = 2
refusal_kind NoTiles = 3
refusal_kind (RepeatedTile c) = 3
refusal_kind BoxTooLarge = 3
refusal_kind (BadHeader p fault) = 4
refusal_kind (WrongShape p) = 4
refusal_kind (Misplaced p) = 4
refusal_kind (BadTileLength c) = 5
refusal_kind (RasterShort p) = 6
refusal_kind (SeamMismatch c) = 7
refusal_kind (BadSinkLine n) = 8
refusal_kind (SinkNotData n) = 9
refusal_kind (BadSpacingLine n) = 10
refusal_kind (SpacingRows n) = 11
refusal_kind (BadDemHeader fault) = 1
refusal_kind BadPixelSize = 2
refusal_kind DemShort = 5
refusal_kind OutOfMemory = 12
refusal_kind ReadFailed = 13

-- the refusal is the first of this kind that applies to the ground
pub record IsFirstOwn (g : Ground) (kind : ℕ) (refusal : Refusal) : Type 0 where
  pub kind_is : refusal_kind refusal ≡ kind
  pub refuses : g.Refuses refusal
  pub first : (b : Refusal) → refusal_kind b ≡ kind → g.among b < g.among refusal → ¬ g.Refuses b

-- the first of this kind that applies, none if none does
abbrev pub IsToldOf : Ground → ℕ → Option Refusal → Type 0
IsToldOf g kind None = (b : Refusal) → refusal_kind b ≡ kind → ¬ g.Refuses b
IsToldOf g kind (Some refusal) = IsFirstOwn g kind refusal

-- What a ground is to give: its rows, and what is to be reported after the last: the first input of wrong length, counted
-- from 0, and the first cell that has two values.
pub record GroundToGive : Type 0 where
  pub voids : Voids
  pub rows : Coming
  pub wrong : Option ℕ
  pub conflict : Option Cell

-- its row of this number, as numbers of which some mean a void; none past the last
abbrev pub ground_row : GroundToGive → ℕ → List (Option ℤ)
ground_row t n = elevations t.voids (nth_row n t.rows)

-- the rows are those of the ground's elevations, and there is none after the last
pub record AreGroundRows (g : Ground) (t : GroundToGive) : Type 0 where
  pub long : (row : ℕ) → row < g.extent.rows → length (ground_row t row) ≡ g.extent.cols
  pub heights : (row col : ℕ) → row < g.extent.rows → col < g.extent.cols → slice_index_or (ground_row t row) col None ≡ g.elevation (place row col)
  pub none_behind : ground_row t g.extent.rows ≡ []

-- heights are of this kind, and rasters of this size and these places lie on the ground
pub record IsLaidOn (kind : HeightKind) (e : Extent) (Holds : Place → Type 0) (g : Ground) : Type 0 where
  pub kind_is : g.kind ≡ kind
  pub extent_is : g.extent ≡ e
  pub holds_is : (place : Place) → g.Holds place ↔ Holds place

-- no refusal of its own of a kind before this one applies
abbrev pub NoneRefusesBefore : Ground → ℕ → Type 0
NoneRefusesBefore g kind = (refusal : Refusal) → refusal_kind refusal < kind → ¬ g.Refuses refusal
