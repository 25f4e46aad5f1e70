-- Two grounds that say the same, as a tile and a raster with its samples: both get one answer.
use Rattle.std.specs.Prelude.{◌≡◌, ◌↔◌, ◌*◌, ◌<◌, ◌∷◌}
use Rattle.drain_verdict.specs.Names.{ℕ, true, List, [], Some, Result, Ok, Err, AuditVerdict, Outcome, Refusal, OutOfMemory, ReadFailed, Cell, Judged, SetProduct, VOID, Verdict, Whole, IsCellOf, IsSide, Fields, Corner, IsTile, samples_of, tile_sample_at, pixel_at, place}
use Rattle.drain_header.specs.declared.header.ByteOrdering.TheVariants.{Most}
use Rattle.drain_verdict.specs.Answers.{IsAnswerIn, IsAuditIn}
use Rattle.drain_verdict.specs.DemGround.{DemTexts, dem_fields, dem_ground}
use Rattle.drain_verdict.specs.Ground.{Ground}
use Rattle.drain_verdict.specs.GroundSets.{GroundSet}
use Rattle.drain_verdict.specs.Inputs.{Inputs}
use Rattle.drain_verdict.specs.Outcomes.{IsOutcomeIn}
use Rattle.drain_verdict.specs.Texts.{SetTexts, set_fields}
use Rattle.drain_verdict.specs.TileGround.{tile_ground}

-- what a ground is read from: tiles, or a raster of elevations
pub data Terrain : Type 0 where
  tiles : Inputs → Terrain
  raster : DemTexts → Terrain

abbrev pub ground_of : Terrain → Ground
ground_of (tiles i) = tile_ground i
ground_of (raster d) = dem_ground d

-- the same with texts on it
abbrev pub set_on : Terrain → SetTexts → GroundSet
set_on x t = record { terrain = ground_of x; texts = t }

-- as many rows and columns, heights of one kind, and the same elevation at each cell
pub record HaveOneElevation (a b : Ground) : Type 0 where
  pub extent : b.extent ≡ a.extent
  pub kind : b.kind ≡ a.kind
  pub elevation : (c : Cell) → IsCellOf a.extent c → b.elevation c ≡ a.elevation c

-- no refusal of its own applies
abbrev pub IsSound : Ground → Type 0
IsSound g = (refusal : Refusal) → ¬ g.Refuses refusal

-- they have the same elevations, neither is refused, and each product of these texts lies on both or on neither
pub record AreOneGround (a b : Ground) (t : SetTexts) : Type 0 where
  pub cells : HaveOneElevation a b
  pub one_sound : IsSound a
  pub other_sound : IsSound b
  pub lies : (p : SetProduct) → b.Holds (set_fields a.kind t p).place ↔ a.Holds (set_fields a.kind t p).place

-- it is about bytes: memory didn't run out, and no read failed
abbrev pub IsOfBytes : {A : Type 0} → Result A Refusal → Type 0
IsOfBytes (Ok verdict) = Unit {0}
IsOfBytes (Err OutOfMemory) = ⊥
IsOfBytes (Err ReadFailed) = ⊥
IsOfBytes (Err refusal) = Unit {0}

-- each answer about the one is an answer about the other, and there is only one that is about bytes
pub record AreOne {A : Type 0} (IsHere IsThere : Result A Refusal → Type 0) : Type 0 where
  pub same : (answer : Result A Refusal) → IsHere answer ↔ IsThere answer
  pub one : (here there : Result A Refusal) → IsOfBytes here → IsOfBytes there → IsHere here → IsThere there → here ≡ there

-- so of an audit, of a check, and on judged rasters
pub record HaveOneAnswer (a b : GroundSet) : Type 0 where
  pub audit : AreOne (IsAuditIn a) (IsAuditIn b)
  pub check : AreOne (IsAnswerIn a) (IsAnswerIn b)
  pub judged : (judged : Judged) → AreOne (IsOutcomeIn judged a) (IsOutcomeIn judged b)

-- the same elevations get the same answer, refusals of products too, whatever says them
abbrev pub SameElevationsSameAnswer : Type 0
SameElevationsSameAnswer = (a b : Terrain) (t : SetTexts) → AreOneGround (ground_of a) (ground_of b) t → HaveOneAnswer (set_on a t) (set_on b t)

-- where both get a verdict, it is one: of an audit, of a check, and on judged rasters
pub record HaveOneVerdict (a b : GroundSet) : Type 0 where
  pub audit : (here there : AuditVerdict) → IsAuditIn a (Ok here) → IsAuditIn b (Ok there) → here ≡ there
  pub check : (here there : Verdict) → IsAnswerIn a (Ok here) → IsAnswerIn b (Ok there) → here ≡ there
  pub judged : (judged : Judged) (here there : Outcome) → IsOutcomeIn judged a (Ok here) → IsOutcomeIn judged b (Ok there) → here ≡ there

-- the same elevations get the same verdict
abbrev pub SameElevationsSameVerdict : Type 0
SameElevationsSameVerdict = (a b : Terrain) (t : SetTexts) → HaveOneElevation (ground_of a) (ground_of b) → HaveOneVerdict (set_on a t) (set_on b t)

-- the raster's pixels are the tile's samples: a square of whole numbers, where the sample of a void is the no-data number
pub record HasSamplesOf (side : ℕ) (tile : List ℕ) (d : DemTexts) : Type 0 where
  pub rows : (dem_fields d).rows ≡ side
  pub cols : (dem_fields d).cols ≡ side
  pub whole : (dem_fields d).kind ≡ Whole
  pub nodata : (dem_fields d).nodata ≡ Some VOID
  pub pixels : (row col : ℕ) → row < side → col < side → pixel_at (dem_fields d) d.body (place row col) ≡ tile_sample_at side (samples_of tile) row col

-- then it has the elevations of the one tile
abbrev pub SamplesAreElevations : Type 0
SamplesAreElevations =
    (i : Inputs) (corner : Corner) (tile : List ℕ) (d : DemTexts) → IsSide i.side → i.corners ≡ corner ∷ [] → i.tiles ≡ tile ∷ [] →
    HasSamplesOf i.side tile d → HaveOneElevation (tile_ground i) (dem_ground d)

-- the header of a tile's own bytes: pixels of 16 bits, signed, the most significant byte first, with no byte between rows
pub record IsTileHeader (side : ℕ) (h : Fields) : Type 0 where
  pub rows : h.rows ≡ side
  pub cols : h.cols ≡ side
  pub bits : h.bits ≡ 16
  pub whole : h.kind ≡ Whole
  pub signed : h.signed ≡ true
  pub order : h.order ≡ Most
  pub skip : h.skip ≡ 0
  pub row_bytes : h.row_bytes ≡ 2 * side
  pub nodata : h.nodata ≡ Some VOID

-- a tile with such a header is a raster of its samples
abbrev pub TilesAreRasters : Type 0
TilesAreRasters = (side : ℕ) (d : DemTexts) → IsTile side d.body → IsTileHeader side (dem_fields d) → HasSamplesOf side d.body d
