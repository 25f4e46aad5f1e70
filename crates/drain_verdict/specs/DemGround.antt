-- The ground of one raster of elevations: what its header and its body mean, and what a reader of its rows is to give.
-- Which refusals there are, and their order, is this project's own.
use Rattle.std.specs.Prelude.{◌≡◌, ◌∷◌, ◌++◌}
use Rattle.drain_verdict.specs.Names.{ℕ, List, [], length, map, Option, Some, None, Bool, IsTrue, Result, Err, Refusal, BadDemHeader, BadPixelSize, DemShort, TakesAtMost, FaultCounts, Cell, IsCellOf, AnswersOf, DescribesOf, AreWithinBounds, Fields, fields_of, header_of, RasterRows, Voids, IsShort, header_extent, needed_len, HasPixelSize, LiesOn, raster_rows, lines_of, RasterInput, AuditProducts}
use Rattle.drain_header.specs.Lines.{kind_of}
use Rattle.drain_raster.specs.Elevations.{elevation_in, voids_of}
use Rattle.drain_verdict.specs.Given.{Given}
use Rattle.drain_verdict.specs.Ground.{Ground, GroundToGive}
use Rattle.drain_verdict.specs.GroundSets.{ForSet, ForTexts, GroundSet}
use Rattle.drain_verdict.specs.InputReads.{RasterHasRead}
use Rattle.drain_verdict.specs.InputRows.{IsRasterBegun}
use Rattle.drain_verdict.specs.Inputs.{Products, four_devices}
use Rattle.drain_verdict.specs.Uses.{UsesSet, set_devices}
use Rattle.drain_verdict.specs.ToGive.{IsAfterTold}

-- the header and the body of a raster of elevations
pub record DemTexts : Type 0 where
  pub header : List ℕ
  pub body : List ℕ

-- what such a text says, for that kind
abbrev pub fields_in : List ℕ → Fields
fields_in text = fields_of (kind_of text) (lines_of text)

-- what the header says
abbrev pub dem_fields : DemTexts → Fields
dem_fields d = fields_in d.header

-- what each of its refusals says; of no other does any apply
abbrev pub DemRefuses : DemTexts → Refusal → Type 0
DemRefuses d (BadDemHeader fault) = AnswersOf (kind_of d.header) d.header (Err fault)
DemRefuses d BadPixelSize = ¬ HasPixelSize (dem_fields d).place
DemRefuses d DemShort = IsShort (dem_fields d) d.body
DemRefuses d refusal = ⊥

-- a cell has the elevation of its pixel, none where that means a void; no two of its refusals are of one kind
abbrev pub dem_ground : DemTexts → Ground
dem_ground d = record {
  extent = header_extent (dem_fields d);
  elevation = elevation_in (dem_fields d) d.body;
  kind = kind_of d.header;
  Holds = LiesOn (dem_fields d);
  Refuses = DemRefuses d;
  among = λ refusal. 0;
}

-- the rows of its body
abbrev pub dem_rows_of : DemTexts → GroundToGive
dem_rows_of d = record {
  voids = voids_of (dem_fields d);
  rows = raster_rows (dem_fields d) (dem_fields d).rows (dem_fields d).skip d.body;
  wrong = None;
  conflict = None;
}

-- the text describes this header, whose pixels have a size
pub record IsDemHeader (h : Fields) (text : List ℕ) : Type 0 where
  pub bounds : AreWithinBounds h
  pub described : DescribesOf (kind_of text) text h
  pub sized : HasPixelSize h.place

-- why the header is refused
abbrev pub IsDemHeaderRefusal : List ℕ → Refusal → Type 0
IsDemHeaderRefusal text (BadDemHeader fault) = AnswersOf (kind_of text) text (Err fault)
IsDemHeaderRefusal text BadPixelSize = (h : Fields) × DescribesOf (kind_of text) text h × ¬ HasPixelSize h.place
IsDemHeaderRefusal text refusal = ⊥

-- the inputs are one raster with this header
abbrev pub IsDemInput : {R : Type 0} → Fields → List (RasterInput R) → Type 0
IsDemInput h [] = ⊥
IsDemInput h (input ∷ []) = IsDemHeader h input.header
IsDemInput h (input ∷ other ∷ more) = ⊥

-- the header of the one raster is right
abbrev pub HasDemHeader : {R : Type 0} → List (RasterInput R) → Type 0
HasDemHeader inputs = (h : Fields) × IsDemInput h inputs

-- the inputs are one raster of this header and this body, where the bytes of devices are known
abbrev pub EncodesDem : {R : Type 0} → (R → Option (List ℕ)) → List (RasterInput R) → DemTexts → Type 0
EncodesDem bytes_left [] d = ⊥
EncodesDem bytes_left (input ∷ []) d = (d.header ≡ input.header) × (bytes_left input.body ≡ Some d.body)
EncodesDem bytes_left (input ∷ other ∷ more) d = ⊥

-- the fact holds of the set of the call: of the raster and the texts that the arguments encode
abbrev pub ForDem : {R : Type 0} → (R → Option (List ℕ)) → List (RasterInput R) → Given → Products R → (GroundSet → Type 0) → Type 0
ForDem bytes_left dem given ps Fact = ForSet dem_ground (EncodesDem bytes_left dem) bytes_left given ps Fact

-- the fact holds of the raster of the call
abbrev pub ForDemTexts : {R : Type 0} → (R → Option (List ℕ)) → List (RasterInput R) → Given → Products R → (DemTexts → Type 0) → Type 0
ForDemTexts bytes_left dem given ps Fact = ForTexts (EncodesDem bytes_left dem) bytes_left given ps Fact

-- the header is what its text says, and the elevation of each cell is the pixel that the bytes mean, none where that means
-- a void
pub record ElevationIsItsPixels (d : DemTexts) : Type 0 where
  pub described : DescribesOf (kind_of d.header) d.header (dem_fields d)
  pub sized : HasPixelSize (dem_fields d).place
  pub whole : ¬ IsShort (dem_fields d) d.body
  pub pixels : (c : Cell) → IsCellOf (dem_ground d).extent c → (dem_ground d).elevation c ≡ elevation_in (dem_fields d) d.body c

-- Reading.

-- the first row of the raster is to come, and these numbers mean a void in it
pub record IsDemBegun (h : Fields) (raster : RasterRows) (voids : Voids) : Type 0 where
  pub begun : IsRasterBegun h raster
  pub voids_are : voids ≡ voids_of h

-- this number of rows of the raster was requested, in which these numbers mean a void
abbrev pub IsDemAfter : {R : Type 0} → (R → Option (List ℕ)) → RasterRows → Voids → List (RasterInput R) → GroundToGive → ℕ → Type 0
IsDemAfter bytes_left raster voids [] t n = ⊥
IsDemAfter bytes_left raster voids (input ∷ []) t n = (t.voids ≡ voids) × IsAfterTold raster (bytes_left input.body) t.rows n
IsDemAfter bytes_left raster voids (input ∷ other ∷ more) t n = ⊥

-- the headers are those of before
abbrev pub AreHeadersKept : {R : Type 0} → List (RasterInput R) → List (RasterInput R) → Type 0
AreHeadersKept old new = map (λ input. input.header) new ≡ map (λ input. input.header) old

-- the sources of the inputs
abbrev pub dem_devices : {R : Type 0} → List (RasterInput R) → List R
dem_devices inputs = map (λ input. input.body) inputs

-- what was read of one raster from one state to the other; its device failed for good exactly if this is so
pub record DemHasRead {R : Type 0} (bytes_left : R → Option (List ℕ)) (counts : R → FaultCounts) (start now : RasterRows × List (RasterInput R)) (failed : Bool) : Type 0 where
  pub as_many : length now.1 ≡ length start.1
  pub headers : AreHeadersKept start.1 now.1
  pub raster : (old new : RasterInput R) → start.1 ≡ old ∷ [] → now.1 ≡ new ∷ [] →
      RasterHasRead (bytes_left old.body) (bytes_left new.body) (counts old.body) (counts new.body) start.0 now.0 (IsTrue failed)

-- of one raster nothing past the last byte that its header needs was read
abbrev pub DemTakesAtMost : {R : Type 0} → (R → Option (List ℕ)) → List (RasterInput R) → List (RasterInput R) → Type 0
DemTakesAtMost {R} bytes_left olds news =
    (old new : RasterInput R) → olds ≡ old ∷ [] → news ≡ new ∷ [] → TakesAtMost (needed_len (header_of (lines_of old.header))) (bytes_left old.body) (bytes_left new.body)

-- The devices of a check: the raster's, and those of the products.
abbrev pub dem_check_devices : {R : Type 0} → List (RasterInput R) → Products R → List R
dem_check_devices dem ps = set_devices dem_devices dem ps

-- those of an audit
abbrev pub dem_audit_devices : {R : Type 0} → List (RasterInput R) → AuditProducts R → List R
dem_audit_devices dem ps = dem_devices dem ++ four_devices ps

-- how an answer uses one raster and its products, which are read as these five, from these devices
abbrev pub DemUses : {R P T : Type 0} → (P → Products R) → (List (RasterInput R) → P → List R) → (R → Option (List ℕ)) → (R → FaultCounts) → List (RasterInput R) × P → List (RasterInput R) × P → Result T Refusal → Type 0
DemUses inputs_of devices bytes_left counts old new answer = UsesSet inputs_of devices (DemTakesAtMost bytes_left) AreHeadersKept bytes_left counts old new answer
