-- Products that were made and written are accepted: what the files are, and the answer to them.
use Rattle.std.specs.Prelude.{◌≡◌}
use Rattle.drain_maker.specs.Names.{ℕ, List, Result, Ok, Err, AllZip, HeightKind, Whole, Con, SetProduct, product_of, ProductSet, SinkLine, sinks_of, Grid, Pixels, Products, Heights, Extent, RowSpacings, products_of, raster_in, spaced_grid, Fields, IsTextOf, raster_bytes, Refusal, OutOfMemory, ReadFailed, DemTexts, dem_ground, Inputs, AreNames, texts_of, tiling_of, IsAnswer, IsAnswerIn, header_on}
use Rattle.drain_grid.specs.Spacing.{spacing_of}
use Rattle.drain_hgt.specs.Name.{IsNameOf}
use Rattle.drain_grid.specs.declared.verdict.Verdict.{Verdict}
use Rattle.drain_grid.specs.declared.verdict.Verdict.TheVariants.{Accepted, Rejected}
use Rattle.drain_rules.specs.Verdicts.{counts_of}
use Rattle.drain_verdict.specs.Given.{HasBadSpacing, HasOtherRows, row_spacing}
use Rattle.drain_sets.specs.GivenSpacings.{GivenSpacing}
use Rattle.drain_verdict.specs.Texts.{SetTexts}
use Rattle.drain_maker.specs.Dems.{AreMadeOn, IsDemOf, spaced_dem_grid}
use Rattle.drain_maker.specs.Mosaics.{IsMosaicOf}
use Rattle.drain_maker.specs.ProductFiles.{made_header}
use Rattle.drain_maker.specs.Made.{AreMade}

-- if each name names a tile, the corners are those of the named tiles
abbrev pub AreNamed : Inputs → Type 0
AreNamed i = AreNames i.names → AllZip IsNameOf i.names i.corners

-- the texts are the files of these rasters on elevations with this header: a text of each product's header, and the bytes
-- of its raster
pub record AreFilesOf (h : Fields) (t : SetTexts) (ps : ProductSet) : Type 0 where
  pub headers_are : (p : SetProduct) → IsTextOf (header_on h (product_of p)) (t.header p)
  pub rasters_are : (p : SetProduct) → t.raster p ≡ raster_bytes (header_on h (product_of p)) (raster_in ps p)

-- accepted with the counts of these products, unless memory runs out or a read fails
abbrev pub IsMadeAcceptance : Grid → Products → Result Verdict Refusal → Type 0
IsMadeAcceptance g ps (Ok (Accepted counts)) = counts ≡ counts_of g ps
IsMadeAcceptance g ps (Ok (Rejected rule row col)) = ⊥
IsMadeAcceptance g ps (Err OutOfMemory) = Unit {0}
IsMadeAcceptance g ps (Err ReadFailed) = Unit {0}
IsMadeAcceptance g ps (Err refusal) = ⊥

-- these are the spacings that are given, for heights of this kind, and a text that lists them has no bad line and lists
-- each row of the grid
pub record AreGivenSpacings (kind : HeightKind) (given : GivenSpacing) (e : Extent) (spacings : RowSpacings) : Type 0 where
  pub are : (row : ℕ) → spacing_of spacings row ≡ row_spacing kind given row
  pub good : (line : ℕ) → ¬ HasBadSpacing given line
  pub rows : (count : ℕ) → ¬ HasOtherRows given e count

-- products made for a mosaic, listed sinks and a spacing are accepted with its tiles, that list and that spacing
abbrev pub MadeIsAccepted : Type 0
MadeIsAccepted =
    (i : Inputs) (e : Heights) (sinks : List SinkLine) (spacings : RowSpacings) (ps : ProductSet) → AreNamed i → IsMosaicOf i (tiling_of i) e →
    sinks_of i.given.sinks ≡ Ok sinks → AreGivenSpacings Whole i.given.spacing e.extent spacings →
    AreMade (tiling_of i) e sinks (spacing_of spacings) ps → AreFilesOf (made_header (tiling_of i) Con) (texts_of i) ps →
    (answer : Result Verdict Refusal) → IsAnswer i answer → IsMadeAcceptance (spaced_grid (spacing_of spacings) e sinks) (products_of ps) answer

-- and those made for one raster of elevations with that raster
abbrev pub MadeOnDemIsAccepted : Type 0
MadeOnDemIsAccepted =
    (d : DemTexts) (t : SetTexts) (h : Fields) (p : Pixels) (sinks : List SinkLine) (spacings : RowSpacings) (ps : ProductSet) → IsDemOf d h p →
    sinks_of t.given.sinks ≡ Ok sinks → AreGivenSpacings h.kind t.given.spacing p.extent spacings → AreMadeOn h p sinks (spacing_of spacings) ps → AreFilesOf h t ps →
    (answer : Result Verdict Refusal) → IsAnswerIn (record { terrain = dem_ground d; texts = t }) answer →
    IsMadeAcceptance (spaced_dem_grid (spacing_of spacings) p sinks) (products_of ps) answer
