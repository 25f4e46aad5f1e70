-- The bytes that a call passes in, and which inputs they are: tiles or one raster of elevations, and what is said to lie on
-- them.
use Rattle.std.specs.Prelude.{◌≡◌}
use Rattle.drain_c.specs.Names.{ℕ, List, map, AllZip, SetProduct, Inputs, AreNames, DemTexts, ElevationIsItsPixels, ElevationIsTheirs, GroundSet, TilesAreOne, dem_ground, set_of}
use Rattle.drain_c.specs.declared.given.TileBytes.{TileBytes}
use Rattle.drain_c.specs.declared.given.RasterBytes.{RasterBytes}
use Rattle.drain_c.specs.declared.call.Elevations.{Elevations}
use Rattle.drain_c.specs.declared.call.Elevations.TheVariants.{Tiles, Dem}
use Rattle.drain_hgt.specs.Name.{IsNameOf}
use Rattle.drain_verdict.specs.Given.{Given}
use Rattle.drain_verdict.specs.Texts.{SetTexts}

-- the text of a raster's header, and the bytes of its pixels
pub record RasterTexts : Type 0 where
  pub header : List ℕ
  pub pixels : List ℕ

-- those that are passed
abbrev pub as_passed : RasterBytes → RasterTexts
as_passed raster = record { header = raster.header.bytes.now; pixels = raster.pixels.bytes.now }

-- the inputs are these bytes; which tiles the names name is a function of the names
pub record AreOfBytes (side : ℕ) (tiles : List TileBytes) (given : Given) (raster : SetProduct → RasterTexts) (i : Inputs) : Type 0 where
  pub side_is : i.side ≡ side
  pub names_are : i.names ≡ map (λ t. t.name.bytes.now) tiles
  pub corners_are : AreNames i.names → AllZip IsNameOf i.names i.corners
  pub tiles_are : i.tiles ≡ map (λ t. t.samples.bytes.now) tiles
  pub given_are : i.given ≡ given
  pub headers_are : (p : SetProduct) → i.header p ≡ (raster p).header
  pub rasters_are : (p : SetProduct) → i.raster p ≡ (raster p).pixels

-- a raster of elevations, and what is said to lie on it
pub record DemInputs : Type 0 where
  pub dem : DemTexts
  pub texts : SetTexts

-- its ground, and what is said to lie on it
abbrev pub dem_set : DemInputs → GroundSet
dem_set i = record { terrain = dem_ground i.dem; texts = i.texts }

-- the inputs over a raster of elevations are these bytes
pub record AreOfDem (dem : RasterBytes) (given : Given) (raster : SetProduct → RasterTexts) (i : DemInputs) : Type 0 where
  pub dem_header_is : i.dem.header ≡ dem.header.bytes.now
  pub dem_body_is : i.dem.body ≡ dem.pixels.bytes.now
  pub given_are : i.texts.given ≡ given
  pub headers_are : (p : SetProduct) → i.texts.header p ≡ (raster p).header
  pub rasters_are : (p : SetProduct) → i.texts.raster p ≡ (raster p).pixels

-- either of them
pub data CallInputs : Type 0 where
  of_tiles : Inputs → CallInputs
  of_dem : DemInputs → CallInputs

-- their ground, and what is said to lie on it
abbrev pub set_in : CallInputs → GroundSet
set_in (of_tiles i) = set_of i
set_in (of_dem i) = dem_set i

-- the tiles agree, and each cell has their elevation; or each has that of its pixel
abbrev pub IsElevationTold : CallInputs → Type 0
IsElevationTold (of_tiles i) = TilesAreOne i × ElevationIsTheirs i
IsElevationTold (of_dem i) = ElevationIsItsPixels i.dem

-- the inputs are of the kind of these elevations, and are these bytes
abbrev pub AreOfElevations : Elevations → Given → (SetProduct → RasterTexts) → CallInputs → Type 0
AreOfElevations (Tiles side tiles) given raster (of_tiles i) = AreOfBytes side tiles.now given raster i
AreOfElevations (Dem dem) given raster (of_dem i) = AreOfDem dem given raster i
AreOfElevations elevations given raster i = ⊥
