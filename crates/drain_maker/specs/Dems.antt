-- A raster of elevations in memory: the grid that it means, and what is said of listed sinks; and how it is read.
use Rattle.std.specs.Prelude.{◌≡◌, ◌&&◌, if◌then◌else◌}
use Rattle.drain_maker.specs.Names.{ℕ, ℤ, nat_lt, is_some, Bool, List, Option, Some, IsSome, Result, Ok, Err, Refusal, is_finite, Cell, HeightKind, Whole, Single, ProductSet, SinkLine, IsCellOf, Grid, HasData, Pixels, height_at, IsFirstOffData, IsOffData, is_listed, Distances, unit_spacing, IsPixel, RulesHold, check_rules, IsAnyRule, nodata_of, number_at, products_of, UNREACHED, Fields, IsShort, header_extent, pixel_at, IsFirst, DemTexts, IsDemHeader, dem_ground, con_no_data}
use Rattle.drain_answer.specs.declared.refusal.Refusal.TheVariants as refused
use Rattle.drain_filled.specs.Grounds.{DataCells, data_mark}
use Rattle.drain_pixels.specs.Ground.{height_with, whole_voids}
use Rattle.drain_verdict.specs.Ground.{Ground, refusal_kind}
use Rattle.drain_maker.specs.Made.{AreRasters, made_numbers}
use Rattle.drain_maker.specs.ProductFiles.{SetFits}
use Rattle.drain_maker.specs.declared.maker.MakeRefusal.{MakeRefusal}
use Rattle.drain_maker.specs.declared.maker.MakeRefusal.TheVariants.{MakerFault, OutOfMemory, SinkNotData}

-- the elevation of a cell: its number, none where that is the raster's no-data number
abbrev pub dem_elevation : Pixels → Cell → Option ℤ
dem_elevation p c = height_with (whole_voids (Some p.nodata)) (number_at p c)

-- the grid of these elevations, whose sinks the lines list, and whose rows are spaced so
abbrev pub spaced_dem_grid : (ℕ → Distances) → Pixels → List SinkLine → Grid
spaced_dem_grid spacing p sinks = record { extent = p.extent; elevation = dem_elevation p; sink = is_listed sinks; spacing = spacing }

-- that of square cells
abbrev pub dem_grid : Pixels → List SinkLine → Grid
dem_grid p sinks = spaced_dem_grid (λ row. unit_spacing) p sinks

-- the cell lies in the raster, and has an elevation
abbrev pub has_elevation : Pixels → Cell → Bool
has_elevation p c = nat_lt c.row p.extent.rows && (nat_lt c.col p.extent.cols && is_some (dem_elevation p c))

-- each listed cell has data; how far apart cells are plays no part
abbrev pub AreOnDemData : Pixels → List SinkLine → Type 0
AreOnDemData p sinks = (line : ℕ) → ¬ IsOffData (dem_grid p sinks) sinks line

-- products come only if each listed cell has data, else the first line whose cell has none is reported; a fault of the
-- maker never comes
abbrev pub IsDemSinkAnswer : Pixels → List SinkLine → Result ProductSet MakeRefusal → Type 0
IsDemSinkAnswer p sinks (Ok ps) = AreOnDemData p sinks
IsDemSinkAnswer p sinks (Err MakerFault) = ⊥
IsDemSinkAnswer p sinks (Err OutOfMemory) = Unit {0}
IsDemSinkAnswer p sinks (Err (SinkNotData line)) = IsFirstOffData (dem_grid p sinks) sinks line

-- where each listed cell has data, there are products, unless memory runs out
abbrev pub DemSucceeds : Pixels → List SinkLine → Result ProductSet MakeRefusal → Type 0
DemSucceeds p sinks (Ok ps) = Unit {0}
DemSucceeds p sinks (Err refusal) = AreOnDemData p sinks → refusal ≡ OutOfMemory

-- the mark of a cell says whether it has an elevation
pub record IsMarkedBy (p : Pixels) (c : Cell) (mark : ℕ) : Type 0 where
  pub some : (IsSome (dem_elevation p c)) → mark ≡ UNREACHED
  pub none : mark ≡ UNREACHED → IsSome (dem_elevation p c)

-- the number of a cell, which some pixel encodes
pub record IsHeightAt (p : Pixels) (c : Cell) (height : ℤ) : Type 0 where
  pub is : height ≡ number_at p c
  pub pixel : IsPixel height

-- a mark for each cell of a raster
pub record MarksDem (p : Pixels) (w : DataCells) : Type 0 where
  pub extent : w.extent ≡ p.extent
  pub marks : (c : Cell) → IsCellOf p.extent c → IsMarkedBy p c (data_mark w c)

-- each conditioned elevation is the elevation of some cell
abbrev pub AreOfGround : Grid → (Cell → ℤ) → Type 0
AreOfGround g con = (c : Cell) → HasData g c → (n : Cell) × HasData g n × (con c ≡ height_at g n)

-- products that were made for these elevations with this header, these sinks and this spacing
pub record AreMadeOn (h : Fields) (p : Pixels) (sinks : List SinkLine) (spacing : ℕ → Distances) (ps : ProductSet) : Type 0 where
  pub shape : ps.con.extent ≡ p.extent
  pub nodata : nodata_of ps ≡ made_numbers (con_no_data h)
  pub rules : RulesHold (check_rules (made_numbers (con_no_data h))) IsAnyRule (spaced_dem_grid spacing p sinks) (products_of ps)
  pub written : SetFits h ps
  pub rasters : AreRasters ps
  pub on_data : AreOnDemData p sinks

-- Reading it.

-- the number that is kept of a pixel: of a float that is not finite, that of voids
abbrev pub kept_number : HeightKind → ℤ → ℤ → ℤ
kept_number Whole void number = number
kept_number Single void number = if is_finite number then number else void

-- so at a cell of floats, as a number that some pixel encodes
pub record IsKeptAt (p : Pixels) (c : Cell) (number : ℤ) : Type 0 where
  pub is : number ≡ kept_number Single p.nodata (number_at p c)
  pub pixel : IsPixel number

-- the raster with the numbers that are kept of another
pub record IsKept (kind : HeightKind) (p kept : Pixels) : Type 0 where
  pub extent : kept.extent ≡ p.extent
  pub nodata : kept.nodata ≡ p.nodata
  pub numbers : (c : Cell) → IsCellOf p.extent c → number_at kept c ≡ kept_number kind p.nodata (number_at p c)

-- the bytes are long enough, and the raster's number at each cell is what is kept of the pixel
pub record IsRasterOf (h : Fields) (body : List ℕ) (p : Pixels) : Type 0 where
  pub whole : ¬ IsShort h body
  pub extent : p.extent ≡ header_extent h
  pub pixels : (c : Cell) → IsCellOf (header_extent h) c → number_at p c ≡ kept_number h.kind (con_no_data h) (pixel_at h body c)

-- why the body of a raster is refused
abbrev pub IsBodyRefusal : Fields → List ℕ → Refusal → Type 0
IsBodyRefusal h body refused.DemShort = IsShort h body
IsBodyRefusal h body refused.OutOfMemory = Unit {0}
IsBodyRefusal h body refused.ReadFailed = Unit {0}
IsBodyRefusal h body refusal = ⊥

-- no refusal of the raster applies, and in memory it has the header and the elevations that its bytes mean
pub record IsDemOf (d : DemTexts) (h : Fields) (p : Pixels) : Type 0 where
  pub readable : (refusal : Refusal) → ¬ (dem_ground d).Refuses refusal
  pub header : IsDemHeader h d.header
  pub extent_is : p.extent ≡ (dem_ground d).extent
  pub elevation_is : (c : Cell) → IsCellOf p.extent c → dem_elevation p c ≡ (dem_ground d).elevation c

-- the refusal is the first of a ground that applies; out of memory and a failed read say nothing of the bytes
abbrev pub IsGroundRefusal : Ground → Refusal → Type 0
IsGroundRefusal g refused.OutOfMemory = Unit {0}
IsGroundRefusal g refused.ReadFailed = Unit {0}
IsGroundRefusal g refusal = IsFirst (λ r. (refusal_kind r, g.among r)) g.Refuses refusal
