-- Where the members of a request lie.
use Rattle.std.specs.Prelude.{◌≡◌, ◌+◌}
use Rattle.drain_c.specs.Names.{ℕ, length}
use Rattle.drain_c.specs.declared.given.GivenBytes.{GivenBytes}
use Rattle.drain_c.specs.declared.given.RasterBytes.{RasterBytes}
use Rattle.drain_c.specs.declared.given.Request.{Request}

-- bytes at this place have none, and say where their third member lies
pub record IsTextAt (place : ℕ) (text : GivenBytes) : Type 0 where
  pub length_is : length text.bytes.now ≡ 0
  pub missing_is : text.missing ≡ place + 16

-- so do those of a raster
pub record IsRasterAt (place : ℕ) (raster : RasterBytes) : Type 0 where
  pub header : IsTextAt place raster.header
  pub pixels : IsTextAt (place + 24) raster.pixels

-- each number of a request is its place in the struct, in bytes, and no tile is passed
pub record HasPlaces (r : Request) : Type 0 where
  pub side_is : r.side ≡ 0
  pub has_dem_is : r.has_dem ≡ 4
  pub tiles_are : length r.tiles.now ≡ 0
  pub dem : IsRasterAt 24 r.dem
  pub sinks : IsTextAt 72 r.sinks
  pub width_is : r.spacing.width ≡ 96
  pub height_is : r.spacing.height ≡ 100
  pub widths : IsTextAt 104 r.spacing.widths
  pub con : IsRasterAt 128 r.rasters.con
  pub dir : IsRasterAt 176 r.rasters.dir
  pub acc : IsRasterAt 224 r.rasters.acc
  pub bas : IsRasterAt 272 r.rasters.bas
  pub rnk : IsRasterAt 320 r.rasters.rnk
  pub judged_is : r.judged ≡ 368
