-- Where a raster lies on another, by their headers.
-- Source: the Esri description of BIL files and their headers (ULXMAP, ULYMAP, XDIM, YDIM); how far two rasters that lie
-- on one another may be apart is this project's own.
use Rattle.std.specs.Prelude.{◌*◌, ◌-ℤ◌, ◌<ℤ◌, ◌≤◌}
use Rattle.drain_raster.specs.Names.{ℕ, ℤ, pos, nat_abs, Fields}
use Rattle.drain_header.specs.declared.header.Place.{Place}

-- the difference of two numbers, taken this often, is no more than the size of a pixel
abbrev pub AreWithinPixel : ℕ → ℤ → ℤ → ℤ → Type 0
AreWithinPixel times size a b = times * nat_abs (a -ℤ b) ≤ nat_abs size

-- a place lies on a raster: the corners are within a hundredth of a pixel, and over the whole raster the sizes of pixels
-- add no more than another
pub record LiesOn (h : Fields) (place : Place) : Type 0 where
  pub ulx : AreWithinPixel 100 h.place.xdim place.ulx h.place.ulx
  pub uly : AreWithinPixel 100 h.place.ydim place.uly h.place.uly
  pub xdim : AreWithinPixel (100 * h.cols) h.place.xdim place.xdim h.place.xdim
  pub ydim : AreWithinPixel (100 * h.rows) h.place.ydim place.ydim h.place.ydim

-- pixels have a width and a height above 0
pub record HasPixelSize (place : Place) : Type 0 where
  pub width : pos 0 <ℤ place.xdim
  pub height : pos 0 <ℤ place.ydim
