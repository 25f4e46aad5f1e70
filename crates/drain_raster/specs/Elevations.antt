-- The elevations that a raster's bytes mean.
-- Source: the Esri description of BIL files and their headers (NODATA), of one band; that a void is where a pixel is that
-- number, and where a float is not finite, is this project's own.
use Rattle.std.specs.Prelude.{◌≡◌, ◌<◌}
use Rattle.drain_raster.specs.Names.{ℕ, ℤ, List, Option, None, slice_index_or, nth_row, Cell, Fields, AreWithinBounds}
use Rattle.drain_pixels.specs.declared.voids.Voids.{Voids}
use Rattle.drain_pixels.specs.Ground.{elevations, height_with}
use Rattle.drain_raster.specs.Pixels.{IsShort, pixel_at}
use Rattle.drain_raster.specs.RasterRows.{raster_rows}

-- which pixels of a header mean a void: its no-data number, and of floats those that are not finite
abbrev pub voids_of : Fields → Voids
voids_of h = record { number = h.nodata; kind = h.kind }

-- the elevation at a cell: its pixel, none at a void
abbrev pub elevation_in : Fields → List ℕ → Cell → Option ℤ
elevation_in h body c = height_with (voids_of h) (pixel_at h body c)

-- the elevations of the rows of a raster that isn't short are those that its bytes mean
abbrev pub ElevationRowsArePixels : Type 0
ElevationRowsArePixels =
    (h : Fields) (body : List ℕ) (row col : ℕ) → AreWithinBounds h → ¬ IsShort h body → row < h.rows → col < h.cols →
    slice_index_or (elevations (voids_of h) (nth_row row (raster_rows h h.rows h.skip body))) col None ≡ elevation_in h body (record { row = row; col = col })
