-- Where the cells of a column and of a row lie. Source: the Esri description of BIL headers (ULXMAP, ULYMAP, XDIM, YDIM).
use Rattle.std.specs.Prelude.{◌≡◌, ◌+ℤ◌, ◌-ℤ◌, ◌*ℤ◌}
use Rattle.drain_page.specs.Names.{ℕ, pos, Tiling, north_of, west_of}
use Rattle.drain_header.specs.Header.{Fields}
use Rattle.drain_page.specs.Texts.{steps_of}
use Rattle.drain_page.specs.declared.frame.Coordinate.{Coordinate}
use Rattle.drain_page.specs.declared.frame.Coordinate.TheVariants.{Degrees, Units}

-- on a mosaic
abbrev pub IsLongitude : Tiling → ℕ → Coordinate → Type 0
IsLongitude t col (Degrees angle) = (angle.count ≡ (west_of t *ℤ pos (steps_of t)) +ℤ pos col) × (angle.steps ≡ steps_of t)
IsLongitude t col (Units units) = ⊥

abbrev pub IsLatitude : Tiling → ℕ → Coordinate → Type 0
IsLatitude t row (Degrees angle) = (angle.count ≡ (north_of t *ℤ pos (steps_of t)) -ℤ pos row) × (angle.steps ≡ steps_of t)
IsLatitude t row (Units units) = ⊥

-- on a raster, by its header: at the centre of the first pixel, and a pixel's size further on for each column and row
abbrev pub IsX : Fields → ℕ → Coordinate → Type 0
IsX h col (Degrees angle) = ⊥
IsX h col (Units units) = units ≡ h.place.ulx +ℤ (pos col *ℤ h.place.xdim)

abbrev pub IsY : Fields → ℕ → Coordinate → Type 0
IsY h row (Degrees angle) = ⊥
IsY h row (Units units) = units ≡ h.place.uly -ℤ (pos row *ℤ h.place.ydim)
