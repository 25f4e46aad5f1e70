-- The grid whose rows and columns reports count. That parts of a raster are cut at whole pixels, and how far they may be
-- from there, is this project's own.
use Rattle.std.specs.Prelude.{◌≡◌, ◌*◌, ◌*ℤ◌, ◌+ℤ◌, ◌-ℤ◌}
use Rattle.drain_union.specs.Names.{ℤ, pos, MAX_LENGTH, IsCoordinate, AreWithinPixel}
use Rattle.drain_union.specs.declared.union_grid.Decimal.{Decimal}
use Rattle.drain_union.specs.declared.union_grid.DemPart.{DemPart}
use Rattle.drain_union.specs.declared.union_grid.UnionGrid.{UnionGrid}
use Rattle.drain_union.specs.declared.union_grid.UnionGrid.TheVariants.{Tiles, Dem}

-- the number in units of 10^-15
abbrev pub value_of : Decimal → ℤ
value_of d = d.units *ℤ pos 1000000000000000 +ℤ d.parts

-- the numbers of a part are such as a header may have
pub record AreCoordinates (d : DemPart) : Type 0 where
  pub ulx : IsCoordinate (value_of d.ulx)
  pub uly : IsCoordinate (value_of d.uly)
  pub xdim : IsCoordinate (value_of d.xdim)
  pub ydim : IsCoordinate (value_of d.ydim)

-- the centre of the whole raster's first pixel, from that of the part's, which lies this number of columns to the east, and
-- of rows to the south
abbrev pub whole_x : DemPart → ℤ
whole_x d = value_of d.ulx -ℤ pos d.at.col *ℤ value_of d.xdim

abbrev pub whole_y : DemPart → ℤ
whole_y d = value_of d.uly +ℤ pos d.at.row *ℤ value_of d.ydim

-- the other part is of the raster of this one: both place its first pixel within a hundredth of a pixel, and over the
-- longest raster of a header the sizes of pixels add no more than another
pub record AreOfOneRaster (d other : DemPart) : Type 0 where
  pub here : AreCoordinates d
  pub there : AreCoordinates other
  pub x : AreWithinPixel 100 (value_of d.xdim) (whole_x other) (whole_x d)
  pub y : AreWithinPixel 100 (value_of d.ydim) (whole_y other) (whole_y d)
  pub width : AreWithinPixel (100 * MAX_LENGTH) (value_of d.xdim) (value_of other.xdim) (value_of d.xdim)
  pub height : AreWithinPixel (100 * MAX_LENGTH) (value_of d.ydim) (value_of other.ydim) (value_of d.ydim)

-- rows and columns of the other count on this grid: tiles have one side, or parts are of one raster
abbrev pub CountsOn : UnionGrid → UnionGrid → Type 0
CountsOn (Tiles side) (Tiles other) = other ≡ side
CountsOn (Tiles side) (Dem other) = ⊥
CountsOn (Dem part) (Tiles other) = ⊥
CountsOn (Dem part) (Dem other) = AreOfOneRaster part other
