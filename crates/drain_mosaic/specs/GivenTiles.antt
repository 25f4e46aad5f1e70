-- What the bodies of a mosaic's tiles give row by row, whatever their lengths.
use Rattle.std.specs.Prelude.{◌*◌, ◌/◌, ◌∷◌, ◌≡◌, ◌-◌, ◌<◌, ◌≤◌, ◌⊎◌}
use Rattle.drain_mosaic.specs.Names.{ℕ, ℤ, List, [], length, map, take, Option, None, nat_abs, slice_get, Some, Coming, coming_at, Corner, samples_of, tile_rows, AllZip, option_or, Going, Cell, TileInput, Extent, IsSide}
use Rattle.drain_mosaic.specs.Tiling.{Tiling, extent_of, top_left_of, west_of, north_of, tiles_down, tiles_across}
use Rattle.drain_mosaic.specs.Mosaic.{Tile, tiles_of}
use Rattle.drain_mosaic.specs.Streams.{Stream, Frame, mosaic_rows, seam_from, wrong_from}
use Rattle.drain_mosaic.specs.PlacedRows.{AreTold, IsAtStart, first_stopped, streams_of}
use Rattle.drain_mosaic.specs.declared.mosaic_rows.MosaicRows.{MosaicRows}
use Rattle.drain_hgt.specs.declared.name.TheConstants.{POLE, HALF_TURN}
use Rattle.drain_mosaic.specs.declared.layout.TheConstants.{MAX_BOX}
use Rattle.drain_mosaic.specs.declared.layout.LayoutFault.{LayoutFault}
use Rattle.drain_mosaic.specs.declared.layout.LayoutFault.TheVariants.{NoTiles, RepeatedTile, BoxTooLarge, OutOfMemory}

-- a tile's rows in its place
abbrev pub stream_at : Tiling → Corner → List ℕ → Stream
stream_at t c body = record { place = top_left_of t c; coming = tile_rows t.side t.side body }

-- the rows of each tile, in the order of the corners
abbrev pub tile_streams : Tiling → List Corner → List (List ℕ) → List Stream
tile_streams t [] bodies = []
tile_streams t (c ∷ corners) [] = []
tile_streams t (c ∷ corners) (body ∷ bodies) = stream_at t c body ∷ tile_streams t corners bodies

-- the size of the mosaic
abbrev pub frame_of : Tiling → Frame
frame_of t = record { side = t.side; rows = (extent_of t).rows; cols = (extent_of t).cols }

-- what is to come of a mosaic of these bodies
abbrev pub mosaic_coming : Tiling → List (List ℕ) → Coming
mosaic_coming t bodies = mosaic_rows (frame_of t) (extent_of t).rows 0 (tile_streams t t.corners bodies)

-- the bytes of a body's whole rows
abbrev pub whole_rows : ℕ → List ℕ → List ℕ
whole_rows side body = take (length body / (2 * side) * (2 * side)) body

-- the samples that a tile gives: those of its whole rows; past them it gives voids
abbrev pub given_samples : ℕ → List ℕ → List ℤ
given_samples side body = samples_of (whole_rows side body)

-- the tiles with the samples that they give
abbrev pub given_tiles : Tiling → List (List ℕ) → List Tile
given_tiles t bodies = tiles_of t.corners (map (given_samples t.side) bodies)

-- What is to come of a mosaic's rows, and what it will report.

-- the size of the mosaic and of its tiles
abbrev pub frame_of_rows : MosaicRows → Frame
frame_of_rows m = record { side = m.side; rows = m.shape.rows; cols = m.shape.cols }

-- its next row is the first row of a mosaic of these tiles, each from its first byte on
pub record IsBegun (t : Tiling) (m : MosaicRows) : Type 0 where
  pub side_is : m.side ≡ t.side
  pub shape_is : m.shape ≡ extent_of t
  pub row_is : m.row ≡ 0
  pub going : m.progress ≡ Going
  pub no_seam : m.seam ≡ None
  pub tiles_are : AllZip (IsAtStart t) t.corners m.tiles.items

-- the rows to come, if the devices' bytes are known
abbrev pub coming_of : {R : Type 0} → (R → Option (List ℕ)) → MosaicRows → List (TileInput R) → Coming
coming_of bytes_left m from = coming_at m.progress (mosaic_rows (frame_of_rows m) (m.shape.rows - m.row) m.row (streams_of bytes_left m.tiles.items from))

-- the seam that it will report: that of the rows given, or the first of those to come
abbrev pub seam_to_tell : {R : Type 0} → (R → Option (List ℕ)) → MosaicRows → List (TileInput R) → Option Cell
seam_to_tell bytes_left m from = option_or m.seam (seam_from (frame_of_rows m) (m.shape.rows - m.row) m.row (streams_of bytes_left m.tiles.items from))

-- the first tile of wrong length
abbrev pub wrong_to_tell : {R : Type 0} → (R → Option (List ℕ)) → MosaicRows → List (TileInput R) → Option ℕ
wrong_to_tell bytes_left m from = wrong_from 0 (streams_of bytes_left m.tiles.items from)

-- after the last row the seam found is the one to report, and a tile has a wrong length exactly where it has stopped
pub record IsToldAtEnd {R : Type 0} (bytes_left : R → Option (List ℕ)) (m : MosaicRows) (from : List (TileInput R)) : Type 0 where
  pub seam_is : seam_to_tell bytes_left m from ≡ m.seam
  pub wrong_is : wrong_to_tell bytes_left m from ≡ first_stopped 0 m.tiles.items

-- the rows to come, the seam and the tile of wrong length are those of these bodies, which the devices give
pub record AreMosaicRowsOf {R : Type 0} (bytes_left : R → Option (List ℕ)) (t : Tiling) (m : MosaicRows) (from : List (TileInput R)) (bodies : List (List ℕ)) : Type 0 where
  pub told : AreTold bytes_left from
  pub rows_are : coming_of bytes_left m from ≡ mosaic_coming t bodies
  pub seam_is : seam_to_tell bytes_left m from ≡ seam_from (frame_of t) (extent_of t).rows 0 (tile_streams t t.corners bodies)
  pub wrong_is : wrong_to_tell bytes_left m from ≡ wrong_from 0 (tile_streams t t.corners bodies)

-- What can be wrong with a list of tiles.

-- the tile in this place is in an earlier place too
pub record IsRepeatedAt (corners : List Corner) (i : ℕ) (c : Corner) : Type 0 where
  pub earlier : ℕ
  pub before : earlier < i
  pub here : slice_get corners i ≡ Some c
  pub there : slice_get corners earlier ≡ Some c

-- the first tile in the list that equals an earlier one
pub record IsFirstRepeated (corners : List Corner) (c : Corner) : Type 0 where
  pub place : ℕ
  pub repeated : IsRepeatedAt corners place c
  pub first : (i : ℕ) (d : Corner) → i < place → ¬ IsRepeatedAt corners i d

-- the meaning of each fault; running out of memory says nothing of the tiles
abbrev pub HasLayoutFault : Tiling → LayoutFault → Type 0
HasLayoutFault t NoTiles = t.corners ≡ []
HasLayoutFault t (RepeatedTile c) = IsFirstRepeated t.corners c
HasLayoutFault t BoxTooLarge = (MAX_BOX < tiles_down t) ⊎ (MAX_BOX < tiles_across t)
HasLayoutFault t OutOfMemory = ⊥

-- the order in which faults are reported
abbrev pub layout_fault_order : LayoutFault → ℕ × ℕ
layout_fault_order NoTiles = (0, 0)
layout_fault_order (RepeatedTile c) = (1, 0)
layout_fault_order BoxTooLarge = (2, 0)
layout_fault_order OutOfMemory = (3, 0)

-- tiles that make a mosaic
pub record IsLayout (t : Tiling) : Type 0 where
  pub side : IsSide t.side
  pub sound : (fault : LayoutFault) → ¬ HasLayoutFault t fault

-- the edges of the bounding box, and its shape
pub record AreTilingNumbers (t : Tiling) (west : ℤ) (north : ℤ) (shape : Extent) : Type 0 where
  pub west_is : west ≡ west_of t
  pub north_is : north ≡ north_of t
  pub shape_is : shape ≡ extent_of t
  pub west_near : nat_abs west ≤ HALF_TURN
  pub north_near : nat_abs north ≤ POLE

-- the edges of the bounding box, and how many tiles it has each way
pub record AreBoundsOf (t : Tiling) (west : ℤ) (north : ℤ) (down : ℕ) (across : ℕ) : Type 0 where
  pub west_is : west ≡ west_of t
  pub north_is : north ≡ north_of t
  pub down_is : down ≡ tiles_down t
  pub across_is : across ≡ tiles_across t
  pub west_near : nat_abs west ≤ HALF_TURN
  pub north_near : nat_abs north ≤ POLE
