-- Where tiles agree, the first value is the one value.
use Rattle.std.specs.Prelude.{◌≡◌, ◌<◌}
use Rattle.drain_mosaic.specs.Names.{List, ℕ, [], length, map, slice_index_or, Option, MatchOption, All, after_rows, nth_row, End, VOID, height_from, TileInput, AreBodies, IsFirstBadLength, IsTile, samples_of}
use Rattle.drain_mosaic.specs.Tiling.{Tiling, extent_of}
use Rattle.drain_mosaic.specs.Mosaic.{Tile, TilesAgree, IsElevation, first_value, tiles_of, IsFirstSeam}
use Rattle.drain_mosaic.specs.GivenTiles.{IsLayout, frame_of, given_tiles, mosaic_coming, tile_streams, AreMosaicRowsOf, IsBegun}
use Rattle.drain_mosaic.specs.Streams.{seam_from, wrong_from}
use Rattle.drain_mosaic.specs.declared.mosaic_rows.MosaicRows.{MosaicRows}

-- the first value of each cell is its one value
abbrev pub AgreementGivesElevation : Type 0
AgreementGivesElevation = (t : Tiling) (tiles : List Tile) → TilesAgree t tiles → IsElevation t tiles (first_value t tiles)

-- What the rows of a mosaic mean.

-- new rows are those of the bodies that the devices give
abbrev pub NewRowsAreOfBodies : {R : Type 0} → (R → Option (List ℕ)) → Type 0
NewRowsAreOfBodies {R} bytes_left =
    (t : Tiling) (m : MosaicRows) (from : List (TileInput R)) (bodies : List (List ℕ)) → IsBegun t m → AreBodies bytes_left from bodies → AreMosaicRowsOf bytes_left t m from bodies

-- all rows come, and then the end
abbrev pub RowsEnd : Type 0
RowsEnd = (t : Tiling) (bodies : List (List ℕ)) → after_rows (extent_of t).rows (mosaic_coming t bodies) ≡ End

-- each row has a number for each column, and after the last there is no row
pub record AreWholeRows (t : Tiling) (bodies : List (List ℕ)) : Type 0 where
  pub long : (row : ℕ) → row < (extent_of t).rows → length (nth_row row (mosaic_coming t bodies)) ≡ (extent_of t).cols
  pub none_behind : nth_row (extent_of t).rows (mosaic_coming t bodies) ≡ []

abbrev pub RowsAreWhole : Type 0
RowsAreWhole = (t : Tiling) (bodies : List (List ℕ)) → AreWholeRows t bodies

-- each number of a row is the first value of its cell: that of the first tile that gives it one
abbrev pub RowsAreFirstValues : Type 0
RowsAreFirstValues = (t : Tiling) (bodies : List (List ℕ)) (row col : ℕ) → IsLayout t → row < (extent_of t).rows → col < (extent_of t).cols →
    height_from (slice_index_or (nth_row row (mosaic_coming t bodies)) col VOID) ≡ first_value t (given_tiles t bodies) (record { row = row; col = col })

-- the seam that rows report is the first; none is reported if the tiles agree
abbrev pub RowsTellSeams : Type 0
RowsTellSeams = (t : Tiling) (bodies : List (List ℕ)) → IsLayout t →
    MatchOption (seam_from (frame_of t) (extent_of t).rows 0 (tile_streams t t.corners bodies)) (TilesAgree t (given_tiles t bodies)) (IsFirstSeam t (given_tiles t bodies))

-- the tile that they report is the first of another length; none is reported if each has the right one
abbrev pub RowsTellLengths : Type 0
RowsTellLengths = (t : Tiling) (bodies : List (List ℕ)) → IsLayout t → length bodies ≡ length t.corners →
    MatchOption (wrong_from 0 (tile_streams t t.corners bodies)) (All (IsTile t.side) bodies) (IsFirstBadLength t.side bodies)

-- tiles of the right length give all their samples
abbrev pub WholeTilesGiveTheirSamples : Type 0
WholeTilesGiveTheirSamples = (t : Tiling) (bodies : List (List ℕ)) → IsLayout t → All (IsTile t.side) bodies → given_tiles t bodies ≡ tiles_of t.corners (map samples_of bodies)
