-- What a reader of tiles is to give, and what it has read.
use Rattle.std.specs.Prelude.{◌≡◌, ◌+◌}
use Rattle.drain_verdict.specs.Names.{ℕ, ℤ, List, length, Option, Some, Bool, IsTrue, after_rows, nth_row, End, FaultCounts, VOID, TileInput, names_of, whole_voids, IsBegun, IsLayout, IsToldAtEnd, coming_of, frame_of, mosaic_coming, seam_to_tell, tile_streams, wrong_to_tell}
use Rattle.drain_mosaic.specs.declared.mosaic_rows.MosaicRows.{MosaicRows}
use Rattle.drain_mosaic.specs.Laws.{RowsAreFirstValues, RowsAreWhole, RowsEnd, RowsTellLengths, RowsTellSeams, WholeTilesGiveTheirSamples}
use Rattle.drain_mosaic.specs.PlacedRows.{AreTold, HaveRead}
use Rattle.drain_mosaic.specs.Streams.{seam_from, wrong_from}
use Rattle.drain_mosaic.specs.Tiling as tiling
use Rattle.drain_verdict.specs.Ground.{GroundToGive}
use Rattle.drain_verdict.specs.Inputs.{Inputs}
use Rattle.drain_verdict.specs.Meaning.{tiling_of}

-- the rows of the tiles' bodies, the first of them of wrong length, and the first seam
abbrev pub tile_rows_of : Inputs → GroundToGive
tile_rows_of i = record {
  voids = whole_voids (Some VOID);
  rows = mosaic_coming (tiling_of i) i.tiles;
  wrong = wrong_from 0 (tile_streams (tiling_of i) i.corners i.tiles);
  conflict = seam_from (frame_of (tiling_of i)) (tiling.extent_of (tiling_of i)).rows 0 (tile_streams (tiling_of i) i.corners i.tiles);
}

-- the tiles make a mosaic, and it is that of the inputs
pub record IsTilingOf (t : tiling.Tiling) (i : Inputs) : Type 0 where
  pub layout : IsLayout t
  pub tiling_is : t ≡ tiling_of i
  pub counted : length i.tiles ≡ length t.corners

-- the first row of the mosaic of these tiles is to come
pub record IsMosaicBegun (t : tiling.Tiling) (m : MosaicRows) : Type 0 where
  pub begun : IsBegun t m
  pub counted : length m.tiles.items ≡ length t.corners

-- this number of rows of the mosaic was requested
pub record IsMosaicAfter {R : Type 0} (bytes_left : R → Option (List ℕ)) (m : MosaicRows) (tiles : List (TileInput R)) (t : GroundToGive) (n : ℕ) : Type 0 where
  pub told : AreTold bytes_left tiles
  pub voids_are : t.voids ≡ whole_voids (Some VOID)
  pub coming_is : coming_of bytes_left m tiles ≡ after_rows n t.rows
  pub seam_is : seam_to_tell bytes_left m tiles ≡ t.conflict
  pub wrong_is : wrong_to_tell bytes_left m tiles ≡ t.wrong
  pub at_end : (before : ℕ) → n ≡ before + 1 → after_rows before t.rows ≡ End → IsToldAtEnd bytes_left m tiles

-- one row more was requested, and these samples came
pub record IsMosaicOneMore {R : Type 0} (bytes_left : R → Option (List ℕ)) (m : MosaicRows) (tiles : List (TileInput R)) (t : GroundToGive) (n : ℕ) (out : List ℤ) : Type 0 where
  pub after : IsMosaicAfter bytes_left m tiles t (n + 1)
  pub out_is : out ≡ nth_row n t.rows

-- what was read of the tiles from one state to the other; a device failed for good exactly if this is so
pub record TilesHaveRead {R : Type 0} (bytes_left : R → Option (List ℕ)) (counts : R → FaultCounts) (start now : MosaicRows × List (TileInput R)) (failed : Bool) : Type 0 where
  pub counted : length now.0.tiles.items ≡ length start.0.tiles.items
  pub as_many : length now.1 ≡ length start.1
  pub tiles : HaveRead bytes_left counts start.0.tiles.items now.0.tiles.items start.1 now.1 (IsTrue failed)
  pub names : names_of now.1 ≡ names_of start.1

-- which rows the bytes of tiles give, and what these rows say of the bytes
pub record TileRowLaws : Type 0 where
  pub rows_end : RowsEnd
  pub rows_whole : RowsAreWhole
  pub first_values : RowsAreFirstValues
  pub seams : RowsTellSeams
  pub lengths : RowsTellLengths
  pub samples : WholeTilesGiveTheirSamples
