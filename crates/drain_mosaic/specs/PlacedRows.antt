-- The tiles of a mosaic's rows: where they lie, their state, and what was read of each.
use Rattle.std.specs.Prelude.{◌≡◌, ◌≢◌, ◌+◌, ◌-◌, ◌≤◌, ◌<◌, ◌∷◌}
use Rattle.drain_mosaic.specs.Names.{ℕ, ℤ, IsTrue, List, [], length, slice_index_or, Option, Some, None, MatchOption, Result, Ok, Err, IsSome, unwrap_or, All, VOID, TileInput, Corner, tile_coming, tile_most_bytes, ReadsWithin, Progress, Going, Done, Stopped}
use Rattle.drain_device.specs.Failing.{full_patience, PartFails}
use Rattle.drain_device.specs.declared.counts.FaultCounts.{FaultCounts}
use Rattle.drain_device.specs.declared.row_source.ReadFault.{ReadFault}
use Rattle.drain_device.specs.declared.row_source.ReadFault.TheVariants.{WrongLength, ReadFailed, OutOfMemory, AlreadyFailed}
use Rattle.drain_device.specs.declared.row_source.RowStep.{RowStep}
use Rattle.drain_mosaic.specs.Tiling.{Tiling, top_left_of}
use Rattle.drain_mosaic.specs.JoinedRows.{IsLeastOf, filled}
use Rattle.drain_mosaic.specs.Streams.{Stream, first_sample, in_conflict, is_seam, sample_given}
use Rattle.drain_mosaic.specs.declared.placed_rows.PlacedRows.{PlacedRows}

-- the tile has this side and lies within these rows and columns
pub record IsPlacedWithin (side rows cols : ℕ) (p : PlacedRows) : Type 0 where
  pub side_is : p.rows.side ≡ side
  pub above : p.place.row + side ≤ rows
  pub inside : p.place.col + side ≤ cols

-- so does each tile
abbrev pub ArePlacedWithin : ℕ → ℕ → ℕ → List PlacedRows → Type 0
ArePlacedWithin side rows cols tiles = All (IsPlacedWithin side rows cols) tiles

-- the rows of the mosaic above this one were read of the tile, while it goes on
pub record IsPlacedAt (side row : ℕ) (p : PlacedRows) : Type 0 where
  pub left_is : p.rows.progress ≡ Going → p.rows.left ≡ side - (row - p.place.row)

-- the tile at this corner is at its place, and its first row is to come
pub record IsAtStart (t : Tiling) (c : Corner) (p : PlacedRows) : Type 0 where
  pub place_is : p.place ≡ top_left_of t c
  pub side_is : p.rows.side ≡ t.side
  pub left_is : p.rows.left ≡ t.side
  pub going : p.rows.progress ≡ Going
  pub patience_is : p.rows.patience ≡ full_patience

-- the fault of an answer that ends a mosaic's rows: of a device or of memory; a tile of wrong length doesn't end them
abbrev pub stop_of : Result RowStep ReadFault → Option ReadFault
stop_of (Ok step) = None
stop_of (Err WrongLength) = None
stop_of (Err ReadFailed) = Some ReadFailed
stop_of (Err OutOfMemory) = Some OutOfMemory
stop_of (Err AlreadyFailed) = None

-- each device's bytes are known
abbrev pub AreTold : {R : Type 0} → (R → Option (List ℕ)) → List (TileInput R) → Type 0
AreTold bytes_left from = All (λ t. IsSome (bytes_left t.body)) from

-- what is to come of a tile, in its place, where these bytes are left
abbrev pub stream_of : PlacedRows → Option (List ℕ) → Stream
stream_of p known = record { place = p.place; coming = tile_coming p.rows (unwrap_or known []) }

-- the same of each tile and its device
abbrev pub streams_of : {R : Type 0} → (R → Option (List ℕ)) → List PlacedRows → List (TileInput R) → List Stream
streams_of bytes_left [] from = []
streams_of bytes_left (p ∷ tiles) [] = []
streams_of bytes_left (p ∷ tiles) (t ∷ from) = stream_of p (bytes_left t.body) ∷ streams_of bytes_left tiles from

-- one call for a tile: its device gave at most what was still to be read of the tile, less what still is; this many of
-- its faults were allowed; and the call failed exactly if the device failed for good
pub record HasRead (known_before known_after : Option (List ℕ)) (before after : FaultCounts) (old new : PlacedRows) (Fails : Type 0) : Type 0 where
  pub within : ReadsWithin (tile_most_bytes old.rows) (tile_most_bytes new.rows) known_before known_after
  pub faults : PartFails before after old.rows.patience new.rows.patience Fails

-- one call for each tile; it ended at the first device that failed for good, if one did
pub record HaveRead {R : Type 0} (bytes_left : R → Option (List ℕ)) (counts : R → FaultCounts) (old new : List PlacedRows) (from from_then : List (TileInput R)) (Fails : Type 0) : Type 0 where
  pub failed : Option ℕ
  pub exactly : MatchOption failed (Fails → ⊥) (λ k. (k < length old) × Fails)
  pub each : (k : ℕ) (p : PlacedRows) (t : TileInput R) → k < length old →
      HasRead (bytes_left (slice_index_or from k t).body) (bytes_left (slice_index_or from_then k t).body) (counts (slice_index_or from k t).body) (counts (slice_index_or from_then k t).body)
      (slice_index_or old k p) (slice_index_or new k p) (failed ≡ Some k)

-- a tile was laid over a row of the mosaic: its sample is there where no earlier tile had one, and its first conflict was found
pub record IsTileRowLaid (side row : ℕ) (s : Stream) (old new : List ℤ) (found : Option ℕ) : Type 0 where
  pub values : (col : ℕ) → col < length old → slice_index_or new col VOID ≡ filled (slice_index_or old col VOID) (sample_given side row col s)
  pub first : IsLeastOf (λ col. IsTrue (in_conflict (slice_index_or old col VOID) (sample_given side row col s))) (length old) found

-- the tiles were laid over the row: it has the first samples, and the first column where two differ was found
pub record IsRowLaid (side row : ℕ) (streams : List Stream) (out : List ℤ) (found : Option ℕ) : Type 0 where
  pub values : (col : ℕ) → col < length out → slice_index_or out col VOID ≡ first_sample side row col streams
  pub first : IsLeastOf (λ col. IsTrue (is_seam side row streams col)) (length out) found

-- the tile was read to its end
abbrev pub HasEnded : PlacedRows → Type 0
HasEnded p = p.rows.progress ≢ Going

-- so was each tile
abbrev pub HaveEnded : List PlacedRows → Type 0
HaveEnded tiles = All HasEnded tiles

-- this tile, if it has stopped, and else the later one
abbrev pub if_stopped : ℕ → Progress → Option ℕ → Option ℕ
if_stopped k Going later = later
if_stopped k Done later = later
if_stopped k Stopped later = Some k

-- the first tile that has stopped, counted from k
abbrev pub first_stopped : ℕ → List PlacedRows → Option ℕ
first_stopped k [] = None
first_stopped k (p ∷ more) = if_stopped k p.rows.progress (first_stopped (k + 1) more)
