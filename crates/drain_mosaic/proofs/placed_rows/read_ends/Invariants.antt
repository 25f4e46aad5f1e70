use Rattle.drain_mosaic.proofs.Names.{◌≡◌, ℕ, ◌<◌, get_or, All, names_of, AreTold, ArePlacedWithin, HasEnded, IsPlacedAt, stream_of, end_stream, TileInput, PlacedRows}
use Rattle.drain_mosaic.proofs.Calls.{Gone}
use Rattle.drain_mosaic.proofs.placed_rows.read_ends.Given as goal

-- the tiles so far were read to their ends; the tiles stay where they are
abbrev pub invariant-loop-i : goal.invariant-loop-i
invariant-loop-i g l = record {
  within : (side rows cols : ℕ) → ArePlacedWithin side rows cols l.fn.tiles → ArePlacedWithin side rows cols l.tiles;
  names : names_of l.from ≡ names_of l.fn.from;
  gone : Gone g.R.ByteSource.bytes_left g.R.ByteSource.counts l.i l.fn.tiles l.tiles l.fn.from l.from;
  ended : (side rows cols : ℕ) → ArePlacedWithin side rows cols l.fn.tiles → All (IsPlacedAt side rows) l.fn.tiles → (k : ℕ) → k < l.i → (p : PlacedRows) → HasEnded (get_or l.tiles k p);
  goes_on : AreTold g.R.ByteSource.bytes_left l.fn.from → (k : ℕ) → k < l.i → (p : PlacedRows) (t : TileInput g.row.R.Denot) →
      stream_of (get_or l.tiles k p) (g.R.ByteSource.bytes_left (get_or l.from k t).body) ≡ end_stream (stream_of (get_or l.fn.tiles k p) (g.R.ByteSource.bytes_left (get_or l.fn.from k t).body));
}
