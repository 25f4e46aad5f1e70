use Rattle.drain_mosaic.proofs.Names.{All, IsSample, ◌≡◌, ℕ, ◌<◌, length, MatchOption, names_of, ArePlacedWithin}
use Rattle.drain_mosaic.proofs.Calls.{Gone, Laying}
use Rattle.drain_mosaic.proofs.placed_rows.lay_tiles.Given as goal

-- the tiles so far were laid; the tiles stay where they are, and what was found is a column
abbrev pub invariant-loop-i : goal.invariant-loop-i
invariant-loop-i g l = record {
  within : (rows : ℕ) → ArePlacedWithin l.side rows (length l.fn.out) l.fn.tiles → ArePlacedWithin l.side rows (length l.fn.out) l.tiles;
  samples : All IsSample l.fn.out → All IsSample l.out;
  found : MatchOption l.seam (Unit {0}) (λ col. col < length l.fn.out);
  names : names_of l.from ≡ names_of l.fn.from;
  gone : Gone g.R.ByteSource.bytes_left g.R.ByteSource.counts l.i l.fn.tiles l.tiles l.fn.from l.from;
  laying : Laying g.R.ByteSource.bytes_left l.side l.row l.i l.fn.tiles l.tiles l.fn.from l.from l.fn.out l.out l.seam;
}
