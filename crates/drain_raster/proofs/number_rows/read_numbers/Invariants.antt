use Rattle.drain_raster.proofs.Names.{◌≡◌, ℕ, ◌-◌, ◌*◌, ◌≤◌, List, length, take, Consumes, IsPixel, PartFails, raster_numbers_of}
use Rattle.std.proofs.Common.{All}
use Rattle.drain_raster.proofs.number_rows.read_numbers.Given as goal

-- the numbers that were passed came, and nothing failed for good
abbrev pub invariant-loop-first : goal.invariant-loop-first
invariant-loop-first g l =
    let bytes_left = g.R.ByteSource.bytes_left in
    let counts = g.R.ByteSource.counts in
    let len = g.P.Pixel.len in
    record {
      within : l.first ≤ length l.out;
      came : (bytes : List ℕ) × Consumes (bytes_left l.fn.from) (bytes_left l.from) bytes × (length bytes ≡ l.first * len)
          × (take l.first l.out ≡ raster_numbers_of len (g.P.Pixel.reads g.T.ByteOrder.number_of) l.first bytes);
      pixels : All IsPixel (take l.first l.out);
      asked : PartFails (counts l.fn.from) (counts l.from) l.fn.patience l.patience ⊥;
    }

abbrev pub decreases-loop-first : goal.decreases-loop-first
decreases-loop-first g l = length l.out - l.first
