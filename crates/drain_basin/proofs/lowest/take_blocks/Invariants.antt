-- Each bit stays, in one of the two; what is left to take falls.
use Rattle.drain_basin.proofs.Names.{◌≡◌, ℕ, length, max, high_bit, low_bit}
use Rattle.drain_basin.proofs.lowest.take_blocks.Given as goal

abbrev pub invariant-loop-block : goal.invariant-loop-block
invariant-loop-block l = record {
  bits : (p : ℕ) → max (low_bit l.low p) (high_bit l.high.entries p) ≡ max (low_bit l.fn.low p) (high_bit l.fn.high.entries p);
  len : length l.low ≡ length l.fn.low;
  words : l.words ≡ length l.fn.low;
}

abbrev pub decreases-loop-block : goal.decreases-loop-block
decreases-loop-block l = length l.high.entries
