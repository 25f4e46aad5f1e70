use Rattle.std.proofs.Common.{◌≡◌, ◌-◌, ◌<◌, ◌+◌, ℕ, pos, length, slice_index_or}
use Rattle.drain_rules.proofs.screen.copy_numbers.Given as goal

-- the numbers of the columns that were passed are in their places
abbrev pub invariant-loop-col : goal.invariant-loop-col
invariant-loop-col g l = record {
  long : length l.out ≡ length l.fn.out;
  same : (k : ℕ) → k < l.col - l.first → slice_index_or l.out k (pos 0) ≡ slice_index_or (g.N.PixelNumbers.numbers l.numbers) (l.first + k) (pos 0);
}
