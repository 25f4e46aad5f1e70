-- The numbers of the places that were passed are there.
use Rattle.std.proofs.Common.{◌≡◌, ◌<◌, ℕ, pos, get_or}
use Rattle.drain_filled.proofs.kept_rows.fill_numbers.Given as goal

abbrev pub invariant-loop-k : goal.invariant-loop-k
invariant-loop-k g l = (i : ℕ) → i < l.k → get_or l.out i (pos 0) ≡ get_or (g.N.PixelNumbers.numbers l.numbers) i (pos 0)
