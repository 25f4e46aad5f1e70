use Rattle.std.proofs.Common.{◌≡◌, ℕ, ◌<◌, pos, get_or}
use Rattle.drain_c.proofs.derived.write_numbers.Given as goal

-- the numbers before this one are written
abbrev pub invariant-loop-place : goal.invariant-loop-place
invariant-loop-place l = (k : ℕ) → k < l.place → pos (get_or l.numbers k 0) ≡ get_or l.raster.numbers k (pos 0)
