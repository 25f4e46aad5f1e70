use Rattle.drain_mosaic.proofs.Names.{◌≡◌, ℕ, ◌<◌, ◌≤◌, get_or, VOID, filled}
use Rattle.drain_mosaic.proofs.seams.fill_voids.Given as goal

abbrev pub invariant-loop-k : goal.invariant-loop-k
invariant-loop-k l =
    ((k : ℕ) → k < l.k → get_or l.here k VOID ≡ filled (get_or l.fn.here k VOID) (get_or l.other k VOID)) × ((k : ℕ) → l.k ≤ k → get_or l.here k VOID ≡ get_or l.fn.here k VOID)
