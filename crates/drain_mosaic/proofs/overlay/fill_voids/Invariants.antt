use Rattle.drain_mosaic.proofs.Names.{◌≡◌, ◌↔◌, ℕ, ◌<◌, ◌≤◌, IsTrue, get_or, VOID, ConflictAt, filled}
use Rattle.drain_mosaic.proofs.overlay.fill_voids.Given as goal

-- the places so far were filled, and the others are as they were
abbrev pub invariant-loop-k : goal.invariant-loop-k
invariant-loop-k l = record {
  values : (k : ℕ) → k < l.k → get_or l.here k VOID ≡ filled (get_or l.fn.here k VOID) (get_or l.other k VOID);
  rest : (k : ℕ) → l.k ≤ k → get_or l.here k VOID ≡ get_or l.fn.here k VOID;
  agree : IsTrue l.all ↔ ((k : ℕ) → k < l.k → ¬ ConflictAt l.fn.here l.other k);
}
