-- The heights so far; the others are as before.
use Rattle.drain_filled.proofs.Names.{◌≡◌, ℕ, ◌<◌, ◌≤◌, pos, length, slice_index_or, IsVoided}
use Rattle.drain_filled.proofs.marked.put_voids.Given as goal

abbrev pub invariant-loop-place : goal.invariant-loop-place
invariant-loop-place l = record {
  len : length l.con.items ≡ length l.fn.con.items;
  each : (k : ℕ) → k < l.place → IsVoided l.void (slice_index_or l.ground.marks k 0) (slice_index_or l.fn.con.items k (pos 0)) (slice_index_or l.con.items k (pos 0));
  rest : (k : ℕ) → l.place ≤ k → slice_index_or l.con.items k (pos 0) ≡ slice_index_or l.fn.con.items k (pos 0);
}
