use Rattle.drain_grid.proofs.Names.{◌≡◌, ◌<◌, ◌≤◌, ℕ, length, get_or, Distances, of_kind}
use Rattle.drain_grid.proofs.spacings.Spacings.of_kind.Given as goal

-- the rows that were passed have the kind, and the others are as they were
abbrev pub invariant-loop-k : goal.invariant-loop-k
invariant-loop-k l = record {
  len : length l.listed.items ≡ length l.initial.listed.items;
  done : (d : Distances) (i : ℕ) → i < l.k → get_or l.listed.items i d ≡ of_kind l.kind (get_or l.initial.listed.items i d);
  left : (d : Distances) (i : ℕ) → l.k ≤ i → get_or l.listed.items i d ≡ get_or l.initial.listed.items i d;
}
