-- The cells so far have theirs.
use Rattle.drain_paths.proofs.Names.{◌≡◌, ◌<◌, ◌*◌, ℕ, length, get_or, one_of}
use Rattle.drain_paths.specs.declared.flow.Flow.TheVariants.{Void}
use Rattle.drain_paths.proofs.accumulation.ones.Given as goal

abbrev pub invariant-loop-place : goal.invariant-loop-place
invariant-loop-place t l = record {
  counted : length l.counts.items ≡ l.fn.shape.rows * l.fn.shape.cols;
  so_far : (i : ℕ) → i < l.place → get_or l.counts.items i 0 ≡ one_of (get_or (t.O.Onward.flows l.onward) i Void);
}
