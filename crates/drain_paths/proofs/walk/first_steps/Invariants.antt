-- The cells so far have theirs.
use Rattle.drain_paths.proofs.Names.{◌≡◌, ◌<◌, ℕ, length, get_or, first_step}
use Rattle.drain_paths.specs.declared.flow.Flow.TheVariants.{Void}
use Rattle.drain_paths.proofs.walk.first_steps.Given as goal

abbrev pub invariant-loop-place : goal.invariant-loop-place
invariant-loop-place l = record {
  counted : length l.steps.items ≡ length l.flows;
  so_far : (i : ℕ) → i < l.place → get_or l.steps.items i 0 ≡ first_step (get_or l.flows i Void);
}
