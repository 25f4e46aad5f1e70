-- The codes so far have their flows.
use Rattle.drain_paths.proofs.Names.{◌≡◌, ◌<◌, ℕ, length, get_or, byte_flow}
use Rattle.drain_paths.specs.declared.flow.Flow.TheVariants.{Void}
use Rattle.drain_paths.proofs.flow.flows_of_codes.Given as goal

abbrev pub invariant-loop-place : goal.invariant-loop-place
invariant-loop-place l = record {
  counted : length l.flows.items ≡ length l.codes;
  so_far : (i : ℕ) → i < l.place → get_or l.flows.items i Void ≡ byte_flow (get_or l.codes i 0);
}
