-- The codes so far have the offsets of their flows.
use Rattle.drain_paths.proofs.Names.{◌≡◌, ◌<◌, ℕ, get_or, length, lane_of}
use Rattle.drain_paths.specs.declared.flow.Flow.TheVariants.{Void}
use Rattle.drain_paths.proofs.places.code_offsets.Given as goal

abbrev pub invariant-loop-code : goal.invariant-loop-code
invariant-loop-code l = record {
  counted : length l.of_codes ≡ 256;
  so_far : (k : ℕ) → k < l.code → get_or l.of_codes k 0 ≡ get_or l.of_flows (lane_of (get_or l.table k Void)) 0;
}
