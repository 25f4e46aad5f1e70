use Rattle.std.proofs.Common.{◌≡◌, drop, map, string_bytes}
use Rattle.drain_args.specs.Clusters.{first_cluster}
use Rattle.drain_args.proofs.clusters.first_cluster.Given as goal

-- the arguments passed change nothing
abbrev pub invariant-loop-word : goal.invariant-loop-word
invariant-loop-word l = first_cluster (map string_bytes (drop l.word-index l.words)) ≡ first_cluster (map string_bytes l.words)
