use Rattle.std.proofs.Common.{◌≡◌, length, vec_len}
use Rattle.drain_files.proofs.outputs.Outputs.writers.Given as goal

-- as many writers were made as files were taken
abbrev pub invariant-loop-file : goal.invariant-loop-file
invariant-loop-file l = vec_len l.writers ≡ length l.yielded
