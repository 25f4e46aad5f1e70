use Rattle.std.proofs.Common.{◌≡◌, length, vec_len}
use Rattle.drain_files.proofs.open_files.create_files.Given as goal

-- as many files are counted as were taken
abbrev pub invariant-loop-file : goal.invariant-loop-file
invariant-loop-file l = vec_len l.files ≡ length l.yielded
