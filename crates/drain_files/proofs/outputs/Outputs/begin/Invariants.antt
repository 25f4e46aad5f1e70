use Rattle.std.proofs.Common.{◌≡◌, vec_len}
use Rattle.drain_files.proofs.outputs.Outputs.begin.Given as goal

-- as many files were begun as paths were gone through
abbrev pub invariant-loop-path : goal.invariant-loop-path
invariant-loop-path l = vec_len l.files ≡ l.path-index
