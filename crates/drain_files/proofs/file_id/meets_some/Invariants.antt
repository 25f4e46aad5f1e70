use Rattle.drain_files.proofs.Names.{◌≡◌, ℕ, ◌<◌, Some, slice_get, Meets, Target}
use Rattle.drain_files.proofs.file_id.meets_some.Given as goal

-- the output meets none of the others so far
abbrev pub invariant-loop-other : goal.invariant-loop-other
invariant-loop-other l = (k : ℕ) (other : Target) → k < l.other-index → slice_get l.fn.others k ≡ Some other → ¬ Meets l.fn.output other
