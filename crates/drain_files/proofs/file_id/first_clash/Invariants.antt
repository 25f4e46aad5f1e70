use Rattle.drain_files.proofs.Names.{ℕ, ◌<◌, Clashes}
use Rattle.drain_files.proofs.file_id.first_clash.Given as goal

-- no output so far clashes
abbrev pub invariant-loop-k : goal.invariant-loop-k
invariant-loop-k l = (k : ℕ) → k < l.k → ¬ Clashes l.fn.outputs l.fn.inputs k
