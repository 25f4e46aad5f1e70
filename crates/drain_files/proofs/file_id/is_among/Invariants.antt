use Rattle.drain_files.proofs.Names.{◌≡◌, ℕ, ◌<◌, Some, slice_get, FileId}
use Rattle.drain_files.proofs.file_id.is_among.Given as goal

-- no input so far is the file
abbrev pub invariant-loop-input : goal.invariant-loop-input
invariant-loop-input l = (k : ℕ) (input : FileId) → k < l.input-index → slice_get l.fn.inputs k ≡ Some input → ¬ (l.fn.id ≡ input)
