use Rattle.std.proofs.Common.{◌≡◌, ◌<◌, ℕ, false, slice_index_or}
use Rattle.drain_rows.proofs.row_buffer.is_any_marked.Given as goal

-- nothing is marked of what was looked at, as long as no mark was seen
abbrev pub invariant-loop-mark : goal.invariant-loop-mark
invariant-loop-mark l = l.is_any ≡ false → (place : ℕ) → place < l.mark-index → slice_index_or l.marks place false ≡ false
