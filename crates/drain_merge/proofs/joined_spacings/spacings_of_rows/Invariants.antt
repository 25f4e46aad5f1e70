use Rattle.drain_merge.proofs.Names.{◌≡◌, ℕ, ◌+◌, ◌<◌, length, slice_index_or, unit_spacing, IsSpacingOfRow}
use Rattle.drain_merge.proofs.joined_spacings.spacings_of_rows.Given as goal

-- the rows before are listed, each as spaced in some window that has it
abbrev pub invariant-loop-row : goal.invariant-loop-row
invariant-loop-row l = record {
  len : length l.listed.items ≡ l.row;
  each : (row : ℕ) → row < l.row → IsSpacingOfRow l.windows (l.bounds.top + row) (slice_index_or l.listed.items row unit_spacing);
}
