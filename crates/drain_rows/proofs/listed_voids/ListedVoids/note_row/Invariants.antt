use Rattle.drain_rows.proofs.Names.{◌≡◌, ◌||◌, ◌&&◌, nat_lt, Cell, is_among, is_listed_void}
use Rattle.drain_rows.proofs.listed_voids.ListedVoids.note_row.Given as goal

-- of the columns that were passed, those that are listed and void are noted
abbrev pub invariant-loop-col : goal.invariant-loop-col
invariant-loop-col l = (c : Cell) → is_among l.self c ≡ (is_among l.fn.self c || (nat_lt c.col l.col && is_listed_void l.row l.z l.marks c))
