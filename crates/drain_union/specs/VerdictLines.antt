-- The line of a verdict on a window or a union. Its words are this project's own.
use Rattle.std.specs.Prelude.{ℕ, List, ◌++◌, codes, decimal}
use Rattle.drain_answer.specs.Lines.{counted_line, rejected_line}
use Rattle.drain_union.specs.declared.verdict.UnionCounts.{UnionCounts}
use Rattle.drain_union.specs.declared.verdict.UnionVerdict.{UnionVerdict}
use Rattle.drain_union.specs.declared.verdict.UnionVerdict.TheVariants.{Accepted, Rejected}

-- accepted rows=R cols=C data=D raised=U outlets=O
abbrev pub accepted_line : UnionCounts → List ℕ
accepted_line c = counted_line c.rows c.cols c.data_cells c.raised ++ codes " outlets=" ++ decimal c.outlets

-- the line of either; a fault's as in a check
abbrev pub verdict_line : UnionVerdict → List ℕ
verdict_line (Accepted counts) = accepted_line counts
verdict_line (Rejected fault) = rejected_line fault.rule fault.cell.row fault.cell.col
