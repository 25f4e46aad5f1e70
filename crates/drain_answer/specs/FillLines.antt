-- The line for the answer to a fill input. Its words are this project's own.
use Rattle.std.specs.Prelude.{ℕ, List, Result, Ok, Err, codes}
use Rattle.drain_grid.specs.declared.fill_verdict.FillCounts.{FillCounts}
use Rattle.drain_grid.specs.declared.fill_verdict.FillVerdict.{FillVerdict}
use Rattle.drain_grid.specs.declared.fill_verdict.FillVerdict.TheVariants.{Accepted, Rejected}
use Rattle.drain_grid.specs.declared.fill_verdict.FillRefusal.{FillRefusal}
use Rattle.drain_grid.specs.declared.fill_verdict.FillRefusal.TheVariants.{BadSide, BadLength}
use Rattle.drain_answer.specs.Lines.{counted_line, rejected_line}

-- accepted rows=R cols=C data=D raised=U
abbrev pub fill_accepted_line : FillCounts → List ℕ
fill_accepted_line c = counted_line c.rows c.cols c.data_cells c.raised

-- the line of any answer
abbrev pub fill_line : Result FillVerdict FillRefusal → List ℕ
fill_line (Ok (Accepted counts)) = fill_accepted_line counts
fill_line (Ok (Rejected rule row col)) = rejected_line rule row col
fill_line (Err BadSide) = codes "refused BadSide"
fill_line (Err BadLength) = codes "refused BadLength"
