-- The counts of a union. These definitions are this project's own.
use Rattle.drain_merge.specs.Names.{ℕ, min, List, data_count, raised_count, Grid, Products, Extent, UnionVerdict, Accepted, Rejected, WindowReport}
use Rattle.std.specs.Prelude.{◌≡◌, ◌-◌, ◌^◌, sum_by}
use Rattle.drain_rules.specs.Verdicts.{outlet_count}
use Rattle.drain_union.specs.declared.verdict.UnionCounts.{UnionCounts}

-- the number, or the greatest of 64 bits
abbrev pub capped : ℕ → ℕ
capped n = min n (2 ^ 64 - 1)

-- the counts of an accepted window
abbrev pub data_cells_in : UnionVerdict → ℕ
data_cells_in (Accepted counts) = counts.data_cells
data_cells_in (Rejected fault) = 0

abbrev pub raised_in : UnionVerdict → ℕ
raised_in (Accepted counts) = counts.raised
raised_in (Rejected fault) = 0

abbrev pub outlets_in : UnionVerdict → ℕ
outlets_in (Accepted counts) = counts.outlets
outlets_in (Rejected fault) = 0

abbrev pub data_cells_of : WindowReport → ℕ
data_cells_of w = data_cells_in w.verdict

abbrev pub raised_of : WindowReport → ℕ
raised_of w = raised_in w.verdict

abbrev pub outlets_of : WindowReport → ℕ
outlets_of w = outlets_in w.verdict

-- the size of the union, and the sums of its windows' counts
pub record AreCountsOf (e : Extent) (windows : List WindowReport) (counts : UnionCounts) : Type 0 where
  pub rows : counts.rows ≡ e.rows
  pub cols : counts.cols ≡ e.cols
  pub data_cells : counts.data_cells ≡ capped (sum_by data_cells_of windows)
  pub raised : counts.raised ≡ capped (sum_by raised_of windows)
  pub outlets : counts.outlets ≡ capped (sum_by outlets_of windows)

-- the size of a union, and how many of its cells have data, are raised, and are outlets by their code
pub record AreUnionCounts (u : Grid) (ps : Products) (counts : UnionCounts) : Type 0 where
  pub rows : counts.rows ≡ u.extent.rows
  pub cols : counts.cols ≡ u.extent.cols
  pub data_cells : counts.data_cells ≡ data_count u
  pub raised : counts.raised ≡ raised_count u ps
  pub outlets : counts.outlets ≡ outlet_count u ps
