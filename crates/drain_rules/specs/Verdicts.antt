-- The verdict on a grid and its products: the first fault, or the counts of an acceptance.
-- Source: the rules and the counts are this project's own.
use Rattle.std.specs.Prelude.{◌≡◌, ◌&&◌}
use Rattle.drain_rules.specs.Names.{ℕ, pos, Bool, Result, Ok, Err, count_by, int_eq, Cell, Rules, Rule, cells, NoDataNumbers, Grid, Products, is_data, data_count, raised_count, RulesHold, IsFirstFault, IsAnyRule, IsTried, tried, Profile, check_rules, Verdict}
use Rattle.drain_grid.specs.declared.verdict.Counts.{Counts}
use Rattle.drain_grid.specs.declared.verdict.Verdict.TheVariants.{Accepted, Rejected}
use Rattle.drain_rules.specs.declared.fill_input.FillInput.{FillInput}
use Rattle.drain_rules.specs.Fill.{fill_grid, fill_products}

-- the cell has data, and its direction is 0
abbrev pub has_outlet_code : Grid → Products → Cell → Bool
has_outlet_code g ps c = is_data g c && int_eq (ps.dir c) (pos 0)

-- how many cells do
abbrev pub outlet_count : Grid → Products → ℕ
outlet_count g ps = count_by (has_outlet_code g ps) (cells g.extent)

-- the size of the grid, and how many of its cells have data, are raised, and are outlets
abbrev pub counts_of : Grid → Products → Counts
counts_of g ps = record {
  rows = g.extent.rows;
  cols = g.extent.cols;
  data_cells = data_count g;
  raised = raised_count g ps;
  outlets = outlet_count g ps;
}

-- accepted where one's own rules hold at every cell, else rejected with their first fault
abbrev pub IsVerdictAmong : Profile → (Rule → Type 0) → Grid → Products → Verdict → Type 0
IsVerdictAmong profile IsOwn g ps (Accepted counts) = RulesHold profile IsOwn g ps × (counts ≡ counts_of g ps)
IsVerdictAmong profile IsOwn g ps (Rejected rule row col) = IsFirstFault profile IsOwn g ps (record { row = row; col = col }) rule

-- so of every rule of the profile
abbrev pub IsVerdictOf : Profile → Grid → Products → Verdict → Type 0
IsVerdictOf profile = IsVerdictAmong profile IsAnyRule

-- so of the rules about judged rasters
abbrev pub IsVerdictBy : Rules → Grid → Products → Verdict → Type 0
IsVerdictBy rules = IsVerdictAmong (tried rules) (IsTried rules.judged)

-- the same of the rules of a check
abbrev pub IsVerdict : Grid → Products → NoDataNumbers → Verdict → Type 0
IsVerdict g ps nodata = IsVerdictOf (check_rules nodata) g ps

-- the fact holds where the verdict is an acceptance
abbrev pub IfAccepted : {E : Type 0} → Result Verdict E → Type 0 → Type 0
IfAccepted (Ok (Accepted counts)) P = P
IfAccepted (Ok (Rejected rule row col)) P = Unit {0}
IfAccepted (Err refusal) P = Unit {0}

-- The meaning of the code's input of the right length.

abbrev pub parts_grid : FillInput → Grid
parts_grid input = fill_grid input.shape.rows input.bytes.now

abbrev pub parts_products : FillInput → Products
parts_products input = fill_products input.shape.rows input.bytes.now
