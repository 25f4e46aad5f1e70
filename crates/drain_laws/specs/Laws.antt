-- What padding with voids keeps: the rules, the first fault, the verdict, the counts, the runs, and what correct
-- products mean.
use Rattle.std.specs.Prelude.{◌≡◌, ◌≤◌, ◌↔◌, ◌&&◌}
use Rattle.drain_laws.specs.Names.{Bool, Cell, NoDataNumbers, Grid, Products, IsInside, HasData, IsOpenCell, is_data, data_count, raised_count, HoldsAt, IsFirstFault, run, RunEnds, upstream_count, ShareBasin, IsCorrect}
use Rattle.std.specs.List.{count_by}
use Rattle.drain_grid.specs.declared.rule.Rule.{Rule}
use Rattle.drain_grid.specs.Extent.{Extent, cells}
use Rattle.drain_grid.specs.Rule.{IsAnyRule}
use Rattle.drain_grid.specs.PatchRules.{Profile, check_rules}
use Rattle.drain_grid.specs.Unranked.{unranked, RanksAreSteps, IsFirstEndless}
use Rattle.drain_grid.specs.declared.verdict.Verdict.{Verdict}
use Rattle.drain_grid.specs.declared.verdict.Verdict.TheVariants.{Accepted, Rejected}
use Rattle.drain_rules.specs.Verdicts.{outlet_count, IsVerdictOf}
use Rattle.drain_laws.specs.Padding.{IsPadded, ArePadded, ArePaddedRanks}

-- a grid of this size that is padded, and the products on it
pub record PaddedTo (e : Extent) (g : Grid) (ps : Products) (nodata : NoDataNumbers) : Type 0 where
  pub grid : Grid
  pub products : Products
  pub size : grid.extent ≡ e
  pub padded : ArePadded g grid ps products nodata
  pub ranks : ArePaddedRanks g grid ps products nodata

-- each grid and its products can be padded to each size that is no smaller
abbrev pub EveryGridCanBePadded : Type 0
EveryGridCanBePadded =
    (g : Grid) (ps : Products) (nodata : NoDataNumbers) (e : Extent) → g.extent.rows ≤ e.rows → g.extent.cols ≤ e.cols →
    PaddedTo e g ps nodata

-- a cell has data in the padded grid exactly where it has data in the grid
abbrev pub PaddingKeepsData : Type 0
PaddingKeepsData = (g p : Grid) → IsPadded g p → (c : Cell) → HasData p c ↔ HasData g c

-- a cell is open in the padded grid exactly where it is open in the grid: beyond the grid's edge are voids
abbrev pub PaddingKeepsOpen : Type 0
PaddingKeepsOpen = (g p : Grid) → IsPadded g p → (c : Cell) → IsOpenCell p c ↔ IsOpenCell g c

-- as many data cells pass a test in both, where it has one answer at each data cell of the grid
abbrev pub PaddingKeepsTallies : Type 0
PaddingKeepsTallies =
    (g p : Grid) → IsPadded g p → (there here : Cell → Bool) → ((c : Cell) → HasData g c → there c ≡ here c) →
    count_by (λ c. is_data p c && there c) (cells p.extent) ≡ count_by (λ c. is_data g c && here c) (cells g.extent)

-- as many cells have data in both, as many are raised, and as many are outlets by their code
pub record CountsAreKept (g p : Grid) (ps qs : Products) : Type 0 where
  pub data_cells : data_count p ≡ data_count g
  pub raised : raised_count p qs ≡ raised_count g ps
  pub outlets : outlet_count p qs ≡ outlet_count g ps

abbrev pub PaddingKeepsCounts : Type 0
PaddingKeepsCounts =
    (g p : Grid) (ps qs : Products) (nodata : NoDataNumbers) → ArePadded g p ps qs nodata → CountsAreKept g p ps qs

-- at a cell of the grid a rule of the profile holds in the padded grid exactly where it holds in the grid
abbrev pub AreKept : Profile → Grid → Grid → Products → Products → Type 0
AreKept profile g p ps qs = (c : Cell) (r : Rule) → IsInside g c → HoldsAt profile p qs c r ↔ HoldsAt profile g ps c r

-- at every other cell of the padded grid each rule of the profile holds
abbrev pub HoldBeyond : Profile → Grid → Grid → Products → Type 0
HoldBeyond profile g p qs = (c : Cell) (r : Rule) → IsInside p c → ¬ IsInside g c → HoldsAt profile p qs c r

-- the first rule that fails, in row order, is the same rule at the same cell in both
abbrev pub HaveOneFirstFault : Profile → Grid → Grid → Products → Products → Type 0
HaveOneFirstFault profile g p ps qs =
    (c : Cell) (r : Rule) → IsFirstFault profile IsAnyRule p qs c r ↔ IsFirstFault profile IsAnyRule g ps c r

-- the verdict with another number of rows and columns
abbrev pub resized : Extent → Verdict → Verdict
resized e (Accepted counts) =
    Accepted (record { rows = e.rows; cols = e.cols; data_cells = counts.data_cells; raised = counts.raised; outlets = counts.outlets })
resized e (Rejected rule row col) = Rejected rule row col

-- the verdict on the one is that on the other, but for the number of rows and columns in an acceptance
pub record HaveOneVerdict (profile : Profile) (g p : Grid) (ps qs : Products) : Type 0 where
  pub there : (verdict : Verdict) → IsVerdictOf profile g ps verdict → IsVerdictOf profile p qs (resized p.extent verdict)
  pub back : (verdict : Verdict) → IsVerdictOf profile p qs verdict → IsVerdictOf profile g ps (resized g.extent verdict)

-- the rules of an audit are kept
abbrev pub PaddingKeepsRules : Type 0
PaddingKeepsRules =
    (g p : Grid) (ps qs : Products) (nodata : NoDataNumbers) → ArePadded g p ps qs nodata → AreKept (unranked nodata) g p ps qs

-- and hold at the cells beyond the grid
abbrev pub PaddingBreaksNoRule : Type 0
PaddingBreaksNoRule =
    (g p : Grid) (ps qs : Products) (nodata : NoDataNumbers) → ArePadded g p ps qs nodata → HoldBeyond (unranked nodata) g p qs

-- so their first fault is the same
abbrev pub PaddingKeepsFirstFault : Type 0
PaddingKeepsFirstFault =
    (g p : Grid) (ps qs : Products) (nodata : NoDataNumbers) → ArePadded g p ps qs nodata →
    HaveOneFirstFault (unranked nodata) g p ps qs

-- and so is their verdict
abbrev pub PaddingKeepsVerdict : Type 0
PaddingKeepsVerdict =
    (g p : Grid) (ps qs : Products) (nodata : NoDataNumbers) → ArePadded g p ps qs nodata → HaveOneVerdict (unranked nodata) g p ps qs

-- the same four facts of the rules of a check
pub record ChecksAreKept (g p : Grid) (ps qs : Products) (nodata : NoDataNumbers) : Type 0 where
  pub kept : AreKept (check_rules nodata) g p ps qs
  pub beyond : HoldBeyond (check_rules nodata) g p qs
  pub first : HaveOneFirstFault (check_rules nodata) g p ps qs
  pub verdict : HaveOneVerdict (check_rules nodata) g p ps qs

-- they hold where ranks are padded too
abbrev pub PaddingKeepsChecks : Type 0
PaddingKeepsChecks =
    (g p : Grid) (ps qs : Products) (nodata : NoDataNumbers) → ArePadded g p ps qs nodata → ArePaddedRanks g p ps qs nodata →
    ChecksAreKept g p ps qs nodata

-- the run from a data cell ends in both or in neither; where it ends, it visits the same cells
pub record RunIsKept (g p : Grid) (ps qs : Products) (c : Cell) : Type 0 where
  pub ends : RunEnds p qs c ↔ RunEnds g ps c
  pub same : RunEnds g ps c → run p qs c ≡ run g ps c

abbrev pub PaddingKeepsRuns : Type 0
PaddingKeepsRuns =
    (g p : Grid) (ps qs : Products) (nodata : NoDataNumbers) → ArePadded g p ps qs nodata → (c : Cell) → HasData g c →
    RunIsKept g p ps qs c

-- the first data cell whose run doesn't end is the same in both
abbrev pub PaddingKeepsFirstEndless : Type 0
PaddingKeepsFirstEndless =
    (g p : Grid) (ps qs : Products) (nodata : NoDataNumbers) → ArePadded g p ps qs nodata → (c : Cell) →
    IsFirstEndless p qs c ↔ IsFirstEndless g ps c

-- where all runs end, ranks that are the numbers of steps of the runs in both are padded ranks
abbrev pub PaddingKeepsSteps : Type 0
PaddingKeepsSteps =
    (g p : Grid) (ps qs : Products) (nodata : NoDataNumbers) → ArePadded g p ps qs nodata →
    ((x : Cell) → HasData g x → RunEnds g ps x) → RanksAreSteps g ps nodata → RanksAreSteps p qs nodata →
    ArePaddedRanks g p ps qs nodata

-- where all runs end, as many cells drain through a data cell in both
abbrev pub PaddingKeepsAccumulation : Type 0
PaddingKeepsAccumulation =
    (g p : Grid) (ps qs : Products) (nodata : NoDataNumbers) → ArePadded g p ps qs nodata →
    ((x : Cell) → HasData g x → RunEnds g ps x) → (c : Cell) → HasData g c → upstream_count p qs c ≡ upstream_count g ps c

-- two data cells whose runs end share a basin in both or in neither
abbrev pub PaddingKeepsBasins : Type 0
PaddingKeepsBasins =
    (g p : Grid) (ps qs : Products) (nodata : NoDataNumbers) → ArePadded g p ps qs nodata →
    (a b : Cell) → HasData g a → HasData g b → RunEnds g ps a → RunEnds g ps b → ShareBasin p qs a b ↔ ShareBasin g ps a b

-- padded products are correct exactly where the products are
abbrev pub PaddingKeepsCorrect : Type 0
PaddingKeepsCorrect =
    (g p : Grid) (ps qs : Products) (nodata : NoDataNumbers) → ArePadded g p ps qs nodata → IsCorrect p qs nodata ↔ IsCorrect g ps nodata
