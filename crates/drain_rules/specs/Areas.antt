-- The judged cells of a grid, and what a walk over them finds.
use Rattle.std.specs.Prelude.{◌≡◌, ◌-◌, ◌<◌, ◌≤◌, ◌+◌}
use Rattle.drain_rules.specs.Names.{ℕ, min, pos, List, map, Some, None, Bool, count_by, flat_map, range_with_len, Cell, Rule, is_data, is_raised, HoldsAt, IsEarlierPair, SharedLabelHolds, Grid, Products, IsInside, HasData, Profile, Patch, IsLeastFault, rule_number, Values}
use Rattle.drain_rules.specs.declared.walk.Area.{Area}
use Rattle.drain_rules.specs.declared.walk.Tally.{Tally}
use Rattle.drain_rules.specs.Rows.{place, AreRowPatches}
use Rattle.drain_rules.specs.Verdicts.{has_outlet_code}
use Rattle.drain_rules.specs.declared.walk.Stop.{Stop}
use Rattle.drain_rules.specs.declared.walk.Stop.TheVariants.{Fault, OutOfMemory}
use Rattle.drain_rules.specs.Compared.{with_labels, IfCompared}
use Rattle.drain_rules.specs.Labels.{IsOutletByCode}
use Rattle.drain_rules.specs.declared.walk.RowStop.{RowStop}
use Rattle.drain_rules.specs.declared.walk.RowOutcome.{RowOutcome}
use Rattle.drain_rules.specs.declared.walk.RowOutcome.TheVariants.{Sound, Faulty}

-- The cells of an area of a grid, and what is found there. Source: this project's own.

-- a row of the area
pub record HasRow (a : Area) (row : ℕ) : Type 0 where
  pub from : a.top ≤ row
  pub to : row < a.bottom

-- a cell of the area
pub record HasCell (a : Area) (c : Cell) : Type 0 where
  pub top : a.top ≤ c.row
  pub bottom : c.row < a.bottom
  pub left : a.left ≤ c.col
  pub right : c.col < a.right

-- each cell of any grid
abbrev pub everywhere : Area
everywhere = record { top = 0; bottom = 4294967295; left = 0; right = 4294967295 }

-- its cells in a row of so many columns, and its cells in the rows above a row
abbrev pub row_cells_in : Area → ℕ → ℕ → List Cell
row_cells_in a cols row = map (place row) (range_with_len a.left (min a.right cols - a.left))

abbrev pub cells_in_above : Area → ℕ → ℕ → List Cell
cells_in_above a cols row = flat_map (row_cells_in a cols) (range_with_len a.top (min row a.bottom - a.top))

-- how many cells of a list have data, are raised, and are outlets by their code
pub record CountsAmong (g : Grid) (ps : Products) (cells : List Cell) (tally : Tally) : Type 0 where
  pub data_cells : tally.data_cells ≡ count_by (is_data g) cells
  pub raised : tally.raised ≡ count_by (is_raised g ps) cells
  pub outlets : tally.outlets ≡ count_by (has_outlet_code g ps) cells

-- a data cell with code 0
pub record IsOutletCell (g : Grid) (ps : Products) (c : Cell) : Type 0 where
  pub has_data : HasData g c
  pub code : ps.dir c ≡ pos 0

-- the first cell of the area and the grid where one of one's own rules fails, and the first of those that fail there
pub record IsFirstAmong (profile : Profile) (IsOwn : Rule → Type 0) (a : Area) (g : Grid) (ps : Products) (c : Cell) (r : Rule) : Type 0 where
  pub inside : HasCell a c
  pub in_grid : IsInside g c
  pub is_own : IsOwn r
  pub fails : ¬ HoldsAt profile g ps c r
  pub first : (b : Cell) (q : Rule) → HasCell a b → IsInside g b → IsOwn q → IsEarlierPair b q c r → HoldsAt profile g ps b q

-- Why a walk stops at a cell.

-- an outlet that keeps one's own rules, and is new
pub record IsNewLabelHere (profile : Profile) (IsOwn : Rule → Type 0) (IsNew : Values → Type 0) (p : Patch) : Type 0 where
  pub outlet : IsOutletByCode p.here
  pub is_new : IsNew p.here
  pub holds : IsLeastFault IsOwn (with_labels IsNew profile p) None

-- by what is new the rule is the first to fail here; memory runs out only at a new outlet
abbrev pub IsCellStop : Profile → (Rule → Type 0) → (Values → Type 0) → Patch → Stop → Type 0
IsCellStop profile IsOwn IsNew p (Fault rule) = IsLeastFault IsOwn (with_labels IsNew profile p) (Some rule)
IsCellStop profile IsOwn IsNew p OutOfMemory = IsNewLabelHere profile IsOwn IsNew p

-- What a walk along the judged cells of one row finds.

-- one's own rules hold from one column of the row up to another
abbrev pub HoldBetween : Profile → (Rule → Type 0) → Grid → Products → ℕ → ℕ → ℕ → Type 0
HoldBetween profile IsOwn g ps row from end =
    (col : ℕ) (rule : Rule) → from ≤ col → col < end → IsOwn rule → HoldsAt profile g ps (place row col) rule

-- the cells of these columns
abbrev pub cells_between : ℕ → ℕ → ℕ → List Cell
cells_between row from end = map (place row) (range_with_len from (end - from))

-- a column of the area and the grid
pub record IsColumn (a : Area) (g : Grid) (col : ℕ) : Type 0 where
  pub from : a.left ≤ col
  pub to : col < a.right
  pub inside : col < g.extent.cols

-- the first judged column at which one's own rule fails, and the first such rule there
pub record IsFaultBetween (profile : Profile) (IsOwn : Rule → Type 0) (a : Area) (g : Grid) (ps : Products) (row col : ℕ) (rule : Rule) : Type 0 where
  pub judged : IsColumn a g col
  pub is_own : IsOwn rule
  pub fails : ¬ HoldsAt profile g ps (place row col) rule
  pub before : HoldBetween profile IsOwn g ps row a.left col
  pub smaller : (r : Rule) → IsOwn r → rule_number r < rule_number rule → HoldsAt profile g ps (place row col) r

-- the cell is a data cell with code 0 whose label no earlier one has, and one's own rules hold there and at the earlier
-- judged cells of the row
pub record IsNewLabelBetween (profile : Profile) (IsOwn : Rule → Type 0) (a : Area) (g : Grid) (ps : Products) (row col : ℕ) : Type 0 where
  pub judged : IsColumn a g col
  pub outlet : IsOutletCell g ps (place row col)
  pub is_new : SharedLabelHolds g ps (place row col)
  pub holds : HoldBetween profile IsOwn g ps row a.left (col + 1)

-- a walk along the row stops at its first fault, or out of memory; where labels are compared, that is at a new one
abbrev pub IsStopAmong : Bool → Profile → (Rule → Type 0) → Area → Grid → Products → ℕ → ℕ → Stop → Type 0
IsStopAmong compares profile IsOwn a g ps row col (Fault rule) = IsFaultBetween profile IsOwn a g ps row col rule
IsStopAmong compares profile IsOwn a g ps row col OutOfMemory = IfCompared compares (IsNewLabelBetween profile IsOwn a g ps row col)

-- the same of the place and the reason together
abbrev pub IsAreaStop : Bool → Profile → (Rule → Type 0) → Area → Grid → Products → ℕ → RowStop → Type 0
IsAreaStop compares profile IsOwn a g ps row end = IsStopAmong compares profile IsOwn a g ps row end.col end.stop

-- the judged cells of the row keep one's own rules, and these are their counts
pub record IsAreaTally (profile : Profile) (IsOwn : Rule → Type 0) (a : Area) (g : Grid) (ps : Products) (row : ℕ) (tally : Tally) : Type 0 where
  pub holds : HoldBetween profile IsOwn g ps row a.left (min a.right g.extent.cols)
  pub counted : CountsAmong g ps (row_cells_in a g.extent.cols row) tally

-- this holds of each grid whose row these patches are, where this is so before the row
abbrev pub OfAreaRow : ℕ → ℕ → (ℕ → Patch) → (Grid → Products → Type 0) → (Grid → Products → Type 0) → Type 0
OfAreaRow row cols shown Before P = (g : Grid) (ps : Products) → AreRowPatches g ps row cols shown → Before g ps → P g ps

-- The result of the judged cells above a row: one's own rules kept, and counted; or the first fault.

-- a cell of the area above a row of the grid
pub record IsAbove (a : Area) (g : Grid) (row : ℕ) (c : Cell) : Type 0 where
  pub inside : HasCell a c
  pub in_row : c.col < g.extent.cols
  pub above : c.row < row

-- the cells of the area above the row keep one's own rules, are counted, and what is kept of their outlets is right
pub record AreSound (profile : Profile) (IsOwn : Rule → Type 0) (a : Area) (g : Grid) (ps : Products) (row : ℕ) (IsKept : Type 0) (tally : Tally) : Type 0 where
  pub holds : (c : Cell) (r : Rule) → IsAbove a g row c → IsOwn r → HoldsAt profile g ps c r
  pub counted : CountsAmong g ps (cells_in_above a g.extent.cols row) tally
  pub kept : IsKept

-- this is the result of the rows above
abbrev pub IsAreaOutcome : Profile → (Rule → Type 0) → Area → Grid → Products → ℕ → Type 0 → RowOutcome → Type 0
IsAreaOutcome profile IsOwn a g ps row IsKept (Sound tally) = AreSound profile IsOwn a g ps row IsKept tally
IsAreaOutcome profile IsOwn a g ps row IsKept (Faulty cell rule) = IsFirstAmong profile IsOwn a g ps cell rule
