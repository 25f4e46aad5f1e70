-- Rows of numbers, and the patches that three of them show.
use Rattle.std.specs.Prelude.{◌≡◌, ◌<◌, ◌≤◌, ◌-◌, ◌&&◌, if◌then◌else◌}
use Rattle.drain_rules.specs.Names.{ℕ, ℤ, pos, neg_ℤ, List, [], length, slice_index_or, Option, IfSome, Bool, int_lt, is_some, unwrap_or, map, zero, suc, nat_lt, false, Some, None, count_by, All, range_with_len, Cell, Rule, rule_number, row_cells, Grid, Products, patch_at, set_number_in, is_data, is_raised, HoldsAt, Profile, Patch, MAX_LENGTH, of_product, per_product, Distances, IsPixel, Values, AreLanesOf}
use Rattle.drain_rules.specs.declared.walk.Tally.{Tally}
use Rattle.drain_rules.specs.Verdicts.{has_outlet_code}
use Rattle.drain_grid.specs.declared.set_product.SetProduct.{SetProduct}
use Rattle.drain_grid.specs.declared.per_product.PerProduct.{PerProduct}
use Rattle.drain_kernel.specs.declared.lanes.Lanes.{Lanes}

-- What a walk along one row finds.

-- the cell of a row and a column
abbrev pub place : ℕ → ℕ → Cell
place row col = record { row = row; col = col }

-- one's own rules hold at the first cells of the row
abbrev pub HoldAlong : Profile → (Rule → Type 0) → Grid → Products → ℕ → ℕ → Type 0
HoldAlong profile IsOwn g ps row cols =
    (col : ℕ) (rule : Rule) → col < cols → IsOwn rule → HoldsAt profile g ps (place row col) rule

-- the rule is the first of them that fails at the first cell of the row where one does
pub record IsRowFault (profile : Profile) (IsOwn : Rule → Type 0) (g : Grid) (ps : Products) (row col : ℕ) (rule : Rule) : Type 0 where
  pub inside : col < g.extent.cols
  pub is_own : IsOwn rule
  pub fails : ¬ HoldsAt profile g ps (place row col) rule
  pub before : HoldAlong profile IsOwn g ps row col
  pub smaller : (r : Rule) → IsOwn r → rule_number r < rule_number rule → HoldsAt profile g ps (place row col) r

-- how many of the first cells of the row have data, are raised, and are outlets by their code
pub record CountsAlong (g : Grid) (ps : Products) (row cols : ℕ) (tally : Tally) : Type 0 where
  pub data_cells : tally.data_cells ≡ count_by (is_data g) (row_cells cols row)
  pub raised : tally.raised ≡ count_by (is_raised g ps) (row_cells cols row)
  pub outlets : tally.outlets ≡ count_by (has_outlet_code g ps) (row_cells cols row)

-- the row keeps one's own rules, and these are its counts
pub record IsRowTally (profile : Profile) (IsOwn : Rule → Type 0) (g : Grid) (ps : Products) (row : ℕ) (tally : Tally) : Type 0 where
  pub holds : HoldAlong profile IsOwn g ps row g.extent.cols
  pub counted : CountsAlong g ps row g.extent.cols tally

-- What a walk along a row of patches finds, for any grid whose row it is.

-- n patches, and they are those of the row's cells
pub record AreRowPatches (g : Grid) (ps : Products) (row cols : ℕ) (shown : ℕ → Patch) : Type 0 where
  pub inside : row < g.extent.rows
  pub cols_are : cols ≡ g.extent.cols
  pub patches_are : (col : ℕ) → col < cols → shown col ≡ patch_at g ps (place row col)

-- the counts of n cells
pub record IsAtMost (cells : ℕ) (tally : Tally) : Type 0 where
  pub data_cells : tally.data_cells ≤ cells
  pub raised : tally.raised ≤ tally.data_cells
  pub outlets : tally.outlets ≤ tally.data_cells

-- A row of a grid and its products as lists of numbers.

-- the elevations, none at a void, and each product's numbers
pub record RowNumbers : Type 0 where
  pub z : List (Option ℤ)
  pub products : PerProduct (List ℤ)

-- no row
abbrev pub blank : RowNumbers
blank = record { z = []; products = per_product (λ p. []) }

-- as many of each, at most 28,801, and numbers that pixels encode
pub record AreRowNumbers (row : RowNumbers) : Type 0 where
  pub narrow : length row.z ≤ MAX_LENGTH
  pub long : (p : SetProduct) → length (of_product row.products p) ≡ length row.z
  pub samples : All (λ z. IfSome z IsPixel) row.z
  pub pixels : (p : SetProduct) → All IsPixel (of_product row.products p)

-- the elevations as numbers: at a void the least of 16 bits, which no number of 16 bits is below
abbrev pub grounds : List (Option ℤ) → List ℤ
grounds z = map (λ (height : Option ℤ). unwrap_or height (neg_ℤ (pos 32768))) z

-- they are the numbers of a grid's row, whose products have no spill parents
pub record AreNumbersOf (g : Grid) (ps : Products) (row : ℕ) (numbers : RowNumbers) : Type 0 where
  pub inside : row < g.extent.rows
  pub cols_are : length numbers.z ≡ g.extent.cols
  pub elevation : (col : ℕ) → col < g.extent.cols → slice_index_or numbers.z col None ≡ g.elevation (place row col)
  pub products : (p : SetProduct) (col : ℕ) → col < g.extent.cols → slice_index_or (of_product numbers.products p) col (pos 0) ≡ set_number_in ps p (place row col)
  pub no_spill : (col : ℕ) → col < g.extent.cols → ps.spl (place row col) ≡ pos 0

-- Rows of numbers with lanes.

-- where there are lanes, they are those of the row's numbers
abbrev pub AreLanesIfAny : RowNumbers → Option Lanes → Type 0
AreLanesIfAny row lanes = IfSome lanes (λ those. AreLanesOf those row.z row.products)

-- a row's numbers, and their lanes if there are any
pub record IsLanedRow (row : RowNumbers) (lanes : Option Lanes) : Type 0 where
  pub numbers : AreRowNumbers row
  pub laned : AreLanesIfAny row lanes

-- How many cells of a run of columns are raised, by the patches that are shown there.

-- the patch's cell has data, and its conditioned elevation is above the ground
abbrev pub shows_raised : Patch → Bool
shows_raised p = is_some p.here.z && int_lt (unwrap_or p.here.z (pos 0)) p.here.con

-- how many of the patches from one column up to another show that
abbrev pub raised_between : (ℕ → Patch) → ℕ → ℕ → ℕ
raised_between shown from end = count_by shows_raised (map shown (range_with_len from (end - from)))

-- A row of a grid and its products as lists of numbers, and of marks at listed sinks; and its values at a column.

-- the numbers, a mark for each column, true at a listed sink, where columns past the last mark are not listed; and how
-- far apart its cells are from their neighbours
pub record MarkedRow : Type 0 where
  pub numbers : RowNumbers
  pub sinks : List Bool
  pub spacing : Distances

-- the values of the row at a column; of spill parents 0
abbrev pub values_in : MarkedRow → ℕ → Values
values_in row col = record {
  z = slice_index_or row.numbers.z col None;
  sink = slice_index_or row.sinks col false;
  con = slice_index_or row.numbers.products.con col (pos 0);
  dir = slice_index_or row.numbers.products.dir col (pos 0);
  acc = slice_index_or row.numbers.products.acc col (pos 0);
  bas = slice_index_or row.numbers.products.bas col (pos 0);
  spl = pos 0;
  rnk = slice_index_or row.numbers.products.rnk col (pos 0);
}

-- none past its last column, and none if there is no row
abbrev pub beside : MarkedRow → ℕ → Option Values
beside row col = if nat_lt col (length row.numbers.z) then Some (values_in row col) else None

-- and none to the west of its first
abbrev pub west_neighbor : MarkedRow → ℕ → Option Values
west_neighbor row zero = None
west_neighbor row (suc col) = beside row col

-- no row
abbrev pub IsNoRow : MarkedRow → Type 0
IsNoRow row = row.numbers ≡ blank

-- it is a row of the grid, marks its sinks, and is spaced as there
pub record IsRowOf (g : Grid) (ps : Products) (row : ℕ) (marked : MarkedRow) : Type 0 where
  pub numbers : AreNumbersOf g ps row marked.numbers
  pub sinks : (col : ℕ) → col < g.extent.cols → slice_index_or marked.sinks col false ≡ g.sink (place row col)
  pub spacing : marked.spacing ≡ g.spacing row
