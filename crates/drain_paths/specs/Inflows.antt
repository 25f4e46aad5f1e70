-- How many cells flow into a cell.
use Rattle.std.specs.Prelude.{◌≡◌, ◌+◌, ◌<◌, ◌==◌, if◌then◌else◌, ◌≢◌, ◌⊎◌}
use Rattle.drain_paths.specs.Names.{ℕ, List, IsNone, slice_index, Bool, true, false, cond, nat_eq, length, Cell, Direction, East, SouthEast, South, SouthWest, West, NorthWest, North, NorthEast, code_of, Grid, Products, IsInside, HasData, upstream_count, Extent, IsCellOf}
use Rattle.drain_paths.specs.CellNumbers.{cell_number}
use Rattle.drain_grid.proofs.HandedOn.{handed_on}
use Rattle.drain_paths.specs.declared.flow.Flow.{Flow}
use Rattle.drain_paths.specs.declared.flow.TheConstants.{NO_CODE}
use Rattle.drain_paths.specs.Flows.{byte_flow, flow_at, AllFlowsEnd}
use Rattle.drain_paths.specs.declared.accumulation.TheConstants.{DONE}

-- Counts of the cells upstream.

-- each data cell has the number of data cells that drain through it, and each void 0
pub record AreUpstreamCounts (g : Grid) (ps : Products) (e : Extent) (counts : List ℕ) : Type 0 where
  pub extent : g.extent ≡ e
  pub counts_are : (c : Cell) → HasData g c → cell_number e counts c ≡ upstream_count g ps c
  pub voids : (c : Cell) → IsInside g c → IsNone (g.elevation c) → cell_number e counts c ≡ 0

-- the number is how many cells flow into the cell, if it has data
abbrev pub IsInflowOf : Grid → Products → Extent → List ℕ → Cell → Type 0
IsInflowOf g ps e waits c = HasData g c → cell_number e waits c ≡ handed_on g ps c (λ m. 1)

-- each number is
pub record AreInflows (g : Grid) (ps : Products) (e : Extent) (waits : List ℕ) : Type 0 where
  pub extent : g.extent ≡ e
  pub each : (c : Cell) → IsCellOf e c → IsInflowOf g ps e waits c

-- the codes of a row of flows, counted from 1, between two voids; rows outside the grid are voids
pub record AreRowCodes (e : Extent) (flows : List Flow) (down : ℕ) (codes : List ℕ) : Type 0 where
  pub codes_are : (n : Cell) → IsCellOf e n → n.row + 1 ≡ down → byte_flow (slice_index codes (n.col + 1)) ≡ flow_at e flows n
  pub voids : (right : ℕ) → right < e.cols + 2 →
      ((n : Cell) → IsCellOf e n → n.row + 1 ≡ down → n.col + 1 ≡ right → ⊥) → slice_index codes right ≡ NO_CODE

-- 1 for the code of this direction, else 0
abbrev pub one_if : ℕ → Direction → ℕ
one_if code back = if code == code_of back then 1 else 0

-- how many codes around one lead to it; its own place is one further
abbrev pub inflow_at : List ℕ → List ℕ → List ℕ → ℕ → ℕ
inflow_at above here below k =
    (one_if (slice_index here (k + 2)) West + one_if (slice_index below (k + 2)) NorthWest + one_if (slice_index below (k + 1)) North +
    one_if (slice_index below k) NorthEast) +
    (one_if (slice_index here k) East + one_if (slice_index above k) SouthEast + one_if (slice_index above (k + 1)) South +
    one_if (slice_index above (k + 2)) SouthWest)

-- Counts that are passed on along the codes: what holds while some cells have passed theirs on.

-- the cell has passed its count on
abbrev pub has_passed : Extent → List ℕ → Cell → Bool
has_passed e waits c = nat_eq (cell_number e waits c) DONE

-- a number that the cell still has to pass on
abbrev pub still : Extent → List ℕ → (Cell → ℕ) → Cell → ℕ
still e waits f m = cond (has_passed e waits m) 0 (f m)

-- every run ends. A cell waits for as many inflows as haven't passed on, and for none if it has passed on itself. Its
-- count and what is still to be passed on to it are together the number of cells that drain through it
pub record IsPassing (g : Grid) (ps : Products) (e : Extent) (waits counts : List ℕ) : Type 0 where
  pub extent : g.extent ≡ e
  pub ends : AllFlowsEnd g ps
  pub waiting : (c : Cell) → HasData g c → has_passed e waits c ≡ false → cell_number e waits c ≡ handed_on g ps c (still e waits (λ m. 1))
  pub done : (c : Cell) → HasData g c → has_passed e waits c ≡ true → handed_on g ps c (still e waits (λ m. 1)) ≡ 0
  pub counted : (c : Cell) → HasData g c →
      cell_number e counts c + handed_on g ps c (still e waits (upstream_count g ps)) ≡ upstream_count g ps c
  pub voids : (c : Cell) → IsInside g c → IsNone (g.elevation c) → cell_number e counts c ≡ 0

-- one cell has passed its count on to another
pub record IsPassedOn (e : Extent) (waits waits_after counts counts_after : List ℕ) (from to : Cell) : Type 0 where
  pub waits_counted : length waits_after ≡ length waits
  pub counts_counted : length counts_after ≡ length counts
  pub marked : cell_number e waits_after from ≡ DONE
  pub less : cell_number e waits_after to + 1 ≡ cell_number e waits to
  pub others : (c : Cell) → IsCellOf e c → c ≢ from → c ≢ to → cell_number e waits_after c ≡ cell_number e waits c
  pub more : cell_number e counts_after to ≡ cell_number e counts to + cell_number e counts from
  pub same : (c : Cell) → IsCellOf e c → c ≢ to → cell_number e counts_after c ≡ cell_number e counts c

-- the cell waits for some inflow, unless it is the one that is looked at
abbrev pub StaysAway : Extent → List ℕ → Cell → Cell → Type 0
StaysAway e waits here c = (c ≡ here) ⊎ (cell_number e waits c ≢ 0)
