-- The neighbours of a cell: what is done with each, and what holds before and after.
use Rattle.std.specs.Prelude.{◌≡◌, ◌+◌, ◌*◌, ◌<◌, ◌⊎◌, ◌≤ℤ◌, ◌<ℤ◌}
use Rattle.drain_flood.specs.Names.{ℕ, ℤ, Bool, true, false, List, Option, Some, get_or, slice_index_or, int_max, Cell, Direction, East, directions, index_of, step, Extent, Grid, Surface}
use Rattle.drain_flood.specs.declared.layers.TheConstants.{REACHED, UNREACHED}
use Rattle.drain_flood.specs.Floods.{Flooding, con_at, mark_at, IsReachedCell, IsUnreached, IsFloodOf, Reaches}

-- n is the neighbour in this direction, and isn't reached
pub record IsFreshAt (e : Extent) (f : Flooding) (c : Cell) (d : Direction) (n : Cell) : Type 0 where
  pub there : step e c d ≡ Some n
  pub fresh : mark_at e f n ≡ UNREACHED

-- not on the edge of the grid
pub record IsInnerPlace (e : Extent) (c : Cell) : Type 0 where
  pub north : 0 < c.row
  pub west : 0 < c.col
  pub south : c.row + 1 < e.rows
  pub east : c.col + 1 < e.cols

-- the place is that of the cell in this direction
abbrev pub IsPlaceBeside : Extent → Cell → Direction → ℕ → Type 0
IsPlaceBeside e c d place = (n : Cell) × (step e c d ≡ Some n) × (place ≡ index_of e n)

-- the place is that of a cell that isn't on the edge
abbrev pub IsInnerAt : Extent → ℕ → Type 0
IsInnerAt e place = (c : Cell) × IsInnerPlace e c × (place ≡ index_of e c)

-- the mark of a data cell that isn't open
abbrev pub IsClosed : ℕ → Type 0
IsClosed mark = (mark ≡ REACHED) ⊎ (mark ≡ UNREACHED)

-- no closed cell is on the edge
abbrev pub AreInside : Extent → List ℕ → Type 0
AreInside e mark = (place : ℕ) → place < e.rows * e.cols → IsClosed (slice_index_or mark place 0) → IsInnerAt e place

-- there is nothing to reach in this direction, and nothing changed
pub record Passes (e : Extent) (old new : Flooding) (c : Cell) (d : Direction) : Type 0 where
  pub none : (n : Cell) → IsFreshAt e old c d n → ⊥
  pub same : new ≡ old

-- a lower cell is there, and was left
pub record Leaves (e : Extent) (old new : Flooding) (c : Cell) (d : Direction) (level : ℤ) (raises : Bool) (n : Cell) : Type 0 where
  pub is : IsFreshAt e old c d n
  pub unraised : raises ≡ false
  pub lower : con_at e old n <ℤ level
  pub same : new ≡ old

-- a cell is there, and was reached: raised to the level if it is lower
pub record Takes (e : Extent) (old new : Flooding) (c : Cell) (d : Direction) (level : ℤ) (raises : Bool) (n : Cell) : Type 0 where
  pub is : IsFreshAt e old c d n
  pub may : (level ≤ℤ con_at e old n) ⊎ (raises ≡ true)
  pub reaches : Reaches e old new n (int_max (con_at e old n) level)

-- what is done in a direction; whether a lower cell was left there
abbrev pub IsLook : Extent → Flooding → Flooding → Cell → Direction → ℤ → Bool → Bool → Type 0
IsLook e old new c d level raises true = (n : Cell) × Leaves e old new c d level raises n
IsLook e old new c d level raises false = Passes e old new c d ⊎ ((n : Cell) × Takes e old new c d level raises n)

-- a cell whose neighbours are to be looked at: reached, with this conditioned elevation; it raises only where the flood stands
pub record IsLookedBefore (g : Grid) (first : Surface) (f : Flooding) (stand : Option ℤ) (busy : List ℕ) (c : Cell) (level : ℤ) (raises : Bool) : Type 0 where
  pub flood : IsFloodOf g first f stand busy
  pub reached : IsReachedCell g f c
  pub con : con_at g.extent f c ≡ level
  pub at_level : raises ≡ true → stand ≡ Some level

-- an unreached neighbour in a direction was left, as it isn't to be raised
abbrev pub PassesLook : Grid → Flooding → Cell → Bool → Bool → Direction → Type 0
PassesLook g f c raises left d = (n : Cell) → IsUnreached g f n → step g.extent c d ≡ Some n → (left ≡ true) × (raises ≡ false)

-- a cell whose neighbours in the first k directions were looked at
pub record IsAround (g : Grid) (first : Surface) (f : Flooding) (stand : Option ℤ) (busy : List ℕ) (c : Cell) (level : ℤ) (raises left : Bool) (k : ℕ) : Type 0 where
  pub before : IsLookedBefore g first f stand busy c level raises
  pub passed : (i : ℕ) → i < k → PassesLook g f c raises left (get_or directions i East)

-- the neighbours of a cell were looked at
pub record IsLookedAround (g : Grid) (first : Surface) (f : Flooding) (stand : Option ℤ) (busy : List ℕ) (c : Cell) (level : ℤ) (raises left : Bool) : Type 0 where
  pub before : IsLookedBefore g first f stand busy c level raises
  pub passed : (d : Direction) → PassesLook g f c raises left d

-- what a look around the cell at a place comes to
abbrev pub LooksAround : Extent → Flooding → Flooding → ℕ → ℤ → Bool → Bool → Type 0
LooksAround e old new place level raises left =
    (g : Grid) (first : Surface) (stand : Option ℤ) (busy : List ℕ) (c : Cell) → g.extent ≡ e → place ≡ index_of g.extent c →
    IsLookedBefore g first old stand busy c level raises → IsLookedAround g first new stand busy c level raises left
