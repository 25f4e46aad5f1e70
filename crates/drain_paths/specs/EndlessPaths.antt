-- Where a run without an end leads: to a ring, or to a cell from which it leads nowhere. This project's own terms for
-- D8.
use Rattle.std.specs.Prelude.{◌≡◌, ◌≢◌, ◌<◌, ◌≤◌, ◌*◌, ◌⊎◌, ◌++◌, ◌∷◌, if◌then◌else◌}
use Rattle.drain_paths.specs.Names.{[], ℕ, zero, suc, min, nat_lt, List, length, slice_get, Option, Some, None, IsNone, option_and_then, Cell, Direction, IsCode, Names, step, Grid, Products, HasData, next, RunEnds}
use Rattle.drain_paths.specs.declared.endless_path.EndlessPath.{EndlessPath}
use Rattle.drain_paths.specs.declared.endless_path.EndlessPath.TheVariants.{Ring, Lost}
use Rattle.drain_paths.specs.declared.endless_path.LostBy.{LostBy}
use Rattle.drain_paths.specs.declared.endless_path.LostBy.TheVariants.{NoCode, Outside, Void}
use Rattle.drain_paths.specs.declared.endless_path.TheConstants.{RING_TOLD}
use Rattle.drain_paths.specs.declared.flow.Way.TheVariants as way
use Rattle.drain_paths.specs.Ways.{IsWay}

-- the cell to which the codes lead from a cell in n steps, none if they lead nowhere before
abbrev pub cell_after : Grid → Products → ℕ → Cell → Option Cell
cell_after g ps zero c = Some c
cell_after g ps (suc k) c = option_and_then (cell_after g ps k) (next g ps c)

-- the codes lead from the one cell to the other
abbrev pub LeadsAlong : Grid → Products → Cell → Cell → Type 0
LeadsAlong g ps c d = (k : ℕ) × (cell_after g ps k c ≡ Some d)

-- and the other has data
pub record IsReached (g : Grid) (ps : Products) (start c : Cell) : Type 0 where
  pub has_data : HasData g c
  pub led : LeadsAlong g ps start c

-- it is reached, and either leads nowhere with another code than 0, or is reached in as many steps as there are cells
pub record IsFarthest (g : Grid) (ps : Products) (start c : Cell) : Type 0 where
  pub reached : IsReached g ps start c
  pub far : IsWay g ps c way.Lost ⊎ (cell_after g ps (g.extent.rows * g.extent.cols) start ≡ Some c)

-- the code of a cell leads on, or its run ends
abbrev pub LeadsOnOrEnds : Grid → Products → Cell → Type 0
LeadsOnOrEnds g ps c = ((n : Cell) × (next g ps c ≡ Some n)) ⊎ RunEnds g ps c

-- why the code of a cell leads nowhere
abbrev pub IsLostBy : Grid → Products → Cell → LostBy → Type 0
IsLostBy g ps c NoCode = ¬ IsCode (ps.dir c)
IsLostBy g ps c Outside = (d : Direction) × Names (ps.dir c) d × (step g.extent c d ≡ None)
IsLostBy g ps c Void = (d : Direction) × (n : Cell) × Names (ps.dir c) d × (step g.extent c d ≡ Some n) × IsNone (g.elevation n)

-- from the cell the codes come back to it in n steps, and in no fewer
pub record IsRingFrom (g : Grid) (ps : Products) (c : Cell) (steps : ℕ) : Type 0 where
  pub some : 0 < steps
  pub closed : cell_after g ps steps c ≡ Some c
  pub first : (k : ℕ) → 0 < k → k < steps → cell_after g ps k c ≢ Some c

-- the codes don't come back to the cell within as many steps as there are cells
abbrev pub IsOnNoRing : Grid → Products → Cell → Type 0
IsOnNoRing g ps c = (k : ℕ) → 0 < k → k ≤ g.extent.rows * g.extent.cols → cell_after g ps k c ≢ Some c

-- the first cells of the ring: all, or 20 where there are more
pub record AreCellsFrom (g : Grid) (ps : Products) (c : Cell) (steps : ℕ) (cells : List Cell) : Type 0 where
  pub each : (k : ℕ) → k < length cells → cell_after g ps k c ≡ slice_get cells k
  pub told : length cells ≡ min steps RING_TOLD

-- the cells with that after n steps, if it is one of the first 20
abbrev pub told_with : ℕ → Cell → List Cell → List Cell
told_with steps c cells = if nat_lt steps RING_TOLD then cells ++ c ∷ [] else cells

-- it is a ring from the cell, and not a cell from which it leads nowhere
abbrev pub IsRing : Grid → Products → Cell → EndlessPath → Type 0
IsRing g ps c (Ring cells steps) = IsRingFrom g ps c steps × AreCellsFrom g ps c steps cells.items
IsRing g ps c (Lost d by) = ⊥

-- the run of the cell reaches this
abbrev pub IsEndlessPath : Grid → Products → Cell → EndlessPath → Type 0
IsEndlessPath g ps start (Ring cells steps) = (c : Cell) × IsReached g ps start c × IsRing g ps c (Ring cells steps)
IsEndlessPath g ps start (Lost c by) = IsReached g ps start c × IsLostBy g ps c by
