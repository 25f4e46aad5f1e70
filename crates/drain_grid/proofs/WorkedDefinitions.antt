-- The definitions worked on small grids: slopes and the first steepest, runs, what drains through a cell, open cells.
use Rattle.drain_grid.proofs.Names.{◌≡◌, ℤ, pos, negsuc, ◌-ℤ◌, false, [], ◌∷◌, Some, refl, Whole, Direction, East, SouthEast, South, Patch, order_of, Values, Distances, unit_spacing, slope_key, IsSteepest, IsFirstSteepest, IsOpenCell, run, run_end, RunEnds, upstream_count, ShareBasin}
use Rattle.drain_grid.proofs.Decisions.{Decision, alike, no, both, given, less_number, each_direction, refuted}
use Rattle.drain_grid.proofs.PatchDecisions.{open_cell, has_lower, is_steepest}
use Rattle.drain_grid.proofs.WorkedGrids.{cell, slope_grid, slope_products, ring_grid, ring_products, gap_grid}

-- a patch whose centre has con `here`, with con east, southeast and south, and `here` elsewhere
abbrev level : ℤ → Values
level con = record { z = Some (pos 0); sink = false; con = con; dir = pos 0; acc = pos 0; bas = pos 0; spl = pos 0; rnk = pos 0 }

abbrev hollow_on : Distances → (here east southeast south : ℤ) → Patch
hollow_on spacing here east southeast south = record {
  here = level here;
  around =
      Some (level east) ∷ Some (level southeast) ∷ Some (level south) ∷ Some (level here) ∷
      Some (level here) ∷ Some (level here) ∷ Some (level here) ∷ Some (level here) ∷ [];
  spacing = spacing;
}

-- the same on square cells
abbrev hollow : (here east southeast south : ℤ) → Patch
hollow = hollow_on unit_spacing

abbrev first_steepest : (p : Patch) (d : Direction) → Decision (IsFirstSteepest p (Some d))
first_steepest p d =
    alike (both (has_lower p) (both (is_steepest p d)
    (each_direction (λ e. given (less_number (order_of e) (order_of d)) (no (is_steepest p e))))))
    (λ h. (h.0, h.1.0, h.1.1))
    (λ h. (h.0, (h.1, h.2)))

-- east by 2 has key 8, and southeast by 3 has 9
southeast_is_steeper : IsFirstSteepest (hollow (pos 10) (pos 8) (pos 7) (pos 10)) (Some SouthEast)
southeast_is_steeper = (first_steepest (hollow (pos 10) (pos 8) (pos 7) (pos 10)) SouthEast).sound refl

-- east by 5 has key 50, and southeast by 7 has 49
east_is_steeper : IsFirstSteepest (hollow (pos 10) (pos 5) (pos 3) (pos 10)) (Some East)
east_is_steeper = (first_steepest (hollow (pos 10) (pos 5) (pos 3) (pos 10)) East).sound refl

-- the greatest drop of elevations
east_is_deep : IsFirstSteepest (hollow (pos 32767) (negsuc 32766) (negsuc 32766) (pos 32767)) (Some East)
east_is_deep = (first_steepest (hollow (pos 32767) (negsuc 32766) (negsuc 32766) (pos 32767)) East).sound refl

deep_key : slope_key 2 (pos 32767 -ℤ negsuc 32766) ≡ pos 8589410312
deep_key = refl

-- the greatest drop of pixels takes more than 64 bits
deepest_key : slope_key 2 (pos 4294967295 -ℤ negsuc 2147483647) ≡ pos 83010348305923178498
deepest_key = refl

-- of two that tie both are steepest, and east is the first
tie_east : IsSteepest (hollow (pos 10) (pos 8) (pos 10) (pos 8)) East
tie_east = (is_steepest (hollow (pos 10) (pos 8) (pos 10) (pos 8)) East).sound refl

tie_south : IsSteepest (hollow (pos 10) (pos 8) (pos 10) (pos 8)) South
tie_south = (is_steepest (hollow (pos 10) (pos 8) (pos 10) (pos 8)) South).sound refl

tie_first : IsFirstSteepest (hollow (pos 10) (pos 8) (pos 10) (pos 8)) (Some East)
tie_first = (first_steepest (hollow (pos 10) (pos 8) (pos 10) (pos 8)) East).sound refl

-- over cells 3 wide and 4 high drops of 3, 5 and 4 tie, and east is the first
abbrev narrow : Patch
narrow = hollow_on (record { width = 3; height = 4; kind = Whole }) (pos 10) (pos 7) (pos 5) (pos 6)

narrow_south : IsSteepest narrow South
narrow_south = (is_steepest narrow South).sound refl

narrow_first : IsFirstSteepest narrow (Some East)
narrow_first = (first_steepest narrow East).sound refl

-- over cells 4 wide and 3 high the same drops make the way south the steepest
low_south : IsFirstSteepest (hollow_on (record { width = 4; height = 3; kind = Whole }) (pos 10) (pos 7) (pos 5) (pos 6)) (Some South)
low_south = (first_steepest (hollow_on (record { width = 4; height = 3; kind = Whole }) (pos 10) (pos 7) (pos 5) (pos 6)) South).sound refl

-- on the slope runs go east, and four cells drain through the last of a row
slope_run : run slope_grid slope_products (cell 1 0) ≡ cell 1 0 ∷ cell 1 1 ∷ cell 1 2 ∷ cell 1 3 ∷ []
slope_run = refl

slope_ends : RunEnds slope_grid slope_products (cell 1 0)
slope_ends = refl

slope_up : upstream_count slope_grid slope_products (cell 1 3) ≡ 4
slope_up = refl

slope_basin : ShareBasin slope_grid slope_products (cell 1 0) (cell 1 2)
slope_basin = refl

-- the ring goes round until the steps are used up, and its last cell has code 1
ring_end : run_end ring_grid ring_products (cell 1 1) ≡ cell 1 1
ring_end = refl

ring_runs_on : ¬ RunEnds ring_grid ring_products (cell 1 1)
ring_runs_on h = let one : pos 1 ≡ pos 0 = h in cc

-- a cell is open because of the void next to it, and the next cell is not
gap_beside : IsOpenCell gap_grid (cell 1 2)
gap_beside = (open_cell gap_grid (cell 1 2)).sound refl

gap_behind : ¬ IsOpenCell gap_grid (cell 1 1)
gap_behind = refuted (open_cell gap_grid (cell 1 1)) refl
