-- What an acceptance means, a fact each.
use Rattle.std.specs.Prelude.{◌≡◌, ◌↔◌}
use Rattle.drain_verdict.specs.Names.{pos, ℕ, List, Option, IsNone, Result, Cell, IsInside, HasData, IsLeastSurface, IsBlankAt, IsCompleteAt, NeverClimbs, GoesSteepest, TileInput, TilesAgree, IsElevation, Verdict, IfAccepted, Refusal}
use Rattle.drain_grid.specs.Run.{IsFlatCell, IsOutlet, run, run_end, RunEnds, VisitsOnce, upstream_count, ShareBasin}
use Rattle.drain_verdict.specs.Given.{Given}
use Rattle.drain_verdict.specs.Inputs.{Inputs, Encode, Products}
use Rattle.drain_verdict.specs.GroundSets.{GroundSet, set_grid, set_numbers, set_products}
use Rattle.drain_verdict.specs.Meaning.{input_grid, input_tiles, tiling_of}
use Rattle.drain_verdict.specs.TileGround.{set_of}

-- the fact holds of the inputs of the call
abbrev pub ForCheck : {R : Type 0} → (R → Option (List ℕ)) → ℕ → List (TileInput R) → Given → Products R → (Inputs → Type 0) → Type 0
ForCheck bytes_left side tiles given ps Fact = (i : Inputs) → Encode bytes_left side tiles given ps i → Fact i

-- where the answer is an acceptance, the fact holds of the inputs of the call
abbrev pub AcceptedMeans : {R : Type 0} → (Inputs → Type 0) → (R → Option (List ℕ)) → ℕ → List (TileInput R) → Given → Products R → Result Verdict Refusal → Type 0
AcceptedMeans Fact bytes_left side tiles given ps answer = IfAccepted answer (ForCheck bytes_left side tiles given ps Fact)

-- the tiles agree
abbrev pub TilesAreOne : Inputs → Type 0
TilesAreOne i = TilesAgree (tiling_of i) (input_tiles i)

-- the elevation of each cell is its one value in the tiles, and it is void if it has none
abbrev pub ElevationIsTheirs : Inputs → Type 0
ElevationIsTheirs i = IsElevation (tiling_of i) (input_tiles i) (input_grid i).elevation

-- the tiles agree on one elevation raster, which the grid has
pub record AreOneElevation (i : Inputs) : Type 0 where
  pub tiles_agree : TilesAreOne i
  pub elevation : ElevationIsTheirs i

-- what an acceptance means of the products of a set, a sentence a field
pub record ProductsAreRight (s : GroundSet) : Type 0 where
  -- con is the least surface above the elevation from which every cell reaches an edge, void or listed sink without climbing
  pub least_surface : IsLeastSurface (set_grid s) (set_products s).con
  -- no direction climbs
  pub never_climbs : (c : Cell) → HasData (set_grid s) c → NeverClimbs (set_grid s) (set_products s) c
  -- off flats the direction is the steepest descent
  pub steepest : (c : Cell) → HasData (set_grid s) c → ¬ IsFlatCell (set_grid s) (set_products s) c → GoesSteepest (set_grid s) (set_products s) c
  -- the code is 0 exactly at the outlets
  pub outlets : (c : Cell) → HasData (set_grid s) c → ((set_products s).dir c ≡ pos 0) ↔ IsOutlet (set_grid s) (set_products s) c
  -- every path ends
  pub runs_end : (c : Cell) → HasData (set_grid s) c → RunEnds (set_grid s) (set_products s) c
  -- its last cell is an outlet
  pub runs_end_at_outlets : (c : Cell) → HasData (set_grid s) c → IsOutlet (set_grid s) (set_products s) (run_end (set_grid s) (set_products s) c)
  -- no path visits a cell twice
  pub runs_visit_once : (c : Cell) → HasData (set_grid s) c → VisitsOnce (run (set_grid s) (set_products s) c)
  -- acc counts exactly the cells that drain through each cell
  pub accumulation : (c : Cell) → HasData (set_grid s) c → (set_products s).acc c ≡ pos (upstream_count (set_grid s) (set_products s) c)
  -- two cells share a label exactly where they share an outlet
  pub labels : (a b : Cell) → HasData (set_grid s) a → HasData (set_grid s) b → ((set_products s).bas a ≡ (set_products s).bas b) ↔ ShareBasin (set_grid s) (set_products s) a b
  -- every void has the no-data numbers
  pub voids : (c : Cell) → IsInside (set_grid s) c → IsNone ((set_grid s).elevation c) → IsBlankAt (set_products s) (set_numbers s) c
  -- no data cell has one
  pub complete : (c : Cell) → HasData (set_grid s) c → IsCompleteAt (set_products s) (set_numbers s) c

-- what an acceptance means of the inputs
pub record IsRight (i : Inputs) : Type 0 where
  -- the tiles agree on one elevation raster
  pub tiles_agree : TilesAreOne i
  pub elevation : ElevationIsTheirs i
  -- the products are right on it: a field for each sentence
  pub products : ProductsAreRight (set_of i)
