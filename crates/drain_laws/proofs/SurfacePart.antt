-- A surface is part of a correct set exactly where it is the filled surface, and its no-data number stands exactly at voids.
-- A filled surface drains, so it has directions (ChosenWays) with which every run ends; the rest is the law about given
-- rasters with directions.
use Rattle.drain_laws.proofs.Names.{◌≢◌, inl, inr, ℤ, ◌≤ℤ◌, negsuc, [], sym, ◌∙◌, subst, arith, int_max, false≢true, Cell, Rule, VoidCell, Missing, BadCode, BelowGround, OpenRaised, NotLeast, Slope, OutletCode, FlatStep, Accumulation, Label, SharedLabel, IsCode, Grid, Products, IsInside, HasData, height_at, patch_at, HoldsAt, RulesHold, NotLeastHolds, OpenRaisedWithoutSpill, flow_rules, IsLeastSurface, IsBetween, IsWayRule, RunEnds, unranked, Values, NoDataNumbers, HasData-path, least_at_open, least_beside, AreNeighbors-lies, IsOpen-patch_at, cell_shown, runs_end, Con, ConDir, SurfaceIsPart, IsPartOfCorrect, IsRightSurface, joined, joined_numbers, IsPartRule, part_rules}
use Rattle.drain_laws.proofs.ChosenWays.{routed, void_code, data_code, way_rules}
use Rattle.drain_laws.proofs.PartLocal.{part_holds, to_part}

-- a least surface is at the ground where water leaves, and no neighbour shows a lower way out
module _ (g : Grid) (ps : Products) (least : IsLeastSurface g ps.con) (c : Cell) (inside : IsInside g c) where
  pub at_ground : OpenRaisedWithoutSpill (patch_at g ps c)
  at_ground is_open =
      let open_cell = (IsOpen-patch_at g ps c inside).0 is_open in
      least_at_open g ps.con least c (HasData-path g c [] open_cell) open_cell

  pub not_raised : NotLeastHolds (patch_at g ps c)
  not_raised is_data d v beside =
      let found = cell_shown g ps c d v beside in
      let level = least_beside g ps.con least c found.0 (record { inside = inside; is_data = is_data }) found.1.has_data
      (AreNeighbors-lies c found.0 d found.1.lies) in
      subst (λ (w : Values). ps.con c ≤ℤ int_max (height_at g c) w.con) found.1.values level

-- the rules about a least surface with directions that keep rules 10 to 12
module _ (g : Grid) (ps : Products) (nodata : NoDataNumbers) (least : IsLeastSurface g ps.con) (ways : RulesHold flow_rules IsWayRule g ps)
    (codes : (c : Cell) → HasData g c → IsCode (ps.dir c)) (c : Cell) (inside : IsInside g c) where
  surface_holds : (r : Rule) → IsBetween 3 12 r → HoldsAt (unranked nodata) g ps c r
  surface_holds VoidCell own = absurd (omega (arith, own.0))
  surface_holds Missing own = absurd (omega (arith, own.0))
  surface_holds BadCode own = λ is_data. codes c (record { inside = inside; is_data = is_data })
  surface_holds BelowGround own = λ is_data. least.covers c (record { inside = inside; is_data = is_data })
  surface_holds OpenRaised own = at_ground g ps least c inside
  surface_holds NotLeast own = not_raised g ps least c inside
  surface_holds Slope own = ways c Slope inside (omega arith, omega arith)
  surface_holds OutletCode own = ways c OutletCode inside (omega arith, omega arith)
  surface_holds FlatStep own = λ closed flat.
      (let on = ways c FlatStep inside (omega arith, omega arith) closed flat in
      (on.0, on.1, record { named = on.2.named; beside = on.2.beside; level = on.2.level }))
  surface_holds Accumulation own = absurd (omega (arith, own.1))
  surface_holds Label own = absurd (omega (arith, own.1))
  surface_holds SharedLabel own = absurd (omega (arith, own.1))
  surface_holds r own = tt

-- no code is below 0
not_below : (code : ℤ) → IsCode code → code ≢ negsuc 0
not_below code (inl is_zero) below = cc
not_below code (inr (d, named)) below = cc

-- a filled surface has directions with which it is part of a correct set
to_surface : (g : Grid) (ps : Products) (nodata : NoDataNumbers) → IsRightSurface g ps nodata → IsPartOfCorrect Con g ps nodata
to_surface g ps nodata right =
    let drains = right.least.drains in
    let qs = routed g ps drains in
    let numbers : NoDataNumbers = record {
      con = nodata.con;
      dir = negsuc 0;
      acc = nodata.acc;
      bas = nodata.bas;
      spl = nodata.spl;
      rnk = nodata.rnk;
    } in
    let ways = way_rules g ps drains in
    let codes = data_code g ps drains in
    let ends : (c : Cell) → HasData g c → RunEnds g qs c = λ c here. (runs_end g qs ways c here).ends in
    let rules : RulesHold (part_rules ConDir numbers) (IsPartRule ConDir) g qs = λ c r inside own.
    part_holds ConDir g qs numbers c inside
    (record {
      blank = λ void. record {
        con_is = right.voids c inside void;
        dir_is = void_code g ps drains c (λ here. false≢true (sym void ∙ here.is_data));
        acc_is = tt;
        bas_is = tt;
      };
      complete = λ here. record {
        con_differs = right.complete c here;
        dir_differs = not_below (qs.dir c) (codes c here);
        acc_differs = tt;
        bas_differs = tt;
      };
      counts = tt;
      label = tt;
      own_label = tt;
    })
    (surface_holds g qs numbers right.least ways codes c inside) r own in
    let part = to_part ConDir g qs numbers tt ends rules in
    (joined ConDir qs part.0, joined_numbers ConDir numbers part.1, part.2)

from_surface : (g : Grid) (ps : Products) (nodata : NoDataNumbers) → IsPartOfCorrect Con g ps nodata → IsRightSurface g ps nodata
from_surface g ps nodata (rest, numbers, correct) = record {
  voids = λ c inside void. (correct.voids c inside void).con;
  complete = λ c here. (correct.complete c here).con;
  least = correct.least;
}

pub surface_is_part : SurfaceIsPart
surface_is_part g ps nodata = (from_surface g ps nodata, to_surface g ps nodata)
