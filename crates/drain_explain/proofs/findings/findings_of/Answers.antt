use Rattle.drain_explain.proofs.Names.{subst, IsMapOfCells}
use Rattle.drain_rules.specs.Walks.{cells_above}
use Rattle.drain_faults.specs.ByProduct.{AreFaultsByProduct}
use Rattle.drain_faults.specs.Faults.{AreFaultsOf, IsFirstPatch}
use Rattle.drain_explain.proofs.findings.findings_of.Goals as goal

pub returns-clause-found : goal.returns-clause-found
returns-clause-found g c = λ rules grid ps some noted.
    let walk = noted.walk_is in
    record {
      rules = noted.rules_are some;
      each_rule = subst (λ n. AreFaultsOf rules grid ps (cells_above grid n) c.into_faults-map.result.0) walk.rows_are (c.into_faults-map.ensures.of_grids rules grid ps walk.found);
      each_product = subst (λ n. AreFaultsByProduct rules grid ps (cells_above grid n) c.into_faults-map.result.1) walk.rows_are (c.into_faults-map.ensures.by_product rules grid ps walk.found);
      first_patch = subst (λ n. IsFirstPatch rules grid ps (cells_above grid n) c.first_patch-first.result) walk.rows_are (c.first_patch-first.ensures.of_grids rules grid ps walk.found);
      map = subst (λ n. IsMapOfCells rules grid ps (cells_above grid n) c.into_faults-map.result.2) walk.rows_are (c.into_faults-map.ensures.map rules grid ps walk.map);
      elevations = noted.elevations_are;
    }
