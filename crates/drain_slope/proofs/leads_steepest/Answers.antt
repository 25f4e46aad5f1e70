use Rattle.drain_slope.proofs.NamedSlopes.{leads_by_name}
use Rattle.drain_slope.proofs.leads_steepest.Goals as goal

pub returns-in-Some : goal.returns-in-Some
returns-in-Some c = leads_by_name c.args.patch.now c.in-Some.direction c.is_as_steep.result c.in-Some.ensures c.is_as_steep.ensures
