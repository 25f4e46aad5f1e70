use Rattle.drain_paths.proofs.Names.{◌∙◌, ap, set, map-set, Ends, byte_flow}
use Rattle.drain_paths.proofs.cell_flows.CellFlows.set_ended.Goals as goal

pub returns : goal.returns
returns c = map-set byte_flow c.self.inside.codes.items c.args.index 0 ∙ ap (λ flows. set flows c.args.index Ends) c.self.view_is
