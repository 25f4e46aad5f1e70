use Rattle.drain_paths.specs.Walks.{AreKnownFlows}
use Rattle.drain_paths.proofs.Rings.{ring-of}
use Rattle.drain_paths.proofs.cell_flows.CellFlows.endless_path.Goals as goal

pub returns-in-Some-lost_by : goal.returns-in-Some-lost_by
returns-in-Some-lost_by c = λ g ps known here.
    (let farthest = c.in-Some.ensures.reached g ps known here in
    (farthest.reached, c.in-Some-lost_by.ensures g ps known farthest.reached.has_data))

pub returns : goal.returns
returns c = ring-of (λ g ps. AreKnownFlows g ps c.args.shape c.args.self.now) c.args.start c.in-Some.here c.in-Some.ensures.reached c.in_default-lost_by.ensures
    c.ring_from.result c.ring_from.ensures
