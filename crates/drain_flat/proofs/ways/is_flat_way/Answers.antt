use Rattle.std.proofs.Common.{◌↔◌, IsTrue, rules}
use Rattle.drain_flat.specs.Ways.{IsFlatWay}
use Rattle.drain_flat.proofs.FlatWays.{keeps_by_flat_way}
use Rattle.drain_flat.proofs.ways.is_flat_way.Goals as goal

pub returns-in-Some-clause-keeps : goal.returns-in-Some-clause-keeps
returns-in-Some-clause-keeps c closed none named =
    let way : IsTrue c.is_nearer.result ↔ IsFlatWay c.args.patch.now c.args.direction = search rules in
    let keeps = keeps_by_flat_way c.args.patch.now c.args.direction closed none named in
    ((λ holds. way.1 (keeps.0 holds)), (λ nearer. keeps.1 (way.0 nearer)))
