use Rattle.drain_slope.proofs.Names.{◌↔◌, IsTrue, pos, ◌<ℤ◌, sym, subst, drop_at}
use Rattle.drain_slope.proofs.Keys.{leads_by_con}
use Rattle.drain_slope.proofs.leads_down.Goals as goal

pub returns : goal.returns
returns c =
    subst (λ b. IsTrue b ↔ (pos 0 <ℤ drop_at c.args.patch.now c.args.direction)) (sym c.is_some.ensures)
    (leads_by_con c.args.patch.now c.args.direction c.lower_con.result c.lower_con.ensures)
