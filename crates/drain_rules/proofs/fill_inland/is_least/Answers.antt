use Rattle.drain_rules.proofs.Names.{◌≡◌, inr, w16, to_z, of_z, subst, ◌∙◌, to_z-of_z, IsNoneLower}
use Rattle.drain_rules.proofs.fill_inland.is_least.Goals as goal

pub returns-else-con-sample : goal.returns-else-con-sample
returns-else-con-sample c = λ passed.
    let same : to_z w16 (of_z w16 c.con-con.result) ≡ c.con-con.result = to_z-of_z w16 c.con-con.result (record { sfits = c.con-con.type_inv }) in
    inr (subst (IsNoneLower c.args.input.now.shape.rows c.args.input.now.bytes.now c.args.place) (same ∙ c.con-con.ensures) (c.is_none_lower.ensures passed))
