use Rattle.std.proofs.Common.{refl}
use Rattle.drain_kernel.proofs.RightOutlets.{is_right_outlet}
use Rattle.drain_kernel.proofs.outlets.is_right_outlet_at.Goals as goal

pub returns-clause-kept : goal.returns-clause-kept
returns-clause-kept g c = λ passes p shown.
    is_right_outlet _ c.args.rules.now c.args.rows.now c.args.k p (c.if-not-are_alike.ensures.bias refl) shown (c.if-not-are_alike.ensures.ranks refl) (c.tests_pass.ensures passes)
