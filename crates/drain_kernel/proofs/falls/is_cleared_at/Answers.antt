use Rattle.std.proofs.Common.{refl}
use Rattle.drain_kernel.proofs.ConAlone.{is_cleared_alone}
use Rattle.drain_kernel.proofs.falls.is_cleared_at.Goals as goal

pub returns-clause-kept : goal.returns-clause-kept
returns-clause-kept g c = λ falls p spaced shown.
    is_cleared_alone _ c.args.rules.now c.args.rows.now c.args.k p (c.if-not-are_alike.ensures.bias refl) c.if-not-are_alike.ensures.slopes spaced (c.if-not-are_alike.ensures.ranks refl) shown (c.judged_pass.ensures falls)
