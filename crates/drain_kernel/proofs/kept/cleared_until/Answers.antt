use Rattle.std.proofs.Common.{refl}
use Rattle.drain_kernel.proofs.ConAlone.{is_cleared}
use Rattle.drain_kernel.proofs.kept.cleared_until.Goals as goal

pub returns-clause-kept : goal.returns-clause-kept
returns-clause-kept g c = λ k low high p spaced shown.
    is_cleared _ c.args.rules.now c.args.rows.now k p (c.if-not-are_alike.ensures.bias refl) c.if-not-are_alike.ensures.slopes spaced (c.if-not-are_alike.ensures.ranks refl) shown (c.passed_until.ensures.passed k low high)
