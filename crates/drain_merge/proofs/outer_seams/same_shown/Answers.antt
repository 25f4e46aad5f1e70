use Rattle.std.proofs.Common.{sym, ◌∙◌}
use Rattle.drain_merge.proofs.SameCells.{same_cells}
use Rattle.drain_merge.proofs.outer_seams.same_shown.Goals as goal

pub returns-then-eq : goal.returns-then-eq
returns-then-eq c = λ passes.
    let cell = same_cells c.args.a.now.cell c.args.b.now.cell (sym c.eq.ensures ∙ c.if-eq.true) in
    let values = c.is.ensures.0 passes in
    λ i. record { cell = cell i; values = values i }
