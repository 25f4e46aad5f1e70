use Rattle.drain_rows.proofs.Names.{◌+◌, ℕ, length, sym, ◌∙◌, ap, subst, AreRowPatches, patch_in}
use Rattle.drain_rows.proofs.WindowLemmas.{on-both-ok}
use Rattle.drain_rows.proofs.row_visitor.WalkRowVisitor.note.Goals as goal

pub returns-clause-noted : goal.returns-clause-noted
returns-clause-noted g c =
    let three = c.args.rows.now in
    on-both-ok c.check_row.result
    (λ rows outcome grid ps r numbers shown is. record {
      rows_are = rows ∙ ap (λ n. n + 1) is.rows_are;
      right = outcome grid ps (subst (λ (n : ℕ). AreRowPatches grid ps n (length three.here.numbers.z) (patch_in three)) (sym is.rows_are) shown) is.right;
    })
    c.check_row.ensures.rows c.check_row.ensures.outcome
