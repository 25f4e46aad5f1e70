use Rattle.drain_filled.proofs.Names.{◌+◌, ◌∙◌, sym, subst, AreFirstCon}
use Rattle.drain_grid.specs.declared.set_product.SetProduct.TheVariants.{Con}
use Rattle.drain_filled.proofs.FirstCon.{AreFirstCon-row, row_marks}
use Rattle.drain_rows.proofs.WindowLemmas.{on-ok}
use Rattle.drain_filled.proofs.con_rows.ConRowsRowVisitor.note.Goals as goal

pub returns-clause-noted : goal.returns-clause-noted
returns-clause-noted c =
    let row = c.args.row.now in
    let before = c.args.self.now in
    on-ok c.push_row.result
    (λ is g ps r numbers shown first.
    subst (AreFirstCon g ps (r + 1)) (sym is) (AreFirstCon-row g ps r before row.z row.products.con first (record {
      z_long = numbers.cols_are;
      con_long = c.requires.whole.long Con ∙ numbers.cols_are;
      marks = row_marks g r row.z numbers.cols_are numbers.elevation;
      con_is = numbers.products Con;
    })))
    c.push_row.ensures.taken
