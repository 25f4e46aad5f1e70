use Rattle.drain_merge.proofs.Names.{◌≡◌, ◌||◌, Bool, true, false, slice_index_or, refl, sym, ap, ◌∙◌, rules, Cell, same_cell, place}
use Rattle.std.proofs.lemmas.List.Folds.{list_any_more}
use Rattle.drain_grid.proofs.CellSets.{inserted}
use Rattle.drain_merge.proofs.totals.set_of.Goals as goal

turned : (a b : Bool) → (a || b) ≡ (b || a)
turned true true = refl
turned true false = refl
turned false true = refl
turned false false = refl

pub loop-cell-preserved : goal.loop-cell-preserved
loop-cell-preserved c = λ (q : Cell).
    let cells = c.args.cells.now in
    let i = c.loop-cell.cell-index in
    let x = slice_index_or cells i (place 0 0) in
    inserted _ (λ a b. search rules) c.loop-cell.set c.insert.new.self x c.in_ok-insert.ensures.updates q
    ∙ ap (λ b. same_cell q x || b) (c.loop-cell.invariant q)
    ∙ turned (same_cell q x) _
    ∙ sym (list_any_more (same_cell q) cells i (place 0 0) c.loop-cell-test.true)
