use Rattle.drain_rows.proofs.Names.{rules, ◌||◌, ap, ◌∙◌, is_among, same_cell}
use Rattle.drain_grid.proofs.CellSets.{inserted}
use Rattle.drain_rows.proofs.listed_voids.ListedVoids.note.Goals.{in-Ok, in-Err}
use Rattle.drain_rows.proofs.listed_voids.ListedVoids.note.Goals as goal

pub returns : goal.returns
returns c = elim c.match-insert.branch [
  | in-Ok w ↦ rw w.result-is (record {
    noted = λ q.
        inserted _ (λ a b. search rules) c.self.inside.cells c.insert.new.self c.args.cell w.in-Ok.ensures.updates q ∙ ap (λ keys. same_cell q c.args.cell || is_among keys q) c.self.view_is;
  })
  | in-Err w ↦ search rules
]
