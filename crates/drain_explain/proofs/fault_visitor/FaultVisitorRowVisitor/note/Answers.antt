use Rattle.drain_explain.proofs.Names.{◌+◌, refl, subst, sym, IsElevationAbove, IsRange}
use Rattle.drain_explain.proofs.Elevations.{row_more}
use Rattle.drain_explain.proofs.Noting.{notes-more, still_drawn}
use Rattle.drain_rows.specs.RowBuffers.{buffer_numbers}
use Rattle.drain_explain.proofs.fault_visitor.FaultVisitorRowVisitor.note.Goals as goal

pub returns-clause-noted : goal.returns-clause-noted
returns-clause-noted c = λ g ps r numbers patches are.
    let elevations = row_more g ps r (buffer_numbers c.args.row.now) c.args.self.now.elevations c.range_of.result numbers are.elevations_are c.range_of.ensures in
    notes-more c.args.rules.now g ps r _ _ c.args.self.now _ patches are c.in_ok-note_row.ensures.rows c.in_ok-note_row.ensures.found
    c.in_ok-note_row.ensures.counted c.in_ok-note_row.ensures.map refl (subst (IsRange (IsElevationAbove g (r + 1))) (sym c.joined-self.ensures) elevations)

pub returns-clause-lasting : goal.returns-clause-lasting
returns-clause-lasting c = still_drawn _ _ c.in_ok-note_row.ensures.drawn
