use Rattle.std.proofs.lemmas.Result.{on_ok_weaker}
use Rattle.drain_window.proofs.seam_walk.SeamWalkRowVisitor.note.Goals as goal

pub returns-clause-noted : goal.returns-clause-noted
returns-clause-noted c = on_ok_weaker c.take_row.result (λ right grid ps r numbers are so_far. right grid ps r are so_far) c.take_row.ensures.right
