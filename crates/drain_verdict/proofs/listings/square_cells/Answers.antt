use Rattle.drain_verdict.proofs.Names.{◌∙◌, [], ap, Distances, RowSpacings, of_kind, spacing_of}
use Rattle.drain_verdict.proofs.SpacingAnswers.{unit_there}
use Rattle.drain_verdict.proofs.listings.square_cells.Goals as goal

pub returns-clause-spacing : goal.returns-clause-spacing
returns-clause-spacing c = λ row.
    ap (λ (s : RowSpacings). spacing_of s row) (c.same.ensures ∙ ap (λ (s : Distances). record { listed = []; otherwise = s }) (c.of_kind.ensures ∙ ap (λ (s : Distances). of_kind c.args.kind s) c.unit.ensures)) ∙ unit_there c.args.kind c.args.line row
