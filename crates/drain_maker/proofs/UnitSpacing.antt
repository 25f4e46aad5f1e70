-- Where no row is listed and all others have square cells, a grid is that of square cells.
use Rattle.drain_maker.proofs.Names.{◌≡◌, ◌∙◌, [], List, ap, SinkLine, Heights, Distances, RowSpacings, spacing_of, unit_spacing, grid_of, spaced_grid}

pub on_unit : (s : RowSpacings) (unit : Distances) (e : Heights) (sinks : List SinkLine) → s ≡ record { listed = []; otherwise = unit } → unit ≡ unit_spacing →
    spaced_grid (spacing_of s) e sinks ≡ grid_of e sinks
on_unit s unit e sinks same square =
    ap (λ (r : RowSpacings). spaced_grid (spacing_of r) e sinks) (same ∙ ap (λ (d : Distances). record { listed = []; otherwise = d }) square)
