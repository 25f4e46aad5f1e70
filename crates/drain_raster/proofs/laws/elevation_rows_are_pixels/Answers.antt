use Rattle.drain_raster.proofs.Names.{◌∙◌, ◌<◌, pos, None, subst, sym, ap, get_or-map, nth_row, raster_rows}
use Rattle.drain_pixels.specs.Ground.{height_with}
use Rattle.drain_raster.specs.Elevations.{voids_of}
use Rattle.drain_raster.proofs.laws.elevation_rows_are_pixels.Goals as goal

pub returns : goal.returns
returns c h body row col bounds whole row_in col_in =
    let long = (c.raster_rows_end.ensures h body bounds).long row row_in whole in
    get_or-map (height_with (voids_of h)) (nth_row row (raster_rows h h.rows h.skip body)) col (pos 0) None (subst (λ n. col < n) (sym long) col_in)
    ∙ ap (height_with (voids_of h)) (c.raster_rows_are_pixels.ensures h body row col bounds whole row_in col_in)
