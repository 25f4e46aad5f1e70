use Rattle.drain_sets.proofs.Names.{◌∙◌, ◌*◌, ◌/◌, ap, rules, false, to_z-of_z}
use mir.Syntax.{w64}
use Rattle.drain_sets.proofs.HeaderBounds.{product_bounds}
use Rattle.drain_sets.proofs.product_headers.header_beside.Goals as goal

pub invariant_of-result : goal.invariant_of-result
invariant_of-result c =
    let h = c.elevations.inside in
    let within = c.elevations.invariant in
    product_bounds c.args.product h.rows h.cols _ _ false h.place _ c.bits_of-bits.ensures (ap (λ n. h.cols * n) (c.from.ensures ∙ ap (λ b. b / 8) c.bits_of-bits.ensures))
    (to_z-of_z w64 c.default_no_data.result (search rules) ∙ c.default_no_data.ensures) within.some_row within.rows_fit within.some_col within.cols_fit
    within.ulx_ok within.uly_ok within.xdim_ok within.ydim_ok
