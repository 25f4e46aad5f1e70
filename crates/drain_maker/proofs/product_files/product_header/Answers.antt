use Rattle.drain_maker.proofs.Names.{◌≡◌, ◌∙◌, ◌*◌, ◌/◌, ap, rules, to_z-of_z, product_bounds}
use mir.Syntax.{w64}
use Rattle.drain_maker.proofs.product_files.product_header.Goals as goal

pub invariant_of-result : goal.invariant_of-result
invariant_of-result c =
    let place = c.mosaic_place.ensures in
    let cols : c.cols-2.result ≡ c.cols.result = search rules in
    product_bounds c.args.product c.rows.result c.cols.result _ _ c.is_signed.result c.mosaic_place.result _ c.bits_of-bits.ensures
    (ap (λ n. n * c.from.result) cols ∙ ap (λ n. c.cols.result * n) (c.from.ensures ∙ ap (λ b. b / 8) c.bits_of-bits.ensures))
    (to_z-of_z w64 c.default_no_data.result (search rules) ∙ c.default_no_data.ensures) (search rules) (search rules) (search rules) (search rules)
    place.ulx_ok place.uly_ok place.xdim_ok place.ydim_ok
