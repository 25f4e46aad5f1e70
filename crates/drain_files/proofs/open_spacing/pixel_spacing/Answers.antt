use Rattle.drain_files.proofs.Names.{◌≡◌, ◌∙◌, ap, arith, sym, ints, Fields}
use Rattle.drain_files.proofs.LowestTerms.{is_size, pixel_matched}
use mir.Syntax.{w128}
use mir.Val.{to_z, of_z}
use Rattle.drain_files.proofs.open_spacing.pixel_spacing.Goals as goal

pub returns : goal.returns
returns c =
    let here = c.header.inside.place in
    let x_low = c.header.invariant.xdim_ok.low in
    let x_high = c.header.invariant.xdim_ok.high in
    let y_low = c.header.invariant.ydim_ok.low in
    let y_high = c.header.invariant.ydim_ok.high in
    let x : to_z w128 (of_z w128 here.xdim) ≡ here.xdim = omega (arith, ints) in
    let y : to_z w128 (of_z w128 here.ydim) ≡ here.ydim = omega (arith, ints) in
    let width = is_size _ c.unsigned_abs.result c.unsigned_abs.ensures.value c.if-xdim-le0.false in
    let height = is_size _ c.unsigned_abs-2.result c.unsigned_abs-2.ensures.value c.if-ydim-le0.false in
    pixel_matched c.args.header.now c.unsigned_abs.result c.unsigned_abs-2.result c.ratio_of.result (record {
      width = sym (x ∙ ap (λ (h : Fields). h.place.xdim) c.header.view_is) ∙ width.0;
      height = sym (y ∙ ap (λ (h : Fields). h.place.ydim) c.header.view_is) ∙ height.0;
      some_width = width.1;
      some_height = height.1;
    }) c.ratio_of.ensures
