use Rattle.std.proofs.Common.{◌≡◌, ◌∙◌, ap, arith, pos, subst}
use Rattle.std.proofs.lemmas.Int.{ints}
use Rattle.drain_header.specs.Header.{Fields, IsCoordinate}
use Rattle.drain_page.proofs.Coordinates.{forth}
use mir.Syntax.{w128}
use mir.Val.{to_z, of_z}
use Rattle.drain_page.proofs.frame.x_of.Goals as goal

pub returns : goal.returns
returns c =
    let here = c.header.inside.place in
    let base_low = c.header.invariant.ulx_ok.low in
    let base_high = c.header.invariant.ulx_ok.high in
    let size_low = c.header.invariant.xdim_ok.low in
    let size_high = c.header.invariant.xdim_ok.high in
    let base : to_z w128 (of_z w128 here.ulx) ≡ here.ulx = omega (arith, ints) in
    let number : to_z w128 (of_z w128 c.from.result) ≡ pos c.args.col = omega (arith, ints) in
    let size : to_z w128 (of_z w128 here.xdim) ≡ here.xdim = omega (arith, ints) in
    let ulx_is = ap (λ (h : Fields). h.place.ulx) c.header.view_is in
    let xdim_is = ap (λ (h : Fields). h.place.xdim) c.header.view_is in
    forth _ _ _ c.args.header.now.place.ulx c.args.header.now.place.xdim c.args.col (base ∙ ulx_is) number (size ∙ xdim_is) c.ranges.col.fits
    (subst IsCoordinate ulx_is c.header.invariant.ulx_ok) (subst IsCoordinate xdim_is c.header.invariant.xdim_ok)
