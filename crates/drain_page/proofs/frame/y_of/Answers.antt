use Rattle.std.proofs.Common.{◌≡◌, ◌∙◌, ap, arith, pos, subst}
use Rattle.std.proofs.lemmas.Int.{ints}
use Rattle.drain_header.specs.Header.{Fields, IsCoordinate}
use Rattle.drain_page.proofs.Coordinates.{back}
use mir.Syntax.{w128}
use mir.Val.{to_z, of_z}
use Rattle.drain_page.proofs.frame.y_of.Goals as goal

pub returns : goal.returns
returns c =
    let here = c.header.inside.place in
    let base_low = c.header.invariant.uly_ok.low in
    let base_high = c.header.invariant.uly_ok.high in
    let size_low = c.header.invariant.ydim_ok.low in
    let size_high = c.header.invariant.ydim_ok.high in
    let base : to_z w128 (of_z w128 here.uly) ≡ here.uly = omega (arith, ints) in
    let number : to_z w128 (of_z w128 c.from.result) ≡ pos c.args.row = omega (arith, ints) in
    let size : to_z w128 (of_z w128 here.ydim) ≡ here.ydim = omega (arith, ints) in
    let uly_is = ap (λ (h : Fields). h.place.uly) c.header.view_is in
    let ydim_is = ap (λ (h : Fields). h.place.ydim) c.header.view_is in
    back _ _ _ c.args.header.now.place.uly c.args.header.now.place.ydim c.args.row (base ∙ uly_is) number (size ∙ ydim_is) c.ranges.row.fits
    (subst IsCoordinate uly_is c.header.invariant.uly_ok) (subst IsCoordinate ydim_is c.header.invariant.ydim_ok)
