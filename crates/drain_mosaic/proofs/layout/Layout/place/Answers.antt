use Rattle.drain_mosaic.proofs.Names.{◌<◌, length, w8, ◌∙◌, sym, subst, to_z-of_z, Tiling}
use Rattle.drain_mosaic.proofs.Places.{IsPlaced, placed, row_seen, col_seen}
use Rattle.drain_mosaic.proofs.layout.Layout.place.Goals as goal

pub returns : goal.returns
returns c =
    let l = c.self.inside in
    let t : Tiling = record { side = l.side; corners = l.names.items } in
    let corner = c.index-name.result.now in
    let numbers = c.self.invariant.1 in
    let inside : c.args.i < length t.corners = subst (λ (t : Tiling). c.args.i < length t.corners) (sym c.self.view_is) c.requires in
    let lat = c.from.ensures ∙ to_z-of_z w8 c.lat.result (record { sfits = c.lat.type_inv }) ∙ c.lat.ensures.degrees in
    let row = c.samples_between.ensures ∙ row_seen l.side l.north corner.lat c.from.result numbers.north_near lat (record { sfits = c.from.type_inv }) in
    let col = c.samples_between-2.ensures ∙ col_seen l.side l.west corner.lon c.lon.result numbers.west_near c.lon.ensures.degrees (record { sfits = c.lon.type_inv }) in
    let here = placed t l.west l.north l.shape c.args.i corner _ _ c.self.invariant.0.side numbers inside c.index-name.ensures row col in
    let there = subst (λ (t : Tiling). IsPlaced t c.args.i c.samples_between.result c.samples_between-2.result) c.self.view_is here in
    record { place = there.place; rows_inside = there.rows_inside; cols_inside = there.cols_inside }
