use Rattle.drain_mosaic.proofs.Names.{◌≡◌, ◌*◌, [], map, length, take, arith, sym, ap, ◌∙◌, subst, length-map, take_all, tiles_of, IsJoinedRow}
use Rattle.drain_mosaic.proofs.TileRows.{item_at, length-tiles_of, tile_step}
use Rattle.drain_mosaic.proofs.seams.join_row.Goals as goal

pub lay_tile-found-requires-clause-whole : goal.lay_tile-found-requires-clause-whole
lay_tile-found-requires-clause-whole c =
    let tile = c.deref.ensures.value ∙ item_at (λ tile. tile.items) c.args.tiles.now c.loop-i.i c.index-tiles-i.result c.loop-i-test.true c.index-tiles-i.is in
    ap length tile ∙ c.requires.tiles.whole c.loop-i.i [] (omega (arith, length-map c.args.tiles.now (λ tile. tile.items))) ∙ ap (λ n. n * n) (sym c.side-side.ensures.side)

pub loop-i-preserved : goal.loop-i-preserved
loop-i-preserved c =
    let t = c.args.layout.now in
    let samples = map (λ tile. tile.items) c.args.tiles.now in
    let tile = c.deref.ensures.value ∙ item_at (λ tile. tile.items) c.args.tiles.now c.loop-i.i c.index-tiles-i.result c.loop-i-test.true c.index-tiles-i.is in
    tile_step t samples c.loop-i.i c.args.row c.place.result c.deref.result.now c.side-side.result c.loop-i.out c.lay_tile-found.new.out c.loop-i.seam c.lay_tile-found.result c.first_of-seam.result c.side-side.ensures.side c.requires.tiles
    (omega (arith, length-map c.args.tiles.now (λ tile. tile.items))) tile c.place.ensures.place (c.loop-i.auto.out ∙ c.fill.ensures.len ∙ c.requires.cols) (record { over = c.lay_tile-found.ensures.over; beside = c.lay_tile-found.ensures.beside }) c.first_of-seam.ensures c.loop-i.invariant

pub returns : goal.returns
returns c =
    let t = c.args.layout.now in
    let samples = map (λ tile. tile.items) c.args.tiles.now in
    let all = tiles_of t.corners samples in
    let whole : take c.loop-i.i all ≡ all = take_all c.loop-i.i all (omega (arith, length-tiles_of t.corners samples c.requires.tiles.named, length-map c.args.tiles.now (λ tile. tile.items), c.requires.tiles.named, c.loop-i-test.false)) in
    subst (λ ts. IsJoinedRow t ts c.args.row c.loop-i.out c.loop-i.seam) whole c.loop-i.invariant
