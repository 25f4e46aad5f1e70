use Rattle.drain_mosaic.proofs.Names.{◌≡◌, ◌*◌, ◌<◌, [], map, length, take, arith, refl, sym, ap, ◌∙◌, subst, false≢true, length-map, take_all, tiles_of, HasTwoValues}
use Rattle.drain_mosaic.proofs.TileRows.{item_at, length-tiles_of}
use Rattle.drain_mosaic.proofs.CellValues.{value_of_tile, two_found, no_two_more}
use Rattle.drain_mosaic.proofs.first_seam.has_two_values.Goals as goal

pub value_at-value-requires : goal.value_at-value-requires
value_at-value-requires c =
    let tile = c.deref.ensures.value ∙ item_at (λ tile. tile.items) c.args.tiles.now c.loop-i.i c.index-tiles-i.result c.loop-i-test.true c.index-tiles-i.is in
    ap length tile ∙ c.requires.whole c.loop-i.i [] (omega (arith, length-map c.args.tiles.now (λ tile. tile.items))) ∙ ap (λ n. n * n) (sym c.side-side.ensures.side)

pub returns-then-are_two : goal.returns-then-are_two
returns-then-are_two c =
    let t = c.args.layout.now in
    let samples = map (λ tile. tile.items) c.args.tiles.now in
    let tile = c.deref.ensures.value ∙ item_at (λ tile. tile.items) c.args.tiles.now c.loop-i.i c.index-tiles-i.result c.loop-i-test.true c.index-tiles-i.is in
    let inside : c.loop-i.i < length samples = omega (arith, length-map c.args.tiles.now (λ tile. tile.items)) in
    let value = value_of_tile t samples c.loop-i.i c.place.result c.deref.result.now c.side-side.result c.args.cell c.value_at-value.result c.side-side.ensures.side c.requires inside tile c.place.ensures.place (record { over = c.value_at-value.ensures.over; beside = c.value_at-value.ensures.beside }) in
    (λ yes. two_found t samples c.loop-i.i c.args.cell c.loop-i.first c.value_at-value.result c.requires inside c.loop-i.invariant.0 value (c.if-are_two.ensures.0 refl), λ two. refl)

pub loop-i-preserved : goal.loop-i-preserved
loop-i-preserved c =
    let t = c.args.layout.now in
    let samples = map (λ tile. tile.items) c.args.tiles.now in
    let tile = c.deref.ensures.value ∙ item_at (λ tile. tile.items) c.args.tiles.now c.loop-i.i c.index-tiles-i.result c.loop-i-test.true c.index-tiles-i.is in
    let inside : c.loop-i.i < length samples = omega (arith, length-map c.args.tiles.now (λ tile. tile.items)) in
    let value = value_of_tile t samples c.loop-i.i c.place.result c.deref.result.now c.side-side.result c.args.cell c.value_at-value.result c.side-side.ensures.side c.requires inside tile c.place.ensures.place (record { over = c.value_at-value.ensures.over; beside = c.value_at-value.ensures.beside }) in
    no_two_more t samples c.loop-i.i c.args.cell c.loop-i.first c.value_at-value.result c.or-first.result c.requires inside c.loop-i.invariant.0 value c.or-first.ensures (λ two. false≢true (c.if-are_two.ensures.1 two)) c.loop-i.invariant.1

pub returns : goal.returns
returns c =
    let t = c.args.layout.now in
    let samples = map (λ tile. tile.items) c.args.tiles.now in
    let all = tiles_of t.corners samples in
    let whole : take c.loop-i.i all ≡ all = take_all c.loop-i.i all (omega (arith, length-tiles_of t.corners samples c.requires.named, length-map c.args.tiles.now (λ tile. tile.items), c.requires.named, c.loop-i-test.false)) in
    (λ yes. absurd (false≢true yes), λ two. absurd (c.loop-i.invariant.1 (subst (λ ts. HasTwoValues t ts c.args.cell) (sym whole) two)))
