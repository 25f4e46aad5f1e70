use Rattle.drain_mosaic.proofs.Names.{◌≡◌, ◌∙◌, arith, rules, true, is_ok, IsPlacedAt, IsPlacedWithin, extent_of}
use Rattle.drain_mosaic.proofs.Places.{all-more, start-more}
use Rattle.drain_mosaic.proofs.TileCalls.{at-start}
use Rattle.drain_mosaic.proofs.mosaic_rows.MosaicRows.new.Goals as goal

pub loop-i-preserved : goal.loop-i-preserved
loop-i-preserved c =
    let pushed : is_ok c.push.result ≡ true = search rules in
    record {
      counted = search rules;
      tiles_are = start-more c.args.layout.now c.loop-i.i c.loop-i.tiles.items c.push.new.self.items _ (is_ok c.push.result) pushed c.push.ensures.items (omega arith) c.place.ensures.place
          (c.new.ensures.side ∙ c.side-side.ensures.side) (c.new.ensures.left ∙ c.side-side.ensures.side) c.new.ensures.going c.new.ensures.patience c.loop-i.invariant.tiles_are;
      at_row = all-more (IsPlacedAt c.side-side.result 0) c.loop-i.tiles.items c.push.new.self.items _ (is_ok c.push.result) pushed c.push.ensures.items c.loop-i.invariant.at_row (at-start c.side-side.result _ c.new.ensures.left);
      within = all-more (IsPlacedWithin c.side-side.result (extent_of c.args.layout.now).rows (extent_of c.args.layout.now).cols) c.loop-i.tiles.items c.push.new.self.items _ (is_ok c.push.result) pushed c.push.ensures.items c.loop-i.invariant.within
          (record { side_is = c.new.ensures.side; above = omega (arith, c.side-side.ensures.side, c.place.ensures.rows_inside); inside = omega (arith, c.side-side.ensures.side, c.place.ensures.cols_inside) });
    }
