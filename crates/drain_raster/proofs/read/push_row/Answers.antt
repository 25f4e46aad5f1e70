use Rattle.drain_raster.proofs.Names.{◌-◌, arith, ap, length-take, All-append, IsPixel, Fields, pixel_at}
use Rattle.drain_raster.proofs.BufferLemmas.{numbers-pushed}
use Rattle.drain_raster.proofs.read.push_row.Goals as goal

pub loop-first-preserved : goal.loop-first-preserved
loop-first-preserved g c =
    let inv = c.loop-first.invariant in
    let grown = rw c.unwrap.ensures at c.extend_from_slice.ensures.items in
    let longer = rw c.unwrap.ensures at c.extend_from_slice.ensures.len in
    record {
      within = omega (arith, c.min-end.ensures, ap (λ (h : Fields). h.cols) c.header.view_is);
      items = numbers-pushed (pixel_at c.args.header.now c.args.body.now) c.args.row c.loop-first.first c.min-end.result _ _ _ _ (omega (arith, c.min-end.ensures)) inv.items
          c.put_numbers.ensures.items grown;
      len = omega (arith, longer, inv.len, length-take (c.min-end.result - c.loop-first.first) c.put_numbers.new.buffer, c.put_numbers.auto.buffer, c.min-end.ensures);
      room = omega (arith, c.extend_from_slice.ensures.capacity, inv.room);
      pixels = rw grown (All-append IsPixel c.loop-first.numbers.items _ inv.pixels c.put_numbers.ensures.pixels);
    }
