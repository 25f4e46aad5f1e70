use Rattle.drain_raster.proofs.Names.{◌++◌, map, arith, sym, ap, ◌∙◌, length, row_cells, pixel_at}
use Rattle.std.proofs.Common.{length-append}
use Rattle.drain_raster.proofs.CellPlaces.{map-rows_more, length-map-row_cells}
use Rattle.drain_raster.proofs.read.push_rows.Goals as goal

pub loop-row-preserved : goal.loop-row-preserved
loop-row-preserved g c =
    let inv = c.loop-row.invariant in
    let row = c.push_row.ensures in
    record {
      items = row.items ∙ ap (λ xs. xs ++ map (pixel_at c.args.header.now c.args.body.now) (row_cells c.args.header.now.cols c.loop-row.row)) inv.items
          ∙ sym (map-rows_more (pixel_at c.args.header.now c.args.body.now) c.args.header.now.cols c.loop-row.row);
      len = omega (arith, inv.len, ap length row.items, length-append c.loop-row.numbers.items (map (pixel_at c.args.header.now c.args.body.now) (row_cells c.args.header.now.cols c.loop-row.row)), length-map-row_cells (pixel_at c.args.header.now c.args.body.now) c.args.header.now.cols c.loop-row.row, c.push_row.new.numbers.ok.0, c.loop-row.numbers.ok.0);
      room = omega (arith, row.room, inv.room);
      pixels = row.pixels;
    }
