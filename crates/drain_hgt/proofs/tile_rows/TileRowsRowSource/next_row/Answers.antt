use Rattle.drain_hgt.proofs.TileRowLemmas.{tile-gives-row, tile-gives-no_row, tile-gives-no_end, tile-within-row, tile-within-no_row}
use Rattle.drain_hgt.proofs.tile_rows.TileRowsRowSource.next_row.Goals as goal

pub returns-in-Err-clause-rows : goal.returns-in-Err-clause-rows
returns-in-Err-clause-rows g c =
    let s = c.args.self.now in
    tile-gives-no_end s.progress c.in-Going.is s.side s.left _ _ c.in-Err.fault c.clear-then-self-eq0.new.self.items c.if-self-eq0.true c.in-Err.ensures.bytes

pub returns-in-Ok-read_samples-clause-rows : goal.returns-in-Ok-read_samples-clause-rows
returns-in-Ok-read_samples-clause-rows g c =
    let s = c.args.self.now in
    let row = c.in-Ok-read_samples.ensures.row in
    tile-gives-row s.progress c.in-Going.is s.side s.left _ _ c.read_samples.new.out.items row.0 c.if-self-eq0.false row.1

pub returns-in-Ok-read_samples-clause-within : goal.returns-in-Ok-read_samples-clause-within
returns-in-Ok-read_samples-clause-within g c =
    let s = c.args.self.now in
    let row = c.in-Ok-read_samples.ensures.row in
    tile-within-row s.progress c.in-Going.is s.side s.left _ _ c.read_samples.new.out.items row.0 c.if-self-eq0.false row.1

pub returns-in-Err-read_samples-clause-rows : goal.returns-in-Err-read_samples-clause-rows
returns-in-Err-read_samples-clause-rows g c =
    let s = c.args.self.now in
    let row = c.in-Err-read_samples.ensures.row in
    tile-gives-no_row s.progress c.in-Going.is s.side s.left _ _ c.in-Err-read_samples.fault c.read_samples.new.out.items row.0 c.if-self-eq0.false row.1

pub returns-in-Err-read_samples-clause-within : goal.returns-in-Err-read_samples-clause-within
returns-in-Err-read_samples-clause-within g c =
    let s = c.args.self.now in
    let row = c.in-Err-read_samples.ensures.row in
    tile-within-no_row s.progress c.in-Going.is s.side s.left _ _ c.in-Err-read_samples.fault c.read_samples.new.out.items row.0 c.if-self-eq0.false row.1
