use Rattle.drain_raster.proofs.RasterRowLemmas.{raster-gives-row, raster-gives-no_row, raster-within-row, raster-within-no_row}
use Rattle.drain_raster.proofs.raster_rows.RasterRows.next_into.Goals as goal

pub returns-in-Ok-clause-rows : goal.returns-in-Ok-clause-rows
returns-in-Ok-clause-rows g c =
    let s = c.args.self.now in
    let row = c.in-Ok.ensures.row in
    raster-gives-row s.progress c.in-Going.is s.header s.left s.gap _ _ _ (g.O.RowMemory.numbers c.read.new.self) row.0 c.if-self-eq0.false c.padding-self.ensures row.1

pub returns-in-Ok-clause-within : goal.returns-in-Ok-clause-within
returns-in-Ok-clause-within g c =
    let s = c.args.self.now in
    let row = c.in-Ok.ensures.row in
    raster-within-row s.progress c.in-Going.is s.header s.left s.gap _ _ _ (g.O.RowMemory.numbers c.read.new.self) row.0 c.if-self-eq0.false c.padding-self.ensures row.1

pub returns-in-Err-clause-rows : goal.returns-in-Err-clause-rows
returns-in-Err-clause-rows g c =
    let s = c.args.self.now in
    let row = c.in-Err.ensures.row in
    raster-gives-no_row s.progress c.in-Going.is s.header s.left s.gap _ _ c.in-Err.fault (g.O.RowMemory.numbers c.read.new.self) row.0 c.if-self-eq0.false row.1

pub returns-in-Err-clause-within : goal.returns-in-Err-clause-within
returns-in-Err-clause-within g c =
    let s = c.args.self.now in
    let row = c.in-Err.ensures.row in
    raster-within-no_row s.progress c.in-Going.is s.header s.left s.gap _ _ c.in-Err.fault (g.O.RowMemory.numbers c.read.new.self) row.0 c.if-self-eq0.false row.1
