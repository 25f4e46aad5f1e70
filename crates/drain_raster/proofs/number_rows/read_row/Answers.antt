use Rattle.drain_raster.proofs.Names.{◌+◌, ◌++◌, [], length, arith, ap, ◌∙◌, take_at, All-same, IsPixel, grown, Fields, packed_len, pixels_behind, PartFails-after, fails-later, row-fails}
use Rattle.drain_raster.proofs.RasterRowLemmas.{row-comes}
use Rattle.drain_raster.proofs.number_rows.read_row.Goals as goal

pub returns-in-Err-read_pixels-clause-row : goal.returns-in-Err-read_pixels-clause-row
returns-in-Err-read_pixels-clause-row g c =
    let bytes_left = g.R.ByteSource.bytes_left in
    let passed = c.in_default.ensures.bytes in
    let came = c.in-Err-read_pixels.ensures.bytes in (
      [],
      row-fails (pixels_behind c.args.header.now c.args.gap) (c.args.gap + packed_len c.args.header.now) (bytes_left c.args.from.now) (bytes_left c.read_pixels.new.from) c.in-Err-read_pixels.fault
          c.clear-in-Err-read_pixels.new.self.items []
          (fails-later (bytes_left c.args.from.now) (bytes_left c.skip.new.from) (bytes_left c.read_pixels.new.from) passed.0 came.0 (packed_len c.args.header.now) _ c.in-Err-read_pixels.fault passed.1.1
          (omega (arith, passed.1.0)) came.1 [])
          c.clear-in-Err-read_pixels.ensures.items,
    )

pub returns-in-Err-read_pixels-clause-faults : goal.returns-in-Err-read_pixels-clause-faults
returns-in-Err-read_pixels-clause-faults g c = PartFails-after c.in_default.ensures.faults c.in-Err-read_pixels.ensures.faults

pub returns-clause-row : goal.returns-clause-row
returns-clause-row g c =
    let bytes_left = g.R.ByteSource.bytes_left in
    let passed = c.in_default.ensures.bytes in
    let came = c.in_default-read_pixels.ensures.bytes in
    let written = take_at c.read_pixels.new.out _ c.resize.new.self.len (c.read_pixels.auto.out ∙ c.deref_mut-2.ensures.len) in (
      passed.0 ++ came.0,
      row-comes c.args.header.now c.args.gap (bytes_left c.args.from.now) (bytes_left c.skip.new.from) (bytes_left c.read_pixels.new.from) _ passed.0 came.0 passed.1.0 passed.1.1 came.1.0 came.1.1 (written ∙ came.2),
    )

pub returns-clause-faults : goal.returns-clause-faults
returns-clause-faults g c = PartFails-after c.in_default.ensures.faults c.in_default-read_pixels.ensures.faults

pub returns-clause-counted : goal.returns-clause-counted
returns-clause-counted g c =
    ap length (take_at c.read_pixels.new.out _ c.resize.new.self.len (c.read_pixels.auto.out ∙ c.deref_mut-2.ensures.len))
    ∙ c.read_pixels.auto.out ∙ c.deref_mut-2.ensures.len ∙ grown _ c.resize.ensures.len c.is_err.ensures.negation c.if-is_err.false ∙ ap (λ (h : Fields). h.cols) c.header.view_is

pub returns-clause-pixels : goal.returns-clause-pixels
returns-clause-pixels g c =
    let written = take_at c.read_pixels.new.out _ c.resize.new.self.len (c.read_pixels.auto.out ∙ c.deref_mut-2.ensures.len) in
    All-same IsPixel _ c.read_pixels.new.out written c.in_default-read_pixels.ensures.pixels
