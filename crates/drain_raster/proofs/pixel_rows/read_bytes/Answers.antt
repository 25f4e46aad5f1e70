use Rattle.drain_raster.proofs.Names.{◌+◌, ◌++◌, [], length, arith, ap, ◌∙◌, take_at, numbers_as, pixel_len, pixel_of, packed_len, pixels_behind, PartFails-after, fails-later, row-fails, grown}
use Rattle.drain_raster.proofs.KindLemmas.{none_kept}
use Rattle.drain_raster.proofs.RasterEnds.{numbers_long}
use Rattle.drain_raster.proofs.RasterRowLemmas.{row-comes}
use Rattle.drain_raster.proofs.pixel_rows.read_bytes.Goals as goal

pub returns-in-Err-read_part-clause-row : goal.returns-in-Err-read_part-clause-row
returns-in-Err-read_part-clause-row g c =
    let bytes_left = g.R.ByteSource.bytes_left in
    let passed = c.in_default.ensures.bytes in
    let long = c.deref_mut.ensures.len ∙ grown _ c.resize.ensures.len c.is_err.ensures.negation c.if-is_err.false ∙ c.packed_len.ensures in (
      [],
      row-fails (pixels_behind c.args.header.now c.args.gap) (c.args.gap + packed_len c.args.header.now) (bytes_left c.args.from.now) (bytes_left c.read_part.new.from) c.in-Err-read_part.fault
          _ []
          (fails-later (bytes_left c.args.from.now) (bytes_left c.skip.new.from) (bytes_left c.read_part.new.from) passed.0 _ _ _ c.in-Err-read_part.fault passed.1.1
          (omega (arith, passed.1.0, long)) c.in-Err-read_part.ensures.bytes [])
          (ap (λ bs. numbers_as c.args.kind bs []) c.clear-in-Err-read_part.ensures.items ∙ none_kept c.args.kind),
    )

pub returns-in-Err-read_part-clause-faults : goal.returns-in-Err-read_part-clause-faults
returns-in-Err-read_part-clause-faults g c = PartFails-after c.in_default.ensures.faults c.in-Err-read_part.ensures.faults

pub returns-clause-row : goal.returns-clause-row
returns-clause-row g c =
    let bytes_left = g.R.ByteSource.bytes_left in
    let passed = c.in_default.ensures.bytes in
    let came = c.in_default-read_part.ensures.bytes in
    let long = came.0 ∙ c.deref_mut.ensures.len ∙ grown _ c.resize.ensures.len c.is_err.ensures.negation c.if-is_err.false ∙ c.packed_len.ensures in
    let written = take_at c.read_part.new.out _ c.resize.new.self.len (c.read_part.auto.out ∙ c.deref_mut.ensures.len) in (
      passed.0 ++ c.read_part.new.out,
      row-comes c.args.header.now c.args.gap (bytes_left c.args.from.now) (bytes_left c.skip.new.from) (bytes_left c.read_part.new.from) _ passed.0 c.read_part.new.out passed.1.0 passed.1.1 long came.1
          (ap (λ bs. numbers_as c.args.kind bs []) written ∙ c.requires c.read_part.new.out long),
    )

pub returns-clause-counted : goal.returns-clause-counted
returns-clause-counted g c =
    let came = c.in_default-read_part.ensures.bytes in
    let long = came.0 ∙ c.deref_mut.ensures.len ∙ grown _ c.resize.ensures.len c.is_err.ensures.negation c.if-is_err.false ∙ c.packed_len.ensures in
    let written = take_at c.read_part.new.out _ c.resize.new.self.len (c.read_part.auto.out ∙ c.deref_mut.ensures.len) in
    ap (λ bs. length (numbers_as c.args.kind bs [])) written ∙ ap length (c.requires c.read_part.new.out long)
    ∙ numbers_long (pixel_len c.args.header.now) (pixel_of c.args.header.now) c.args.header.now.cols c.read_part.new.out

pub returns-clause-faults : goal.returns-clause-faults
returns-clause-faults g c = PartFails-after c.in_default.ensures.faults c.in_default-read_part.ensures.faults
