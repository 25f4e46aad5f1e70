use Rattle.drain_raster.proofs.Names.{◌≡◌, ◌+◌, ◌-◌, ◌*◌, ◌++◌, [], length, take, drop, refl, arith, sym, ap, ◌∙◌, length-take, length-take-le, Consumes-trans, PartFails-ok, PartFails-then, fails-later, within-put_mid, raster_numbers_of}
use Rattle.std.proofs.Common.{length-append}
use Rattle.std.proofs.lemmas.List.{length-drop}
use Rattle.std.proofs.lemmas.Result.{err_from_is_err_and}
use Rattle.drain_raster.proofs.RowNumberLemmas.{chunk_fits, chunk_long, chunk_put, chunk_within}
use Rattle.drain_raster.proofs.number_rows.read_numbers.Goals as goal

pub slice_bounds-part-end : goal.slice_bounds-part-end
slice_bounds-part-end g c =
    let fits = chunk_fits c.args.header.now _ c.min-came.result _ _ (omega (arith, c.min-came.ensures)) c.len-len.ensures c.requires.spelled.len_is c.header.view_is c.header.invariant.bits_ok in
    omega (arith, fits, c.requires.room, c.loop-first.auto.chunk)

pub slice_bounds-part-end-in-loop-first : goal.slice_bounds-part-end-in-loop-first
slice_bounds-part-end-in-loop-first g c =
    let fits = chunk_fits c.args.header.now _ c.min-came.result _ _ (omega (arith, c.min-came.ensures)) c.len-len.ensures c.requires.spelled.len_is c.header.view_is c.header.invariant.bits_ok in
    sym (length-take-le (c.min-came.result * c.len-len.result) c.loop-first.chunk (omega (arith, fits, c.requires.room, c.loop-first.auto.chunk)))

pub returns-in_err-read_part-clause-bytes : goal.returns-in_err-read_part-clause-bytes
returns-in_err-read_part-clause-bytes g c =
    let told = err_from_is_err_and c.from_residual.result c.from_residual.ensures.1 in
    let bytes_left = g.R.ByteSource.bytes_left in
    let came = c.loop-first.invariant.came in
    let len_is = c.len-len.ensures ∙ c.requires.spelled.len_is in
    let all = chunk_within c.loop-first.first c.min-came.result c.args.header.now.cols c.len-len.result _ (omega (arith, c.min-came.ensures, c.requires.cols, c.loop-first.auto.out)) len_is in
    let so_far : length came.0 ≡ c.loop-first.first * c.len-len.result = came.2 ∙ ap (λ l. c.loop-first.first * l) (sym c.len-len.ensures) in (
      [],
      rw (told.1, told.2) (fails-later (bytes_left c.args.from.now) (bytes_left c.loop-first.from) (bytes_left c.read_part.new.from) came.0 c.read_part.new.out _ _ c.in_err-read_part.field-0.0 came.1
          (omega (arith, so_far, all, length-take (c.min-came.result * c.len-len.result) c.loop-first.chunk)) c.in_err-read_part.ensures.bytes []),
      rw told.1 tt,
    )

pub returns-in_err-read_part-clause-faults : goal.returns-in_err-read_part-clause-faults
returns-in_err-read_part-clause-faults g c =
    let told = err_from_is_err_and c.from_residual.result c.from_residual.ensures.1 in
    let counts = g.R.ByteSource.counts in
    rw (told.1, told.2)
    (PartFails-then (counts c.args.from.now) (counts c.loop-first.from) (counts c.read_part.new.from) _ _ _ ⊥ _ (λ x. x) c.loop-first.invariant.asked c.in_err-read_part.ensures.faults)

pub put_numbers-requires : goal.put_numbers-requires
put_numbers-requires g c =
    let fits = chunk_fits c.args.header.now _ c.min-came.result _ _ (omega (arith, c.min-came.ensures)) c.len-len.ensures c.requires.spelled.len_is c.header.view_is c.header.invariant.bits_ok in
    let long : length c.read_part.new.out ≡ c.min-came.result * c.len-len.result = c.in_ok-read_part.ensures.bytes.0 ∙ length-take-le (c.min-came.result * c.len-len.result) c.loop-first.chunk (omega (arith, fits, c.requires.room, c.loop-first.auto.chunk)) in
    chunk_long c.loop-first.first c.min-came.result c.len-len.result g.P.Pixel.len c.loop-first.out c.read_part.new.out (omega (arith, c.min-came.ensures)) long c.len-len.ensures

pub loop-first-preserved : goal.loop-first-preserved
loop-first-preserved g c =
    let bytes_left = g.R.ByteSource.bytes_left in
    let counts = g.R.ByteSource.counts in
    let number = g.P.Pixel.reads g.T.ByteOrder.number_of in
    let inv = c.loop-first.invariant in
    let came = inv.came in
    let first = c.loop-first.first in
    let more = c.min-came.result in
    let fits = chunk_fits c.args.header.now _ more _ _ (omega (arith, c.min-came.ensures)) c.len-len.ensures c.requires.spelled.len_is c.header.view_is c.header.invariant.bits_ok in
    let long : length c.read_part.new.out ≡ more * g.P.Pixel.len =
    c.in_ok-read_part.ensures.bytes.0 ∙ length-take-le (more * c.len-len.result) c.loop-first.chunk (omega (arith, fits, c.requires.room, c.loop-first.auto.chunk)) ∙ ap (λ l. more * l) c.len-len.ensures in
    let numbers : length (take (first + more - first) (drop first c.loop-first.out)) ≡ more =
    omega (arith, c.min-came.ensures, length-take (first + more - first) (drop first c.loop-first.out), length-drop first c.loop-first.out) in
    let part_long : length c.put_numbers.new.out ≡ more = omega (arith, numbers, c.put_numbers.auto.out) in
    let put = chunk_put g.P.Pixel.len number first more (first + more - first) (first + more) came.0 c.read_part.new.out c.loop-first.out c.put_numbers.new.out refl inv.within part_long
    came.2 came.3 inv.pixels (c.put_numbers.ensures.items ∙ ap (λ n. raster_numbers_of g.P.Pixel.len number n c.read_part.new.out) numbers) c.put_numbers.ensures.pixels in
    record {
      within = within-put_mid first (first + more - first) more c.loop-first.out c.put_numbers.new.out inv.within (omega (arith, part_long));
      came = (
        came.0 ++ c.read_part.new.out,
        Consumes-trans (bytes_left c.args.from.now) (bytes_left c.loop-first.from) (bytes_left c.read_part.new.from) came.0 c.read_part.new.out came.1 c.in_ok-read_part.ensures.bytes.1,
        omega (arith, length-append came.0 c.read_part.new.out, came.2, long),
        put.0,
      );
      pixels = put.1;
      asked = PartFails-then (counts c.args.from.now) (counts c.loop-first.from) (counts c.read_part.new.from) _ _ _ ⊥ ⊥ (λ x. x) inv.asked
          (PartFails-ok (counts c.loop-first.from) (counts c.read_part.new.from) _ _ _ c.in_ok-read_part.ensures.faults);
    }
