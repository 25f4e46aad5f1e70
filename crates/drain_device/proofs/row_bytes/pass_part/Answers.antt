use Rattle.drain_device.proofs.Names.{◌++◌, [], arith, length-append, length-take, Consumes-nil, Consumes-trans}
use Rattle.std.proofs.lemmas.Result.{err_from_is_err_and}
use Rattle.drain_device.proofs.FaultLists.{PartFails-none, PartFails-ok, PartFails-then}
use Rattle.drain_device.proofs.PartLemmas.{fails-later}
use Rattle.drain_device.proofs.row_bytes.pass_part.Goals as goal

pub loop-left-init : goal.loop-left-init
loop-left-init g c = record {
  passed = ([], Consumes-nil (g.R.ByteSource.bytes_left c.args.from.now), omega arith);
  asked = PartFails-none (g.R.ByteSource.counts c.args.from.now) c.args.patience.now ⊥ (λ x. x);
}

pub returns-in_err-read_part-clause-bytes : goal.returns-in_err-read_part-clause-bytes
returns-in_err-read_part-clause-bytes g c =
    let told = err_from_is_err_and c.from_residual.result c.from_residual.ensures.1 in
    let bytes_left = g.R.ByteSource.bytes_left in
    let passed = c.loop-left.invariant.passed in (
      [],
      rw (told.1, told.2) (fails-later (bytes_left c.args.from.now) (bytes_left c.loop-left.from) (bytes_left c.read_part.new.from) passed.0 c.read_part.new.out _ c.args.count c.in_err-read_part.field-0.0 passed.1
          (omega (arith, passed.2, length-take c.min-expected.result c.loop-left.chunk, c.min-expected.ensures)) c.in_err-read_part.ensures.bytes []),
    )

pub returns-in_err-read_part-clause-faults : goal.returns-in_err-read_part-clause-faults
returns-in_err-read_part-clause-faults g c =
    let told = err_from_is_err_and c.from_residual.result c.from_residual.ensures.1 in
    let counts = g.R.ByteSource.counts in
    rw (told.1, told.2)
    (PartFails-then (counts c.args.from.now) (counts c.loop-left.from) (counts c.read_part.new.from) _ _ _ ⊥ _ (λ x. x) c.loop-left.invariant.asked c.in_err-read_part.ensures.faults)

pub loop-left-preserved : goal.loop-left-preserved
loop-left-preserved g c =
    let bytes_left = g.R.ByteSource.bytes_left in
    let counts = g.R.ByteSource.counts in
    let passed = c.loop-left.invariant.passed in
    let came = c.in_ok-read_part.ensures.bytes in
    record {
      passed = (
        passed.0 ++ c.read_part.new.out,
        Consumes-trans (bytes_left c.args.from.now) (bytes_left c.loop-left.from) (bytes_left c.read_part.new.from) passed.0 c.read_part.new.out passed.1 came.1,
        omega (arith, length-append passed.0 c.read_part.new.out, passed.2, came.0, c.read_part.auto.out, c.min-expected.ensures, length-take c.min-expected.result c.loop-left.chunk),
      );
      asked = PartFails-then (counts c.args.from.now) (counts c.loop-left.from) (counts c.read_part.new.from) _ _ _ ⊥ ⊥ (λ x. x) c.loop-left.invariant.asked
          (PartFails-ok (counts c.loop-left.from) (counts c.read_part.new.from) _ _ _ c.in_ok-read_part.ensures.faults);
    }
