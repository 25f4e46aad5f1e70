use Rattle.drain_device.proofs.Names.{◌+◌, ◌-◌, ◌++◌, ◌≤◌, drop, length, take, arith, refl, length-append, length-take, take-append-le, Consumes-trans, full_patience}
use Rattle.drain_device.proofs.PartLemmas.{answered_more, answered_on, bears, gives_up-left, gives_up-full}
use Rattle.drain_device.proofs.whole_input.read_into.Goals as goal

pub returns-in_default-clause-within : goal.returns-in_default-clause-within
returns-in_default-clause-within g c =
    let inv = c.chunks.invariant in
    let bytes_left = g.R.ByteSource.bytes_left in
    let came = c.in_default.ensures.bytes in (
      c.chunks.body.items ++ came.0,
      Consumes-trans (bytes_left c.args.from.now) (bytes_left c.chunks.from) (bytes_left c.read_full.new.from) _ _ inv.came came.1,
      simp length-append (omega (arith, came.2, c.read_full.auto.out, length-take c.min-expected.result c.chunks.chunk, c.min-expected.ensures, c.len-in-chunks.ensures, c.chunks.body.ok, inv.within)),
    )

pub returns-in_default-clause-faults : goal.returns-in_default-clause-faults
returns-in_default-clause-faults g c =
    let inv = c.chunks.invariant in
    let counts = g.R.ByteSource.counts in
    let faults = c.in_default.ensures.faults in record {
      failures = faults.0;
      interruptions = full_patience - c.chunks.patience + faults.1;
      answered = answered_more (counts c.args.from.now) (counts c.chunks.from) (counts c.read_full.new.from) faults.0 _ faults.1 inv.answered faults.2;
      exactly = (λ _. gives_up-left full_patience c.chunks.patience faults.0 faults.1 inv.fewer (faults.4.0 refl), λ _. refl);
    }

pub returns-in_default-extend_from_slice-clause-within : goal.returns-in_default-extend_from_slice-clause-within
returns-in_default-extend_from_slice-clause-within g c =
    let inv = c.chunks.invariant in
    let bytes_left = g.R.ByteSource.bytes_left in (
      c.chunks.body.items ++ take c.in-Ok.came c.read_full.new.out,
      Consumes-trans (bytes_left c.args.from.now) (bytes_left c.chunks.from) (bytes_left c.read_full.new.from) _ _ inv.came c.in-Ok.ensures.bytes.0,
      simp length-append (omega (arith, length-take c.in-Ok.came c.read_full.new.out, c.in-Ok.ensures.bound, c.read_full.auto.out, length-take c.min-expected.result c.chunks.chunk, c.min-expected.ensures, c.len-in-chunks.ensures, c.chunks.body.ok, inv.within)),
    )

pub returns-in_default-extend_from_slice-clause-faults : goal.returns-in_default-extend_from_slice-clause-faults
returns-in_default-extend_from_slice-clause-faults g c =
    let inv = c.chunks.invariant in
    let counts = g.R.ByteSource.counts in
    let faults = c.in-Ok.ensures.faults in record {
      failures = faults.0;
      interruptions = full_patience - c.chunks.patience + faults.1;
      answered = answered_more (counts c.args.from.now) (counts c.chunks.from) (counts c.read_full.new.from) faults.0 _ faults.1 inv.answered faults.2;
      exactly = (λ e. cc, λ h. let gave_up = faults.4.1 (gives_up-full full_patience c.chunks.patience faults.0 faults.1 inv.fewer h) in cc);
    }

pub returns-then-came-expected-clause-faults : goal.returns-then-came-expected-clause-faults
returns-then-came-expected-clause-faults g c =
    let inv = c.chunks.invariant in
    let counts = g.R.ByteSource.counts in
    let faults = c.in-Ok.ensures.faults in record {
      failures = faults.0;
      interruptions = full_patience - c.chunks.patience + faults.1;
      answered = answered_more (counts c.args.from.now) (counts c.chunks.from) (counts c.read_full.new.from) faults.0 _ faults.1 inv.answered faults.2;
      exactly = (λ e. cc, λ h. let gave_up = faults.4.1 (gives_up-full full_patience c.chunks.patience faults.0 faults.1 inv.fewer h) in cc);
    }

pub chunks-preserved : goal.chunks-preserved
chunks-preserved g c =
    let inv = c.chunks.invariant in
    let counts = g.R.ByteSource.counts in
    let bytes_left = g.R.ByteSource.bytes_left in
    let faults = c.in-Ok.ensures.faults in
    let borne = bears c.chunks.patience faults.0 faults.1 (λ h. let gave_up = faults.4.1 h in cc) in
    let fits : c.in-Ok.came ≤ length c.read_full.new.out = omega (arith, c.in-Ok.ensures.bound, c.read_full.auto.out) in
    record {
      room = λ long. omega (arith, c.in-Ok-extend_from_slice.ensures.capacity, inv.room long);
      within = omega (arith, c.in-Ok-extend_from_slice.ensures.len, length-take c.in-Ok.came (c.read_full.new.out ++ drop c.min-expected.result c.chunks.chunk), c.in-Ok.ensures.bound, length-take c.min-expected.result c.chunks.chunk, c.min-expected.ensures, c.len-in-chunks.ensures, inv.within);
      came = rw (c.in-Ok-extend_from_slice.ensures.items, take-append-le c.in-Ok.came c.read_full.new.out (drop c.min-expected.result c.chunks.chunk) fits)
          (Consumes-trans (bytes_left c.args.from.now) (bytes_left c.chunks.from) (bytes_left c.read_full.new.from) _ _ inv.came c.in-Ok.ensures.bytes.0);
      fewer = omega (arith, faults.3, inv.fewer);
      answered = answered_on (counts c.args.from.now) (counts c.chunks.from) (counts c.read_full.new.from) _ faults.0 faults.1 _ inv.answered faults.2 borne.0 (omega (arith, faults.3, borne.1, inv.fewer));
    }
