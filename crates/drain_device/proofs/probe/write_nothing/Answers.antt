use Rattle.drain_device.proofs.Names.{arith, inl, inr, refl, ◌∙◌, Keeps-refl, Keeps-trans, full_patience}
use Rattle.std.proofs.lemmas.Bool.{false≢true}
use Rattle.drain_device.proofs.PartLemmas.{answered_failure, answered_interruption, nothing_taken, no_stall, goes_on}
use Rattle.drain_device.proofs.probe.write_nothing.Goals as goal

pub loop-tried-init : goal.loop-tried-init
loop-tried-init g c = record {
  kept = Keeps-refl (g.W.ByteSink.bytes_taken c.args.to.now);
  answered = record { failures_are = omega arith; interruptions_are = omega arith };
  moved = refl;
}

pub loop-tried-preserved : goal.loop-tried-preserved
loop-tried-preserved g c =
    let inv = c.loop-tried.invariant in
    let counts = g.W.ByteSink.counts in
    let bytes_taken = g.W.ByteSink.bytes_taken in
    record {
      kept = Keeps-trans (bytes_taken c.args.to.now) (bytes_taken c.loop-tried.to) (bytes_taken c.write_some.new.self) inv.kept c.in-Err-Interrupted.ensures.taken;
      answered = answered_interruption (counts c.args.to.now) (counts c.loop-tried.to) (counts c.write_some.new.self) 0 c.loop-tried.tried inv.answered
          (rw c.in-Err-Interrupted.field-0-is at c.in-Err-Interrupted.ensures.counted);
      moved = c.in-Err-Interrupted.ensures.stalled ∙ inv.moved;
    }

pub returns-in-Ok-clause-bytes : goal.returns-in-Ok-clause-bytes
returns-in-Ok-clause-bytes g c =
    let bytes_taken = g.W.ByteSink.bytes_taken in
    Keeps-trans (bytes_taken c.args.to.now) (bytes_taken c.loop-tried.to) (bytes_taken c.write_some.new.self) c.loop-tried.invariant.kept
    (nothing_taken (bytes_taken c.loop-tried.to) (bytes_taken c.write_some.new.self) c.in-Ok.field-0 c.in-Ok.ensures.bound c.in-Ok.ensures.taken)

pub returns-in-Ok-clause-faults : goal.returns-in-Ok-clause-faults
returns-in-Ok-clause-faults g c =
    let inv = c.loop-tried.invariant in
    let stays = c.in-Ok.ensures.stalled ∙ no_stall (g.W.ByteSink.stalls c.loop-tried.to) c.in-Ok.field-0 ∙ inv.moved in
    record {
      failures = 0;
      interruptions = c.loop-tried.tried;
      stalls = 0;
      answered = rw c.in-Ok.ensures.counted inv.answered;
      stalled = omega (arith, stays);
      exactly = (λ failed. absurd (false≢true failed), λ up. absurd (goes_on full_patience c.loop-tried.tried (omega arith) up));
    }

pub returns-in-Err-Failed-clause-bytes : goal.returns-in-Err-Failed-clause-bytes
returns-in-Err-Failed-clause-bytes g c =
    let bytes_taken = g.W.ByteSink.bytes_taken in
    Keeps-trans (bytes_taken c.args.to.now) (bytes_taken c.loop-tried.to) (bytes_taken c.write_some.new.self) c.loop-tried.invariant.kept c.in-Err-Failed.ensures.taken

pub returns-in-Err-Failed-clause-faults : goal.returns-in-Err-Failed-clause-faults
returns-in-Err-Failed-clause-faults g c =
    let inv = c.loop-tried.invariant in
    let counts = g.W.ByteSink.counts in
    record {
      failures = 1;
      interruptions = c.loop-tried.tried;
      stalls = 0;
      answered = answered_failure (counts c.args.to.now) (counts c.loop-tried.to) (counts c.write_some.new.self) 0 c.loop-tried.tried inv.answered
          (rw c.in-Err-Failed.field-0-is at c.in-Err-Failed.ensures.counted);
      stalled = omega (arith, c.in-Err-Failed.ensures.stalled, inv.moved);
      exactly = (λ failed. inl (omega arith), λ up. refl);
    }

pub returns-clause-bytes : goal.returns-clause-bytes
returns-clause-bytes g c = c.loop-tried.invariant.kept

pub returns-clause-faults : goal.returns-clause-faults
returns-clause-faults g c =
    let inv = c.loop-tried.invariant in
    record {
      failures = 0;
      interruptions = c.loop-tried.tried;
      stalls = 0;
      answered = inv.answered;
      stalled = omega (arith, inv.moved);
      exactly = (λ failed. inr (inl (omega (arith, c.loop-tried-test.false))), λ up. refl);
    }
