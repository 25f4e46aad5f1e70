use Rattle.drain_device.proofs.Names.{◌≡◌, ◌+◌, ◌-◌, arith, true, inl, inr, refl, ◌∙◌, Appends-trans, take-add, take_rest}
use Rattle.drain_device.proofs.PartLemmas.{answered_failure, answered_interruption, stalls_after-some}
use Rattle.drain_device.proofs.write.write_all.Goals as goal

pub loop-at-preserved-in-Ok : goal.loop-at-preserved-in-Ok
loop-at-preserved-in-Ok g c =
    let inv = c.loop-at.invariant in
    let bytes_taken = g.W.ByteSink.bytes_taken in
    record {
      within = search arith;
      went = rw (take-add c.loop-at.at c.in-Ok.n c.args.bytes.now)
          (Appends-trans (bytes_taken c.args.to.now) (bytes_taken c.loop-at.to) (bytes_taken c.write_some.new.self) _ _ inv.went
          (rw (take_rest c.args.bytes.now c.loop-at.at) at c.in-Ok.ensures.taken));
      fewer = inv.fewer;
      answered = rw c.in-Ok.ensures.counted inv.answered;
      moved = c.in-Ok.ensures.stalled ∙ stalls_after-some _ c.in-Ok.n _ (search arith) ∙ inv.moved;
    }

pub returns-in-Err-Failed-clause-faults : goal.returns-in-Err-Failed-clause-faults
returns-in-Err-Failed-clause-faults g c =
    let inv = c.loop-at.invariant in
    let counts = g.W.ByteSink.counts in (
      1,
      c.args.patience.now - c.loop-at.patience,
      0,
      answered_failure (counts c.args.to.now) (counts c.loop-at.to) (counts c.write_some.new.self) 0 _ inv.answered (rw c.in-Err-Failed.field-0-is at c.in-Err-Failed.ensures.counted),
      omega (arith, c.in-Err-Failed.ensures.stalled, inv.moved),
      omega (arith, inv.fewer),
      (λ _. inl (omega arith), λ _. refl),
    )

pub returns-in_err-tolerate-in-Err-Interrupted-clause-faults : goal.returns-in_err-tolerate-in-Err-Interrupted-clause-faults
returns-in_err-tolerate-in-Err-Interrupted-clause-faults g c =
    let inv = c.loop-at.invariant in
    let counts = g.W.ByteSink.counts in
    let none : c.loop-at.patience ≡ 0 = c.in_err-tolerate-in-Err-Interrupted.ensures.too_many.0 (refl {a = true}) in (
      0,
      c.args.patience.now - c.loop-at.patience + 1,
      0,
      answered_interruption (counts c.args.to.now) (counts c.loop-at.to) (counts c.write_some.new.self) 0 _ inv.answered (rw c.in-Err-Interrupted.field-0-is at c.in-Err-Interrupted.ensures.counted),
      omega (arith, c.in-Err-Interrupted.ensures.stalled, inv.moved),
      omega (arith, c.tolerate.ensures.left),
      (λ _. inr (inl (omega arith)), λ _. c.from_residual.ensures.0),
    )
