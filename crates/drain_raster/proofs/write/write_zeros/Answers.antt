use Rattle.drain_raster.proofs.Names.{◌+◌, ◌-◌, ◌++◌, ℕ, replicate, arith, sym, ap, ◌∙◌, take-replicate}
use Rattle.drain_raster.specs.declared.write.TheConstants.{ZERO_BYTES}
use Rattle.drain_raster.proofs.BufferLemmas.{zeros-more, zeros-parts}
use Rattle.drain_raster.proofs.WritingLemmas.{Hands-start, Hands-more, Hands-ended}
use Rattle.drain_raster.proofs.write.write_zeros.Goals as goal

pub loop-written-init : goal.loop-written-init
loop-written-init g c = record {
  within = omega arith;
  handed = Hands-start _ _ _ _;
}

pub returns-in_err-hand : goal.returns-in_err-hand
returns-in_err-hand g c =
    let bytes_taken = g.W.ByteSink.bytes_taken in
    let counts = g.W.ByteSink.counts in
    let stalls = g.W.ByteSink.stalls in
    let inv = c.loop-written.invariant in
    Hands-ended (bytes_taken c.args.to.now) (bytes_taken c.loop-written.to) (bytes_taken c.hand.new.to) (counts c.args.to.now) (counts c.loop-written.to) (counts c.hand.new.to)
    (stalls c.args.to.now) (stalls c.loop-written.to) (stalls c.hand.new.to) c.args.patience.now c.loop-written.patience c.hand.new.patience _ c.from_residual.result
    (replicate {A = ℕ} c.loop-written.written 0) _ (replicate {A = ℕ} (c.args.count - (c.loop-written.written + c.min-next.result)) 0) (replicate {A = ℕ} c.args.count 0)
    c.from_residual.ensures.0 inv.handed c.in_err-hand.ensures (zeros-parts c.args.count c.loop-written.written c.min-next.result _ (take-replicate c.min-next.result ZERO_BYTES 0 (omega (arith, c.min-next.ensures))) (omega (arith, c.min-next.ensures)))

pub loop-written-preserved : goal.loop-written-preserved
loop-written-preserved g c =
    let bytes_taken = g.W.ByteSink.bytes_taken in
    let counts = g.W.ByteSink.counts in
    let stalls = g.W.ByteSink.stalls in
    let inv = c.loop-written.invariant in
    record {
      within = omega (arith, c.min-next.ensures);
      handed = Hands-more (bytes_taken c.args.to.now) (bytes_taken c.loop-written.to) (bytes_taken c.hand.new.to) (counts c.args.to.now) (counts c.loop-written.to) (counts c.hand.new.to)
          (stalls c.args.to.now) (stalls c.loop-written.to) (stalls c.hand.new.to) c.args.patience.now c.loop-written.patience c.hand.new.patience
          (replicate {A = ℕ} c.loop-written.written 0) _ (replicate {A = ℕ} (c.loop-written.written + c.min-next.result) 0)
          inv.handed c.in_ok-hand.ensures
          (ap (λ xs. replicate {A = ℕ} c.loop-written.written 0 ++ xs) (take-replicate c.min-next.result ZERO_BYTES 0 (omega (arith, c.min-next.ensures))) ∙ sym (zeros-more c.loop-written.written c.min-next.result));
    }
