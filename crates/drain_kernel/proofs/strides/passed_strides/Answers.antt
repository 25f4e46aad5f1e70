use Rattle.std.proofs.Common.{arith}
use Rattle.drain_kernel.proofs.VouchedNumbers.{along_both}
use Rattle.drain_kernel.proofs.strides.passed_strides.Goals as goal

pub loop-k-preserved : goal.loop-k-preserved
loop-k-preserved g c = record {
  forward = omega (arith, c.loop-k.invariant.forward);
  within = omega (arith, c.min.ensures, c.loop-k-test.true);
  passed = along_both _ _ _ _ c.loop-k.invariant.passed (c.judged_pass.ensures c.if-not-judged_pass.false);
}
