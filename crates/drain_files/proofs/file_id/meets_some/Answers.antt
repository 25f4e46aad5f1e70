use Rattle.drain_files.proofs.Names.{arith, false≢true, slice_get_within}
use Rattle.drain_files.proofs.file_id.meets_some.Goals as goal

pub returns : goal.returns
returns c = (
  (λ is. absurd (false≢true is)),
  (λ meets. absurd (c.loop-other.invariant meets.0 meets.1 (omega (arith, slice_get_within c.args.others.now meets.0 meets.1 meets.2, c.loop-other-test.false)) meets.2 meets.3)),
)
