use Rattle.drain_kernel.proofs.VouchedNumbers.{along_both}
use Rattle.drain_kernel.proofs.kept.passed_until.Goals as goal

pub returns-clause-passed : goal.returns-clause-passed
returns-clause-passed g c =
    along_both _ _ _ _ (along_both _ _ _ _ (along_both _ _ _ _ c.passed_strides-by_blocks.ensures.passed c.passed_strides-at_once.ensures.passed)
    c.passed_strides-by_groups.ensures.passed) c.passed_strides.ensures.passed
