use Rattle.std.proofs.Common.{arith}
use Rattle.drain_paths.proofs.StepLemmas.{steps_behind}
use Rattle.drain_paths.proofs.walk.RunStepsPathNumber.behind.Goals as goal

pub returns : goal.returns
returns c = steps_behind c.args.number c.args.steps c.saturating_add.result (λ fits. (let sum = c.saturating_add.ensures in omega (arith, sum, fits)))
