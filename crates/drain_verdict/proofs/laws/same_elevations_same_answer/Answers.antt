use Rattle.drain_verdict.proofs.SameAnswers as lemmas
use Rattle.drain_verdict.specs.SameGround.{ground_of}
use Rattle.drain_verdict.proofs.laws.same_elevations_same_answer.Goals as goal

pub returns : goal.returns
returns c a b t one = lemmas.one_answer c.padding_keeps_runs.ensures c.padding_keeps_first_endless.ensures (ground_of a) (ground_of b) t one
