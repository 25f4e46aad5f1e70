use Rattle.drain_args.proofs.Decimals.{parts_at_point}
use Rattle.drain_args.proofs.spacing_texts.parts.Goals as goal

pub returns-in-Some : goal.returns-in-Some
returns-in-Some c = rw c.in-Some.is at (parts_at_point c.args.text.now c.split_once.result c.split_once.ensures.cases)

pub returns-in-None : goal.returns-in-None
returns-in-None c = rw c.in-None.is at (parts_at_point c.args.text.now c.split_once.result c.split_once.ensures.cases)
