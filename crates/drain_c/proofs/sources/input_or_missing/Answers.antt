use Rattle.drain_c.proofs.Names.{◌≡◌, false}
use Rattle.drain_c.proofs.sources.input_or_missing.Goals as goal

pub returns-clause-same : goal.returns-clause-same
returns-clause-same c = (let no : c.args.is_judged ≡ false = cc in rw no c.missing_input.ensures.same)
