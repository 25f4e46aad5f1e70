use Rattle.drain_report.proofs.ListLemmas.{four_after}
use Rattle.drain_report.proofs.place.sides.Goals as goal

pub returns-clause-sound : goal.returns-clause-sound
returns-clause-sound c =
    four_after c.args.numbers.now _ _ _ _ c.requires.len c.in_ok-north.ensures.sound c.in_ok-south.ensures.sound c.in_ok-west.ensures.sound c.in_ok-east.ensures.sound
