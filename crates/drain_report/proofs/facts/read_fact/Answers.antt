use Rattle.drain_report.proofs.Names.{◌++◌, ◌∙◌, ap, arith, sym, line, none_some, same_some}
use Rattle.drain_report.proofs.facts.read_fact.Goals as goal

pub returns-in-Err-clause-back : goal.returns-in-Err-clause-back
returns-in-Err-clause-back g c = λ x rest fit many is. c.in-Err.ensures.back (g.T.Fact.numbers_of x) rest (many ∙ sym c.requires) is

pub returns-in_default-clause-back : goal.returns-in_default-clause-back
returns-in_default-clause-back g c = λ x rest fit many is.
    let read = c.in-Ok.ensures.back (g.T.Fact.numbers_of x) rest (many ∙ sym c.requires) is in
    none_some x (c.in_default.ensures.back x fit read.0)

pub returns-clause-sound : goal.returns-clause-sound
returns-clause-sound g c = c.in-Ok.ensures.sound ∙ ap (λ ns. line c.args.word.now ns ++ c.in-Ok.next.rest.now) c.in-Some.ensures.sound

pub returns-clause-back : goal.returns-clause-back
returns-clause-back g c = λ x rest fit many is.
    let read = c.in-Ok.ensures.back (g.T.Fact.numbers_of x) rest (many ∙ sym c.requires) is in
    (same_some c.in-Some.fact x (c.in-Some.ensures.back x fit read.0), read.1)

pub returns-in_default-clause-place : goal.returns-in_default-clause-place
returns-in_default-clause-place g c = λ feeds few none at. let next = c.in-Ok.ensures.place feeds few none at in (omega arith, omega (arith, next))
