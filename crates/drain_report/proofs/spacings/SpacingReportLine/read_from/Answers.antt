use Rattle.drain_report.proofs.Names.{◌++◌, ◌∙◌, ap, arith, refl, sym, none_some, same_some, spacing_line, line_feeds}
use Rattle.drain_report.proofs.FaultLemmas.{spacing_feed}
use Rattle.drain_report.proofs.spacings.SpacingReportLine.read_from.Goals as goal

pub returns-in_default-clause-back : goal.returns-in_default-clause-back
returns-in_default-clause-back c = λ s rest fit is. c.in_default.ensures.back s rest fit refl is

pub returns-in_default-clause-place : goal.returns-in_default-clause-place
returns-in_default-clause-place c = λ feeds few at. c.unread-fault.ensures feeds at

pub returns-in_default-spacing_of-clause-back : goal.returns-in_default-spacing_of-clause-back
returns-in_default-spacing_of-clause-back c = λ s rest fit is.
    let read = c.in-Some.ensures.back s rest fit refl is in
    none_some s (c.in_default-spacing_of.ensures.back s fit read.0 read.1.0)

pub returns-in_default-spacing_of-clause-place : goal.returns-in_default-spacing_of-clause-place
returns-in_default-spacing_of-clause-place c = λ feeds few at.
    let one = ap line_feeds c.in-Some.ensures.sound ∙ spacing_feed _ _ _ c.in-Some.ensures.long in
    (omega arith, omega (arith, at, one))

pub returns-clause-sound : goal.returns-clause-sound
returns-clause-sound c =
    c.in-Some.ensures.sound ∙ ap (λ t. t ++ c.in-Some.rest.now) c.in-Some-spacing_of.ensures.sound ∙ ap (λ r. spacing_line c.in-Some-spacing_of.spacing ++ r) (sym c.after_first.ensures.text)

pub returns-clause-back : goal.returns-clause-back
returns-clause-back c = λ s rest fit is.
    let read = c.in-Some.ensures.back s rest fit refl is in
    (same_some c.in-Some-spacing_of.spacing s (c.in-Some-spacing_of.ensures.back s fit read.0 read.1.0), c.after_first.ensures.text ∙ read.1.1)

pub returns-clause-place : goal.returns-clause-place
returns-clause-place c = λ feeds few at.
    c.after_first.ensures.place feeds few (ap line_feeds c.in-Some.ensures.sound ∙ spacing_feed _ _ _ c.in-Some.ensures.long) at
