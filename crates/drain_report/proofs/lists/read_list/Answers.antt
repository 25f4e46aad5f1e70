use Rattle.drain_report.proofs.Names.{◌++◌, ◌∙◌, length, sym, inl, arith, all_text}
use Rattle.drain_report.proofs.ListLemmas.{list_split, read_list}
use Rattle.drain_report.proofs.FaultLemmas.{list_later}
use Rattle.drain_report.proofs.TextLemmas.{match_both, on_both}
use Rattle.drain_report.proofs.lists.read_list.Goals as goal

pub returns-in-Err-clause-back : goal.returns-in-Err-clause-back
returns-in-Err-clause-back g c = λ xs rest fit is.
    absurd (c.in-Err.ensures.back (length xs) (all_text g.T.ReportLine.line_of xs ++ rest) fit.short (is ∙ list_split g.T.ReportLine.line_of c.args.word.now xs rest))

pub returns-clause-sound : goal.returns-clause-sound
returns-clause-sound g c =
    on_both c.read_lines.result
    (λ found long text. read_list g.T.ReportLine.line_of c.args.word.now c.args.lines.rest.now c.in-Ok.read.1.rest.now found.1.rest.now c.in-Ok.read.0 found.0.items c.in-Ok.ensures.sound text long)
    c.read_lines.ensures.len c.read_lines.ensures.sound

pub returns-clause-back : goal.returns-clause-back
returns-clause-back g c = λ xs rest fit is.
    let first = c.in-Ok.ensures.back (length xs) (all_text g.T.ReportLine.line_of xs ++ rest) fit.short (is ∙ list_split g.T.ReportLine.line_of c.args.word.now xs rest) in
    c.read_lines.ensures.back xs rest (sym first.0) fit.each first.1

pub returns-in-Err-clause-place : goal.returns-in-Err-clause-place
returns-in-Err-clause-place g c = λ feeds few none at. inl (c.in-Err.ensures.place feeds few none at)

pub returns-clause-place : goal.returns-clause-place
returns-clause-place g c = λ feeds few none at.
    let next = c.in-Ok.ensures.place feeds few none at in
    match_both c.read_lines.result
    (λ found past. (omega (arith, next.0, past.0), past.1))
    (λ fault is. list_later feeds c.args.lines.number c.in-Ok.read.1.number fault (omega (arith, next.0)) is)
    (c.read_lines.ensures.place feeds few next.1)
