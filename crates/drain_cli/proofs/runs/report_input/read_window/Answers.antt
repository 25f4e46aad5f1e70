use Rattle.drain_cli.proofs.Names.{ap, ◌∙◌, contents_of}
use Rattle.drain_cli.specs.ReportInputs.{fault_status}
use Rattle.drain_cli.specs.WindowRuns.{text_of}
use Rattle.drain_cli.specs.declared.runs.report_input.BadReport.TheVariants.{NoText}
use Rattle.drain_cli.proofs.ReadReports.{all_read, text_is}
use Rattle.drain_cli.proofs.runs.report_input.read_window.Goals as goal

pub returns-in-Ok-read_report-clause-back : goal.returns-in-Ok-read_report-clause-back
returns-in-Ok-read_report-clause-back g c = λ w fits is.
    let left = g.R.ByteSource.bytes_left in
    c.in-Ok-read_report.ensures.back (contents_of w) fits
    (c.deref.ensures.value ∙ all_read (left c.args.from.now) (left c.read_text.new.from) (text_of w) c.in-Ok.text.items is c.in-Ok.ensures.whole.0 c.in-Ok.ensures.whole.1 ∙ text_is w)

pub returns-clause-back : goal.returns-clause-back
returns-clause-back g c = λ w fits is.
    let left = g.R.ByteSource.bytes_left in
    ap (λ fault. fault_status (NoText fault))
    (c.in-Err-read_report.ensures.back (contents_of w) fits
    (c.deref.ensures.value ∙ all_read (left c.args.from.now) (left c.read_text.new.from) (text_of w) c.in-Ok.text.items is c.in-Ok.ensures.whole.0 c.in-Ok.ensures.whole.1 ∙ text_is w))
