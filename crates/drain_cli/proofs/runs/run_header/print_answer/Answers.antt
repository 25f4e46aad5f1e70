use Rattle.drain_cli.proofs.Names.{◌≡◌, ◌∙◌, IfOk, subst, HeightKind, Whole, HeaderFault, Fields, IsTextOfKind, PrintsText-same, Prints-same}
use Rattle.std.proofs.Common.{Result, Ok, Err}
use Rattle.drain_device.specs.declared.read.BodyFault.TheVariants.{OutOfMemory}
use Rattle.drain_cli.proofs.RoundTrips.{told_header, told_no_memory, told_fault}
use Rattle.drain_cli.proofs.runs.run_header.print_answer.Goals as goal

pub returns-in-Ok-header_text : goal.returns-in-Ok-header_text
returns-in-Ok-header_text g c = (
  Ok (Ok c.in-Ok.header),
  told_header c.args.answer c.in-Ok.header c.in-Ok.is,
  PrintsText-same (c.as_slice.ensures.value ∙ subst (λ (k : HeightKind). IsTextOfKind k c.in-Ok.header c.in-Ok-header_text.text.items) (whole c.args.answer c.in-Ok.header c.in-Ok.is c.requires) c.in-Ok-header_text.ensures) c.print_text.ensures,
)
  where
    whole : (answer : Result Fields HeaderFault) (h : Fields) → answer ≡ Ok h → IfOk answer (λ h. h.kind ≡ Whole) → h.kind ≡ Whole
    whole answer h is all = subst (λ (a : Result Fields HeaderFault). IfOk a (λ h. h.kind ≡ Whole)) is all

pub returns-in-Err-header_text : goal.returns-in-Err-header_text
returns-in-Err-header_text g c = (Err OutOfMemory, told_no_memory c.args.answer c.in-Ok.header c.in-Ok.is, c.print_failure.ensures)

pub returns-in-Err : goal.returns-in-Err
returns-in-Err g c = (
  Ok (Err c.in-Err.fault),
  told_fault c.args.answer c.in-Err.fault c.in-Err.is,
  Prints-same c.refused.ensures c.print_line.ensures,
)
