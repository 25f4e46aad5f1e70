use Rattle.std.proofs.Common.{sym, ◌∙◌}
use Rattle.drain_header.proofs.Parsing
use Rattle.drain_header.proofs.parse.parse_header_of.Goals as goal

-- a fault of a line is passed on
pub returns-in_err-seen : goal.returns-in_err-seen
returns-in_err-seen c = record {
  answer = Parsing.handed_on c.args.kind c.args.text.now c.from_residual.result c.in_err-seen.field-0.0 c.from_residual.ensures.1
      (Parsing.line_fault_told c.args.kind c.args.text.now c.if-text-gt-MAX_HEADER_BYTES.false c.in_err-seen.field-0.0 (sym c.read_lines.ensures ∙ c.in_err-seen.was));
}

pub returns-in-Some : goal.returns-in-Some
returns-in-Some c = record {
  answer = Parsing.missing_key_told c.args.kind c.args.text.now c.if-text-gt-MAX_HEADER_BYTES.false c.in_ok-seen.seen (sym c.read_lines.ensures ∙ c.in_ok-seen.was) c.in-Some.key (sym c.missing_key.ensures ∙ c.in-Some.is);
}

pub finish-requires : goal.finish-requires
finish-requires c =
    Parsing.values_taken c.args.kind c.args.text.now c.if-text-gt-MAX_HEADER_BYTES.false c.in_ok-seen.seen (sym c.read_lines.ensures ∙ c.in_ok-seen.was) (sym c.missing_key.ensures ∙ c.in_default.is)

pub returns : goal.returns
returns c = record {
  answer = rw c.finish.ensures (Parsing.finished_answers c.args.kind c.args.text.now c.if-text-gt-MAX_HEADER_BYTES.false c.in_ok-seen.seen (sym c.read_lines.ensures ∙ c.in_ok-seen.was) (sym c.missing_key.ensures ∙ c.in_default.is));
}
