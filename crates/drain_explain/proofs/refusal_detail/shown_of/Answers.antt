use Rattle.drain_explain.proofs.Names.{sym, arith, take_all, length-take-le}
use Rattle.drain_findings.specs.declared.refusal_detail.TheConstants.{SHOWN_BYTES}
use Rattle.drain_explain.proofs.refusal_detail.shown_of.Goals as goal

pub returns-then-line-le-SHOWN_BYTES : goal.returns-then-line-le-SHOWN_BYTES
returns-then-line-le-SHOWN_BYTES c = sym (take_all SHOWN_BYTES c.args.line.now c.if-line-le-SHOWN_BYTES.true)

pub slice_bounds-result-end : goal.slice_bounds-result-end
slice_bounds-result-end c = sym (length-take-le 80 c.args.line.now (omega (arith, c.if-line-le-SHOWN_BYTES.false)))
