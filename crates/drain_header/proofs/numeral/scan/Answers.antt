use Rattle.drain_header.proofs.Names.{arith, sym, ◌∙◌, ne_eqb, sub-zero, within}
use Rattle.std.proofs.Common.{eq-eqb}
use Rattle.std.specs.Float.Numeral.{scan_numeral}
use Rattle.drain_header.proofs.numeral.scan.Goals as goal

pub returns-then-byte_at-ne46 : goal.returns-then-byte_at-ne46
unfolding scan_numeral
returns-then-byte_at-ne46 c =
    let e = c.with_exponent.ensures in
    let point = ne_eqb _ 46 (λ x. c.if-byte_at-ne46.true (c.byte_at.ensures ∙ x)) in
    rw (← c.digits_end-whole_end.ensures.end, point, sub-zero)
    (λ i. record { whole = e.whole i; point = e.point i; fraction = e.fraction i; exponent_negative = e.sign i; exponent = e.exponent i; len = e.len i })

pub digits_end-end-requires : goal.digits_end-end-requires
digits_end-end-requires c = omega (arith, within c.args.bytes.now c.digits_end-whole_end.result (omega (arith, c.byte_at.ensures)))

pub slice_bounds-with_exponent-count : goal.slice_bounds-with_exponent-count
slice_bounds-with_exponent-count c = omega (arith, c.digits_end-end.ensures.end)

pub returns : goal.returns
unfolding scan_numeral
returns c =
    let e = c.with_exponent-2.ensures in
    let point = eq-eqb _ 46 (sym c.byte_at.ensures ∙ c.if-byte_at-ne46.false) in
    rw (← c.digits_end-whole_end.ensures.end, point, ← c.digits_end-end.ensures.end, sub-zero)
    (λ i. record { whole = e.whole i; point = e.point i; fraction = e.fraction i; exponent_negative = e.sign i; exponent = e.exponent i; len = e.len i })
