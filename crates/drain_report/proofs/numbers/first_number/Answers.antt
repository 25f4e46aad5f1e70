use Rattle.drain_report.proofs.Names.{w64, signed_decimal, to_z-of_z, none_some, same_some}
use Rattle.drain_report.proofs.NumberLemmas.{signed_ink}
use Rattle.drain_report.proofs.numbers.first_number.Goals as goal

pub returns-in_default-clause-back : goal.returns-in_default-clause-back
returns-in_default-clause-back c = λ n e rest h.
    c.in_default.ensures.back (signed_decimal n) e rest (record { ink = signed_ink n h.long; ends = h.ends; is = h.is })

pub returns-in_default-number-clause-back : goal.returns-in_default-number-clause-back
returns-in_default-number-clause-back c = λ n e rest h.
    let word = c.in-Some.ensures.back (signed_decimal n) e rest (record { ink = signed_ink n h.long; ends = h.ends; is = h.is }) in
    none_some n (c.in_default-number.ensures.back n h.long word.0)

pub returns-clause-back : goal.returns-clause-back
returns-clause-back c = λ n e rest h.
    let word = c.in-Some.ensures.back (signed_decimal n) e rest (record { ink = signed_ink n h.long; ends = h.ends; is = h.is }) in
    let same = same_some c.in-Some-number.number n (c.in-Some-number.ensures.back n h.long word.0) in
    (rw same (to_z-of_z w64 n h.long), word.1)
