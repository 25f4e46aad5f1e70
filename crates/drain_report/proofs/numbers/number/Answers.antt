use Rattle.drain_report.proofs.Names.{◌∙◌, arith, sym, ap, refl, w64, signed_decimal, parse-signed_decimal, IsAscii-signed, to_z-of_z}
use Rattle.std.proofs.lemmas.Str.{IsUtf8-from_ascii}
use Rattle.drain_report.proofs.NumberLemmas.{ok_same, not_both, differ}
use Rattle.drain_report.proofs.numbers.number.Goals as goal

pub returns-in_default-clause-back : goal.returns-in_default-clause-back
returns-in_default-clause-back c = λ n long is. absurd (c.in_default.ensures.cases.0 (rw is (IsUtf8-from_ascii (signed_decimal n) (IsAscii-signed n (omega (arith, long.sfits))))))

pub returns-in_default-parse-clause-back : goal.returns-in_default-parse-clause-back
returns-in_default-parse-clause-back c = λ n long is.
    let read = parse-signed_decimal w64 n c.in-Ok.text.now c.parse.result long (omega (arith, long.sfits)) (c.in-Ok.ensures.cases.0 ∙ is) c.parse.ensures.value.0 in
    absurd (not_both c.parse.result c.in_default-parse.field-0 n c.in_default-parse.is read)

pub returns-then-ne-clause-back : goal.returns-then-ne-clause-back
returns-then-ne-clause-back c = λ n long is.
    let read = parse-signed_decimal w64 n c.in-Ok.text.now c.parse.result long (omega (arith, long.sfits)) (c.in-Ok.ensures.cases.0 ∙ is) c.parse.ensures.value.0 in
    let same = ok_same c.parse.result c.in-Ok-parse.number n c.in-Ok-parse.is read in
    let printed = c.as_bytes.ensures.value ∙ c.format.ensures.text ∙ ap signed_decimal (rw same (to_z-of_z w64 n long)) ∙ sym is in
    absurd (differ c.as_bytes.result.now c.args.word.now (sym c.ne.ensures ∙ c.if-ne.true) printed)

pub returns-clause-back : goal.returns-clause-back
returns-clause-back c = λ n long is.
    let read = parse-signed_decimal w64 n c.in-Ok.text.now c.parse.result long (omega (arith, long.sfits)) (c.in-Ok.ensures.cases.0 ∙ is) c.parse.ensures.value.0 in
    let same = ok_same c.parse.result c.in-Ok-parse.number n c.in-Ok-parse.is read in
    rw same (rw (to_z-of_z w64 n long) refl)
