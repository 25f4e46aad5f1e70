use Rattle.drain_report.proofs.Names.{◌≡◌, ◌∷◌, ◌∙◌, to_z, of_z, ap, sym, rules, Some, w64, to_z-of_z, none_some, same_some, height_word}
use Rattle.drain_report.proofs.NumberLemmas.{height_ink, is_void, by_number, same_bytes, other_bytes}
use Rattle.drain_report.proofs.seams.first_height.Goals as goal

pub returns-in_default-clause-back : goal.returns-in_default-clause-back
returns-in_default-clause-back c = λ z rest long is.
    c.in_default.ensures.back (height_word z) 32 rest (record { ink = height_ink z long; ends = search rules; is = is })

pub returns-then-eq-clause-back : goal.returns-then-eq-clause-back
returns-then-eq-clause-back c = λ z rest long is.
    let word = c.in-Some.ensures.back (height_word z) 32 rest (record { ink = height_ink z long; ends = search rules; is = is }) in
    let minus = same_bytes c.in-Some.word.now c.as_slice.result.now (sym c.eq.ensures ∙ c.if-eq.true) ∙ c.as_slice.ensures in
    (is_void z long (sym minus ∙ word.0), word.1)

pub returns-in_default-number-clause-back : goal.returns-in_default-number-clause-back
returns-in_default-number-clause-back c = λ z rest long is.
    let word = c.in-Some.ensures.back (height_word z) 32 rest (record { ink = height_ink z long; ends = search rules; is = is }) in
    let other = other_bytes c.in-Some.word.now c.as_slice.result.now (sym c.eq.ensures ∙ c.if-eq.false) in
    by_number (λ _. ⊥) z c.in-Some.word.now long word.0 (λ same. other (same ∙ sym c.as_slice.ensures)) (λ n fits same. none_some n (c.in_default-number.ensures.back n fits same))

pub returns-clause-back : goal.returns-clause-back
returns-clause-back c = λ z rest long is.
    let word = c.in-Some.ensures.back (height_word z) 32 rest (record { ink = height_ink z long; ends = search rules; is = is }) in
    let other = other_bytes c.in-Some.word.now c.as_slice.result.now (sym c.eq.ensures ∙ c.if-eq.false) in
    by_number (λ y. (Some (to_z w64 (of_z w64 c.in-Some-number.height)) ≡ y) × (c.in-Some.rest.now ≡ 32 ∷ rest)) z c.in-Some.word.now long word.0
    (λ same. other (same ∙ sym c.as_slice.ensures))
    (λ n fits same.
    let height = same_some c.in-Some-number.height n (c.in-Some-number.ensures.back n fits same) in
    (ap (λ x. Some x) (ap (λ x. to_z w64 (of_z w64 x)) height ∙ to_z-of_z w64 n fits), word.1))
