use Rattle.drain_report.proofs.Names.{◌≡◌, ◌++◌, inl, length, refl, sym, ap, ◌∙◌, arith, eqb-true, codes, not, spacings_text}
use Rattle.drain_report.proofs.SpacingLists.{listed_text, none_listed, some_listed, word_found, word_missing}
use Rattle.drain_report.proofs.spacings.read_spacings.Goals as goal

pub returns-then-is_none-clause-back : goal.returns-then-is_none-clause-back
returns-then-is_none-clause-back c = λ xs rest fit is.
    let none = none_listed xs c.args.lines.rest.now (codes "tiles" ++ rest) is
    (λ r on. word_missing _ c.after_word.result (c.after_word.ensures.back r on) (c.is_none.ensures ∙ ap not c.if-is_none.true)) in
    (c.new.ensures.items ∙ sym none, is ∙ ap (λ ys. spacings_text ys ++ (codes "tiles" ++ rest)) none)

pub returns-in-Err-clause-back : goal.returns-in-Err-clause-back
returns-in-Err-clause-back c = λ xs rest fit is.
    let found = word_found _ c.after_word.result c.after_word.ensures.sound (c.is_none.ensures ∙ ap not c.if-is_none.false) in
    let some = some_listed xs c.args.lines.rest.now found.0.now rest found.1 is in
    c.in-Err.ensures.back xs (codes "tiles" ++ rest) fit (is ∙ ap (λ t. t ++ (codes "tiles" ++ rest)) (listed_text xs some))

pub returns-in-Err-clause-place : goal.returns-in-Err-clause-place
returns-in-Err-clause-place c = λ feeds few at. c.in-Err.ensures.place feeds few refl at

pub returns-then-is_empty-clause-back : goal.returns-then-is_empty-clause-back
returns-then-is_empty-clause-back c = λ xs rest fit is.
    let found = word_found _ c.after_word.result c.after_word.ensures.sound (c.is_none.ensures ∙ ap not c.if-is_none.false) in
    let some = some_listed xs c.args.lines.rest.now found.0.now rest found.1 is in
    let read = c.in-Ok.ensures.back xs (codes "tiles" ++ rest) fit (is ∙ ap (λ t. t ++ (codes "tiles" ++ rest)) (listed_text xs some)) in
    let same : length c.in-Ok.read.0.items ≡ length xs = ap length read.0 in
    let none = eqb-true _ _ (sym c.is_empty.ensures ∙ c.if-is_empty.true) in
    absurd (omega (arith, some, same, none))

pub returns-then-is_empty-clause-place : goal.returns-then-is_empty-clause-place
returns-then-is_empty-clause-place c = λ feeds few at. inl (c.unread.ensures feeds at)

pub returns-clause-back : goal.returns-clause-back
returns-clause-back c = λ xs rest fit is.
    let found = word_found _ c.after_word.result c.after_word.ensures.sound (c.is_none.ensures ∙ ap not c.if-is_none.false) in
    let some = some_listed xs c.args.lines.rest.now found.0.now rest found.1 is in
    c.in-Ok.ensures.back xs (codes "tiles" ++ rest) fit (is ∙ ap (λ t. t ++ (codes "tiles" ++ rest)) (listed_text xs some))

pub returns-clause-place : goal.returns-clause-place
returns-clause-place c = λ feeds few at. let next = c.in-Ok.ensures.place feeds few refl at in (omega (arith, next.0), next.1)
