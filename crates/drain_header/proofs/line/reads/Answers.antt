use Rattle.drain_header.proofs.Names.{length, get_or, arith, sym, ap, ◌∙◌, to_ascii_uppercase, get_or-map, length-map}
use Rattle.std.proofs.Common.{ℕ, List}
use Rattle.drain_header.proofs.Capitals.{reads_same, reads_other}
use Rattle.drain_header.proofs.line.reads.Goals as goal

pub returns-then-word-text : goal.returns-then-word-text
returns-then-word-text c =
    let same = c.as_bytes-text.ensures.value in
    reads_other c.args.text.now c.args.word.now (λ e. c.if-word-text.true (sym (length-map c.args.word.now to_ascii_uppercase) ∙ ap (λ (xs : List ℕ). length xs) (e ∙ sym same)))

pub returns-then-to_ascii_uppercase-text : goal.returns-then-to_ascii_uppercase-text
returns-then-to_ascii_uppercase-text c =
    let same = c.as_bytes-text.ensures.value in
    let word = c.args.word.now in
    let at = c.loop-at.at in
    reads_other c.args.text.now word (λ e. c.if-to_ascii_uppercase-text.true (
    c.to_ascii_uppercase.ensures.value
    ∙ sym (get_or-map to_ascii_uppercase word at 0 0 c.loop-at-test.true)
    ∙ ap (λ (xs : List ℕ). get_or xs at 0) (e ∙ sym same)))

pub returns : goal.returns
returns c =
    let same = c.as_bytes-text.ensures.value in
    reads_same c.args.text.now c.args.word.now (c.if-word-text.false ∙ ap (λ (xs : List ℕ). length xs) same)
    (λ k h. c.loop-at.invariant k (omega arith) ∙ ap (λ (xs : List ℕ). get_or xs k 0) same)
