use Rattle.drain_text.proofs.Names.{◌≡◌, ℕ, List, ◌∷◌, ◌-◌, length, take, drop, arith, sym, ap, ◌∙◌, eqb-true, eqb-false, take_rest, prefix_len-le-length, prefix_len, words_of, is_blank, is_inked}
use Rattle.drain_text.proofs.Splitting.{words_of_rest, no_words}
use Rattle.drain_text.proofs.words.first_word.Goals as goal

pub slice_bounds-rest-count : goal.slice_bounds-rest-count
slice_bounds-rest-count c = omega (arith, prefix_len-le-length is_blank c.args.line.now)

pub slice_bounds-rest-start : goal.slice_bounds-rest-start
slice_bounds-rest-start c = omega (arith, prefix_len-le-length is_blank c.args.line.now)

pub returns-then-is_empty : goal.returns-then-is_empty
returns-then-is_empty c =
    let line = c.args.line.now in
    let rest = take (length line - c.blanks.result) (drop c.blanks.result line) in
    let is : rest ≡ drop (prefix_len is_blank line) line = take_rest line c.blanks.result ∙ ap (λ (n : ℕ). drop n line) c.blanks.ensures in
    no_words line rest is (eqb-true _ _ (sym c.is_empty.ensures ∙ c.if-is_empty.true))

pub returns : goal.returns
returns c =
    let line = c.args.line.now in
    let rest = take (length line - c.blanks.result) (drop c.blanks.result line) in
    let end = c.word_length-end.result in
    let is : rest ≡ drop (prefix_len is_blank line) line = take_rest line c.blanks.result ∙ ap (λ (n : ℕ). drop n line) c.blanks.ensures in
    let some = eqb-false _ _ (sym c.is_empty.ensures ∙ c.if-is_empty.false) in
    words_of_rest line rest is (omega (arith, some))
    ∙ ap (λ (n : ℕ). take n rest ∷ words_of (drop n rest)) (sym c.word_length-end.ensures)
    ∙ ap (λ (ys : List ℕ). take end rest ∷ words_of ys) (sym (take_rest rest end))

pub slice_bounds-result-count : goal.slice_bounds-result-count
slice_bounds-result-count c = omega (arith, prefix_len-le-length is_inked (take (length c.args.line.now - c.blanks.result) (drop c.blanks.result c.args.line.now)))

pub slice_bounds-result-start : goal.slice_bounds-result-start
slice_bounds-result-start c = omega (arith, prefix_len-le-length is_inked (take (length c.args.line.now - c.blanks.result) (drop c.blanks.result c.args.line.now)))
