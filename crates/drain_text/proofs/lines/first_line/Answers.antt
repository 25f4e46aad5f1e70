use Rattle.drain_text.proofs.Names.{◌∷◌, ◌+◌, length, arith, sym, ap, ◌∙◌, ◌==◌, take_rest, prefix_len_is, lines_of}
use Rattle.std.proofs.Common.{not}
use Rattle.drain_text.proofs.Splitting.{line_ends, line_alone, not_true, not_false}
use Rattle.drain_text.proofs.lines.first_line.Goals as goal

pub returns-in-Some-clause-first : goal.returns-in-Some-clause-first
returns-in-Some-clause-first c =
    let found = c.in-Some.ensures in
    let text = c.args.text.now in
    let at = prefix_len_is (λ b. not (b == 10)) text c.in-Some.end 0 (omega (arith, found.0.high)) (λ k h. not_true _ (found.0.before k (omega arith) h)) (λ h. not_false _ found.1) in
    line_ends text c.in-Some.end found.0.high at
    ∙ rw (← c.without_return.ensures) (ap (λ ys. c.without_return.result.now ∷ lines_of ys) (sym (take_rest text (c.in-Some.end + 1))))

pub returns-in-None-clause-first : goal.returns-in-None-clause-first
returns-in-None-clause-first c =
    let text = c.args.text.now in
    let at = prefix_len_is (λ b. not (b == 10)) text (length text) 0 (omega arith) (λ k h. not_true _ (c.in-None.ensures k (omega arith) h)) (λ h. absurd (omega arith)) in
    line_alone text at ∙ rw (← c.without_return-in-None.ensures)
