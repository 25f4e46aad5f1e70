use Rattle.drain_text.proofs.Names.{arith, sym, ◌∙◌, prefix_len_is, is_blank}
use Rattle.drain_text.proofs.words.blanks.Goals as goal

pub returns-then-not-is_blank : goal.returns-then-not-is_blank
returns-then-not-is_blank c = sym (prefix_len_is is_blank c.args.line.now c.loop-at.at 0 (omega arith) c.loop-at.invariant (λ h. sym c.is_blank.ensures ∙ c.if-not-is_blank.true))

pub returns : goal.returns
returns c = sym (prefix_len_is is_blank c.args.line.now _ 0 (omega arith) (λ k h. c.loop-at.invariant k (omega arith)) (λ h. absurd (omega arith)))
