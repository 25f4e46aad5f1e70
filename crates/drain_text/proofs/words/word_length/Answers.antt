use Rattle.drain_text.proofs.Names.{arith, sym, ap, ◌∙◌, prefix_len_is, is_inked}
use Rattle.std.specs.Prelude.{not}
use Rattle.drain_text.proofs.words.word_length.Goals as goal

pub returns-then-is_blank : goal.returns-then-is_blank
returns-then-is_blank c = sym (prefix_len_is is_inked c.args.line.now c.loop-at.at 0 (omega arith) c.loop-at.invariant (λ h. ap not (sym c.is_blank.ensures ∙ c.if-is_blank.true)))

pub returns : goal.returns
returns c = sym (prefix_len_is is_inked c.args.line.now _ 0 (omega arith) (λ k h. c.loop-at.invariant k (omega arith)) (λ h. absurd (omega arith)))
