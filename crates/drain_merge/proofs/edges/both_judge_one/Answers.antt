use Rattle.std.proofs.Common.{max, min, ◌∙◌}
use Rattle.drain_merge.proofs.JudgedEdges.{both_judged}
use Rattle.drain_merge.proofs.edges.both_judge_one.Goals as goal

pub returns-then-top-min : goal.returns-then-top-min
returns-then-top-min c =
    both_judged c.args.p.now c.args.q.now c.max-top.result c.min.result c.max-left.result c.min-then-top-min.result
    (c.max-top.ensures ∙ (λ i. max (c.top_of.ensures i) (c.top_of-2.ensures i)))
    (c.min.ensures ∙ (λ i. min (c.bottom_of.ensures i) (c.bottom_of-2.ensures i)))
    (c.max-left.ensures ∙ (λ i. max (c.left_of.ensures i) (c.left_of-2.ensures i)))
    (c.min-then-top-min.ensures ∙ (λ i. min (c.right_of.ensures i) (c.right_of-then-top-min.ensures i)))
    c.if-top-min.true
