use Rattle.drain_grid.proofs.Names.{◌∙◌, pos, rules, get_or_default}
use Rattle.drain_grid.proofs.Alike.{copied_more, taken}
use Rattle.drain_grid.proofs.row_copy.copy_heights.Goals as goal

pub loop-k-preserved : goal.loop-k-preserved
loop-k-preserved c = copied_more _ c.loop-k.out c.loop-k.k c.wide.result (search rules) (record { value = search rules; in_range = c.wide.ensures.sample }) c.loop-k.invariant

pub returns-clause-copied : goal.returns-clause-copied
returns-clause-copied c = λ k less. (c.loop-k.invariant k (search rules)).value ∙ taken c.args.heights.now c.args.first _ k (search rules)

pub returns-clause-samples : goal.returns-clause-samples
returns-clause-samples c = λ k d less. rw (get_or_default c.loop-k.out k d (pos 0) less) (c.loop-k.invariant k (search rules)).in_range
