use Rattle.std.proofs.Common.{◌∙◌, sym}
use Rattle.drain_paths.proofs.EndedLabels.{label_there, same_label, shorter_there, unlabelled_on}
use Rattle.drain_paths.proofs.basins.label_ahead.Goals as goal

pub place_ahead-here-requires-clause-goes_on : goal.place_ahead-here-requires-clause-goes_on
place_ahead-here-requires-clause-goes_on t c =
    let inv = c.walk.invariant in
    unlabelled_on c.args.shape (t.O.Onward.flows c.args.onward.now) c.walk.here inv.inside inv.has_data c.args.labels.now c.requires.so_far c.walk-test.true

pub walk-smaller : goal.walk-smaller
walk-smaller t c =
    let inv = c.walk.invariant in
    shorter_there c.args.shape (t.O.Onward.flows c.args.onward.now) c.walk.here inv.inside inv.has_data c.requires.ends c.place_ahead-here.result c.place_ahead-here.ensures.leads

pub walk-preserved : goal.walk-preserved
walk-preserved t c =
    let inv = c.walk.invariant in
    let same = same_label c.args.shape (t.O.Onward.flows c.args.onward.now) c.walk.here inv.inside inv.has_data c.requires.ends c.place_ahead-here.result c.place_ahead-here.ensures.leads in
    record {
      inside = c.place_ahead-here.ensures.inside;
      has_data = c.place_ahead-here.ensures.has_data;
      same = λ g ps are. sym (same g ps are) ∙ inv.same g ps are;
    }

pub returns-clause-label : goal.returns-clause-label
returns-clause-label t c = λ g ps are.
    (let inv = c.walk.invariant in
    label_there c.args.shape (t.O.Onward.flows c.args.onward.now) c.args.labels.now c.requires.so_far c.walk.here inv.inside c.walk-test.false g ps are ∙ inv.same g ps are)
