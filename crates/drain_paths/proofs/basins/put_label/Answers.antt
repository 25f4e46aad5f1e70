use Rattle.drain_paths.proofs.Names.{◌≡◌, ◌≢◌, ◌∙◌, ◌⊎◌, inl, inr, get_or, set, rules, sym, ap, cell_at, basin_label, IsPutAt, cell_number}
use Rattle.drain_paths.proofs.CellPlaces.{IsPutAt-set, cell_of_place}
use Rattle.drain_paths.proofs.EndedLabels.{data_there, same_label, shorter_there, unlabelled_on}
use Rattle.drain_paths.proofs.NumbersSoFar.{AreNumbersSoFar-put, known_put}
use Rattle.drain_paths.proofs.basins.put_label.Goals as goal

pub place_ahead-here-requires-clause-goes_on : goal.place_ahead-here-requires-clause-goes_on
place_ahead-here-requires-clause-goes_on t c =
    let inv = c.walk.invariant in
    unlabelled_on c.args.shape (t.O.Onward.flows c.args.onward.now) c.walk.here inv.inside inv.has_data c.walk.labels inv.so_far c.walk-test.true

pub walk-smaller : goal.walk-smaller
walk-smaller t c =
    let inv = c.walk.invariant in
    shorter_there c.args.shape (t.O.Onward.flows c.args.onward.now) c.walk.here inv.inside inv.has_data c.requires.ends c.place_ahead-here.result c.place_ahead-here.ensures.leads

pub walk-preserved : goal.walk-preserved
walk-preserved t c =
    let e = c.args.shape in
    let flows = t.O.Onward.flows c.args.onward.now in
    let inv = c.walk.invariant in
    let labels = c.walk.labels in
    let after = set labels c.walk.here c.args.label in
    let at = cell_of_place e c.walk.here inv.inside in
    let start = cell_of_place e c.args.start c.requires.inside in
    let put : IsPutAt e labels after (cell_at e c.walk.here) c.args.label = IsPutAt-set e labels (cell_at e c.walk.here) c.walk.here c.args.label at.0 (sym at.1) inv.counted in
    let same = same_label e flows c.walk.here inv.inside inv.has_data c.requires.ends c.place_ahead-here.result c.place_ahead-here.ensures.leads in
    let was : (cell_at e c.walk.here ≡ cell_at e c.args.start) ⊎ (cell_number e labels (cell_at e c.args.start) ≢ 0) = elim inv.start [
      | inl one ↦ inl (ap (cell_at e) one)
      | inr some ↦ inr (λ none. some (sym (ap (λ k. get_or labels k 0) start.1) ∙ none))
    ] in
    let begun = known_put e 0 labels after (cell_at e c.walk.here) (cell_at e c.args.start) c.args.label c.requires.known put start.0 was in
    record {
      counted = search rules;
      inside = c.place_ahead-here.ensures.inside;
      has_data = c.place_ahead-here.ensures.has_data;
      label = λ g ps are. inv.label g ps are ∙ same g ps are;
      so_far = λ g ps are.
          (let here = data_there e flows c.walk.here inv.inside inv.has_data g ps are in
          AreNumbersSoFar-put g ps e 0 basin_label labels after (cell_at e c.walk.here) c.args.label (inv.so_far g ps are)
          (record { here = here; ends = c.requires.ends g ps are (cell_at e c.walk.here) here; is = inv.label g ps are }) c.requires.known put);
      start = inr (λ none. begun (ap (λ k. get_or after k 0) start.1 ∙ none));
      others = λ d inside known. known_put e 0 labels after (cell_at e c.walk.here) d c.args.label c.requires.known put inside (inr (inv.others d inside known));
    }
