use Rattle.drain_flood.proofs.Names.{◌≡◌, ◌*◌, ◌∙◌, length, sym, ap, subst, AreFirstRanks}
use Rattle.drain_flood.proofs.LowEdges.{laid_first}
use Rattle.drain_flood.proofs.flats.Flats.start.Goals as goal

pub returns-clause-laid : goal.returns-clause-laid
returns-clause-laid t c = λ g same surface codes.
    (let seen : c.as_slice.result.now ≡ c.args.way.items = c.as_slice.ensures.value in
    let cells : c.args.surface.now.extent.rows * c.args.surface.now.extent.cols ≡ g.extent.rows * g.extent.cols = ap (λ e. e.rows * e.cols) (sym same) in
    let long : length c.in_ok-rnk.rnk.items ≡ g.extent.rows * g.extent.cols =
    c.in_ok-rnk.ensures.counted ∙ (ap (λ xs. length xs) seen ∙ (c.requires.counted ∙ cells)) in
    let ranks : AreFirstRanks c.args.way.items c.in_ok-rnk.rnk.items = subst (λ xs. AreFirstRanks xs c.in_ok-rnk.rnk.items) seen c.in_ok-rnk.ensures.ranks in
    laid_first g c.args.surface.now _ surface codes long ranks c.in_ok-trail.ensures)
