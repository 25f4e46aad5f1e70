use Rattle.drain_flood.proofs.Names.{◌≡◌, ◌*◌, ◌≤◌, ◌∙◌, sym, ap, subst, get_or, pos, rules, w64, SFits, to_z-of_z, index_of, Extent, MAX_CELLS}
use Rattle.drain_flood.proofs.Walking.{walk_none, rank_seen}
use Rattle.drain_flood.proofs.flats.Flats.look_around.Goals as goal

pub returns-clause-around : goal.returns-clause-around
returns-clause-around t c = λ g k busy same settled laid.
    (let s = c.args.self.now in
    let f = c.args.surface.now in
    let fits : SFits w64 c.level_at-level.result = search rules in
    let place : c.index-place.result ≡ index_of s.extent c.args.cell = c.index-place.ensures.place ∙ ap (λ e. index_of e c.args.cell) c.shape-shape.ensures in
    let place_g : c.index-place.result ≡ index_of g.extent c.args.cell = place ∙ ap (λ e. index_of e c.args.cell) (sym same) in
    c.in_ok-walk.ensures.around g k busy same
    (to_z-of_z w64 c.level_at-level.result fits ∙ (c.level_at-level.ensures.level ∙ ap (λ i. get_or f.con i (pos 0)) place_g))
    (walk_none g f s k busy c.args.cell c.saturating_add-rank.result laid settled
    (rank_seen g s.extent f s k busy c.args.cell c.rank_at.result c.saturating_add-rank.result same laid settled
    (c.rank_at.ensures ∙ ap (λ i. get_or s.rnk i 0) place)
    (subst (λ (e : Extent). e.rows * e.cols ≤ MAX_CELLS) c.shape-shape.ensures (search rules))
    c.saturating_add-rank.ensures)))
