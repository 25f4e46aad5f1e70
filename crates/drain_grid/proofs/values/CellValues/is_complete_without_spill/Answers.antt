use Rattle.drain_grid.proofs.Names.{◌≢◌, rules, refl, sym, ◌∙◌, false≢true}
use Rattle.drain_grid.proofs.FourAndRank.{complete_and_rank}
use Rattle.drain_grid.proofs.values.CellValues.is_complete_without_spill.Goals as goal

pub returns-then-is_complete_without_rank : goal.returns-then-is_complete_without_rank
returns-then-is_complete_without_rank c = (
  λ e.
      let rank : c.args.self.now.rnk ≢ c.args.nodata.now.rnk = search rules in
      (complete_and_rank _ _).0 (c.if-is_complete_without_rank.ensures.0 refl, rank),
  λ each.
      let rank : c.args.self.now.rnk ≢ c.args.nodata.now.rnk = ((complete_and_rank c.args.nodata.now c.args.self.now).1 each).1 in
      search rules,
)

pub returns-else-is_complete_without_rank : goal.returns-else-is_complete_without_rank
returns-else-is_complete_without_rank c = (
  λ yes. absurd (false≢true (sym c.if-is_complete_without_rank.false ∙ yes)),
  λ each. c.is_complete_without_rank.ensures.1 ((complete_and_rank c.args.nodata.now c.args.self.now).1 each).0,
)
