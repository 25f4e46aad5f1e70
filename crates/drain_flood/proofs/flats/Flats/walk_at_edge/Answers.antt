use Rattle.drain_flood.proofs.Names.{◌∙◌, sym, arith, w64, to_z-of_z}
use Rattle.drain_flood.proofs.Walking.{walk_more, walk_all, less_more}
use Rattle.drain_flood.proofs.flats.Flats.walk_at_edge.Goals as goal

pub loop-direction-preserved : goal.loop-direction-preserved
loop-direction-preserved t c = record {
  extent = c.look.ensures.extent ∙ c.loop-direction.invariant.extent;
  work = less_more _ c.args.surface.now c.args.self.now c.loop-direction.self c.look.new.self _ _ _ _ c.loop-direction.invariant.work c.in_ok-look.ensures.look;
  around = λ g k busy same level_is before.
      walk_more g c.loop-direction.self.extent c.args.surface.now c.loop-direction.self c.look.new.self k busy c.args.cell _ c.args.rank
      c.loop-direction.direction-index (same ∙ sym c.loop-direction.invariant.extent) level_is
      (c.loop-direction.invariant.around g k busy same level_is before) c.in_ok-look.ensures.look;
}

pub returns-clause-around : goal.returns-clause-around
returns-clause-around t c = λ g k busy same level_is before.
    walk_all g c.args.surface.now c.loop-direction.self k busy c.args.cell c.args.rank c.loop-direction.direction-index (omega arith)
    (c.loop-direction.invariant.around g k busy same (to_z-of_z w64 c.args.level c.ranges.level ∙ level_is) before)
