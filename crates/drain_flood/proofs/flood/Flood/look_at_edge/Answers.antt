use Rattle.drain_flood.proofs.Names.{IsLookedAround, IsLookedBefore, ap, arith, subst, sym, ◌||◌, ◌∙◌, ◌≡◌, to_z-of_z, of_z, to_z}
use mir.Syntax.{w64}
use Rattle.drain_flood.proofs.Looking.{around_on, around_all, less_more}
use Rattle.drain_flood.proofs.flood.Flood.look_at_edge.Goals as goal
use Rattle.drain_flood.proofs.flood.Flood.look_at_edge.Goals.{then-left, else-left}

pub loop-direction-preserved : goal.loop-direction-preserved
loop-direction-preserved t c =
    let level = to_z w64 (of_z w64 c.args.level) in
    let left : c.if-left.left ≡ (c.loop-direction.left || c.in_ok-more.more) =
    elim c.if-left.branch [
      | then-left w ↦ w.left-is ∙ w.if-left.true ∙ sym (ap (λ b. b || c.in_ok-more.more) w.if-left.true)
      | else-left w ↦ w.left-is ∙ sym (ap (λ b. b || c.in_ok-more.more) w.if-left.false)
    ] in
    record {
      extent = c.look.ensures.extent ∙ c.loop-direction.invariant.extent;
      work = less_more _ c.args.self.now c.loop-direction.self c.look.new.self _ _ _ _ c.in_ok-more.more c.loop-direction.invariant.work c.in_ok-more.ensures.look;
      around = λ g first stand busy same before.
          around_on g first c.loop-direction.self.extent c.loop-direction.self c.look.new.self stand busy c.args.cell level
          c.args.raises c.loop-direction.left c.in_ok-more.more c.if-left.left c.loop-direction.direction-index
          (same ∙ sym c.loop-direction.invariant.extent)
          left (c.loop-direction.invariant.around g first stand busy same before) c.in_ok-more.ensures.look;
    }

pub returns-clause-around : goal.returns-clause-around
returns-clause-around t c = λ g first stand busy same before.
    subst (λ z. IsLookedBefore g first c.args.self.now stand busy c.args.cell z c.args.raises →
    IsLookedAround g first c.loop-direction.self stand busy c.args.cell z c.args.raises c.loop-direction.left) (to_z-of_z w64 c.args.level c.ranges.level)
    (λ known. around_all g first c.loop-direction.self stand busy c.args.cell _ c.args.raises c.loop-direction.left c.loop-direction.direction-index (omega arith)
    (c.loop-direction.invariant.around g first stand busy same known))
    before
