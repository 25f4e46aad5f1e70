use Rattle.drain_flood.proofs.Names.{◌≡◌, ◌*◌, ◌≤◌, ◌∙◌, ℕ, sym, ap, subst, arith, Extent, AreWaysOnFlats}
use Rattle.drain_flood.proofs.Settling.{all_are_settled}
use Rattle.drain_flood.proofs.Walking.{turn}
use Rattle.drain_flood.proofs.flats.Flats.spread.Goals as goal

pub loop-cell-preserved : goal.loop-cell-preserved
loop-cell-preserved t c = record {
  extent = c.look_around.ensures.extent ∙ c.next.ensures.extent ∙ c.loop-cell.invariant.extent;
  laid = λ g same laid.
      (let e0 : g.extent ≡ c.loop-cell.self.extent = same ∙ sym c.loop-cell.invariant.extent in
      turn g c.args.surface.now c.loop-cell.self c.next.new.self c.look_around.new.self _ c.in-Some.cell e0 (e0 ∙ sym c.next.ensures.extent) c.in-Some.ensures.next
      c.in_ok-look_around.ensures.around (c.loop-cell.invariant.laid g same laid));
}

same_most : (a b : ℕ) → a ≡ b → a ≤ b
same_most a b same = omega arith

pub returns-clause-ways : goal.returns-clause-ways
returns-clause-ways t c = λ g same flooded laid.
    (let done = c.in_default.ensures.next in
    subst (AreWaysOnFlats g c.args.surface.now) (sym done.same)
    (all_are_settled g c.args.surface.now c.loop-cell.self (c.args.self.now.extent.rows * c.args.self.now.extent.cols) flooded.drains
    (c.loop-cell.invariant.laid g same laid) (same_most _ _ (ap (λ (e : Extent). e.rows * e.cols) same)) done.none))
