use Rattle.drain_kernel.proofs.Names.{ℕ, ◌≡◌, ◌≤◌, ◌<◌, ◌-◌, length, ◌∙◌, ap, subst, arith, w64, to_z-of_z, length-set, lowered, IsInUnit, made_offset}
use Rattle.drain_kernel.proofs.FloatWays.{fits}
use Rattle.drain_kernel.proofs.UnitWays.{one_more}
use Rattle.drain_kernel.proofs.in_unit.row_in_unit.Goals as goal

inside : (from end k room : ℕ) → end - from ≤ 66 → from ≤ k → k < end → room ≡ 66 → k - from < room
inside from end k room few ordered less is = omega (arith, few, ordered, less, is)

pub loop-k-preserved : goal.loop-k-preserved
loop-k-preserved g c = record {
  forward = omega (arith, c.loop-k.invariant.forward);
  room = length-set c.loop-k.lanes (c.loop-k.k - c.args.from) c.in_ok-lanes.field-0 ∙ c.loop-k.invariant.room;
  taken = one_more c.args.unit g.H.ElevationLane.bias c.args.row.now.con c.args.from c.loop-k.k c.loop-k.lanes c.in_ok-lanes.field-0 c.loop-k.invariant.forward (inside c.args.from c.args.end c.loop-k.k (length c.loop-k.lanes) c.requires.few c.loop-k.invariant.forward c.loop-k-test.true c.loop-k.invariant.room) c.loop-k.invariant.taken
      (subst (λ z. IsInUnit c.args.unit (made_offset c.args.unit) z c.in_ok-lanes.field-0)
      (to_z-of_z w64 c.height.result (fits c.height.result c.height.ensures.number) ∙ (c.height.ensures.is ∙ ap (lowered g.H.ElevationLane.bias) c.con.ensures)) c.in_ok-lanes.ensures);
}
