use Rattle.drain_flood.proofs.Names.{IsLookedAround, IsLookedBefore, arith, refl, subst, sym, ◌∙◌, ◌≡◌, to_z-of_z}
use mir.Syntax.{w64}
use Rattle.drain_flood.proofs.Looking.{around_none, around_all}
use Rattle.drain_flood.proofs.flood.Flood.look_each_way.Goals as goal

-- the eight directions one after the other
pub returns-clause-around : goal.returns-clause-around
returns-clause-around t c = λ g first stand busy cell same here before.
    (let e1 : g.extent ≡ c.turn.new.self.extent = same ∙ sym c.turn.ensures.extent in
    let e2 : g.extent ≡ c.turn-2.new.self.extent = e1 ∙ sym c.turn-2.ensures.extent in
    let e3 : g.extent ≡ c.turn-3.new.self.extent = e2 ∙ sym c.turn-3.ensures.extent in
    let e4 : g.extent ≡ c.turn-4.new.self.extent = e3 ∙ sym c.turn-4.ensures.extent in
    let e5 : g.extent ≡ c.turn-5.new.self.extent = e4 ∙ sym c.turn-5.ensures.extent in
    let e6 : g.extent ≡ c.turn-6.new.self.extent = e5 ∙ sym c.turn-6.ensures.extent in
    let e7 : g.extent ≡ c.turn-7.new.self.extent = e6 ∙ sym c.turn-7.ensures.extent in
    subst (λ z. IsLookedBefore g first c.args.self.now stand busy cell z c.args.raises →
    IsLookedAround g first c.turn-8.new.self stand busy cell z c.args.raises c.in_ok-north_east.north_east) (to_z-of_z w64 c.args.level c.ranges.level)
    (λ known.
    (let a1 = c.in_ok-east.ensures.around g first stand busy 0 cell same here refl (around_none g first c.args.self.now stand busy cell _ c.args.raises known) in
    let a2 = c.in_ok-south_east.ensures.around g first stand busy 1 cell e1 here refl a1 in
    let a3 = c.in_ok-south.ensures.around g first stand busy 2 cell e2 here refl a2 in
    let a4 = c.in_ok-south_west.ensures.around g first stand busy 3 cell e3 here refl a3 in
    let a5 = c.in_ok-west.ensures.around g first stand busy 4 cell e4 here refl a4 in
    let a6 = c.in_ok-north_west.ensures.around g first stand busy 5 cell e5 here refl a5 in
    let a7 = c.in_ok-north.ensures.around g first stand busy 6 cell e6 here refl a6 in
    let a8 = c.in_ok-north_east.ensures.around g first stand busy 7 cell e7 here refl a7 in
    around_all g first c.turn-8.new.self stand busy cell _ c.args.raises c.in_ok-north_east.north_east 8 refl a8))
    before)

pub returns-clause-work : goal.returns-clause-work
returns-clause-work t c =
    c.in_ok-north_east.ensures.work c.args.self.now (c.in_ok-north.ensures.work c.args.self.now (c.in_ok-north_west.ensures.work c.args.self.now (c.in_ok-west.ensures.work c.args.self.now (c.in_ok-south_west.ensures.work c.args.self.now (c.in_ok-south.ensures.work c.args.self.now (c.in_ok-south_east.ensures.work c.args.self.now (c.in_ok-east.ensures.work c.args.self.now record { fewer = omega arith; same = refl; waiting = refl })))))))
