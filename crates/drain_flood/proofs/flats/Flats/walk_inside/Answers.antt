use Rattle.drain_flood.proofs.Names.{◌≡◌, ◌∙◌, refl, sym, arith, w64, to_z-of_z}
use Rattle.drain_flood.proofs.Walking.{walk_all}
use Rattle.drain_flood.proofs.flats.Flats.walk_inside.Goals as goal

-- the eight directions one after the other
pub returns-clause-around : goal.returns-clause-around
returns-clause-around t c = λ g k busy same level_is before.
    (let e1 : g.extent ≡ c.turn.new.self.extent = same ∙ sym c.turn.ensures.extent in
    let e2 : g.extent ≡ c.turn-2.new.self.extent = e1 ∙ sym c.turn-2.ensures.extent in
    let e3 : g.extent ≡ c.turn-3.new.self.extent = e2 ∙ sym c.turn-3.ensures.extent in
    let e4 : g.extent ≡ c.turn-4.new.self.extent = e3 ∙ sym c.turn-4.ensures.extent in
    let e5 : g.extent ≡ c.turn-5.new.self.extent = e4 ∙ sym c.turn-5.ensures.extent in
    let e6 : g.extent ≡ c.turn-6.new.self.extent = e5 ∙ sym c.turn-6.ensures.extent in
    let e7 : g.extent ≡ c.turn-7.new.self.extent = e6 ∙ sym c.turn-7.ensures.extent in
    let at = to_z-of_z w64 c.args.level c.ranges.level ∙ level_is in
    let a1 = c.in_ok-turn.ensures.around g k busy 0 same at refl before in
    let a2 = c.in_ok-turn-2.ensures.around g k busy 1 e1 at refl a1 in
    let a3 = c.in_ok-turn-3.ensures.around g k busy 2 e2 at refl a2 in
    let a4 = c.in_ok-turn-4.ensures.around g k busy 3 e3 at refl a3 in
    let a5 = c.in_ok-turn-5.ensures.around g k busy 4 e4 at refl a4 in
    let a6 = c.in_ok-turn-6.ensures.around g k busy 5 e5 at refl a5 in
    let a7 = c.in_ok-turn-7.ensures.around g k busy 6 e6 at refl a6 in
    let a8 = c.in_ok-turn-8.ensures.around g k busy 7 e7 at refl a7 in
    walk_all g c.args.surface.now c.turn-8.new.self k busy c.args.cell c.args.rank 8 refl a8)

pub returns-clause-work : goal.returns-clause-work
returns-clause-work t c =
    c.in_ok-turn-8.ensures.work c.args.self.now (c.in_ok-turn-7.ensures.work c.args.self.now (c.in_ok-turn-6.ensures.work c.args.self.now (c.in_ok-turn-5.ensures.work c.args.self.now (c.in_ok-turn-4.ensures.work c.args.self.now (c.in_ok-turn-3.ensures.work c.args.self.now (c.in_ok-turn-2.ensures.work c.args.self.now (c.in_ok-turn.ensures.work c.args.self.now record { fewer = omega arith; same = refl })))))))
