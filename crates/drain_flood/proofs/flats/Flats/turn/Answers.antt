use Rattle.drain_flood.proofs.Names.{subst, w64, to_z-of_z, IsWalk}
use Rattle.drain_flood.proofs.Walking.{walk_more, less_more}
use Rattle.drain_flood.proofs.flats.Flats.turn.Goals as goal

pub returns-clause-work : goal.returns-clause-work
returns-clause-work t c = λ first less.
    less_more _ c.args.surface.now first c.args.self.now c.look.new.self _ _ _ _ less c.in_ok-look.ensures.look

pub returns-clause-around : goal.returns-clause-around
returns-clause-around t c = λ g k busy i same level_is here before.
    (let walk = subst (λ z. IsWalk c.args.self.now.extent c.args.surface.now c.args.self.now c.look.new.self c.args.cell c.args.direction z c.args.rank)
    (to_z-of_z w64 c.args.level c.ranges.level) c.in_ok-look.ensures.look in
    walk_more g c.args.self.now.extent c.args.surface.now c.args.self.now c.look.new.self k busy c.args.cell c.args.level c.args.rank i same level_is before
    (subst (λ d. IsWalk c.args.self.now.extent c.args.surface.now c.args.self.now c.look.new.self c.args.cell d c.args.level c.args.rank) here walk))
