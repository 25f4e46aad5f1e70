use Rattle.drain_flood.proofs.Names.{◌∙◌, arith, to_z-of_z}
use Rattle.std.specs.Int.{w16}
use Rattle.drain_flood.proofs.PushLemmas.{after_first, after_behind, last_below}
use Rattle.drain_flood.proofs.Turning.{rising}
use Rattle.drain_flood.proofs.level_queue.LevelQueue.push.Goals as goal
use Rattle.drain_flood.proofs.level_queue.LevelQueue.push.Goals.{then-index, else-index}

pub index_mut-requires-else-index : goal.index_mut-requires-else-index
index_mut-requires-else-index c =
    let below = last_below _ _ _ _ _ _ 0 _ _ c.self.invariant c.place_of-place.ensures.within c.self.view_is c.requires.is_cell c.requires.not_held
    (c.place_of-place.ensures.level ∙ to_z-of_z w16 c.args.level c.ranges.level) (omega arith) (omega arith) _ _ c.index.ensures c.if-index.false c.index-else-index.ensures in
    omega (arith, c.self.inside.behind.ok, below)

pub invariant_of-self : goal.invariant_of-self
invariant_of-self c =
    elim c.if-index.branch [
      | then-index w ↦
          let lowest = rw w.self-inside-is at c.min-self-inside.ensures in
          rw w.self-inside-is
          (after_first _ _ _ _ _ _ c.min-self-inside.result _ _ c.self.invariant c.place_of-place.ensures.within c.self.view_is c.requires.is_cell c.requires.not_held
          (c.place_of-place.ensures.level ∙ to_z-of_z w16 c.args.level c.ranges.level) (omega (arith, lowest)) (omega (arith, lowest)) _ c.index.ensures w.if-index.true).linked
      | else-index w ↦
          let lowest = rw w.self-inside-is at c.min-self-inside.ensures in
          rw w.self-inside-is
          (after_behind _ _ _ _ _ _ c.min-self-inside.result _ _ c.self.invariant c.place_of-place.ensures.within c.self.view_is c.requires.is_cell c.requires.not_held
          (c.place_of-place.ensures.level ∙ to_z-of_z w16 c.args.level c.ranges.level) (omega (arith, lowest)) (omega (arith, lowest)) _ _ c.index.ensures w.if-index.false w.index-else-index.ensures).linked
    ]

pub returns-clause-pairs : goal.returns-clause-pairs
returns-clause-pairs c =
    elim c.if-index.branch [
      | then-index w ↦ rw w.self-inside-is
          (after_first _ _ _ _ _ _ 0 _ _ c.self.invariant c.place_of-place.ensures.within c.self.view_is c.requires.is_cell c.requires.not_held
          (c.place_of-place.ensures.level ∙ to_z-of_z w16 c.args.level c.ranges.level) (omega arith) (omega arith) _ c.index.ensures w.if-index.true).pairs
      | else-index w ↦ rw w.self-inside-is
          (after_behind _ _ _ _ _ _ 0 _ _ c.self.invariant c.place_of-place.ensures.within c.self.view_is c.requires.is_cell c.requires.not_held
          (c.place_of-place.ensures.level ∙ to_z-of_z w16 c.args.level c.ranges.level) (omega arith) (omega arith) _ _ c.index.ensures w.if-index.false w.index-else-index.ensures).pairs
    ]

pub returns-clause-rising : goal.returns-clause-rising
returns-clause-rising c = rising _ _
