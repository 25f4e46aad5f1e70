use Rattle.drain_c.proofs.Names.{◌≡◌, ◌++◌, ◌∷◌, [], arith, rules, bytes_left-value}
use Rattle.drain_c.proofs.Spelling.{one_tile_more}
use Rattle.drain_c.proofs.sources.tile_inputs.Goals as goal

pub loop-tile-preserved : goal.loop-tile-preserved
loop-tile-preserved c =
    let pushed : c.push.new.self.items ≡ c.loop-tile.tiles.items ++ c.in_ok-input.input ∷ [] = search rules in
    rw pushed (one_tile_more bytes_left-value.it c.args.given.now c.loop-tile.tiles.items c.loop-tile.tile-index _ c.in_ok-input.input
    (omega (arith, c.loop-tile-test.true)) c.loop-tile.invariant c.in_ok-input.ensures.same)
