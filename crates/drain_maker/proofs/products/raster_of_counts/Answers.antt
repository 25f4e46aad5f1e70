use Rattle.drain_maker.proofs.Names.{◌<◌, ℕ, pos, false, map, length, get_or, rules, CanSpellIn, are_spelled, at_each_cell}
use Rattle.std.specs.List.{All}
use Rattle.drain_maker.proofs.products.raster_of_counts.Goals as goal

pub returns-clause-spelled : goal.returns-clause-spelled
returns-clause-spelled c =
    let fit : (i d : ℕ) → i < length c.args.counts.items → get_or c.args.counts.items i d < 4294967296 = search rules in
    let each : All (CanSpellIn false 32) (map (λ n. pos n) c.args.counts.items) = are_spelled 32 c.args.counts.items fit in
    at_each_cell (CanSpellIn false 32) c.of_counts.result (search rules) (rw c.of_counts.ensures each)
