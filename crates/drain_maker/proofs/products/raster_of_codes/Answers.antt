use Rattle.drain_maker.proofs.Names.{◌<◌, ℕ, pos, false, map, length, get_or, rules, CanSpellIn, are_spelled, at_each_cell}
use Rattle.std.specs.List.{All}
use Rattle.drain_maker.proofs.products.raster_of_codes.Goals as goal

pub returns-clause-spelled : goal.returns-clause-spelled
returns-clause-spelled c =
    let fit : (i d : ℕ) → i < length c.args.codes.items → get_or c.args.codes.items i d < 256 = search rules in
    let each : All (CanSpellIn false 8) (map (λ n. pos n) c.args.codes.items) = are_spelled 8 c.args.codes.items fit in
    at_each_cell (CanSpellIn false 8) c.of_bytes.result (search rules) (rw c.of_bytes.ensures each)
