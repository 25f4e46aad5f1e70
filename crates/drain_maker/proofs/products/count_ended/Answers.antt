use Rattle.drain_maker.proofs.Names.{bytes_flows, all_end}
use Rattle.drain_maker.proofs.products.count_ended.Goals as goal

pub accumulate_codes-requires-clause-ends : goal.accumulate_codes-requires-clause-ends
accumulate_codes-requires-clause-ends c =
    let known = c.requires.ends in
    all_end c.args.shape (bytes_flows c.args.codes.now) known.0 known.1 known.2 known.3
