use Rattle.drain_maker.proofs.Names.{bytes_flows, all_end}
use Rattle.drain_maker.proofs.products.label_ended.Goals as goal

pub label_ended_codes-requires-clause-ends : goal.label_ended_codes-requires-clause-ends
label_ended_codes-requires-clause-ends c =
    let known = c.requires.ends in
    all_end c.args.shape (bytes_flows c.args.codes.now) known.0 known.1 known.2 known.3
