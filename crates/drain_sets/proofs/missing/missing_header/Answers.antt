use Rattle.drain_sets.proofs.Names.{rules, subst, DescribesOf, AreWithinBounds, kind_of}
use Rattle.drain_sets.proofs.MissingHeaders.{reads_as_map}
use Rattle.drain_sets.proofs.missing.missing_header.Goals as goal

pub returns-in-Ok-clause-reads : goal.returns-in-Ok-clause-reads
returns-in-Ok-clause-reads c =
    let bounds : AreWithinBounds c.map_header.result = search rules in
    let described : DescribesOf (kind_of c.args.there.now) c.args.there.now c.in-Ok.header =
    subst (λ kind. DescribesOf kind c.args.there.now c.in-Ok.header) c.kind_said.ensures c.in-Ok.ensures.answer in
    reads_as_map c.args.there.now c.in-Ok.header c.map_header.result c.header_text.result (λ text. text.items) c.map_header.ensures bounds described c.header_text.ensures
