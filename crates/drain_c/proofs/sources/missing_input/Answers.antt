use Rattle.drain_c.proofs.Names.{rules, subst}
use Rattle.drain_c.proofs.MissingRasters.{of_first_bytes}
use Rattle.drain_sets.specs.Missing.{IsMissingText, ReadsAsMap}
use Rattle.drain_c.proofs.sources.missing_input.Goals as goal

pub returns-clause-same : goal.returns-clause-same
returns-clause-same c header is =
    let text : IsMissingText c.first_bytes.result.now c.in-Ok.text.items = search rules in
    let reads : ReadsAsMap c.first_bytes.result.now c.in-Ok.text.items = search rules in
    let found = of_first_bytes c.args.con.now.header.bytes.now header c.in-Ok.text.items is (subst (λ t. IsMissingText t c.in-Ok.text.items) c.first_bytes.ensures text) (subst (λ t. ReadsAsMap t c.in-Ok.text.items) c.first_bytes.ensures reads) in
    (cc, search rules)
