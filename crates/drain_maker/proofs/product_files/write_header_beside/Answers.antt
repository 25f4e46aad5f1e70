use Rattle.drain_maker.proofs.Names.{List, ℕ, subst, WritesFile}
use Rattle.drain_maker.proofs.product_files.write_header_beside.Goals as goal

-- such a header is of whole heights, so it has one text
pub returns : goal.returns
returns g c =
    let wrote = rw c.header_beside.ensures at c.write_header.ensures in
    subst (λ (text : List ℕ). WritesFile g.F.ByteSink c.args.to.now c.write_header.new.to text c.write_header.result) wrote.1 wrote.2
