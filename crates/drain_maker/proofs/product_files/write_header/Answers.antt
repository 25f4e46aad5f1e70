use Rattle.drain_sets.proofs.FileWrites.{any_text-some, no_memory}
use Rattle.drain_maker.proofs.product_files.write_header.Goals as goal

pub returns-in_default : goal.returns-in_default
returns-in_default g c =
    let text = c.has_text.ensures in
    (text.0, text.1, no_memory g.F.ByteSink c.args.to.now text.0 (any_text-some c.args.header.now text.0 text.1))

pub returns : goal.returns
returns g c = (c.in-Ok.text.items, c.in-Ok.ensures, rw c.deref.ensures.value at c.write_text.ensures)
