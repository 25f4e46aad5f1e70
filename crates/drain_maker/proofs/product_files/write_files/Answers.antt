use Rattle.std.proofs.Common.{arith}
use Rattle.drain_maker.proofs.FileLemmas.{set_bytes-listed, set_stops}
use Rattle.drain_maker.proofs.product_files.write_files.Goals as goal

pub write_listed-requires-clause-held : goal.write_listed-requires-clause-held
write_listed-requires-clause-held g c = λ k d below. tt

pub returns-in_default : goal.returns-in_default
returns-in_default g c =
    set_stops g.F.ByteSink c.args.elevations.now c.args.products.now c.args.files.now (omega (arith, c.requires.counted)) (rw c.con_header_on-header.ensures at c.has_text.ensures)

pub returns : goal.returns
returns g c = (
  c.in-Ok.con.items,
  rw c.con_header_on-header.ensures at c.in-Ok.ensures,
  rw (set_bytes-listed c.in-Ok.con.items c.args.elevations.now c.args.products.now) (rw c.deref.ensures.value at c.write_listed.ensures),
)
