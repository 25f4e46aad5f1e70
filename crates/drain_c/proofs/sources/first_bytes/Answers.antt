use Rattle.drain_c.proofs.Names.{arith, sym, take_all}
use Rattle.drain_c.proofs.sources.first_bytes.Goals as goal

pub returns-then-header-le-MAX_HEADER_BYTES : goal.returns-then-header-le-MAX_HEADER_BYTES
returns-then-header-le-MAX_HEADER_BYTES c = sym (take_all 65537 c.args.header.now (omega (arith, c.if-header-le-MAX_HEADER_BYTES.true)))
