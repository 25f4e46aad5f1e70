use Rattle.drain_hgt.proofs.Names.{arith, sym, ◌∙◌, written_over}
use Rattle.drain_hgt.proofs.Samples.{all_samples}
use Rattle.drain_hgt.proofs.tile.samples.Goals as goal

pub returns-clause-samples : goal.returns-clause-samples
returns-clause-samples c =
    let v = c.in_ok-samples.samples in
    let written = written_over c.read_i16_into.new.dst v.items v.len (omega arith) (omega arith) in
    written ∙ sym (all_samples c.args.bytes.now c.read_i16_into.new.dst (omega (arith, c.in_ok-samples.ensures.len)) (λ i. omega (arith, c.type_inv.bytes i)) c.read_i16_into.ensures)
