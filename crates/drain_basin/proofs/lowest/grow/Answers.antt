use Rattle.drain_basin.proofs.Names.{◌∙◌, ap, max, high_bit, low_bit}
use Rattle.drain_basin.proofs.Bits.{low_longer, whole}
use Rattle.drain_basin.proofs.lowest.grow.Goals as goal

pub returns-in-Ok-clause-bits : goal.returns-in-Ok-clause-bits
returns-in-Ok-clause-bits c p =
    ap (λ xs. max (low_bit xs p) (high_bit c.take_blocks.new.high.entries p))
    (whole c.take_blocks.new.low _ c.resize.new.self.len (c.take_blocks.ensures.len ∙ c.deref_mut.ensures.len))
    ∙ (c.take_blocks.ensures.bits p
    ∙ ap (λ l. max l (high_bit c.args.high.now.entries p))
    (ap (λ xs. low_bit xs p) c.deref_mut.ensures.value ∙ low_longer c.args.low.now.items c.resize.new.self.items c.args.words _ c.requires c.in-Ok.ensures.items p))
