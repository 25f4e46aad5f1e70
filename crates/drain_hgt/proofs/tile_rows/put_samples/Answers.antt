use Rattle.std.proofs.Common.{arith, sym}
use Rattle.drain_hgt.proofs.Samples.{all_samples, sample_put}
use Rattle.drain_hgt.proofs.tile_rows.put_samples.Goals as goal

pub loop-k-preserved : goal.loop-k-preserved
loop-k-preserved c = sample_put c.args.bytes.now c.loop-k.out c.loop-k.k c.sample.result (omega arith) c.sample.ensures.value c.sample.ensures.in_range c.loop-k.invariant

pub returns-clause-items : goal.returns-clause-items
returns-clause-items c =
    sym (all_samples c.args.bytes.now c.loop-k.out (omega arith) (λ i. omega (arith, c.type_inv.bytes i)) (λ d k h. (c.loop-k.invariant d k (omega arith)).value))

pub returns-clause-samples : goal.returns-clause-samples
returns-clause-samples c = λ k d less. (c.loop-k.invariant d k (omega arith)).in_range
