use Rattle.std.proofs.Common.{◌<◌, ℕ, get_or, length, arith}
use Rattle.drain_raster.proofs.KeptLemmas.{are_spelled}
use Rattle.drain_raster.proofs.range.look_at_bytes.Goals as goal

pub returns : goal.returns
returns c =
    let fit : (i d : ℕ) → i < length c.args.numbers.now → get_or c.args.numbers.now i d < 256 = λ i d less. c.loop-k.invariant i d (omega (arith, less, c.loop-k-test.false)) in
    are_spelled 8 c.args.numbers.now fit
