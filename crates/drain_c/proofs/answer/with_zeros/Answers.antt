use Rattle.drain_c.proofs.Names.{◌++◌, length, ap, drop-replicate}
use Rattle.drain_c.proofs.answer.with_zeros.Goals as goal

pub returns : goal.returns
returns c = rw c.copy_from_slice.ensures.after (ap (λ zeros. c.args.bytes.now ++ zeros) (drop-replicate (length c.args.bytes.now) 164 0))
