use Rattle.drain_args.proofs.Decimals.{units_matched}
use Rattle.drain_args.proofs.spacing_texts.units_named.Goals as goal

pub returns : goal.returns
returns c = units_matched c.args.text.now c.parts.result.0.now c.parts.result.1.now c.units_of.result c.parts.ensures (rw (c.as_bytes.ensures.value, c.as_bytes-2.ensures.value) at c.units_of.ensures)
