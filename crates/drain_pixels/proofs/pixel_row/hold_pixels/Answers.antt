use Rattle.std.proofs.Common.{arith}
use Rattle.drain_pixels.proofs.PixelBounds.{all_pixels}
use Rattle.drain_pixels.proofs.pixel_row.hold_pixels.Goals as goal

pub returns : goal.returns
returns c = all_pixels c.args.kind c.args.bytes.now (λ k. omega (arith, c.type_inv.bytes k))
