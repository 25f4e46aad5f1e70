use Rattle.std.proofs.Common.{arith}
use Rattle.drain_header.proofs.ScannedDigits.{scanned_digits}
use Rattle.drain_header.proofs.decimal.decimal.Goals as goal

pub returns-clause-digits : goal.returns-clause-digits
returns-clause-digits c = scanned_digits c.scan-numeral.result c.if-signed.unsigned.now c.scan-numeral.ensures (omega arith)
