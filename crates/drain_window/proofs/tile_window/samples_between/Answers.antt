use Rattle.std.proofs.Common.{◌-◌, ◌*◌, ◌≤◌, arith}
use Rattle.std.proofs.Math.Nat.{mul-le-mul_right}
use Rattle.drain_window.proofs.tile_window.samples_between.Goals as goal

pub returns-clause-few : goal.returns-clause-few
returns-clause-few c =
    let few : c.from.result ≤ 65535 = omega (arith, c.from.ensures, c.unsigned_abs.type_inv) in
    let most : c.from.result * (c.args.side - 1) ≤ 65535 * (c.args.side - 1) = mul-le-mul_right (c.args.side - 1) few in
    omega (arith, most, c.requires.side.most)
