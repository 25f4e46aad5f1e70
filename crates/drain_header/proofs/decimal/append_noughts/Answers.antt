use Rattle.std.proofs.Common.{ℕ, ◌≡◌, ◌+◌, ◌^◌, suc, ◌*◌, arith, ap}
use Rattle.std.proofs.Math.Nat.{pow-suc}
use Rattle.drain_header.proofs.decimal.append_noughts.Goals as goal

pub loop-preserved : goal.loop-preserved
loop-preserved c n is =
    let next : c.loop.counter + 1 ≡ suc c.loop.counter = omega arith in
    omega (arith, ap (λ (k : ℕ). n * 10 ^ k) next, c.loop.invariant n is, ap (λ (x : ℕ). n * x) (pow-suc 10 c.loop.counter))
