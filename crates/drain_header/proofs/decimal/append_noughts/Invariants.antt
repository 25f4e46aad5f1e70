use Rattle.std.proofs.Common.{◌≡◌, ℕ, ◌-◌, ◌*◌, ◌^◌, min}
use Rattle.drain_header.proofs.decimal.append_noughts.Given as goal

abbrev pub invariant-loop : goal.invariant-loop
invariant-loop l = (n : ℕ) → l.fn.number ≡ min n (2 ^ 128 - 1) → l.value ≡ min (n * 10 ^ l.counter) (2 ^ 128 - 1)
