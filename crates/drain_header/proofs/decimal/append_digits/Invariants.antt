use Rattle.std.proofs.Common.{◌≡◌, ℕ, ◌-◌, ◌^◌, min, take}
use Rattle.std.specs.Str.Parse.{digits_value_after}
use Rattle.drain_header.proofs.decimal.append_digits.Given as goal

abbrev pub invariant-loop-digit : goal.invariant-loop-digit
invariant-loop-digit l = (n : ℕ) → l.fn.number ≡ min n (2 ^ 128 - 1) → l.value ≡ min (digits_value_after 10 n (take l.digit-index l.digits)) (2 ^ 128 - 1)
