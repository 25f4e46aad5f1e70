use Rattle.drain_pixels.proofs.Names.{◌≡◌, length, AreLower, AreUpper}
use Rattle.drain_pixels.proofs.narrowing.put_halves.Given as goal

-- the halves that were passed are there
abbrev pub invariant-loop-k : goal.invariant-loop-k
invariant-loop-k l = record {
  low_len : length l.low ≡ length l.numbers;
  high_len : length l.high ≡ length l.numbers;
  lower : AreLower l.numbers l.low l.k;
  upper : AreUpper l.numbers l.high l.k;
}
