use Rattle.drain_pixels.proofs.Names.{◌≡◌, length, AreCapped}
use Rattle.drain_pixels.proofs.narrowing.put_capped.Given as goal

-- the numbers that were passed are there
abbrev pub invariant-loop-k : goal.invariant-loop-k
invariant-loop-k l = record {
  len : length l.out ≡ length l.numbers;
  capped : AreCapped l.numbers l.out l.k;
}
