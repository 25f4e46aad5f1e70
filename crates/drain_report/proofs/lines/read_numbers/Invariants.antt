use Rattle.drain_report.proofs.Names.{◌≡◌, ◌++◌, ℕ, ℤ, List, take, length, spaced, AreLong, AreNumbersThen}
use Rattle.drain_report.proofs.ReadLemmas.{IsLeft}
use Rattle.drain_report.proofs.lines.read_numbers.Given as goal

abbrev pub invariant-loop-k : goal.invariant-loop-k
invariant-loop-k l = record {
  len : length l.numbers ≡ length l.initial.numbers;
  sound : l.text ≡ spaced (take l.k l.numbers) ++ l.rest;
  long : AreLong (take l.k l.numbers);
  back : (ns : List ℤ) (e : ℕ) (rest : List ℕ) → length ns ≡ length l.initial.numbers → AreNumbersThen l.text ns e rest → IsLeft ns (take l.k l.numbers) l.rest e rest;
}
