use Rattle.drain_text.proofs.Names.{◌≡◌, ◌-◌, ◌^◌, min, drop, take, list_all, is_ascii_digit, digits_value}
use Rattle.drain_text.proofs.numbers.whole_number.Given as goal

abbrev pub invariant-loop-byte : goal.invariant-loop-byte
invariant-loop-byte l = (list_all is_ascii_digit l.word ≡ list_all is_ascii_digit (drop l.byte-index l.word)) × (l.value ≡ min (digits_value 10 (take l.byte-index l.word)) (2 ^ 64 - 1))
