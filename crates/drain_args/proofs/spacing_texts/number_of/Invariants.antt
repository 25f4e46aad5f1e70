use Rattle.drain_args.proofs.Names.{◌≡◌, ◌-◌, ◌^◌, min, take, true, list_all, is_ascii_digit, digits_value}
use Rattle.drain_args.proofs.spacing_texts.number_of.Given as goal

-- the value is that of the digits passed
abbrev pub invariant-loop-byte : goal.invariant-loop-byte
invariant-loop-byte l = (list_all is_ascii_digit l.word ≡ true) × (l.value ≡ min (digits_value 10 (take l.byte-index l.word)) (2 ^ 64 - 1))
