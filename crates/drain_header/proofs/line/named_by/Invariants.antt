use Rattle.drain_header.proofs.Names.{drop, find, keys, key_name, named_key, reads}
use Rattle.std.proofs.Common.{◌≡◌}
use Rattle.drain_header.proofs.line.named_by.Given as goal

abbrev pub invariant-loop-key : goal.invariant-loop-key
invariant-loop-key l = named_key l.word ≡ find (λ key. reads (key_name key) l.word) (drop l.key-index keys)
