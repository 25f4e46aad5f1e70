-- Reading a header's lines one after another: the values of the keywords so far, or the first fault of a line.
use Rattle.std.specs.Prelude.{◌+◌, ◌∷◌, if◌then◌else◌}
use Rattle.drain_header.specs.Names.{ℕ, List, [], Option, Some, None, is_some, option_and_then, Result, Ok, Err, slice_index_or, slice_set, replicate, HeightKind}
use Rattle.drain_header.specs.declared.key.Key.{Key}
use Rattle.drain_header.specs.declared.value.Value.{Value}
use Rattle.drain_header.specs.declared.fault.HeaderFault.{HeaderFault}
use Rattle.drain_header.specs.declared.fault.HeaderFault.TheVariants.{RepeatedKey, BadValue}
use Rattle.drain_header.specs.Lines.{key_order, line_key, line_value}
use Rattle.drain_header.specs.Header.{value_read}

-- the value of each keyword so far, at the keyword's place in the table
abbrev pub Seen : Type 0
Seen = List (Option Value)

-- no line so far has a keyword
abbrev pub nothing : Seen
nothing = replicate 15 None

-- a keyword's value after line n, which has the keyword
abbrev pub with_value : Seen → ℕ → Key → Option Value → Result Seen HeaderFault
with_value seen n key None = Err (BadValue n)
with_value seen n key (Some value) = Ok (slice_set seen (key_order key) (Some value))

-- line n has this keyword, if any, and this second word, if any
abbrev pub with_key : HeightKind → Seen → ℕ → Option Key → Option (List ℕ) → Result Seen HeaderFault
with_key kind seen n None word = Ok seen
with_key kind seen n (Some key) word =
    if is_some (slice_index_or seen (key_order key) None) then Err (RepeatedKey n)
    else with_value seen n key (option_and_then (value_read kind key) word)

-- what line n adds
abbrev pub with_header_line : HeightKind → Seen → ℕ → List ℕ → Result Seen HeaderFault
with_header_line kind seen n line = with_key kind seen n (line_key line) (line_value line)

-- what comes next, unless a line had a fault
abbrev pub follow : Result Seen HeaderFault → (Seen → Result Seen HeaderFault) → Result Seen HeaderFault
follow (Ok seen) next = next seen
follow (Err fault) next = Err fault

-- what lines add, of which the first is line n
abbrev pub with_lines : HeightKind → Seen → ℕ → List (List ℕ) → Result Seen HeaderFault
with_lines kind seen n [] = Ok seen
with_lines kind seen n (line ∷ lines) = follow (with_header_line kind seen n line) (λ next. with_lines kind next (n + 1) lines)
