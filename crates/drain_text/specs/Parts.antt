-- Steps along a text: its first line and its first word.
use Rattle.std.specs.Prelude.{◌≡◌, ℕ, List, [], ◌∷◌, ◌||◌, ◌==◌, not, Bool, Option, Some, None}
use Rattle.drain_text.specs.Text.{lines_of}

-- a line is the text's first, and the rest is the text after its line feed, where it has one
abbrev pub IsFirstLine : List ℕ → List ℕ → Option (List ℕ) → Type 0
IsFirstLine text line None = lines_of text ≡ line ∷ []
IsFirstLine text line (Some rest) = lines_of text ≡ line ∷ lines_of rest

-- a space or a tab
abbrev pub is_blank : ℕ → Bool
is_blank byte = byte == 32 || byte == 9

-- no space and no tab
abbrev pub is_inked : ℕ → Bool
is_inked byte = not (is_blank byte)
