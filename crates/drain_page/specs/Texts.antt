-- How numbers and lines are written on a page.
use Rattle.std.specs.Prelude.{◌≡◌, ◌≤◌, ◌+◌, ◌-◌, ◌*◌, ◌<◌, ◌++◌, ◌∷◌}
use Rattle.drain_page.specs.Names.{[], length, ℕ, List, codes, Tiling, Token, begin_object, key, string, print}
use Rattle.json.specs.Written.{Written}
use Rattle.drain_page.specs.declared.degrees.TheConstants.{PLACES}
use Rattle.json.specs.Lex.{tokens}

-- A JSON text that is being appended.

-- it stands alone, and has the three tokens with which it begins
pub record IsBegun (text : Written) : Type 0 where
  pub alone : text.before ≡ []
  pub begun : 3 ≤ length text.tokens

-- Degrees to seven places after the point.

-- how many steps make up a degree: from one sample of a tile to the next, along an edge
abbrev pub steps_of : Tiling → ℕ
steps_of t = t.side - 1

-- a number of steps of 1 / steps degree in units of the seventh place: within half a unit, and of two such the greater
pub record IsRounded (count steps places : ℕ) : Type 0 where
  pub low : 2 * (places * steps) ≤ 2 * (count * PLACES) + steps
  pub high : 2 * (count * PLACES) < 2 * (places * steps) + steps

-- JSON on a line of its own.

-- the line feed of ASCII
abbrev pub line_feed : ℕ
line_feed = 10

-- how an object begins whose first member is this answer
abbrev pub answer_head : List ℕ → List Token
answer_head answer = begin_object ∷ key (codes "answer") ∷ string answer ∷ []

-- the text of some tokens and a line feed, which reads back as these tokens: first the head, then the other members
pub record IsJsonLine (head : List Token) (line : List ℕ) : Type 0 where
  pub written : List Token
  pub members : List Token
  pub head_first : written ≡ head ++ members
  pub text : line ≡ print written ++ line_feed ∷ []
  pub reads_back : tokens (print written) ≡ written

-- an object with this answer, on a line of its own
abbrev pub IsAnswerLine : List ℕ → List ℕ → Type 0
IsAnswerLine answer line = IsJsonLine (answer_head answer) line
