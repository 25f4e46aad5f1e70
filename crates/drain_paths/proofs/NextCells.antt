-- Codes that lead nowhere: such as are no codes, and such as lead outside or to a void.
use Rattle.drain_paths.proofs.Names.{◌≡◌, ◌≢◌, ◌∙◌, inl, inr, ℤ, pos, if◌then◌else◌, Option, Some, None, IsNone, is_some, option_and_then, refl, sym, ap, false≢true, Cell, Direction, IsCode, directions, Names, names, named_direction, step, Grid, Products, only_data, next, names_fact, named_direction-code, find_passes, none_some}

-- the direction that a number names is named by it
pub named_direction-names : (n : ℤ) (d : Direction) → named_direction n ≡ Some d → Names n d
named_direction-names n d h = (names_fact n d).0 (find_passes (names n) directions d h)

-- a code that names no direction leads nowhere
pub next-unnamed : (g : Grid) (ps : Products) (c : Cell) → named_direction (ps.dir c) ≡ None → next g ps c ≡ None
next-unnamed g ps c named = ap (λ o. option_and_then (only_data g) (option_and_then (step g.extent c) o)) named

-- a number that names no direction, and isn't 0, is no code
pub no_code : (number : ℤ) → named_direction number ≡ None → number ≢ pos 0 → ¬ IsCode number
no_code number unnamed other code = elim code [
  | inl zero ↦ other zero
  | inr named ↦ none_some named.0 (sym unnamed ∙ named_direction-code number named.0 named.1)
]

-- so it leads nowhere
pub next-of_no_code : (g : Grid) (ps : Products) (c : Cell) → ¬ IsCode (ps.dir c) → next g ps c ≡ None
next-of_no_code g ps c not_code = by_name (named_direction (ps.dir c)) refl
  where
    by_name : (o : Option Direction) → named_direction (ps.dir c) ≡ o → next g ps c ≡ None
    by_name None is = next-unnamed g ps c is
    by_name (Some d) is = absurd (not_code (inr (d, named_direction-names (ps.dir c) d is)))

-- nor does one that leads outside
pub next-outside : (g : Grid) (ps : Products) (c : Cell) (d : Direction) → Names (ps.dir c) d → step g.extent c d ≡ None →
    next g ps c ≡ None
next-outside g ps c d named outside =
    ap (λ o. option_and_then (only_data g) (option_and_then (step g.extent c) o)) (named_direction-code (ps.dir c) d named)
    ∙ ap (option_and_then (only_data g)) outside

-- or to a void
pub next-void : (g : Grid) (ps : Products) (c n : Cell) (d : Direction) → Names (ps.dir c) d → step g.extent c d ≡ Some n →
    IsNone (g.elevation n) → next g ps c ≡ None
next-void g ps c n d named there void =
    ap (λ o. option_and_then (only_data g) (option_and_then (step g.extent c) o)) (named_direction-code (ps.dir c) d named)
    ∙ ap (option_and_then (only_data g)) there
    ∙ nothing (g.elevation n) void
  where
    nothing : (z : Option ℤ) → IsNone z → (if is_some z then Some n else None) ≡ None
    nothing None h = refl
    nothing (Some z) h = absurd (false≢true (sym h))
