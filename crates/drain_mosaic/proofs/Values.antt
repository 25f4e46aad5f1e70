-- The values of a cell, with one tile more.
use Rattle.drain_mosaic.proofs.Names.{◌≡◌, ◌≢◌, zero, suc, ℤ, List, [], ◌∷◌, ◌++◌, Option, Some, arith, refl, sym, ap, ◌∙◌, inl, inr, true, false, int_eq, ◌⊎◌, option_or, false≢true, Decides-int_eq, get_or_append_left, same_Some, Cell, Tiling, Tile, ShowsSample, IsValue, HasTwoValues, value_from, first_value}
use Rattle.std.proofs.Common.{None}
use Rattle.std.proofs.lemmas.List.{length-append}
use Rattle.std.proofs.lemmas.List.Quantifiers.{Any-push}
use Rattle.drain_mosaic.proofs.Agreement.{gives_from, from_gives, value_of_first, is_some_first, any_here, any_later}

pub or_none : {A : Type 0} (o : Option A) → option_or o None ≡ o
or_none (Some x) = refl
or_none None = refl

pub or_assoc : {A : Type 0} (a b d : Option A) → option_or a (option_or b d) ≡ option_or (option_or a b) d
or_assoc (Some x) b d = refl
or_assoc None b d = refl

-- the first value with one tile more
pub first_value_push : (t : Tiling) (ts : List Tile) (tile : Tile) (c : Cell) → first_value t (ts ++ tile ∷ []) c ≡ option_or (first_value t ts c) (value_from t tile c)
first_value_push t [] tile c = or_none (value_from t tile c)
first_value_push t (s ∷ ts) tile c = ap (option_or (value_from t s c)) (first_value_push t ts tile c) ∙ or_assoc (value_from t s c) (first_value t ts c) (value_from t tile c)

-- a value with one tile more is one of the tiles before, or the tile gives it
is_value_push : (t : Tiling) (ts : List Tile) (tile : Tile) (c : Cell) (v : ℤ) → IsValue t (ts ++ tile ∷ []) c v → IsValue t ts c v ⊎ (value_from t tile c ≡ Some v)
is_value_push t [] tile c v (zero, x, below, at, gives) = inr (from_gives t tile c v (rw at gives))
is_value_push t [] tile c v (suc k, x, below, at, gives) = absurd (omega arith)
is_value_push t (s ∷ ts) tile c v (zero, x, below, at, gives) = inl (any_here (λ s. ShowsSample t s c v) s ts (rw at gives))
is_value_push t (s ∷ ts) tile c v (suc k, x, below, at, gives) = elim (is_value_push t ts tile c v (k, x, omega arith, at, gives)) [
  | inl is ↦ inl (any_later (λ s. ShowsSample t s c v) s ts is)
  | inr from ↦ inr from
]

is_value_keep : (t : Tiling) (ts more : List Tile) (c : Cell) (v : ℤ) → IsValue t ts c v → IsValue t (ts ++ more) c v
is_value_keep t ts more c v (k, x, below, at, gives) = (k, x, omega (arith, length-append ts more), get_or_append_left ts more x k below ∙ at, gives)

is_value_last : (t : Tiling) (ts : List Tile) (tile : Tile) (c : Cell) (v : ℤ) → value_from t tile c ≡ Some v → IsValue t (ts ++ tile ∷ []) c v
is_value_last t ts tile c v from = Any-push (λ s. ShowsSample t s c v) ts tile (gives_from t tile c v from)

-- the tile gives the cell another value than the first
pub record GivesAnother (t : Tiling) (ts : List Tile) (tile : Tile) (c : Cell) : Type 0 where
  pub one : ℤ
  pub other : ℤ
  pub first : first_value t ts c ≡ Some one
  pub from : value_from t tile c ≡ Some other
  pub differ : one ≢ other

pub two_keep : (t : Tiling) (ts more : List Tile) (c : Cell) → HasTwoValues t ts c → HasTwoValues t (ts ++ more) c
two_keep t ts more c h = record {
  one = h.one;
  other = h.other;
  is_one = is_value_keep t ts more c h.one h.is_one;
  is_other = is_value_keep t ts more c h.other h.is_other;
  differ = h.differ;
}

pub two_new : (t : Tiling) (ts : List Tile) (tile : Tile) (c : Cell) → GivesAnother t ts tile c → HasTwoValues t (ts ++ tile ∷ []) c
two_new t ts tile c h = record {
  one = h.one;
  other = h.other;
  is_one = is_value_keep t ts (tile ∷ []) c h.one (value_of_first t ts c h.one h.first);
  is_other = is_value_last t ts tile c h.other h.from;
  differ = h.differ;
}

-- a value of the tiles before and another of this tile: the first value differs from one of them
one_of_each : (t : Tiling) (ts : List Tile) (tile : Tile) (c : Cell) (v w : ℤ) → v ≢ w → IsValue t ts c v → value_from t tile c ≡ Some w → HasTwoValues t ts c ⊎ GivesAnother t ts tile c
one_of_each t ts tile c v w differ is from =
    let first = is_some_first t ts c v is in
    let u = first.0 in
    elim (int_eq u w) as (λ b. int_eq u w ≡ b → HasTwoValues t ts c ⊎ GivesAnother t ts tile c) [
      | true ↦ λ e. inl (record { one = v; other = u; is_one = is; is_other = value_of_first t ts c u first.1; differ = λ p. differ (p ∙ (Decides-int_eq u w).0 e) })
      | false ↦ λ e. inr (record { one = u; other = w; first = first.1; from = from; differ = λ p. false≢true (sym e ∙ (Decides-int_eq u w).1 p) })
    ] refl

pub two_split : (t : Tiling) (ts : List Tile) (tile : Tile) (c : Cell) → HasTwoValues t (ts ++ tile ∷ []) c → HasTwoValues t ts c ⊎ GivesAnother t ts tile c
two_split t ts tile c h = cases (is_value_push t ts tile c h.one h.is_one) (is_value_push t ts tile c h.other h.is_other)
  where
    cases : IsValue t ts c h.one ⊎ (value_from t tile c ≡ Some h.one) → IsValue t ts c h.other ⊎ (value_from t tile c ≡ Some h.other) → HasTwoValues t ts c ⊎ GivesAnother t ts tile c
    cases (inl a) (inl b) = inl (record { one = h.one; other = h.other; is_one = a; is_other = b; differ = h.differ })
    cases (inl a) (inr b) = one_of_each t ts tile c h.one h.other h.differ a b
    cases (inr a) (inl b) = one_of_each t ts tile c h.other h.one (λ p. h.differ (sym p)) b a
    cases (inr a) (inr b) = absurd (h.differ (same_Some h.one h.other (sym a ∙ b)))
