-- Sums of whole numbers times powers of two. That the sign of such a sum is found from the greatest powers down, in numbers of
-- few bits, is this project's own.
use Rattle.std.specs.Prelude.{ℕ, ◌+◌, ◌<◌, ◌≤◌, ◌^◌, ◌==◌, nat_lt, ℤ, pos, ◌+ℤ◌, ◌*ℤ◌, ◌≤ℤ◌, neg_ℤ, if◌then◌else◌}
use Rattle.drain_slope.specs.declared.terms.Term.{Term}
use Rattle.drain_slope.specs.declared.terms.Sum.{Sum}

-- a number times a power of two
abbrev pub term_value : Term → ℤ
term_value t = t.number *ℤ pos (2 ^ t.shift)

-- the same of each of five, added
abbrev pub added : (Term → ℤ) → Sum → ℤ
added of s = of s.a +ℤ (of s.b +ℤ (of s.c +ℤ (of s.d +ℤ of s.e)))

-- the sum of five
abbrev pub sum_value : Sum → ℤ
sum_value s = added term_value s

-- its number has at most this size
pub record IsWithin (size : ℕ) (t : Term) : Type 0 where
  pub low : neg_ℤ (pos size) ≤ℤ t.number
  pub high : t.number ≤ℤ pos size

-- so has each of five
pub record AreWithin (size : ℕ) (s : Sum) : Type 0 where
  pub a : IsWithin size s.a
  pub b : IsWithin size s.b
  pub c : IsWithin size s.c
  pub d : IsWithin size s.d
  pub e : IsWithin size s.e

-- each has a lower shift than this
pub record AreBelow (top : ℕ) (s : Sum) : Type 0 where
  pub a : s.a.shift < top
  pub b : s.b.shift < top
  pub c : s.c.shift < top
  pub d : s.d.shift < top
  pub e : s.e.shift < top

-- and none a lower one than this
pub record AreFrom (bottom : ℕ) (s : Sum) : Type 0 where
  pub a : bottom ≤ s.a.shift
  pub b : bottom ≤ s.b.shift
  pub c : bottom ≤ s.c.shift
  pub d : bottom ≤ s.d.shift
  pub e : bottom ≤ s.e.shift

-- a term's number has at most 24 bits, and its shift is at most 7 above this one
pub record IsNear (unit : ℕ) (t : Term) : Type 0 where
  pub few : IsWithin (2 ^ 24) t
  pub from : unit ≤ t.shift
  pub near : t.shift ≤ unit + 7

-- the numbers of the terms of one shift
abbrev pub number_at : ℕ → Term → ℤ
number_at shift t = if t.shift == shift then t.number else pos 0

abbrev pub level_of : ℕ → Sum → ℤ
level_of shift s = added (number_at shift) s

-- what the terms of lower shifts come to
abbrev pub value_below : ℕ → Term → ℤ
value_below shift t = if nat_lt t.shift shift then term_value t else pos 0

abbrev pub rest_of : ℕ → Sum → ℤ
rest_of shift s = added (value_below shift) s
