-- Where places are laid on one another all over a box, from its first judged row to its last, each cell that it judges is
-- judged once.
use Rattle.drain_merge.proofs.Names.{◌≡◌, ℕ, zero, suc, ◌+◌, ◌-◌, ◌<◌, ◌≤◌, inl, inr, List, [], ◌∷◌, length, slice_index, slice_index_or, take, refl, ap, ◌∙◌, subst, arith, AllPairs, Contains, sum_by, IsNonDecreasing, IsPermutation, get_or_default, length-take-le, All-contains, Contains-get_or, Contains-permutation, sum_by-IsPermutation, sum_by-cons, sum_by_more, sum_by-take-le, get_or-le-sum_by, Cell, cases, less_number, Place, BothJudgeOne, IsJudgedAt, IsJudgedAtSome, judged_top, judged_left, judged_bottom, judged_right, within_edges, AreEndsOf, AreLaid, Fill, IsBetweenEnds, ReachAllOver, times, within}
use Rattle.std.proofs.lemmas.List.{get_or-take}
use Rattle.drain_merge.proofs.Layers.{judged_times, times_judged, within_cases, within_one}

-- Terms of a sum.

-- where a sum isn't zero, neither is some term
some_counts : {X : Type 0} (f : X → ℕ) (xs : List X) → 0 < sum_by f xs → (x : X) × Contains xs x × (0 < f x)
some_counts f [] some = absurd (omega arith)
some_counts f (x ∷ xs) some =
    elim (cases (less_number 0 (f x))) [
      | inl here ↦ (x, (0, omega arith, refl), here)
      | inr none ↦
          (let rest = some_counts f xs (omega (arith, sum_by-cons f x xs, some, none)) in
          (rest.0, (suc rest.1.0, omega (arith, rest.1.1), rest.1.2), rest.2))
    ]

-- two terms that are one make two
two_count : {X : Type 0} (f : X → ℕ) (xs : List X) (i j : ℕ) (d : X) → i < j → j < length xs → f (slice_index_or xs i d) ≡ 1 →
    f (slice_index_or xs j d) ≡ 1 → 1 < sum_by f xs
two_count f xs i j d less below first second =
    let part : length (take j xs) ≡ j = length-take-le j xs (omega arith) in
    let before = get_or-le-sum_by f (take j xs) i d (omega arith) in
    let same = ap f (get_or-take j xs i d less) in
    let more = sum_by_more f xs j d below in
    let all = sum_by-take-le f xs (j + 1) in
    omega (arith, before, same, more, all, first, second)

-- a number from the first one up to one of others lies from one of them up to the next
abbrev IsPart : List ℕ → ℕ → ℕ → Type 0
IsPart ends x k = (k + 1 < length ends) × (slice_index ends k ≤ x) × (x < slice_index ends (k + 1))

part_upto : (ends : List ℕ) (x j : ℕ) → slice_index ends 0 ≤ x → x < slice_index ends j → j < length ends → (k : ℕ) × IsPart ends x k
part_upto ends x zero low high inside = absurd (omega arith)
part_upto ends x (suc j) low high inside =
    elim (cases (less_number x (slice_index ends j))) [
      | inl earlier ↦ part_upto ends x j low earlier (omega arith)
      | inr here ↦
          (let next : suc j ≡ j + 1 = omega arith in
          (j, (omega arith, omega arith, subst (λ n. x < slice_index ends n) next high)))
    ]

module _ (box : Place) (places sorted : List Place) (ends levels : List ℕ) (theirs : IsPermutation places sorted) (rising : IsNonDecreasing ends)
    (ends_are : AreEndsOf box ends) (laid : AreLaid (judged_top box) ends levels sorted) (reach : ReachAllOver ends (judged_bottom box) levels) where
  total : (c : Cell) → sum_by (times c) sorted ≡ sum_by (times c) places
  total c = sum_by-IsPermutation (times c) places sorted theirs

  whole : (c : Cell) → IsJudgedAt box c → IsJudgedAtSome places c
  whole c judged =
      let at = within_edges box c judged in
      let some_ends : 0 < length ends = ends_are.some in
      let found = part_upto ends c.col (length ends - 1) (omega (arith, ends_are.first, at.left)) (omega (arith, ends_are.last, at.right)) (omega arith) in
      let k = found.0 in
      let once = laid.once k c found.1.0 found.1.1 found.1.2 in
      let level = ap (λ (n : ℕ). within (judged_top box) n c.row) (reach k found.1.0) in
      let one = within_one (judged_top box) (judged_bottom box) c.row at.top at.bottom in
      let some = some_counts (times c) places (omega (arith, total c, once, level, one)) in
      (some.0, some.1, judged_times some.0 c some.2)

  -- a cell that is judged at one of the places lies in some part
  in_part : (p : Place) (c : Cell) → Contains places p → IsJudgedAt p c → (k : ℕ) × IsPart ends c.col k
  in_part p c has judged =
      let at = within_edges p c judged in
      let between : IsBetweenEnds ends p = All-contains (IsBetweenEnds ends) sorted p laid.between (Contains-permutation places sorted p theirs has) in
      let i = between.from.0 in
      let j = between.to.0 in
      let from = get_or_default ends i 0 (judged_left p) between.from.1 ∙ between.from.2 in
      let to = get_or_default ends j 0 (judged_right p) between.to.1 ∙ between.to.2 in
      let first = rising 0 i 0 (omega arith) between.from.1 in
      part_upto ends c.col j (omega (arith, first, from, at.left)) (omega (arith, to, at.right)) between.to.1

  apart : AllPairs (λ p q. ¬ BothJudgeOne p q) places
  apart i j d less below both =
      let c = both.0 in
      let p = slice_index_or places i d in
      let q = slice_index_or places j d in
      let inside : i < length places = omega arith in
      let found = in_part p c (Contains-get_or places i d inside) both.1 in
      let once = laid.once found.0 c found.1.0 found.1.1 found.1.2 in
      let two = two_count (times c) places i j d less below (times_judged p c both.1) (times_judged q c both.2) in
      elim (within_cases (judged_top box) (slice_index levels found.0) c.row) [
        | inl one ↦ omega (arith, total c, once, two, one.0)
        | inr none ↦ omega (arith, total c, once, two, none)
      ]

  pub filled : Fill box places
  filled = record { apart = apart; whole = whole }
