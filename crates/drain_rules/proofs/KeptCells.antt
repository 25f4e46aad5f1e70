-- Cleared cells are passed at once: no rule fails at them, and they are no outlets.
use Rattle.drain_rules.proofs.Names.{◌≡◌, ◌≢◌, ℕ, zero, suc, ℤ, ◌+◌, ◌-◌, ◌<◌, ◌≤◌, Bool, cond, true, false, is_some, IsSome, pos, Option, Some, None, map, refl, sym, ◌∙◌, ap, subst, arith, range_with_len, count_by-le-length, sum_by-map-range_with_len_more, length-map-range_with_len, Patch, Judged, Grid, Products, Profile, IsKept, Kept, Tally, shows_raised, raised_between, AreRowPatches, IsAtMost, CountsAlong, IsTriedIf}
use Rattle.std.proofs.Common.{◌&&◌}
use Rattle.std.specs.Ordering.{int_eq}
use Rattle.std.proofs.lemmas.Bool.Decides.{Decides-int_eq}
use Rattle.drain_rules.proofs.PassedCells.{IsPassed, no_outlet-holds, passed-more}
use Rattle.drain_rules.proofs.RowLemmas.{CountsAlong-more}

-- how many are raised, with one column more
pub raised_between-none : (shown : ℕ → Patch) (from : ℕ) → raised_between shown from from ≡ 0
raised_between-none shown from = let e : from - from ≡ 0 = omega arith in rw e refl

pub raised_between-more : (shown : ℕ → Patch) (from col : ℕ) → from ≤ col →
    raised_between shown from (col + 1) ≡ raised_between shown from col + cond (shows_raised (shown col)) 1 0
raised_between-more shown from col past =
    let one_more : col + 1 - from ≡ col - from + 1 = omega arith in
    rw one_more (sum_by-map-range_with_len_more (λ p. cond (shows_raised p) 1 0) shown from (col - from) col (omega arith))

-- at most all columns are
pub raised_between-fits : (shown : ℕ → Patch) (from end : ℕ) → raised_between shown from end ≤ end - from
raised_between-fits shown from end =
    omega (arith, count_by-le-length shows_raised (map shown (range_with_len from (end - from))), length-map-range_with_len shown from (end - from))

-- a data cell adds 1 to their count, and one that is no outlet adds none to that of outlets
pub counts_one : (z : Option ℤ) → IsSome z → ◌≡◌ {A = ℕ} (cond (is_some z) 1 0) 1
counts_one z is = ap (λ b. cond b 1 0) is

pub counts_none : (z : Option ℤ) (dir : ℤ) → dir ≢ pos 0 → ◌≡◌ {A = ℕ} (cond (is_some z && int_eq dir (pos 0)) 1 0) 0
counts_none None dir other = refl
counts_none (Some h) dir other = elim (int_eq dir (pos 0)) as (λ b. int_eq dir (pos 0) ≡ b → ◌≡◌ {A = ℕ} (cond b 1 0) 0) [
  | true ↦ λ same. absurd (other ((Decides-int_eq dir (pos 0)).0 same))
  | false ↦ λ differs. refl
] refl

-- what is so of the cells before a column and of their counts, where one such cell more leaves it so
module _ (profile : Profile) (cols : ℕ) (shown : ℕ → Patch) (P : ℕ → Tally → Type 0)
    (one : (col : ℕ) (old new : Tally) → col < cols → P col old → IsKept profile (shown col) → new.data_cells ≡ old.data_cells + 1 →
    new.raised ≡ old.raised + cond (shows_raised (shown col)) 1 0 → new.outlets ≡ old.outlets → P (col + 1) new) where
  -- n such cells leave it so
  kept_some : (from n : ℕ) (old new : Tally) → from + n ≤ cols → P from old → ((col : ℕ) → from ≤ col → col < from + n → IsKept profile (shown col)) →
      new.data_cells ≡ old.data_cells + n → new.raised ≡ old.raised + raised_between shown from (from + n) → new.outlets ≡ old.outlets → P (from + n) new
  kept_some from zero old new within so_far kept data_cells raised outlets =
      let here : from + 0 ≡ from = omega arith in
      let none : raised_between shown from (from + 0) ≡ 0 = rw here (raised_between-none shown from) in
      let same_cells : new.data_cells ≡ old.data_cells = omega (arith, data_cells) in
      let same_raised : new.raised ≡ old.raised = omega (arith, raised, none) in
      let same : old ≡ new = λ i. record { data_cells = sym same_cells i; raised = sym same_raised i; outlets = sym outlets i } in
      subst (λ col. P col new) (sym here) (subst (P from) same so_far)
  kept_some from (suc n) old new within so_far kept data_cells raised outlets =
      let before : Tally = record { data_cells = old.data_cells + n; raised = old.raised + raised_between shown from (from + n); outlets = old.outlets } in
      let earlier = kept_some from n old before (omega (arith, within)) so_far (λ col past less. kept col past (omega (arith, less))) refl refl refl in
      let next : from + n + 1 ≡ from + suc n = omega arith in
      let more : raised_between shown from (from + suc n) ≡ raised_between shown from (from + n) + cond (shows_raised (shown (from + n))) 1 0 =
      subst (λ m. raised_between shown from m ≡ raised_between shown from (from + n) + cond (shows_raised (shown (from + n))) 1 0) next
      (raised_between-more shown from (from + n) (omega arith)) in
      subst (λ col. P col new) next
      (one (from + n) before new (omega (arith, within)) earlier (kept (from + n) (omega arith) (omega arith)) (omega (arith, data_cells)) (omega (arith, raised, more)) outlets)

  -- and so do the cells that a row clears
  pub kept_run : (from : ℕ) (kept : Kept) (old new : Tally) → from ≤ kept.end → kept.end ≤ cols → P from old →
      ((col : ℕ) → from ≤ col → col < kept.end → IsKept profile (shown col)) → kept.raised ≡ raised_between shown from kept.end →
      new.data_cells ≡ old.data_cells + (kept.end - from) → new.raised ≡ old.raised + kept.raised → new.outlets ≡ old.outlets → P kept.end new
  kept_run from kept old new forward within so_far all count data_cells raised outlets =
      let up_to : from + (kept.end - from) ≡ kept.end = omega arith in
      let all_raised : new.raised ≡ old.raised + raised_between shown from (from + (kept.end - from)) = rw up_to (raised ∙ ap (λ n. old.raised + n) count) in
      subst (λ col. P col new) up_to
      (kept_some from (kept.end - from) old new (omega (arith, within)) so_far (λ col past less. all col past (omega (arith, less))) data_cells all_raised outlets)

module _ (profile : Profile) (g : Grid) (ps : Products) (row cols : ℕ) (shown : ℕ → Patch) where
  -- the cells that a row clears are counted
  pub counted-kept : (from : ℕ) (kept : Kept) (old new : Tally) → AreRowPatches g ps row cols shown → from ≤ kept.end → kept.end ≤ cols →
      CountsAlong g ps row from old → ((col : ℕ) → from ≤ col → col < kept.end → IsKept profile (shown col)) →
      kept.raised ≡ raised_between shown from kept.end → new.data_cells ≡ old.data_cells + (kept.end - from) → new.raised ≡ old.raised + kept.raised →
      new.outlets ≡ old.outlets → CountsAlong g ps row kept.end new
  counted-kept from kept old new are =
      kept_run profile cols shown (CountsAlong g ps row)
      (λ col old new less so_far at data_cells raised outlets.
      let p = shown col in
      CountsAlong-more g ps row col p.here old new (ap (λ (q : Patch). q.here) (are.patches_are col less)) so_far
      (omega (arith, data_cells, counts_one p.here.z at.has_data)) raised (omega (arith, outlets, counts_none p.here.z p.here.dir at.no_outlet)))
      from kept old new

module _ (compares : Bool) (judged : Judged) (profile : Profile) (g : Grid) (ps : Products) (row first cols : ℕ) (shown : ℕ → Patch) where
  -- the cells before a column from the first on are passed
  abbrev IsUpTo : ℕ → Tally → Type 0
  IsUpTo col tally = (first ≤ col) × IsPassed profile (IsTriedIf compares judged) g ps row first col tally

  -- and the cells that a row clears are passed too
  pub passed-kept : (from : ℕ) (kept : Kept) (old new : Tally) → AreRowPatches g ps row cols shown → first ≤ from → from ≤ kept.end → kept.end ≤ cols →
      IsPassed profile (IsTriedIf compares judged) g ps row first from old → ((col : ℕ) → from ≤ col → col < kept.end → IsKept profile (shown col)) →
      kept.raised ≡ raised_between shown from kept.end → new.data_cells ≡ old.data_cells + (kept.end - from) → new.raised ≡ old.raised + kept.raised →
      new.outlets ≡ old.outlets → IsPassed profile (IsTriedIf compares judged) g ps row first kept.end new
  passed-kept from kept old new are past forward within so_far all count data_cells raised outlets =
      (kept_run profile cols shown IsUpTo one from kept old new forward within (past, so_far) all count data_cells raised outlets).1
    where
      one : (col : ℕ) (t u : Tally) → col < cols → IsUpTo col t → IsKept profile (shown col) → u.data_cells ≡ t.data_cells + 1 →
          u.raised ≡ t.raised + cond (shows_raised (shown col)) 1 0 → u.outlets ≡ t.outlets → IsUpTo (col + 1) u
      one col t u less passed at data_cells raised outlets =
          let p = shown col in (
            omega (arith, passed.0),
            passed-more profile (IsTriedIf compares judged) g ps row first col cols shown p.here t u are passed.0 less refl passed.1
                (no_outlet-holds compares judged profile g ps row col cols shown are less at.holds (λ outlet. at.no_outlet outlet.code))
                (omega (arith, data_cells, counts_one p.here.z at.has_data)) raised (omega (arith, outlets, counts_none p.here.z p.here.dir at.no_outlet)),
          )

-- and no count is greater than the cells
pub bounds-kept : (shown : ℕ → Patch) (from : ℕ) (kept : Kept) (old new : Tally) → from ≤ kept.end → IsAtMost from old →
    kept.raised ≡ raised_between shown from kept.end → new.data_cells ≡ old.data_cells + (kept.end - from) → new.raised ≡ old.raised + kept.raised →
    new.outlets ≡ old.outlets → IsAtMost kept.end new
bounds-kept shown from kept old new forward bounds count data_cells raised outlets = record {
  data_cells = omega (arith, data_cells, bounds.data_cells);
  raised = omega (arith, raised, count, data_cells, bounds.raised, raised_between-fits shown from kept.end);
  outlets = omega (arith, outlets, data_cells, bounds.outlets);
}
