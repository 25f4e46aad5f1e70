-- Rules that are kept at the grid's cells, and hold beyond. So all of them hold in both or in neither. The first that
-- fails is the same, since row order is by rows and columns, whatever the size. With the counts so is the verdict. And
-- products are correct exactly where all rules without ranks hold, by a law of drain_grid.
use Rattle.drain_laws.proofs.Names.{◌≡◌, inl, inr, ◌∙◌, ℕ, ℤ, Bool, true, false, cond, ◌&&◌, Option, Some, None, IsSome, is_some, int_lt, unwrap_or, pos, refl, sym, ap, ◌↔◌, sum_by, false_from_ne_true, Cell, cells, same_cell, Extent, Grid, Products, IsInside, height_at, is_data, HoldsAt, RulesHold, IsPadded, AreSameAt, CountsAreKept, PaddingKeepsTallies, PaddingKeepsCounts, AreKept, HoldBeyond, HaveOneFirstFault, HaveOneVerdict, resized, PaddingKeepsRules, PaddingBreaksNoRule, PaddingKeepsFirstFault, PaddingKeepsVerdict, PaddingKeepsChecks, PaddingKeepsCorrect, Rule, IsAnyRule, Profile, check_rules, unranked, correct_by_rules_alone}
use Rattle.std.specs.Ordering.{int_eq}
use Rattle.drain_grid.proofs.CellSums.{same_cell_self, same_cell_true, sum_by_cells_one, sum_by_cells_same, sum_by_swap, sum_by_zero}
use Rattle.drain_laws.proofs.PaddedCells.{inside_or_not, within}
use Rattle.drain_grid.specs.declared.verdict.Counts.{Counts}
use Rattle.drain_grid.specs.declared.verdict.Verdict.{Verdict}
use Rattle.drain_grid.specs.declared.verdict.Verdict.TheVariants.{Accepted, Rejected}
use Rattle.drain_rules.specs.Verdicts.{counts_of, IsVerdictOf}
use Rattle.drain_laws.proofs.PaddedRules.{rules_kept, checks_kept, rules_beyond, checks_beyond}

-- Counts over the cells of a padded grid: a sum of terms that are 0 beyond the grid is the sum over the grid's cells.
-- No induction: each term is the sum, over the grid's cells, of the term at the same cell. So both are one double sum.

zero_term : (b : Bool) (n : ℕ) → n ≡ 0 → cond b n 0 ≡ 0
zero_term true n h = h
zero_term false n h = refl

module _ (g p : Grid) (padded : IsPadded g p) (f : Cell → ℕ) (none : (c : Cell) → IsInside p c → ¬ IsInside g c → f c ≡ 0) where
  -- a term is the sum over the grid's cells of which only the cell itself counts
  at_cell : (x : Cell) → IsInside p x → f x ≡ sum_by (λ c. cond (same_cell c x) (f x) 0) (cells g.extent)
  at_cell x inside =
      elim (inside_or_not g.extent x) [
        | inl here ↦
            sym (sum_by_cells_one (λ c. cond (same_cell c x) (f x) 0) g.extent x here
            (λ c differ. ap (λ b. cond b (f x) 0) (false_from_ne_true (same_cell c x) (λ is. differ (same_cell_true c x is))))
            ∙ ap (λ b. cond b (f x) 0) (same_cell_self x))
        | inr beyond ↦
            (let zero : f x ≡ 0 = none x inside beyond in
            zero ∙ sym (sum_by_zero (λ c. cond (same_cell c x) (f x) 0) (cells g.extent) (λ c. zero_term (same_cell c x) (f x) zero)))
      ]

  -- and a cell of the grid is one cell of the padded one
  from_cell : (c : Cell) → IsInside g c → sum_by (λ x. cond (same_cell c x) (f x) 0) (cells p.extent) ≡ f c
  from_cell c here =
      sum_by_cells_one (λ x. cond (same_cell c x) (f x) 0) p.extent c (within g p padded c here)
      (λ x differ. ap (λ b. cond b (f x) 0) (false_from_ne_true (same_cell c x) (λ is. differ (sym (same_cell_true c x is)))))
      ∙ ap (λ b. cond b (f c) 0) (same_cell_self c)

  sum_kept : sum_by f (cells p.extent) ≡ sum_by f (cells g.extent)
  sum_kept =
      sum_by_cells_same f (λ x. sum_by (λ c. cond (same_cell c x) (f x) 0) (cells g.extent)) p.extent at_cell
      ∙ sum_by_swap (λ x c. cond (same_cell c x) (f x) 0) (cells p.extent) (cells g.extent)
      ∙ sum_by_cells_same (λ c. sum_by (λ x. cond (same_cell c x) (f x) 0) (cells p.extent)) f g.extent from_cell

-- 1 where the test passes
abbrev one_if : Bool → ℕ
one_if b = cond b 1 0

-- a test that has one answer at data cells passes data cells alike
alike_test : (z : Option ℤ) (a b : Bool) → (IsSome z → a ≡ b) → one_if (is_some z && a) ≡ one_if (is_some z && b)
alike_test None a b same = refl
alike_test (Some z) a b same = ap one_if (same refl)

pub padding_keeps_tallies : PaddingKeepsTallies
padding_keeps_tallies g p padded there here same =
    sum_kept g p padded (λ c. one_if (is_data p c && there c))
    (λ c inside beyond. ap (λ b. one_if (b && there c)) (padded.voids c inside beyond))
    ∙ sum_by_cells_same (λ c. one_if (is_data p c && there c)) (λ c. one_if (is_data g c && here c)) g.extent
    (λ c inside. ap (λ z. one_if (is_some z && there c)) (padded.elevations c inside)
    ∙ alike_test (g.elevation c) (there c) (here c) (λ is_data. same c (record { inside = inside; is_data = is_data })))

-- where the set is padded, whatever the no-data numbers beyond
pub counts_kept : (g p : Grid) (ps qs : Products) → IsPadded g p → ((c : Cell) → IsInside g c → AreSameAt ps qs c) → CountsAreKept g p ps qs
counts_kept g p ps qs padded same = record {
  data_cells =
      sum_kept g p padded (λ c. one_if (is_data p c)) (λ c inside beyond. ap one_if (padded.voids c inside beyond))
      ∙ sum_by_cells_same (λ c. one_if (is_data p c)) (λ c. one_if (is_data g c)) g.extent
      (λ c inside. ap (λ z. one_if (is_some z)) (padded.elevations c inside));
  raised =
      padding_keeps_tallies g p padded (λ c. int_lt (height_at p c) (qs.con c)) (λ c. int_lt (height_at g c) (ps.con c))
      (λ c here. ap (λ z. int_lt (unwrap_or z (pos 0)) (qs.con c)) (padded.elevations c here.inside)
      ∙ ap (int_lt (height_at g c)) (same c here.inside).con);
  outlets =
      padding_keeps_tallies g p padded (λ c. int_eq (qs.dir c) (pos 0)) (λ c. int_eq (ps.dir c) (pos 0))
      (λ c here. ap (λ n. int_eq n (pos 0)) (same c here.inside).dir);
}

pub padding_keeps_counts : PaddingKeepsCounts
padding_keeps_counts g p ps qs nodata padded = counts_kept g p ps qs padded.grid padded.set.same

-- these counts with another number of rows and columns are those, where the three other counts are the same
sized : (e : Extent) (found one other : Counts) → found ≡ one → other.rows ≡ e.rows → other.cols ≡ e.cols →
    other.data_cells ≡ one.data_cells → other.raised ≡ one.raised → other.outlets ≡ one.outlets →
    record { rows = e.rows; cols = e.cols; data_cells = found.data_cells; raised = found.raised; outlets = found.outlets } ≡ other
sized e found one other is rows cols data_cells raised outlets = λ i. record {
  rows = sym rows i;
  cols = sym cols i;
  data_cells = (ap (λ (c : Counts). c.data_cells) is ∙ sym data_cells) i;
  raised = (ap (λ (c : Counts). c.raised) is ∙ sym raised) i;
  outlets = (ap (λ (c : Counts). c.outlets) is ∙ sym outlets) i;
}

module _ (profile : Profile) (g p : Grid) (ps qs : Products) (padded : IsPadded g p) (kept : AreKept profile g p ps qs)
    (beyond : HoldBeyond profile g p qs) where
  -- what holds at a cell of the grid, if it is one, holds at the cell
  each : (c : Cell) (r : Rule) → IsInside p c → (IsInside g c → HoldsAt profile g ps c r) → HoldsAt profile p qs c r
  each c r inside holds =
      elim (inside_or_not g.extent c) [ inl here ↦ (kept c r here).1 (holds here) | inr outside ↦ beyond c r inside outside ]

  all_kept : RulesHold profile IsAnyRule p qs ↔ RulesHold profile IsAnyRule g ps
  all_kept = (
    λ rules c r inside own. (kept c r inside).0 (rules c r (within g p padded c inside) own),
    λ rules c r inside own. each c r inside (λ here. rules c r here own),
  )

  first_kept : HaveOneFirstFault profile g p ps qs
  first_kept c r = (
    λ first.
        elim (inside_or_not g.extent c) [
          | inl here ↦
              record {
                inside = here;
                is_own = first.is_own;
                fails = λ holds. first.fails ((kept c r here).1 holds);
                first = λ b q at_b own earlier. (kept b q at_b).0 (first.first b q (within g p padded b at_b) own earlier);
              }
          | inr outside ↦ absurd (first.fails (beyond c r first.inside outside))
        ],
    λ first. record {
      inside = within g p padded c first.inside;
      is_own = first.is_own;
      fails = λ holds. first.fails ((kept c r first.inside).0 holds);
      first = λ b q at_b own earlier. each b q at_b (λ here. first.first b q here own earlier);
    },
  )

  verdict_kept : CountsAreKept g p ps qs → HaveOneVerdict profile g p ps qs
  verdict_kept counts = record { there = there; back = back }
    where
      there : (verdict : Verdict) → IsVerdictOf profile g ps verdict → IsVerdictOf profile p qs (resized p.extent verdict)
      there (Accepted found) is = (
        all_kept.1 is.0,
        sized p.extent found (counts_of g ps) (counts_of p qs) is.1 refl refl counts.data_cells counts.raised counts.outlets,
      )
      there (Rejected rule row col) is = (first_kept (record { row = row; col = col }) rule).1 is

      back : (verdict : Verdict) → IsVerdictOf profile p qs verdict → IsVerdictOf profile g ps (resized g.extent verdict)
      back (Accepted found) is = (
        all_kept.0 is.0,
        sized g.extent found (counts_of p qs) (counts_of g ps) is.1 refl refl
            (sym counts.data_cells) (sym counts.raised) (sym counts.outlets),
      )
      back (Rejected rule row col) is = (first_kept (record { row = row; col = col }) rule).0 is

pub padding_keeps_rules : PaddingKeepsRules
padding_keeps_rules g p ps qs nodata padded = rules_kept g p ps qs nodata padded

pub padding_breaks_no_rule : PaddingBreaksNoRule
padding_breaks_no_rule g p ps qs nodata padded c r inside outside = rules_beyond g p ps qs nodata padded c inside outside r

pub padding_keeps_first_fault : PaddingKeepsFirstFault
padding_keeps_first_fault g p ps qs nodata padded =
    first_kept (unranked nodata) g p ps qs padded.grid (rules_kept g p ps qs nodata padded)
    (padding_breaks_no_rule g p ps qs nodata padded)

pub padding_keeps_verdict : PaddingKeepsVerdict
padding_keeps_verdict g p ps qs nodata padded =
    verdict_kept (unranked nodata) g p ps qs padded.grid (rules_kept g p ps qs nodata padded)
    (padding_breaks_no_rule g p ps qs nodata padded) (counts_kept g p ps qs padded.grid padded.set.same)

pub padding_keeps_checks : PaddingKeepsChecks
padding_keeps_checks g p ps qs nodata padded ranks =
    let kept = checks_kept g p ps qs nodata padded ranks in
    let beyond : HoldBeyond (check_rules nodata) g p qs =
    λ c r inside outside. checks_beyond g p ps qs nodata padded c inside outside ranks r in
    record {
      kept = kept;
      beyond = beyond;
      first = first_kept (check_rules nodata) g p ps qs padded.grid kept beyond;
      verdict = verdict_kept (check_rules nodata) g p ps qs padded.grid kept beyond (counts_kept g p ps qs padded.grid padded.set.same);
    }

pub padding_keeps_correct : PaddingKeepsCorrect
padding_keeps_correct g p ps qs nodata padded =
    let rules = all_kept (unranked nodata) g p ps qs padded.grid (rules_kept g p ps qs nodata padded)
    (padding_breaks_no_rule g p ps qs nodata padded) in
    let here = correct_by_rules_alone g ps nodata in
    let there = correct_by_rules_alone p qs nodata in
    (λ correct. here.1 (rules.0 (there.0 correct)), λ correct. there.1 (rules.1 (here.0 correct)))
