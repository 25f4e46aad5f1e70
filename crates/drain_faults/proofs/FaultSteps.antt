-- What was found, with one cell more or a run of sound cells; and from row to row.
use Rattle.drain_faults.proofs.Names.{◌≡◌, ◌∙◌, ℕ, ◌+◌, ◌<◌, ◌≤◌, int_lt, unwrap_or, pos, refl, sym, ap, subst, arith, ◌^◌, IsTrue, List, [], ◌∷◌, ◌++◌, length, inl, inr, Patch, Grid, Products, IsInside, patch_at, values_at, Profile, Extent, IsRightVoid, CountsAbove, cells_above, AreRowPatches, IsAtMost, CountsAlong, place, CountsAlong-more, along_run, IsAdmitted, Cell, Rules, HoldsAt, has_bas, tried, IsKept, IsOutletByCode, FaultTally, RuleFaults, IsNotedAt, of_rule, HoldsIfTried, AreFaultsOf, IsFound, IsFoundAbove, IsFoundBefore, IsNewOutletAt, cells_before}
use Rattle.std.specs.Ordering.{int_eq}
use Rattle.drain_rules.specs.declared.walk.Tally.{Tally}
use Rattle.drain_grid.specs.declared.verdict.Counts.{Counts}
use Rattle.drain_rules.specs.Verdicts.{counts_of}
use Rattle.drain_rules.proofs.RightVoids.{void_counts, void_is_no_data}
use Rattle.drain_rules.proofs.LabelSteps.{AreLabelsBefore-more, AreLabelsBefore-row}
use Rattle.drain_rules.proofs.PassedCells.{inside-row}
use Rattle.drain_faults.specs.Noted.{IsNoted}
use Rattle.drain_faults.proofs.CellsBefore.{cells_before-all, cells_before-few, cells_before-more, cells_before-none}
use Rattle.drain_faults.proofs.TriedRules.{patch_noted, patch_past, IsSound, no_label, of_kept, of_void, sound_holds, least_at, shared_at, tried_at}
use Rattle.drain_faults.proofs.PatchFlags.{noted_same}
use Rattle.drain_faults.proofs.NumbersWithout.{holding_more, noted_more}
use Rattle.drain_faults.proofs.ProductParts.{products_noted, products_sound}

-- The counts of no cell, of voids, and of all rows.

-- no cell was counted
abbrev pub no_cell : Tally
no_cell = record { data_cells = 0; raised = 0; outlets = 0 }

pub counted_none : (g : Grid) (ps : Products) (row : ℕ) (tally : Tally) → tally ≡ no_cell → CountsAlong g ps row 0 tally
counted_none g ps row tally is = subst (CountsAlong g ps row 0) (sym is) (record { data_cells = refl; raised = refl; outlets = refl })

pub none_at_most : (tally : Tally) → tally ≡ no_cell → IsAtMost 0 tally
none_at_most tally is = subst (IsAtMost 0) (sym is) (record { data_cells = omega arith; raised = omega arith; outlets = omega arith })

-- voids add nothing
module _ (profile : Profile) (g : Grid) (ps : Products) (row cols : ℕ) (shown : ℕ → Patch) (are : AreRowPatches g ps row cols shown) (tally : Tally) where
  pub counted_voids : (from end : ℕ) → from ≤ end → end ≤ cols → ((col : ℕ) → from ≤ col → col < end → IsRightVoid profile (shown col)) →
      CountsAlong g ps row from tally → CountsAlong g ps row end tally
  counted_voids = along_run (λ col. CountsAlong g ps row col tally) (λ col. IsRightVoid profile (shown col)) cols one
    where
      one : (col : ℕ) → col < cols → IsRightVoid profile (shown col) → CountsAlong g ps row col tally → CountsAlong g ps row (col + 1) tally
      one col less right so_far =
          let here = (shown col).here in
          CountsAlong-more g ps row col here tally tally (ap (λ (p : Patch). p.here) (are.patches_are col less)) so_far
          (omega (arith, void_is_no_data here.z right.is_void)) (omega (arith, void_counts here.z (int_lt (unwrap_or here.z (pos 0)) here.con) right.is_void))
          (omega (arith, void_counts here.z (int_eq here.dir (pos 0)) right.is_void))

-- the counts of all rows are those of the grid
pub counts_are : (g : Grid) (ps : Products) (e : Extent) (rows n m : ℕ) (tally : Tally) → g.extent ≡ e → n ≡ e.rows → m ≡ e.cols → rows ≡ g.extent.rows →
    CountsAbove g ps rows tally →
    ◌≡◌ {A = Counts} (record { rows = n; cols = m; data_cells = tally.data_cells; raised = tally.raised; outlets = tally.outlets }) (counts_of g ps)
counts_are g ps e rows n m tally extent n_is m_is all counted =
    let of_rows : n ≡ g.extent.rows = n_is ∙ sym (ap (λ (x : Extent). x.rows) extent) in
    let of_cols : m ≡ g.extent.cols = m_is ∙ sym (ap (λ (x : Extent). x.cols) extent) in
    let whole : CountsAbove g ps g.extent.rows tally = subst (λ k. CountsAbove g ps k tally) all counted in
    λ i. record { rows = of_rows i; cols = of_cols i; data_cells = whole.data_cells i; raised = whole.raised i; outlets = whole.outlets i }

-- of a fact that holds nothing was counted
none_counted : (P : Type 0) (cell : Cell) (old new : RuleFaults) → P → IsNotedAt P cell old new → new ≡ old
none_counted P cell old new holds (inl kept) = kept.1
none_counted P cell old new holds (inr fails) = absurd (fails.0 holds)

module _ (rules : Rules) (g : Grid) (ps : Products) (cs : List Cell) (row col : ℕ) (inside : IsInside g (place row col)) where
  -- one sound cell more
  one_sound : (found : FaultTally) → IsSound (tried rules) (patch_at g ps (place row col)) → IsFound rules g ps cs (place row col) found →
      IsFound rules g ps (cs ++ place row col ∷ []) (place row (col + 1)) found
  one_sound found at so_far = record {
    faults = record {
      counted = λ r own.
          holding_more (λ c. HoldsAt (tried rules) g ps c r) cs (place row col) (of_rule found.by_rule r) (sound_holds (tried rules) g ps (place row col) at r)
          (so_far.faults.counted r own);
      untried = so_far.faults.untried;
    };
    by_product = products_sound rules g ps cs (place row col) found.by_product at so_far.by_product;
    first_patch = patch_past rules g ps cs (place row col) found.first (λ r own. sound_holds (tried rules) g ps (place row col) at r) so_far.first_patch;
    before = λ own.
        AreLabelsBefore-more g ps row col (values_at g ps (place row col)) found.labels found.labels inside refl (so_far.before own)
        (no_label (tried rules) found.labels (patch_at g ps (place row col)) at);
  }

  module _ (old new : FaultTally) (few : length cs + 1 < 2 ^ 32) (noted : IsNoted rules (place row col) (patch_at g ps (place row col)) old new)
      (so_far : IsFound rules g ps cs (place row col) old) where
    -- each rule, with one cell more that was noted
    rules_noted : AreFaultsOf rules g ps (cs ++ place row col ∷ []) new.by_rule
    rules_noted = record {
      counted = λ r own.
          noted_more (λ c. HoldsAt (tried rules) g ps c r) cs (place row col) (of_rule old.by_rule r) (of_rule new.by_rule r) few
          (noted_same (HoldsIfTried rules old.labels (patch_at g ps (place row col)) r) (HoldsAt (tried rules) g ps (place row col) r) (place row col)
          (of_rule old.by_rule r) (of_rule new.by_rule r) (tried_at rules g ps old.labels (place row col) inside so_far.before r own) (noted.each r))
          (so_far.faults.counted r own);
      untried = λ r untried.
          none_counted (HoldsIfTried rules old.labels (patch_at g ps (place row col)) r) (place row col) (of_rule old.by_rule r) (of_rule new.by_rule r)
          (λ own. absurd (untried own)) (noted.each r) ∙ so_far.faults.untried r untried;
    }

    -- all that was found
    one_noted : IsFound rules g ps (cs ++ place row col ∷ []) (place row (col + 1)) new
    one_noted = record {
      faults = rules_noted;
      by_product = products_noted rules g ps cs (place row col) old.by_product new.by_product few noted.by_product so_far.by_product;
      first_patch = patch_noted rules g ps cs (place row col) (patch_at g ps (place row col)) noted.first_is.least old.first new.first refl
          (least_at rules g ps old.labels (place row col) inside so_far.before noted.first_is.least noted.first_is.least_is) noted.first_is.first_is
          so_far.first_patch;
      before = λ own.
          AreLabelsBefore-more g ps row col (values_at g ps (place row col)) old.labels new.labels inside refl (so_far.before own) (noted.admitted own);
    }

module _ (rules : Rules) (g : Grid) (ps : Products) (row cols : ℕ) (shown : ℕ → Patch) (are : AreRowPatches g ps row cols shown) where
  pub inside_row : (col : ℕ) → col < cols → IsInside g (place row col)
  inside_row col = inside-row g ps row col cols shown are

  -- above a row is before its first place
  pub found_begins : (found : FaultTally) → IsFoundAbove rules g ps row found → IsFoundBefore rules g ps row 0 found
  found_begins found above = subst (λ cs. IsFound rules g ps cs (place row 0) found) (sym (cells_before-none g row)) above

  -- before its end is above the next row
  pub found_ends : (found : FaultTally) (col : ℕ) → col ≡ cols → IsFoundBefore rules g ps row col found → IsFoundAbove rules g ps (row + 1) found
  found_ends found col last so_far =
      let at_end : IsFoundBefore rules g ps row g.extent.cols found = subst (λ n. IsFoundBefore rules g ps row n found) (last ∙ are.cols_are) so_far in
      let whole : IsFound rules g ps (cells_above g (row + 1)) (place row g.extent.cols) found =
      subst (λ cs. IsFound rules g ps cs (place row g.extent.cols) found) (cells_before-all g row) at_end in
      record {
        faults = whole.faults;
        by_product = whole.by_product;
        first_patch = whole.first_patch;
        before = λ own. AreLabelsBefore-row g ps row found.labels (whole.before own);
      }

  -- one more sound cell
  sound_one : (found : FaultTally) (col : ℕ) → col < cols → IsSound (tried rules) (shown col) → IsFoundBefore rules g ps row col found →
      IsFoundBefore rules g ps row (col + 1) found
  sound_one found col less sound so_far =
      subst (λ cs. IsFound rules g ps cs (place row (col + 1)) found) (sym (cells_before-more g row col))
      (one_sound rules g ps (cells_before g row col) row col (inside_row col less) found (subst (IsSound (tried rules)) (are.patches_are col less) sound) so_far)

  -- a run of sound cells
  found_sound : (found : FaultTally) (from end : ℕ) → from ≤ end → end ≤ cols → ((col : ℕ) → from ≤ col → col < end → IsSound (tried rules) (shown col)) →
      IsFoundBefore rules g ps row from found → IsFoundBefore rules g ps row end found
  found_sound found = along_run (λ col. IsFoundBefore rules g ps row col found) (λ col. IsSound (tried rules) (shown col)) cols (sound_one found)

  -- the cells that a row clears, and the voids after them
  pub found_passed : (found : FaultTally) (from end last : ℕ) → from ≤ end → end ≤ cols → ((col : ℕ) → from ≤ col → col < end → IsKept (tried rules) (shown col)) →
      end ≤ last → last ≤ cols → ((col : ℕ) → end ≤ col → col < last → IsRightVoid (tried rules) (shown col)) →
      IsFoundBefore rules g ps row from found → IsFoundBefore rules g ps row last found
  found_passed found from end last forward within kept behind inside right so_far =
      found_sound found end last behind inside (λ col past less. of_void (tried rules) (shown col) (right col past less))
      (found_sound found from end forward within (λ col past less. of_kept (tried rules) (shown col) (kept col past less)) so_far)

  -- one cell more that was noted
  pub found_noted : (old new : FaultTally) (col : ℕ) (p : Patch) → row < 28801 → cols ≤ 28801 → col < cols → p ≡ shown col →
      IsNoted rules (place row col) p old new → IsFoundBefore rules g ps row col old → IsFoundBefore rules g ps row (col + 1) new
  found_noted old new col p few narrow less is noted so_far =
      let inside = inside_row col less in
      let short = cells_before-few g row col few (omega (arith, narrow, are.cols_are)) inside.col in
      subst (λ cs. IsFound rules g ps cs (place row (col + 1)) new) (sym (cells_before-more g row col))
      (one_noted rules g ps (cells_before g row col) row col inside old new short
      (subst (λ q. IsNoted rules (place row col) q old new) (is ∙ are.patches_are col less) noted) so_far)

  -- where a label found no room it is a new one
  pub found_new : (found : FaultTally) (col : ℕ) (p : Patch) → col < cols → p ≡ shown col → IsFoundBefore rules g ps row col found →
      IsTrue (has_bas rules.judged) × IsOutletByCode p.here × ¬ IsAdmitted found.labels p.here.bas → IsNewOutletAt g ps (place row col)
  found_new found col p less is so_far want =
      let inside = inside_row col less in
      let cell = place row col in
      let same : p ≡ patch_at g ps cell = is ∙ are.patches_are col less in
      let at : IsOutletByCode (values_at g ps cell) × ¬ IsAdmitted found.labels (ps.bas cell) =
      subst (λ (q : Patch). IsOutletByCode q.here × ¬ IsAdmitted found.labels q.here.bas) same (want.1, want.2) in
      record {
        has_data = record { inside = inside; is_data = at.0.has_data };
        code = at.0.code;
        is_new = shared_at rules g ps found.labels cell inside so_far.before want.0 (λ own outlet. at.1);
      }
