-- A union is correct where its windows are, and windows that agree make one union.
use Rattle.drain_union.proofs.Names.{◌≡◌, ℕ, ◌+◌, ◌<◌, ◌⊎◌, inl, inr, false, pos, List, None, IsSome, refl, sym, ap, subst, ◌∙◌, arith, Contains, Cell, Patch, Rule, SharedLabel, Extent, IsCellOf, IsEarlier, Distances, unit_spacing, Values, NoDataNumbers, IsAnyRule, IsPatchRule, unranked, Grid, Products, IsInside, HasData, values_at, patch_at, HoldsAt, RulesHold, SharedLabelHolds, cases, is_cell_of, cases_earlier, place, Window, in_union, IsWindowOf, IsJudgedIn, JudgeAll, RulesHoldInside, IsJudgedOutlet, NoLabelIsShared, AreLaidIn, OverlapsAgree, SpacingsAgree, AreWindowsOf, CorrectByWindows, WindowsMakeUnion, WindowRejects}
use Rattle.drain_grid.specs.PatchRules.{Profile}
use Rattle.drain_grid.proofs.Exactly.{correct_by_rules_alone}
use Rattle.drain_union.proofs.WindowPatches.{there, patch_of_window}

-- a rule of a patch rests on the patch alone
pub by_patch : (profile : Profile) (g h : Grid) (ps qs : Products) (a b : Cell) (r : Rule) → IsPatchRule r → patch_at g ps a ≡ patch_at h qs b →
    HoldsAt profile g ps a r → HoldsAt profile h qs b r
by_patch profile g h ps qs a b SharedLabel own same holds = absurd (omega arith)
by_patch profile g h ps qs a b r own same holds = subst (λ (p : Patch). profile p r) same holds

pub in_grid : (w : Window) → w.grid.extent ≡ w.place.extent → (c : Cell) → IsCellOf w.place.extent c → IsInside w.grid c
in_grid w same c inside = subst (λ (e : Extent). IsCellOf e c) (sym same) inside

-- what holds in the union holds in a window
pub rules_back : (u : Grid) (ps : Products) (nodata : NoDataNumbers) (w : Window) → IsWindowOf u ps w → RulesHold (unranked nodata) IsAnyRule u ps →
    RulesHoldInside nodata w
rules_back u ps nodata w is rules c r judged own =
    by_patch (unranked nodata) u w.grid ps w.products (in_union w.place c) c r own (sym (patch_of_window u ps w is c judged))
    (rules (in_union w.place c) r (there u.extent w.place is.placed c judged.inside) (own.0, omega (arith, own.1)))

pub window_rejects : WindowRejects
window_rejects u ps nodata w is fails correct = fails (rules_back u ps nodata w is ((correct_by_rules_alone u ps nodata).0 correct))

module _ (u : Grid) (ps : Products) (nodata : NoDataNumbers) (windows : List Window) (are : AreWindowsOf u ps windows)
    (judge : JudgeAll u.extent windows) where
  -- what an outlet of the union is, is judged to be one, and the other way round
  pub outlet_there : (w : Window) → Contains windows w → (c : Cell) → IsJudgedOutlet w c →
      HasData u (in_union w.place c) × (ps.dir (in_union w.place c) ≡ pos 0) × (w.products.bas c ≡ ps.bas (in_union w.place c))
  outlet_there w one c outlet =
      let is = are w one in
      let same = is.values c outlet.has_data.inside in (
        record {
          inside = there u.extent w.place is.placed c outlet.judged.inside;
          is_data = subst (λ (v : Values). IsSome v.z) same outlet.has_data.is_data;
        },
        sym (ap (λ (v : Values). v.dir) same) ∙ outlet.code,
        ap (λ (v : Values). v.bas) same,
      )

  pub outlet_back : (w : Window) → Contains windows w → (c : Cell) → IsJudgedIn w.place c → HasData u (in_union w.place c) →
      ps.dir (in_union w.place c) ≡ pos 0 → IsJudgedOutlet w c
  outlet_back w one c judged here code =
      let is = are w one in
      let inside = in_grid w is.extent c judged.inside in
      let same = is.values c inside in
      record {
        judged = judged;
        has_data = record { inside = inside; is_data = subst (λ (v : Values). IsSome v.z) (sym same) here.is_data };
        code = ap (λ (v : Values). v.dir) same ∙ code;
      }

  pub bas_same : (w : Window) → Contains windows w → (c : Cell) → IsJudgedIn w.place c → w.products.bas c ≡ ps.bas (in_union w.place c)
  bas_same w one c judged =
      let is = are w one in
      ap (λ (v : Values). v.bas) (is.values c (in_grid w is.extent c judged.inside))

  never_before_itself : (c : Cell) → ¬ IsEarlier c c
  never_before_itself c (inl before) = absurd (omega arith)
  never_before_itself c (inr before) = absurd (omega arith)

  -- rule 15 of the union from windows
  shared_there : NoLabelIsShared windows → (c : Cell) → IsInside u c → SharedLabelHolds u ps c
  shared_there unshared c inside here code b at_b earlier code_b labels =
      let one = judge c inside in
      let two = judge b at_b.inside in
      let at_one : in_union one.0.place one.2.0 ≡ c = one.2.2 in
      let at_two : in_union two.0.place two.2.0 ≡ b = two.2.2 in
      let first = outlet_back one.0 one.1 one.2.0 one.2.1 (subst (HasData u) (sym at_one) here) (ap ps.dir at_one ∙ code) in
      let second = outlet_back two.0 two.1 two.2.0 two.2.1 (subst (HasData u) (sym at_two) at_b) (ap ps.dir at_two ∙ code_b) in
      let same = unshared two.0 one.0 two.1 one.1 two.2.0 one.2.0 second first
      (bas_same two.0 two.1 two.2.0 two.2.1 ∙ ap ps.bas at_two ∙ labels ∙ sym (ap ps.bas at_one) ∙ sym (bas_same one.0 one.1 one.2.0 one.2.1)) in
      never_before_itself c (subst (λ x. IsEarlier x c) (sym at_two ∙ same ∙ at_one) earlier)

  rules_there : ((w : Window) → Contains windows w → RulesHoldInside nodata w) → NoLabelIsShared windows →
      RulesHold (unranked nodata) IsAnyRule u ps
  rules_there hold unshared c SharedLabel inside own = shared_there unshared c inside
  rules_there hold unshared c r inside own =
      let one = judge c inside in
      let at_one : in_union one.0.place one.2.0 ≡ c = one.2.2 in
      let patch_rule : IsPatchRule r = (omega arith, omega arith) in
      subst (λ x. HoldsAt (unranked nodata) u ps x r) at_one
      (by_patch (unranked nodata) one.0.grid u one.0.products ps one.2.0 (in_union one.0.place one.2.0) r patch_rule
      (patch_of_window u ps one.0 (are one.0 one.1) one.2.0 one.2.1) (hold one.0 one.1 one.2.0 r one.2.1 patch_rule))

  unshared_back : RulesHold (unranked nodata) IsAnyRule u ps → NoLabelIsShared windows
  unshared_back rules v w at_v at_w a b out_a out_b labels =
      let first = outlet_there v at_v a out_a in
      let second = outlet_there w at_w b out_b in
      let same : ps.bas (in_union v.place a) ≡ ps.bas (in_union w.place b) = sym first.2 ∙ labels ∙ second.2 in
      elim (cases_earlier (in_union v.place a) (in_union w.place b)) [
        | inl is ↦ is
        | inr (inl before) ↦
            absurd (rules (in_union w.place b) SharedLabel second.0.inside (omega arith, omega arith) second.0 second.1 (in_union v.place a) first.0 before first.1 same)
        | inr (inr after) ↦
            absurd (rules (in_union v.place a) SharedLabel first.0.inside (omega arith, omega arith) first.0 first.1 (in_union w.place b) second.0 after second.1 (sym same))
      ]

pub correct_by_windows : CorrectByWindows
correct_by_windows u ps nodata windows are judge =
    let alone = correct_by_rules_alone u ps nodata in (
      (λ correct. ((λ w one. rules_back u ps nodata w (are w one) (alone.0 correct)), unshared_back u ps nodata windows are judge (alone.0 correct))),
      (λ h. alone.1 (rules_there u ps nodata windows are judge h.0 h.1)),
    )

-- what stands outside of all windows, where nothing looks
abbrev pub nothing : Values
nothing = record { z = None; sink = false; con = pos 0; dir = pos 0; acc = pos 0; bas = pos 0; spl = pos 0; rnk = pos 0 }

module _ (e : Extent) (windows : List Window) (laid : AreLaidIn e windows) (judge : JudgeAll e windows) (agree : OverlapsAgree windows)
    (spaced : SpacingsAgree windows) where
  abbrev picked : (c : Cell) → IsCellOf e c ⊎ ¬ IsCellOf e c → Values
  picked c (inl inside) = let one = judge c inside in values_at one.0.grid one.0.products one.2.0
  picked c (inr outside) = nothing

  abbrev seen : Cell → Values
  seen c = picked c (cases (is_cell_of e c))

  -- a row's spacing is that of the window that judges its first cell
  abbrev picked_spacing : (row : ℕ) → IsCellOf e (place row 0) ⊎ ¬ IsCellOf e (place row 0) → Distances
  picked_spacing row (inl inside) = let one = judge (place row 0) inside in one.0.grid.spacing one.2.0.row
  picked_spacing row (inr outside) = unit_spacing

  abbrev made : Grid
  made = record {
    extent = e;
    elevation = λ c. (seen c).z;
    sink = λ c. (seen c).sink;
    spacing = λ row. picked_spacing row (cases (is_cell_of e (place row 0)));
  }

  abbrev made_products : Products
  made_products = record {
    con = λ c. (seen c).con;
    dir = λ c. (seen c).dir;
    acc = λ c. (seen c).acc;
    bas = λ c. (seen c).bas;
    spl = λ c. (seen c).spl;
    rnk = λ c. (seen c).rnk;
  }

  picked_same : (w : Window) → Contains windows w → (x : Cell) → IsInside w.grid x →
      (o : IsCellOf e (in_union w.place x) ⊎ ¬ IsCellOf e (in_union w.place x)) →
      values_at w.grid w.products x ≡ picked (in_union w.place x) o
  picked_same w at_w x inside (inl in_e) =
      let one = judge (in_union w.place x) in_e in
      agree w one.0 at_w one.1 x one.2.0 inside (in_grid one.0 (laid one.0 one.1).1 one.2.0 one.2.1.inside) (sym one.2.2)
  picked_same w at_w x inside (inr out) =
      let is = laid w at_w in
      absurd (out (there e w.place is.0 x (subst (λ (s : Extent). IsCellOf s x) is.1 inside)))

  spaced_same : (w : Window) → Contains windows w → (x : Cell) → IsInside w.grid x →
      (o : IsCellOf e (place (w.place.top + x.row) 0) ⊎ ¬ IsCellOf e (place (w.place.top + x.row) 0)) →
      w.grid.spacing x.row ≡ picked_spacing (w.place.top + x.row) o
  spaced_same w at_w x inside (inl in_e) =
      let one = judge (place (w.place.top + x.row) 0) in_e in
      let one_row : one.0.place.top + one.2.0.row ≡ w.place.top + x.row = ap (λ (c : Cell). c.row) one.2.2 in
      spaced w one.0 at_w one.1 x one.2.0 inside (in_grid one.0 (laid one.0 one.1).1 one.2.0 one.2.1.inside) (sym one_row)
  spaced_same w at_w x inside (inr out) =
      let is = laid w at_w in
      let lies = there e w.place is.0 x (subst (λ (s : Extent). IsCellOf s x) is.1 inside) in
      let row : w.place.top + x.row < e.rows = lies.row in
      let col : w.place.left + x.col < e.cols = lies.col in
      absurd (out (record { row = row; col = omega (arith, col) }))

  are_windows : AreWindowsOf made made_products windows
  are_windows w at_w = record {
    placed = (laid w at_w).0;
    extent = (laid w at_w).1;
    values = λ x inside. picked_same w at_w x inside (cases (is_cell_of e (in_union w.place x)));
    spacings = λ x inside. spaced_same w at_w x inside (cases (is_cell_of e (place (w.place.top + x.row) 0)));
  }

pub windows_make_union : WindowsMakeUnion
windows_make_union e windows laid judge agree spaced = (
  made e windows laid judge agree spaced,
  made_products e windows laid judge agree spaced,
  refl,
  are_windows e windows laid judge agree spaced,
)
