-- Grids that are equal at their cells have the same patches there, so the same rules hold, and as many cells have data, are raised
-- and are outlets. The elevations and numbers of other cells are seen by no patch: a step stays in the grid.
use Rattle.drain_rules.proofs.Names.{◌≡◌, ◌<◌, Bool, cond, map, Option, Some, None, IsSome, unwrap_or, pos, int_lt, is_some, refl, sym, ap, subst, ◌∙◌, count_by, Cell, Direction, Patch, Rule, SharedLabel, directions, Extent, IsCellOf, cells, step, Values, Grid, Products, IsInside, HasData, values_at, patch_at, is_data, is_raised, SharedLabelHolds, HoldsAt, Profile, check_rules, step_lies, has_outlet_code, counts_of, IsVerdictOf, AreEqual, EqualGridsHaveOneVerdict}
use Rattle.std.proofs.Common.{◌&&◌, option_map, int_eq}
use Rattle.drain_grid.proofs.CellSums.{sum_by_cells_same}
use Rattle.drain_grid.specs.declared.verdict.Verdict.{Verdict}
use Rattle.drain_grid.specs.declared.verdict.Verdict.TheVariants.{Accepted, Rejected}

-- two functions that are equal at the cell of a step make the same of it
map_same : (f k : Cell → Values) (o : Option Cell) → ((n : Cell) → o ≡ Some n → f n ≡ k n) → option_map f o ≡ option_map k o
map_same f k None same = refl
map_same f k (Some n) same = ap (λ x. Some x) (same n refl)

module _ (g h : Grid) (ps qs : Products) (same : AreEqual g h ps qs) where
  -- a cell of the one is a cell of the other
  there : (c : Cell) → IsInside g c → IsInside h c
  there c = subst (λ (e : Extent). IsCellOf e c) same.extent

  back : (c : Cell) → IsInside h c → IsInside g c
  back c = subst (λ (e : Extent). IsCellOf e c) (sym same.extent)

  turned : AreEqual h g qs ps
  turned = record {
    extent = sym same.extent;
    values = λ c inside. sym (same.values c (back c inside));
    spacing = λ row inside. sym (same.spacing row (subst (λ (e : Extent). row < e.rows) (sym same.extent) inside));
  }

  -- the patch of a cell is the same
  beside_same : (c : Cell) (d : Direction) → option_map (values_at g ps) (step g.extent c d) ≡ option_map (values_at h qs) (step h.extent c d)
  beside_same c d =
      map_same (values_at g ps) (values_at h qs) (step g.extent c d) (λ n is. same.values n (step_lies g.extent c n d is).0)
      ∙ ap (λ (e : Extent). option_map (values_at h qs) (step e c d)) same.extent

  patch_same : (c : Cell) → IsInside g c → patch_at g ps c ≡ patch_at h qs c
  patch_same c inside = λ i. record { here = same.values c inside i; around = map (λ d. beside_same c d i) directions; spacing = same.spacing c.row inside.row i }

  -- so a rule holds there where it holds here
  data_back : (c : Cell) → HasData h c → HasData g c
  data_back c has =
      let inside = back c has.inside in
      record { inside = inside; is_data = subst (λ (v : Values). IsSome v.z) (sym (same.values c inside)) has.is_data }

  shared_same : (c : Cell) → SharedLabelHolds g ps c → SharedLabelHolds h qs c
  shared_same c holds has code b at_b earlier code_b labels =
      let has_back = data_back c has in
      let b_back = data_back b at_b in
      let at_c = same.values c has_back.inside in
      let beside = same.values b b_back.inside in
      holds has_back (ap (λ (v : Values). v.dir) at_c ∙ code) b b_back earlier (ap (λ (v : Values). v.dir) beside ∙ code_b)
      (ap (λ (v : Values). v.bas) beside ∙ labels ∙ sym (ap (λ (v : Values). v.bas) at_c))

  rule_same : (profile : Profile) (c : Cell) (r : Rule) → IsInside g c → HoldsAt profile g ps c r → HoldsAt profile h qs c r
  rule_same profile c SharedLabel inside holds = shared_same c holds
  rule_same profile c r inside holds = subst (λ (p : Patch). profile p r) (patch_same c inside) holds

  -- and the counts are the same
  count_same : (p q : Cell → Bool) → ((c : Cell) → IsInside g c → p c ≡ q c) → count_by p (cells g.extent) ≡ count_by q (cells h.extent)
  count_same p q each =
      sum_by_cells_same (λ c. cond (p c) 1 0) (λ c. cond (q c) 1 0) g.extent (λ c inside. ap (λ (b : Bool). cond b 1 0) (each c inside))
      ∙ ap (λ (e : Extent). count_by q (cells e)) same.extent

  counts_same : counts_of g ps ≡ counts_of h qs
  counts_same =
      let data_cells = count_same (is_data g) (is_data h) (λ c inside. ap (λ (v : Values). is_some v.z) (same.values c inside)) in
      let raised = count_same (is_raised g ps) (is_raised h qs)
      (λ c inside. ap (λ (v : Values). is_some v.z && int_lt (unwrap_or v.z (pos 0)) v.con) (same.values c inside)) in
      let outlets = count_same (has_outlet_code g ps) (has_outlet_code h qs)
      (λ c inside. ap (λ (v : Values). is_some v.z && int_eq v.dir (pos 0)) (same.values c inside)) in
      λ i. record {
        rows = (same.extent i).rows;
        cols = (same.extent i).cols;
        data_cells = data_cells i;
        raised = raised i;
        outlets = outlets i;
      }

-- whatever the rules, a verdict on the one is a verdict on the other
verdict_same : (profile : Profile) (g h : Grid) (ps qs : Products) → AreEqual g h ps qs → (verdict : Verdict) →
    IsVerdictOf profile g ps verdict → IsVerdictOf profile h qs verdict
verdict_same profile g h ps qs same (Accepted counts) is = (
  (λ c r inside own.
      let here = back g h ps qs same c inside in
      rule_same g h ps qs same profile c r here (is.0 c r here own)),
  is.1 ∙ counts_same g h ps qs same,
)
verdict_same profile g h ps qs same (Rejected rule row col) is =
    let place : Cell = record { row = row; col = col } in
    let inside = there g h ps qs same place is.inside in
    record {
      inside = inside;
      is_own = is.is_own;
      fails = λ holds. is.fails (rule_same h g qs ps (turned g h ps qs same) profile place rule inside holds);
      first = λ b q at_b own earlier.
          (let here = back g h ps qs same b at_b in
          rule_same g h ps qs same profile b q here (is.first b q here own earlier));
    }

pub equal_grids_have_one_verdict : EqualGridsHaveOneVerdict
equal_grids_have_one_verdict g h ps qs nodata same verdict is = verdict_same (check_rules nodata) g h ps qs same verdict is
