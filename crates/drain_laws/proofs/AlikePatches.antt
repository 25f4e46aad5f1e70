-- Two patches that differ only in what no rule looks at: in a direction one may show nothing and the other a void. Each
-- rule holds of the one exactly where it holds of the other.
use Rattle.drain_laws.proofs.Names.{◌≡◌, inl, inr, ◌⊎◌, ◌∙◌, ℤ, pos, ◌+ℤ◌, ◌-ℤ◌, ◌≤ℤ◌, ◌<ℤ◌, ◌&&◌, Option, Some, None, IsNone, IsSome, IsTrue, is_some, unwrap_or, option_map, if◌then◌else◌, refl, sym, ap, subst, int_max, false≢true, Direction, Patch, Rule, VoidCell, Missing, BadCode, BelowGround, OpenRaised, NotLeast, Slope, OutletCode, FlatStep, Accumulation, Label, product_of, IsCode, Names, names, opposite, directions, Values, NoDataNumbers, value_of, neighbor, height, IsDataNeighbor, IsOpen, IsClosed, IsLower, HasLower, height_of, slope_key, key_to, IsSteepest, BelowGroundHolds, NotLeastHolds, SlopeHolds, OutletCodeHolds, FlatStepHolds, AccumulationHolds, LabelHolds, VoidCellWithoutSpill, MissingWithoutSpill, BadCodeWithoutSpill, OpenRaisedWithoutSpill, inflow, check_rules, VoidCellWithoutRank, MissingWithoutRank, LevelStepHolds, unranked, total-same}
use Rattle.drain_grid.specs.declared.set_product.SetProduct.{SetProduct}
use Rattle.drain_grid.specs.declared.set_product.SetProduct.TheVariants as held
use Rattle.drain_grid.specs.Open.{IsGap}
use Rattle.drain_grid.specs.Spacing.{Distances, weight_of}
use Rattle.drain_grid.proofs.OpenCells.{gap_from_void}

-- the numbers that rules without ranks look at, at a neighbour too
pub record AreSame (v w : Values) : Type 0 where
  pub z : v.z ≡ w.z
  pub con : v.con ≡ w.con
  pub dir : v.dir ≡ w.dir
  pub acc : v.acc ≡ w.acc
  pub bas : v.bas ≡ w.bas

turned : {v w : Values} → AreSame v w → AreSame w v
turned h = record { z = sym h.z; con = sym h.con; dir = sym h.dir; acc = sym h.acc; bas = sym h.bas }

-- nothing, or a void
abbrev pub ShowsNoData : Option Values → Type 0
ShowsNoData None = Unit {0}
ShowsNoData (Some v) = IsNone v.z

-- some values on either side, with the same numbers
pub record ShowSame (a b : Option Values) : Type 0 where
  pub one : Values
  pub other : Values
  pub one_is : a ≡ Some one
  pub other_is : b ≡ Some other
  pub same : AreSame one other

-- no data on either side, or the same numbers
abbrev pub ShowAlike : Option Values → Option Values → Type 0
ShowAlike a b = (ShowsNoData a × ShowsNoData b) ⊎ ShowSame a b

show_turned : {a b : Option Values} → ShowAlike a b → ShowAlike b a
show_turned (inl none) = inl (none.1, none.0)
show_turned (inr h) = inr (record { one = h.other; other = h.one; one_is = h.other_is; other_is = h.one_is; same = turned h.same })

-- the same cell, all round it no data on either side or the same numbers, and as far apart
pub record AreAlike (p q : Patch) : Type 0 where
  pub here : AreSame p.here q.here
  pub sink : p.here.sink ≡ q.here.sink
  pub around : (d : Direction) → ShowAlike (neighbor p d) (neighbor q d)
  pub spacing : p.spacing ≡ q.spacing

pub alike_turned : {p q : Patch} → AreAlike p q → AreAlike q p
alike_turned h = record { here = turned h.here; sink = sym h.sink; around = λ d. show_turned (h.around d); spacing = sym h.spacing }

-- and the same ranks, at the cell and at data neighbours
pub record HaveSameRanks (p q : Patch) : Type 0 where
  pub here : p.here.rnk ≡ q.here.rnk
  pub around : (d : Direction) (v w : Values) → IsDataNeighbor p d v → IsDataNeighbor q d w → v.rnk ≡ w.rnk

pub ranks_turned : {p q : Patch} → HaveSameRanks p q → HaveSameRanks q p
ranks_turned h = record { here = sym h.here; around = λ d v w at_v at_w. sym (h.around d w v at_w at_v) }

-- what shows no data has none
no_data : (o : Option Values) (v : Values) → ShowsNoData o → o ≡ Some v → IsSome v.z → ⊥
no_data None v none is has = cc
no_data (Some w) v none is has = cc

-- a gap stays one
gap_there : (a b : Option Values) → ShowAlike a b → IsGap (option_map (λ n. n.z) a) → IsGap (option_map (λ n. n.z) b)
gap_there a b (inl none) gap = of_none b none.1
  where
    of_none : (b : Option Values) → ShowsNoData b → IsGap (option_map (λ n. n.z) b)
    of_none None h = tt
    of_none (Some v) h = gap_from_void v.z h
gap_there a b (inr h) gap =
    subst (λ o. IsGap (option_map (λ (n : Values). n.z) o)) (sym h.other_is)
    (subst (λ z. IsGap (Some z)) h.same.z
    (subst (λ o. IsGap (option_map (λ (n : Values). n.z) o)) h.one_is gap))

-- as much flows in
no_inflow : (o : Option Values) (d : Direction) → ShowsNoData o → inflow o d ≡ pos 0
no_inflow None d none = refl
no_inflow (Some v) d none = of_void v.z none
  where
    of_void : (z : Option ℤ) → IsNone z → (if is_some z && names v.dir (opposite d) then v.acc else pos 0) ≡ pos 0
    of_void None h = refl
    of_void (Some z) h = absurd (false≢true (sym h))

inflow_same : (a b : Option Values) (d : Direction) → ShowAlike a b → inflow a d ≡ inflow b d
inflow_same a b d (inl none) = no_inflow a d none.0 ∙ sym (no_inflow b d none.1)
inflow_same a b d (inr h) =
    ap (λ o. inflow o d) h.one_is
    ∙ ap (λ z. if is_some z && names h.one.dir (opposite d) then h.one.acc else pos 0) h.same.z
    ∙ ap (λ n. if is_some h.other.z && names n (opposite d) then h.one.acc else pos 0) h.same.dir
    ∙ ap (λ n. if is_some h.other.z && names h.other.dir (opposite d) then n else pos 0) h.same.acc
    ∙ ap (λ o. inflow o d) (sym h.other_is)

-- a data neighbour of the one is one of the other
beside_there : {p q : Patch} → AreAlike p q → (d : Direction) (v : Values) → IsDataNeighbor p d v →
    (w : Values) × (IsDataNeighbor q d w × AreSame v w)
beside_there {p} {q} alike d v beside =
    elim (alike.around d) [
      | inl none ↦ absurd (no_data (neighbor p d) v none.0 beside.is beside.has_data)
      | inr h ↦
          (let is : h.one ≡ v = cc in
          let same : AreSame v h.other = subst (λ x. AreSame x h.other) is h.same in
          (h.other, (record { is = h.other_is; has_data = subst IsSome same.z beside.has_data }, same)))
    ]

-- what is open stays open
pub open_there : {p q : Patch} → AreAlike p q → IsOpen p → IsOpen q
open_there {p} {q} alike h = (subst IsSome alike.here.z h.0, way h.1)
  where
    way : IsTrue p.here.sink ⊎ ((d : Direction) × IsGap (option_map (λ n. n.z) (neighbor p d))) →
        IsTrue q.here.sink ⊎ ((d : Direction) × IsGap (option_map (λ n. n.z) (neighbor q d)))
    way (inl listed) = inl (subst IsTrue alike.sink listed)
    way (inr gap) = inr (gap.0, gap_there (neighbor p gap.0) (neighbor q gap.0) (alike.around gap.0) gap.1)

closed_there : {p q : Patch} → AreAlike p q → IsClosed p → IsClosed q
closed_there alike h = (subst IsSome alike.here.z h.0, λ is_open. h.1 (open_there (alike_turned alike) is_open))

-- a lower neighbour is, and by as much
lower_there : {p q : Patch} → AreAlike p q → (d : Direction) (v : Values) → IsLower p d v →
    (w : Values) × (IsLower q d w × (key_to p d v ≡ key_to q d w))
lower_there {p} {q} alike d v lower =
    let there = beside_there alike d v lower.beside in
    let w = there.0 in
    let below : w.con <ℤ q.here.con = subst (λ x. x <ℤ q.here.con) there.1.1.con (subst (λ x. v.con <ℤ x) alike.here.con lower.below) in (
      w,
      (
        record { beside = there.1.0; below = below },
        ap (λ x. slope_key (weight_of p.spacing d) (height_of p.spacing.kind x -ℤ height_of p.spacing.kind v.con)) alike.here.con
            ∙ ap (λ x. slope_key (weight_of p.spacing d) (height_of p.spacing.kind q.here.con -ℤ height_of p.spacing.kind x)) there.1.1.con
            ∙ ap (λ (s : Distances). slope_key (weight_of s d) (height_of s.kind q.here.con -ℤ height_of s.kind w.con)) alike.spacing,
      ),
    )

has_lower_there : {p q : Patch} → AreAlike p q → HasLower p → HasLower q
has_lower_there alike h =
    let lower = lower_there alike h.1.0 h.1.1.0 h.1.1.1 in
    (subst IsSome alike.here.z h.0, (h.1.0, (lower.0, lower.1.0)))

steepest_there : {p q : Patch} → AreAlike p q → (d : Direction) → IsSteepest p d → IsSteepest q d
steepest_there {p} {q} alike d h =
    let lower = lower_there alike d h.0 h.1.lower in (
      lower.0,
      record {
        lower = lower.1.0;
        greatest = λ e m beside.
            (let back = lower_there (alike_turned alike) e m beside in
            subst (λ k. key_to q e m ≤ℤ k) lower.1.1
            (subst (λ k. k ≤ℤ key_to p d h.0) (sym back.1.1) (h.1.greatest e back.0 back.1.0)));
      },
    )

module _ (p q : Patch) (nodata : NoDataNumbers) (alike : AreAlike p q) where
  height_same : height p ≡ height q
  height_same = ap (λ z. unwrap_or z (pos 0)) alike.here.z

  data_back : IsSome q.here.z → IsSome p.here.z
  data_back = subst IsSome (sym alike.here.z)

  void_back : IsNone q.here.z → IsNone p.here.z
  void_back = subst IsNone (sym alike.here.z)

  -- 1, 2
  blank : VoidCellWithoutRank nodata p → VoidCellWithoutRank nodata q
  blank h void =
      let four = h (void_back void) in
      record {
        con_is = sym alike.here.con ∙ four.con_is;
        dir_is = sym alike.here.dir ∙ four.dir_is;
        acc_is = sym alike.here.acc ∙ four.acc_is;
        bas_is = sym alike.here.bas ∙ four.bas_is;
      }

  complete : MissingWithoutRank nodata p → MissingWithoutRank nodata q
  complete h is_data =
      let four = h (data_back is_data) in
      record {
        con_differs = λ e. four.con_differs (alike.here.con ∙ e);
        dir_differs = λ e. four.dir_differs (alike.here.dir ∙ e);
        acc_differs = λ e. four.acc_differs (alike.here.acc ∙ e);
        bas_differs = λ e. four.bas_differs (alike.here.bas ∙ e);
      }

  -- 3
  has_code : BadCodeWithoutSpill p → BadCodeWithoutSpill q
  has_code h is_data = subst IsCode alike.here.dir (h (data_back is_data))

  -- 4
  above_ground : BelowGroundHolds p → BelowGroundHolds q
  above_ground h is_data = subst (λ x. x ≤ℤ q.here.con) height_same (subst (λ x. height p ≤ℤ x) alike.here.con (h (data_back is_data)))

  -- 5
  at_ground : OpenRaisedWithoutSpill p → OpenRaisedWithoutSpill q
  at_ground h is_open = sym alike.here.con ∙ (h (open_there (alike_turned alike) is_open) ∙ height_same)

  -- 9
  not_raised : NotLeastHolds p → NotLeastHolds q
  not_raised h is_data d w beside =
      let back = beside_there (alike_turned alike) d w beside in
      subst (λ x. x ≤ℤ int_max (height q) w.con) alike.here.con
      (subst (λ x. p.here.con ≤ℤ int_max x w.con) height_same
      (subst (λ x. p.here.con ≤ℤ int_max (height p) x) (sym back.1.1.con) (h (data_back is_data) d back.0 back.1.0)))

  -- 10
  goes_down : SlopeHolds p → SlopeHolds q
  goes_down h low =
      let on = h (has_lower_there (alike_turned alike) low) in
      (on.0, subst (λ n. Names n on.0) alike.here.dir on.1, steepest_there alike on.0 on.2)

  -- 11
  stops : OutletCodeHolds p → OutletCodeHolds q
  stops h is_open flat = sym alike.here.dir ∙ h (open_there (alike_turned alike) is_open) (λ low. flat (has_lower_there alike low))

  -- 12
  goes_along : LevelStepHolds p → LevelStepHolds q
  goes_along h closed flat =
      let on = h (closed_there (alike_turned alike) closed) (λ low. flat (has_lower_there alike low)) in
      let there = beside_there alike on.0 on.1 on.2.beside in (
        on.0,
        there.0,
        record {
          named = subst (λ n. Names n on.0) alike.here.dir on.2.named;
          beside = there.1.0;
          level = sym there.1.1.con ∙ (on.2.level ∙ alike.here.con);
        },
      )

  -- 13
  counts : AccumulationHolds p → AccumulationHolds q
  counts h is_data =
      sym alike.here.acc ∙ (h (data_back is_data) ∙
      ap (λ x. pos 1 +ℤ x) (total-same (λ d. inflow (neighbor p d) d) (λ d. inflow (neighbor q d) d)
      (λ d. inflow_same (neighbor p d) (neighbor q d) d (alike.around d)) directions))

  -- 14
  keeps_label : LabelHolds p → LabelHolds q
  keeps_label h is_data d w named beside =
      let back = beside_there (alike_turned alike) d w beside in
      sym alike.here.bas ∙ (h (data_back is_data) d back.0 (subst (λ n. Names n d) (sym alike.here.dir) named) back.1.0 ∙ sym back.1.1.bas)

  -- each rule without ranks holds of the one where it holds of the other
  pub unranked_there : (r : Rule) → unranked nodata p r → unranked nodata q r
  unranked_there VoidCell h = blank h
  unranked_there Missing h = complete h
  unranked_there BadCode h = has_code h
  unranked_there BelowGround h = above_ground h
  unranked_there OpenRaised h = at_ground h
  unranked_there NotLeast h = not_raised h
  unranked_there Slope h = goes_down h
  unranked_there OutletCode h = stops h
  unranked_there FlatStep h = goes_along h
  unranked_there Accumulation h = counts h
  unranked_there Label h = keeps_label h
  unranked_there r h = h

  -- and so does each with ranks, where these are the same
  value_same : HaveSameRanks p q → (k : SetProduct) → value_of p.here (product_of k) ≡ value_of q.here (product_of k)
  value_same ranks held.Con = alike.here.con
  value_same ranks held.Dir = alike.here.dir
  value_same ranks held.Acc = alike.here.acc
  value_same ranks held.Bas = alike.here.bas
  value_same ranks held.Rnk = ranks.here

  blank_ranked : HaveSameRanks p q → VoidCellWithoutSpill nodata p → VoidCellWithoutSpill nodata q
  blank_ranked ranks h void k = sym (value_same ranks k) ∙ h (void_back void) k

  complete_ranked : HaveSameRanks p q → MissingWithoutSpill nodata p → MissingWithoutSpill nodata q
  complete_ranked ranks h is_data k e = h (data_back is_data) k (value_same ranks k ∙ e)

  goes_nearer : HaveSameRanks p q → FlatStepHolds p → FlatStepHolds q
  goes_nearer ranks h closed flat =
      let on = h (closed_there (alike_turned alike) closed) (λ low. flat (has_lower_there alike low)) in
      let there = beside_there alike on.0 on.1 on.2.beside in
      let rank = ranks.around on.0 on.1 there.0 on.2.beside there.1.0 in (
        on.0,
        there.0,
        record {
          named = subst (λ n. Names n on.0) alike.here.dir on.2.named;
          beside = there.1.0;
          level = sym there.1.1.con ∙ (on.2.level ∙ alike.here.con);
          nearer = subst (λ x. x <ℤ q.here.rnk) rank (subst (λ x. on.1.rnk <ℤ x) ranks.here on.2.nearer);
        },
      )

  pub check_there : HaveSameRanks p q → (r : Rule) → check_rules nodata p r → check_rules nodata q r
  check_there ranks VoidCell h = blank_ranked ranks h
  check_there ranks Missing h = complete_ranked ranks h
  check_there ranks FlatStep h = goes_nearer ranks h
  check_there ranks r h = unranked_there r h
