-- What the tests of the direction and of ranks give at an inland cell.
use Rattle.drain_kernel.proofs.Names.{◌≡◌, ◌⊎◌, ℕ, ◌-◌, ◌*◌, ◌≤◌, ◌<◌, ℤ, pos, ◌-ℤ◌, ◌≤ℤ◌, ◌<ℤ◌, Bool, true, false, not, ◌&&◌, ◌==◌, map, List, Option, inl, inr, refl, sym, ◌∙◌, ap, subst, arith, if◌then◌else◌, false≢true, and_parts, or_cases, Decides-eqb, Decides-ltb, ints, Direction, directions, Names, NamesSome, is_straight, Values, IsDataNeighbor, IsLower, HasLower, Whole, Single, slope_key, key_to, IsSteepest, Distances, unit_spacing, weight_of, SlopeHolds, FlatStepHolds, LabelHolds, IsLevelStep, LevelStepHolds, same_some, least_straight_in, least_across_in, lowered, Slopes, AreSound, falls_by_fractions, falls_by_heights, falls_down, is_unit, keeps_way_down, is_whole, keeps_label}
use Rattle.drain_grid.specs.declared.height_kind.HeightKind.{HeightKind}
use Rattle.drain_grid.specs.HeightKinds.{height_of}
use Rattle.drain_kernel.specs.Tests.{falls_steepest, steps_along, is_ranked}
use Rattle.drain_kernel.proofs.Inland.{IsInland, is_beside, of_beside, le_from}
use Rattle.drain_kernel.proofs.FloatWays.{HasNoGreaterKey, float_at, steepest_by_keys}
use Rattle.drain_kernel.proofs.FractionWays.{counted, steepest_by_fractions}
use Rattle.drain_kernel.proofs.Keys.{weight, key_is, unit_weight, straight_is_greatest, across_is_greatest}
use Rattle.drain_kernel.proofs.NamedNumbers.{named_is, names_some, straight_is, least_straight_bound, least_across_bound, least_bound}
use Rattle.drain_kernel.proofs.Numbers.{Numbers, values_of, patch_of}

lt_lowered : (bias other a b : ℕ) → other ≡ bias → a < b → lowered other a <ℤ lowered bias b
lt_lowered bias other a b same h = omega (arith, ints)

lt_from_lowered : (bias other a b : ℕ) → other ≡ bias → lowered other a <ℤ lowered bias b → a < b
lt_from_lowered bias other a b same h = omega (arith, ints)

-- data neighbours have these numbers, and each neighbour has data whose con is below this number
pub record AreSeen (highest : ℕ) (here : Numbers) (n : Direction → Numbers) (around : List (Option Values)) : Type 0 where
  pub bias_is : (d : Direction) → (n d).bias ≡ here.bias
  pub data_is : (d : Direction) (m : Values) → IsDataNeighbor (patch_of here around) d m → values_of (n d) ≡ m
  pub has_data : (d : Direction) → (n d).con < highest → IsDataNeighbor (patch_of here around) d (values_of (n d))

seen_inland : (highest : ℕ) (here : Numbers) (n : Direction → Numbers) (around : List (Option Values)) → IsInland here n around → AreSeen highest here n around
seen_inland highest here n around known = record {
  bias_is = known.bias_is;
  data_is = λ d m beside. same_some (values_of (n d)) m (sym (known.neighbor_is d) ∙ beside.is);
  has_data = λ d low. is_beside here n around known d;
}

-- a neighbour with a smaller number is lower
lower_beside : (highest : ℕ) (here : Numbers) (n : Direction → Numbers) (around : List (Option Values)) → AreSeen highest here n around → here.con ≤ highest →
    (d : Direction) → (n d).con < here.con → IsLower (patch_of here around) d (values_of (n d))
lower_beside highest here n around seen fits d less = record {
  beside = seen.has_data d (omega (arith, less, fits));
  below = lt_lowered here.bias (n d).bias (n d).con here.con (seen.bias_is d) less;
}

-- and a lower one has a smaller number
pub number_of_lower : (highest : ℕ) (here : Numbers) (n : Direction → Numbers) (around : List (Option Values)) → AreSeen highest here n around → (d : Direction) (m : Values) →
    IsLower (patch_of here around) d m → (n d).con < here.con
number_of_lower highest here n around seen d m lower =
    lt_from_lowered here.bias (n d).bias (n d).con here.con (seen.bias_is d) (subst (λ (v : Values). v.con <ℤ lowered here.bias here.con) (sym (seen.data_is d m lower.beside)) lower.below)

-- a lower neighbour is a steepest, if the key of no lower one is greater
is_steepest : (highest : ℕ) (here : Numbers) (n : Direction → Numbers) (around : List (Option Values)) → AreSeen highest here n around → here.con ≤ highest → (d : Direction) →
    (n d).con < here.con →
    ((e : Direction) → (n e).con < here.con → key_to (patch_of here around) e (values_of (n e)) ≤ℤ key_to (patch_of here around) d (values_of (n d))) →
    IsSteepest (patch_of here around) d
is_steepest highest here n around seen fits d less most = (
  values_of (n d),
  record {
    lower = lower_beside highest here n around seen fits d less;
    greatest = λ e m lower.
        subst (λ (v : Values). key_to (patch_of here around) e v ≤ℤ key_to (patch_of here around) d (values_of (n d))) (seen.data_is e m lower.beside)
        (most e (number_of_lower highest here n around seen e m lower));
  },
)

-- so of whole heights, by what counts of them
steepest_whole : (highest : ℕ) (here : Numbers) (n : Direction → Numbers) (around : List (Option Values)) → AreSeen highest here n around → here.con ≤ highest → (d : Direction) →
    here.spacing.kind ≡ Whole → ((n d).con < here.con) × ((e : Direction) → counted here.spacing here.con e (n e).con ≤ counted here.spacing here.con d (n d).con) →
    IsSteepest (patch_of here around) d
steepest_whole highest here n around seen fits d whole falls =
    is_steepest highest here n around seen fits d falls.0
    (λ e below.
    let there : (n e).con ≤ here.con = omega (arith, below) in
    let own : (n d).con ≤ here.con = omega (arith, falls.0) in
    subst (λ (kind : HeightKind). slope_key (weight_of here.spacing e) (height_of kind (lowered here.bias here.con) -ℤ height_of kind (lowered (n e).bias (n e).con)) ≤ℤ slope_key (weight_of here.spacing d) (height_of kind (lowered here.bias here.con) -ℤ height_of kind (lowered (n d).bias (n d).con)))
    (sym whole)
    (le_of_keys _ _ _ _ (key_is (weight_of here.spacing e) here.bias (n e).bias here.con (n e).con (seen.bias_is e) there)
    (key_is (weight_of here.spacing d) here.bias (n d).bias here.con (n d).con (seen.bias_is d) own) (falls.1 e)))
  where
    le_of_keys : (a b : ℤ) (x y : ℕ) → a ≡ pos x → b ≡ pos y → x ≤ y → a ≤ℤ b
    le_of_keys a b x y is_x is_y h = omega (arith, ints, is_x, is_y, h)

-- and of floats, by their keys
steepest_float : (highest : ℕ) (here : Numbers) (n : Direction → Numbers) (around : List (Option Values)) → AreSeen highest here n around → here.con ≤ highest → (d : Direction) →
    here.spacing.kind ≡ Single →
    ((n d).con < here.con) × ((e : Direction) → HasNoGreaterKey here.bias here.con (weight_of here.spacing e) (n e).con (weight_of here.spacing d) (n d).con) →
    IsSteepest (patch_of here around) d
steepest_float highest here n around seen fits d single falls =
    is_steepest highest here n around seen fits d falls.0
    (λ e below.
    subst (λ (kind : HeightKind). slope_key (weight_of here.spacing e) (height_of kind (lowered here.bias here.con) -ℤ height_of kind (lowered (n e).bias (n e).con)) ≤ℤ slope_key (weight_of here.spacing d) (height_of kind (lowered here.bias here.con) -ℤ height_of kind (lowered (n d).bias (n d).con)))
    (sym single)
    (subst (λ b. slope_key (weight_of here.spacing e) (float_at here.bias here.con -ℤ float_at b (n e).con) ≤ℤ slope_key (weight_of here.spacing d) (float_at here.bias here.con -ℤ float_at (n d).bias (n d).con)) (sym (seen.bias_is e))
    (subst (λ b. slope_key (weight_of here.spacing e) (float_at here.bias here.con -ℤ float_at here.bias (n e).con) ≤ℤ slope_key (weight_of here.spacing d) (float_at here.bias here.con -ℤ float_at b (n d).con)) (sym (seen.bias_is d))
    (falls.1 e below))))

-- the code leads down the steepest way between square cells
steepest_by_squares : (con code : ℕ) (cons : Direction → ℕ) (d : Direction) → Names (pos code) d → falls_steepest con code (map cons directions) ≡ true →
    (cons d < con) × ((e : Direction) → counted unit_spacing con e (cons e) ≤ counted unit_spacing con d (cons d))
unfolding falls_steepest
steepest_by_squares con code cons d named h =
    let parts = and_parts _ _ h in
    let next = named_is cons code d named in
    let way = straight_is code d named in (
      subst (λ x. x < con) next ((Decides-ltb _ _).0 parts.0),
      (λ e. by_weights e (elim (or_cases _ _ parts.1) [
        | inl straight ↦ (
            let bound = and_parts _ _ straight in
            let goes = and_parts _ _ bound.0 in
            let at : cons d ≡ least_straight_in (map cons directions) = sym next ∙ (Decides-eqb _ _).0 goes.1 in
            subst (λ s. weight (is_straight e) ((con - cons e) * (con - cons e)) ≤ weight s ((con - cons d) * (con - cons d))) (sym (sym way ∙ goes.0))
            (subst (λ x. weight (is_straight e) ((con - cons e) * (con - cons e)) ≤ weight true ((con - x) * (con - x))) (sym at)
            (straight_is_greatest con _ _ (cons e) (is_straight e) (least_straight_bound cons e) (least_across_bound cons e) (le_from _ _ bound.1))))
        | inr across ↦ (
            let bound = and_parts _ _ across in
            let goes = and_parts _ _ bound.0 in
            let at : cons d ≡ least_across_in (map cons directions) = sym next ∙ (Decides-eqb _ _).0 goes.1 in
            subst (λ s. weight (is_straight e) ((con - cons e) * (con - cons e)) ≤ weight s ((con - cons d) * (con - cons d))) (sym (sym way ∙ false_from _ goes.0))
            (subst (λ x. weight (is_straight e) ((con - cons e) * (con - cons e)) ≤ weight false ((con - x) * (con - x))) (sym at)
            (across_is_greatest con _ _ (cons e) (is_straight e) (least_straight_bound cons e) (least_across_bound cons e) (le_from _ _ bound.1))))
      ])),
    )
  where
    false_from : (b : Bool) → not b ≡ true → b ≡ false
    false_from true e = absurd (false≢true e)
    false_from false e = refl

    by_weights : (e : Direction) → weight (is_straight e) ((con - cons e) * (con - cons e)) ≤ weight (is_straight d) ((con - cons d) * (con - cons d)) →
        counted unit_spacing con e (cons e) ≤ counted unit_spacing con d (cons d)
    by_weights e most =
        subst (λ x. x ≤ counted unit_spacing con d (cons d)) (unit_weight e ((con - cons e) * (con - cons e)))
        (subst (λ x. weight (is_straight e) ((con - cons e) * (con - cons e)) ≤ x) (unit_weight d ((con - cons d) * (con - cons d))) most)

-- heights are whole where the test says so
pub whole_from : (kind : HeightKind) → is_whole kind ≡ true → kind ≡ Whole
whole_from Whole h = refl
whole_from Single h = absurd (false≢true h)

-- the spacing is that of unit cells where the test says so
unit_from : (s : Distances) → is_unit s ≡ true → unit_spacing ≡ s
unit_from s h =
    let both = and_parts (is_whole s.kind) ((s.width == 1) && (s.height == 1)) h in
    let parts = and_parts (s.width == 1) (s.height == 1) both.1 in
    let width : 1 ≡ s.width = sym ((Decides-eqb s.width 1).0 parts.0) in
    let height : 1 ≡ s.height = sym ((Decides-eqb s.height 1).0 parts.1) in
    let kind : Whole ≡ s.kind = sym (whole_from s.kind both.0) in
    λ i. record { width = width i; height = height i; kind = kind i }

-- and floats where it says not
single_from : (kind : HeightKind) → is_whole kind ≡ false → kind ≡ Single
single_from Whole h = absurd (false≢true (sym h))
single_from Single h = refl

-- the code leads down the steepest way, by the slopes of its row
pub steepest_down : (s : Slopes) (highest : ℕ) (here : Numbers) (n : Direction → Numbers) (around : List (Option Values)) → AreSound s → here.spacing ≡ s.spacing →
    AreSeen highest here n around → (d : Direction) → Names (pos here.dir) d → here.con ≤ highest →
    falls_down here.bias s here.con here.dir (map (λ d. (n d).con) directions) ≡ true → IsSteepest (patch_of here around) d
steepest_down s highest here n around sound spaced seen d named fits h = by_tests (is_unit s.spacing) (is_whole s.spacing.kind) refl refl h
  where
    cons : Direction → ℕ
    cons e = (n e).con

    kind_is : here.spacing.kind ≡ s.spacing.kind
    kind_is = ap (λ (t : Distances). t.kind) spaced

    by_counts : s.spacing.kind ≡ Whole → ((cons d < here.con) × ((e : Direction) → counted s.spacing here.con e (cons e) ≤ counted s.spacing here.con d (cons d))) →
        IsSteepest (patch_of here around) d
    by_counts whole falls =
        steepest_whole highest here n around seen fits d (kind_is ∙ whole)
        (falls.0, subst (λ t. (e : Direction) → counted t here.con e (cons e) ≤ counted t here.con d (cons d)) (sym spaced) falls.1)

    by_tests : (unit whole : Bool) → is_unit s.spacing ≡ unit → is_whole s.spacing.kind ≡ whole →
        (if unit then falls_steepest here.con here.dir (map cons directions) else
        if whole then falls_by_fractions s here.con here.dir (map cons directions) else falls_by_heights here.bias s.spacing here.con here.dir (map cons directions)) ≡ true →
        IsSteepest (patch_of here around) d
    by_tests true whole unit kind passes =
        let falls = steepest_by_squares here.con here.dir cons d named passes in
        by_counts (whole_from s.spacing.kind (and_parts (is_whole s.spacing.kind) ((s.spacing.width == 1) && (s.spacing.height == 1)) unit).0)
        (falls.0, subst (λ t. (e : Direction) → counted t here.con e (cons e) ≤ counted t here.con d (cons d)) (unit_from s.spacing unit) falls.1)
    by_tests false true other kind passes = by_counts (whole_from s.spacing.kind kind) (steepest_by_fractions s here.con here.dir cons d sound named passes)
    by_tests false false other kind passes =
        let falls = steepest_by_keys here.bias s.spacing here.con here.dir cons d named passes in
        steepest_float highest here n around seen fits d (kind_is ∙ single_from s.spacing.kind kind)
        (falls.0, subst (λ t. (e : Direction) → HasNoGreaterKey here.bias here.con (weight_of t e) (cons e) (weight_of t d) (cons d)) (sym spaced) falls.1)

-- a step along the flat, at a cell with no lower neighbour
step_from : (here : Numbers) (n : Direction → Numbers) (around : List (Option Values)) → IsInland here n around → (d : Direction) → Names (pos here.dir) d →
    steps_along here.con here.dir (map (λ d. (n d).con) directions) ≡ true →
    (¬ HasLower (patch_of here around)) × IsLevelStep (patch_of here around) d (values_of (n d))
unfolding steps_along
step_from here n around known d named h =
    let level = and_parts _ _ h in
    let least = le_from _ _ level.1 in (
      (λ lower. let e = lower.1.0 in
          let below = number_of_lower here.con here n around (seen_inland here.con here n around known) e lower.1.1.0 lower.1.1.1 in
          let bound = least_bound (λ d. (n d).con) e in
          absurd (omega arith)),
      record {
        named = named;
        beside = is_beside here n around known d;
        level = level_is _ _ _ _ (known.bias_is d) (sym (named_is (λ d. (n d).con) here.dir d named) ∙ (Decides-eqb _ _).0 level.0);
      },
    )
  where
    level_is : (bias other a b : ℕ) → other ≡ bias → a ≡ b → lowered other a ≡ lowered bias b
    level_is bias other a b same is = λ i. lowered (same i) (is i)

-- what the test of the direction gives
pub record OfDirection (here : Numbers) (around : List (Option Values)) : Type 0 where
  pub named : NamesSome (pos here.dir)
  pub slope : SlopeHolds (patch_of here around)
  pub level_step : LevelStepHolds (patch_of here around)

pub of_direction : (s : Slopes) (here : Numbers) (n : Direction → Numbers) (around : List (Option Values)) → AreSound s → here.spacing ≡ s.spacing →
    IsInland here n around → keeps_way_down here.bias s here.con here.dir (map (λ d. (n d).con) directions) ≡ true → OfDirection here around
of_direction s here n around sound spaced known h =
    let goes = and_parts _ _ h in
    let code = names_some here.dir goes.0 in
    let d = code.0 in
    elim (or_cases _ _ goes.1) [
      | inl falls ↦ (
          let steepest = steepest_down s here.con here n around sound spaced (seen_inland here.con here n around known) d code.1 (omega arith) falls in
          record {
            named = code;
            slope = λ _. (d, code.1, steepest);
            level_step = λ closed none. absurd (none (closed.0, (d, (steepest.0, steepest.1.lower))));
          })
      | inr along ↦ (
          let step = step_from here n around known d code.1 along in
          record {
            named = code;
            slope = λ lower. absurd (step.0 lower);
            level_step = λ _ _. (d, values_of (n d), step.1);
          })
    ]

-- what the test of the label gives
pub of_label : (here : Numbers) (n : Direction → Numbers) (around : List (Option Values)) → IsInland here n around →
    keeps_label here.dir here.bas (map (λ d. (n d).bas) directions) ≡ true → LabelHolds (patch_of here around)
of_label here n around known h = λ _ e m named beside.
    of_beside here n around known e m (λ v. pos here.bas ≡ v.bas)
    (ap pos (sym ((Decides-eqb _ _).0 h) ∙ named_is (λ d. (n d).bas) here.dir e named)) beside

-- the code leads to a smaller conditioned elevation, or to a smaller rank
abbrev pub IsRanked : Numbers → (Direction → Numbers) → Type 0
IsRanked here n = (d : Direction) → Names (pos here.dir) d → ((n d).con < here.con) ⊎ ((n d).rnk <ℤ here.rnk)

lt_of_ranks : (r s : ℤ) (a b : ℕ) → r ≡ pos a → s ≡ pos b → a < b → r <ℤ s
lt_of_ranks r s a b is_a is_b h = omega (arith, ints)

pub ranked_from : (here : Numbers) (n : Direction → Numbers) (rank : ℕ) (ranks : Direction → ℕ) → here.rnk ≡ pos rank →
    ((d : Direction) → (n d).rnk ≡ pos (ranks d)) →
    is_ranked here.con here.dir (map (λ d. (n d).con) directions) rank (map ranks directions) ≡ true → IsRanked here n
unfolding is_ranked
ranked_from here n rank ranks own others h = λ d named. elim (or_cases _ _ h) [
  | inl falls ↦ inl (subst (λ x. x < here.con) (named_is (λ e. (n e).con) here.dir d named) ((Decides-ltb _ _).0 falls))
  | inr lower ↦ inr (lt_of_ranks (n d).rnk here.rnk (ranks d) rank (others d) own
      (subst (λ x. x < rank) (named_is ranks here.dir d named) ((Decides-ltb _ _).0 lower)))
]

-- so a step along the flat leads to a smaller rank
pub flat_step_from : (here : Numbers) (n : Direction → Numbers) (around : List (Option Values)) → IsInland here n around →
    LevelStepHolds (patch_of here around) → IsRanked here n → FlatStepHolds (patch_of here around)
flat_step_from here n around known holds ranked = λ closed none.
    let found = holds closed none in
    let d = found.0 in
    let v = found.1 in
    let step = found.2 in
    let nearer : v.con ≡ lowered here.bias here.con → v.rnk <ℤ here.rnk =
    of_beside here n around known d v (λ m. m.con ≡ lowered here.bias here.con → m.rnk <ℤ here.rnk)
    (λ level. elim (ranked d step.named) [
      | inl less ↦ absurd (not_less here.bias (n d).bias (n d).con here.con (known.bias_is d) level less)
      | inr less ↦ less
    ]) step.beside in
    (d, v, record { named = step.named; beside = step.beside; level = step.level; nearer = nearer step.level })
  where
    not_less : (bias other a b : ℕ) → other ≡ bias → lowered other a ≡ lowered bias b → a < b → ⊥
    not_less bias other a b one same h = omega (arith, ints)
