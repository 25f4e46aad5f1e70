-- A cell that lies on its ground and falls is kept, whatever lies beside it.
use Rattle.drain_kernel.proofs.Names.{◌≡◌, ◌≢◌, ℕ, pos, true, map, List, Option, is_some, inr, sym, ◌∙◌, ap, subst, and_parts, Decides-eqb, Direction, Patch, directions, code_of, Names, Values, HasLower, LabelHolds, IsSteepest, HaveOneBias, ThreeLanes, Rules, IfJudged, has_acc, has_rnk, FallsAt, highest, IsKept, HaveRanks, IsShownRoundIn, tried, Slopes, AreSound}
use Rattle.drain_kernel.specs.Falls.{keeps_fall}
use Rattle.drain_kernel.proofs.ClearedRules.{cleared}
use Rattle.drain_kernel.proofs.Inland.{bias_beside, le_from, no_void, some_height}
use Rattle.drain_kernel.proofs.Meaning.{are_complete, no_outlet, not_zero}
use Rattle.drain_kernel.proofs.NamedNumbers.{named_is, names_some}
use Rattle.drain_kernel.proofs.Numbers.{Numbers, numbers_in, patch_of, values_are}
use Rattle.drain_kernel.proofs.Counting.{if_tested}
use Rattle.drain_kernel.proofs.Ways.{AreSeen, steepest_down}
use Rattle.drain_kernel.proofs.OnGround.{IsSound, keeps_rules, rank_from}
use Rattle.drain_kernel.proofs.SeenNumbers.{are_seen, numbers_seen, sum_from}

-- what the test of the fall gives
record OfFall (here : Numbers) (around : List (Option Values)) : Type 0 where
  has_data : here.z ≢ 0
  level : here.con ≡ here.z
  way : (d : Direction) × Names (pos here.dir) d × IsSteepest (patch_of here around) d
  label : LabelHolds (patch_of here around)

of_fall : (slopes : Slopes) (here : Numbers) (n : Direction → Numbers) (around : List (Option Values)) → AreSound slopes → here.spacing ≡ slopes.spacing →
    AreSeen (highest here.bias) here n around → keeps_fall slopes here.bias here.z here.con here.dir (map (λ d. (n d).con) directions) here.bas (map (λ d. (n d).bas) directions) ≡ true → OfFall here around
unfolding keeps_fall
of_fall slopes here n around sound spaced seen h =
    let labelled = and_parts _ _ h in
    let falls = and_parts _ _ labelled.0 in
    let named = and_parts _ _ falls.0 in
    let fits = and_parts _ _ named.0 in
    let level = and_parts _ _ fits.0 in
    let code = names_some here.dir named.1 in
    record {
      has_data = no_void here.z level.0;
      level = (Decides-eqb _ _).0 level.1;
      way = (code.0, code.1, steepest_down slopes (highest here.bias) here n around sound spaced seen code.0 code.1 (le_from _ _ fits.1) falls.1);
      label = λ _ e m names_e beside.
          let same : pos here.bas ≡ pos (n e).bas = ap pos (sym ((Decides-eqb _ _).0 labelled.1) ∙ named_is (λ d. (n d).bas) here.dir e names_e) in
          same ∙ ap (λ (v : Values). v.bas) (seen.data_is e m beside);
    }

-- so at a column where the tests pass
pub is_kept_there : (bias : ℕ) (rules : Rules) (rows : ThreeLanes) (k : ℕ) (p : Patch) → HaveOneBias bias rows → AreSound rows.slopes →
    p.spacing ≡ rows.slopes.spacing → IsShownRoundIn rows k p →
    IfJudged (has_rnk rules.judged) (HaveRanks rows) → FallsAt rules rows k → IsKept (tried rules) p
is_kept_there bias rules rows k p one slopes_sound spaced shown have passes =
    let same = bias_beside bias rows one in
    let above = rows.above in
    let here = rows.here in
    let below = rows.below in
    let at = numbers_in p.spacing here k p.here in
    let fall = of_fall rows.slopes at (numbers_seen above here below k p shown) p.around slopes_sound spaced (are_seen above here below k p shown same) passes.fall in
    let here_is = some_height at.bias at.z fall.has_data in
    let lower : HasLower (patch_of at p.around) = (ap is_some here_is, (fall.way.0, (fall.way.2.0, fall.way.2.1.lower))) in
    let sound : IsSound rules.nodata at p.around = record {
      here_is = here_is;
      level = fall.level;
      code = inr (fall.way.0, fall.way.1);
      slope = λ _. fall.way;
      outlet = λ _ none. absurd (none lower);
      not_flat = λ _ none. none lower;
      label = fall.label;
      complete = are_complete rules.nodata here k passes.has_way passes.has_counts;
    } in
    let sum = if_tested (has_acc rules.judged) _ _ (sum_from above here below k p shown same) passes.sum in
    let rank = rank_from (has_rnk rules.judged) rules.nodata rows k p.here shown.cell fall.has_data have passes.rank in
    let made : p ≡ patch_of at p.around = λ i. record { here = values_are p.spacing here k p.here shown.cell fall.has_data i; around = p.around; spacing = p.spacing } in
    subst (IsKept (tried rules)) (sym made) (record {
      holds = cleared rules.judged rules.nodata (patch_of at p.around)
          (λ r own. keeps_rules rules.nodata at p.around sound (has_rnk rules.judged) (has_acc rules.judged) sum rank r);
      has_data = ap is_some here_is;
      no_outlet = not_zero at.dir (code_of fall.way.0) fall.way.1 (no_outlet fall.way.0);
    })
