-- What an audit rests on: products are correct exactly where every rule holds with the numbers of steps for ranks, and
-- exactly where every run ends and every rule without ranks holds. One way is that rules make products correct
-- (AllRules), the other that correct products keep the rules (FromCorrect); in between, products differ only in ranks
-- (Alike, WithoutRanks). Where the rules without ranks hold, every run ends anyway (RunsByCounts), so these rules are
-- enough.
use Rattle.drain_grid.proofs.Names.{◌≡◌, ◌*◌, ◌∷◌, ℤ, negsuc, refl, subst, arith, Cell, check_rules, level_rules, with_ranks, with_rank_nodata, RulesHold, IsAnyRule, IsCountRule, IsFlowRule, RulesAreCorrect, CorrectIsLocal, CorrectByRulesAlone, RanksPlayNoPart, SoundFromCorrect, Grid, Products, IsOutlet, VisitsOnce, run_end, RunsAreSound}
use Rattle.drain_grid.proofs.AllRules.{correct_from_rules}
use Rattle.drain_grid.proofs.FromCorrect.{rules_from_correct, unranked_from_correct}
use Rattle.drain_grid.proofs.Profiles.{RulesHold-level, RulesHold-within}
use Rattle.drain_grid.proofs.Ranks.{own_ranks_play_no_part}
use Rattle.drain_grid.proofs.RunsByCounts.{runs_end_by_counts}
use Rattle.drain_grid.proofs.Alike.{RunEnds-alike, IsCorrect-ranks, climbs_there, outlet_back, outlet_there, run_end-alike, steps-alike}
use Rattle.drain_grid.proofs.WithoutRanks.{unranked-ranks, step_ranks, step_ranks-right}

pub rules_are_correct : RulesAreCorrect
rules_are_correct g ps nodata ranks rank_nodata are_steps = (
  (λ rules. IsCorrect-ranks g (with_ranks ps ranks) (with_rank_nodata nodata rank_nodata) ps.rnk nodata.rnk
      (correct_from_rules g (with_ranks ps ranks) (with_rank_nodata nodata rank_nodata) rules).0),
  (λ correct. rules_from_correct g (with_ranks ps ranks) (with_rank_nodata nodata rank_nodata)
      (IsCorrect-ranks g ps nodata ranks rank_nodata correct) are_steps),
)

pub ranks_play_no_part : RanksPlayNoPart
ranks_play_no_part g ps nodata ranks rank_nodata ends are_steps c r inside =
    let qs = with_ranks ps ranks in
    let same : (x : Cell) → ps.dir x ≡ qs.dir x = λ x. refl in
    let own = own_ranks_play_no_part g qs (with_rank_nodata nodata rank_nodata) (λ x here. RunEnds-alike g ps qs same x (ends x here)) are_steps c r inside in (
      λ h. unranked-ranks g qs (with_rank_nodata nodata rank_nodata) ps.rnk nodata.rnk c inside r (own.0 h),
      λ h. own.1 (unranked-ranks g ps nodata ranks rank_nodata c inside r h),
    )

-- runs that are sound with some ranks are sound with any
sound_ranks : (g : Grid) (ps : Products) (ranks : Cell → ℤ) → RunsAreSound g ps → RunsAreSound g (with_ranks ps ranks)
sound_ranks g ps ranks sound c here =
    let qs = with_ranks ps ranks in
    let same : (x : Cell) → ps.dir x ≡ qs.dir x = λ x. refl in
    let is = sound c here in
    record {
      never_climbs = climbs_there g ps ranks c is.never_climbs;
      once = subst (λ rest. VisitsOnce (c ∷ rest)) (steps-alike g ps qs same (g.extent.rows * g.extent.cols) c) is.once;
      ends = RunEnds-alike g ps qs same c is.ends;
      at_outlet = subst (IsOutlet g qs) (run_end-alike g ps qs same c) (outlet_there g ps ranks (run_end g ps c) is.at_outlet);
      outlets = (λ is_zero. outlet_there g ps ranks c (is.outlets.0 is_zero), λ outlet. is.outlets.1 (outlet_back g ps ranks c outlet));
    }

pub sound_from_correct : SoundFromCorrect
sound_from_correct g ps nodata correct =
    let ranks = step_ranks g ps in
    let qs = with_ranks ps ranks in
    let rules = rules_from_correct g qs (with_rank_nodata nodata (negsuc 0)) (IsCorrect-ranks g ps nodata ranks (negsuc 0) correct) (step_ranks-right g ps nodata) in
    sound_ranks g qs ps.rnk (correct_from_rules g qs (with_rank_nodata nodata (negsuc 0)) rules).1

pub correct_is_local : CorrectIsLocal
correct_is_local g ps nodata = (
  (λ correct. (correct.runs_end, unranked_from_correct g ps nodata correct)),
  (λ h.
      (let ranks = step_ranks g ps in
      let qs = with_ranks ps ranks in
      let same : (c : Cell) → ps.dir c ≡ qs.dir c = λ c. refl in
      let rules : RulesHold (check_rules (with_rank_nodata nodata (negsuc 0))) IsAnyRule g qs = λ c r inside between.
      (own_ranks_play_no_part g qs (with_rank_nodata nodata (negsuc 0)) (λ x here. RunEnds-alike g ps qs same x (h.0 x here))
      (step_ranks-right g ps nodata) c r inside).1 (unranked-ranks g ps nodata ranks (negsuc 0) c inside r (h.1 c r inside between)) in
      IsCorrect-ranks g qs (with_rank_nodata nodata (negsuc 0)) ps.rnk nodata.rnk
      (correct_from_rules g qs (with_rank_nodata nodata (negsuc 0)) rules).0)),
)

pub correct_by_rules_alone : CorrectByRulesAlone
correct_by_rules_alone g ps nodata = (
  (λ correct. unranked_from_correct g ps nodata correct),
  (λ rules.
      (let counted = RulesHold-within level_rules IsCountRule IsFlowRule g ps (λ r own. (own.0, omega (arith, own.1)))
      (RulesHold-level nodata g ps rules) in
      (correct_is_local g ps nodata).1 (runs_end_by_counts g ps counted, rules))),
)
