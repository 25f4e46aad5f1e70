-- The products of a filled surface and of the ways on it are correct, and keep every rule.
--
-- con is the filled surface, and dir leads down the steepest way or along flats: so runs end, and with right counts and
-- labels all is correct. Correct products keep every rule without ranks; the ranks of ways keep rule 12, and are the
-- no-data number only at voids.
use Rattle.drain_maker.proofs.Names.{◌≡◌, ◌≢◌, ◌∙◌, ℕ, zero, suc, ◌≤◌, ◌*◌, ◌==◌, inl, inr, ℤ, pos, Bool, false, List, [], ◌∷◌, map, get_or, Option, Some, None, IsSome, IsNone, if◌then◌else◌, refl, sym, ap, subst, arith, false_from_ne_true, eqb-true, get_or-map, Cell, IsCorrect, RunsAreSound, GoesSteepest, index_of, Grid, IsInside, HasData, patch_at, HoldsAt, RulesHold, check_rules, flow_rules, VoidCellWithoutSpill, MissingWithoutSpill, IsAnyRule, IsWayRule, IsFlatCell, unranked_from_correct, runs_end, index_of-below, cell_flow, code_flow, AreFlowsOf, byte_flow, bytes_flows, MAX_CELLS, Flooding, IsSurfaceOf, ShowsVoids, AreCompleted, AreRouted, correct_by_routing, AreCountsAndLabels, listed, made_numbers, shown, RoutesEnd, RoutesKeepRules}
use Rattle.drain_grid.specs.declared.set_product.SetProduct.TheVariants.{Con, Dir, Acc, Bas, Rnk}
use Rattle.drain_grid.specs.declared.rule.Rule.{Rule}
use Rattle.drain_grid.specs.declared.rule.Rule.TheVariants.{VoidCell, Missing, BadCode, BelowGround, OpenRaised, NoSpill, SpillHeight, SpillRank, NotLeast, Slope, OutletCode, FlatStep, Accumulation, Label, SharedLabel}
use Rattle.drain_grid.proofs.Codes.{next-named}
use Rattle.drain_grid.proofs.Decisions.{cases}
use Rattle.drain_grid.proofs.PatchDecisions.{has_lower}
use Rattle.drain_grid.proofs.Slopes.{steepest_cell, HasLower-lower_cell}
use Rattle.drain_paths.specs.declared.flow.Flow.TheVariants.{Void}
use Rattle.drain_flood.specs.declared.layers.TheConstants as surface_codes
use Rattle.drain_flood.specs.Flats.{Laying, AreWaysOnFlats, ShowsWays}
use Rattle.drain_flood.specs.Laws.{ArePresent}
use Rattle.drain_flood.proofs.Looking.{flood_is_filled}
use Rattle.drain_flood.proofs.FlatRules.{flats_keep_rules}
use Rattle.drain_flood.proofs.FlatsPresent.{flats_are_present}
use Rattle.drain_paths.specs.declared.flow.TheConstants.{NO_CODE}

pub pos_at : (xs : List ℕ) (k : ℕ) → get_or (map (λ n. pos n) xs) k (pos 0) ≡ pos (get_or xs k 0)
pos_at [] k = refl
pos_at (x ∷ xs) zero = refl
pos_at (x ∷ xs) (suc k) = pos_at xs k

module _ (g : Grid) (f : Flooding) (w : Laying) (con : ℤ) (counts labels : List ℕ) (few : g.extent.rows * g.extent.cols ≤ MAX_CELLS)
    (surface : IsSurfaceOf g f) (voids : ShowsVoids g f con) (are : AreWaysOnFlats g f w) where
  shows : ShowsWays g f w (shown g.extent f w counts labels)
  shows = record {
    con = λ c. refl;
    rnk = λ c. pos_at w.rnk (index_of g.extent c);
    dir = λ c. pos_at w.way (index_of g.extent c);
  }

  ways : RulesHold flow_rules IsWayRule g (shown g.extent f w counts labels)
  ways = (flats_keep_rules g f w (shown g.extent f w counts labels) are shows).0

  present : (c : Cell) → IsInside g c → ArePresent g (shown g.extent f w counts labels) con c
  present c inside = flats_are_present g f w (shown g.extent f w counts labels) con few voids are shows c inside

  pub sound : RunsAreSound g (shown g.extent f w counts labels)
  sound = runs_end g (shown g.extent f w counts labels) ways

  -- the flows are the grid's
  pub flows_are : AreFlowsOf g (shown g.extent f w counts labels) g.extent (bytes_flows w.way)
  flows_are = record {
    extent = refl;
    each = λ c inside.
        (let below = index_of-below g.extent c inside in
        let at = get_or-map byte_flow w.way (index_of g.extent c) 0 Void (omega (arith, below, are.counted.way)) in
        at ∙ by_data c inside (g.elevation c) refl);
  }
    where
      with_code : (code : ℕ) → code ≢ surface_codes.VOID → byte_flow code ≡ code_flow (pos code)
      with_code code other =
          let differ : (code == NO_CODE) ≡ false = false_from_ne_true (code == NO_CODE) (λ same. other (eqb-true code NO_CODE same)) in
          ap (λ (b : Bool). if b then Void else code_flow (pos code)) differ

      by_data : (c : Cell) → IsInside g c → (o : Option ℤ) → g.elevation c ≡ o →
          byte_flow (get_or w.way (index_of g.extent c) 0) ≡ cell_flow o (listed g.extent w.way c)
      by_data c inside None void = ap byte_flow (are.voids c inside (subst IsNone (sym void) refl)).way
      by_data c inside (Some z) some =
          (let here : HasData g c = record { inside = inside; is_data = subst IsSome (sym some) refl } in
          with_code (get_or w.way (index_of g.extent c) 0)
          (λ none. (present c inside).data_dir here (pos_at w.way (index_of g.extent c) ∙ ap (λ n. pos n) none))
          ∙ ap code_flow (sym (pos_at w.way (index_of g.extent c))))

  -- off flats the code names a steepest neighbour
  goes_steepest : (c : Cell) → HasData g c → ¬ IsFlatCell g (shown g.extent f w counts labels) c → GoesSteepest g (shown g.extent f w counts labels) c
  goes_steepest c here not_flat =
      elim (cases (has_lower (patch_at g (shown g.extent f w counts labels) c))) [
        | inl low ↦
            (let way = ways c Slope here.inside (omega arith, omega arith) low in
            let cell = steepest_cell g (shown g.extent f w counts labels) c way.0 here way.2 in
            let named = next-named g (shown g.extent f w counts labels) c cell.0 way.0 (record { named = way.1; there = cell.1; is_data = cell.2.lower.to_data.is_data }) in
            (cell.0, named, cell.2))
        | inr flat ↦ absurd (not_flat (here, λ n lower. flat (HasLower-lower_cell g (shown g.extent f w counts labels) c n lower)))
      ]

  routed : AreRouted g (shown g.extent f w counts labels) (made_numbers con)
  routed = record {
    void_con = λ c inside void. ((present c inside).void void).0;
    void_dir = λ c inside void. ((present c inside).void void).1;
    data_con = λ c here. (present c here.inside).data_con here;
    data_dir = λ c here. (present c here.inside).data_dir here;
    least = (flood_is_filled g f surface).least;
    never_climbs = λ c here. (sound c here).never_climbs;
    steepest = goes_steepest;
    outlets = λ c here. (sound c here).outlets;
  }

  module _ (both : AreCountsAndLabels g (shown g.extent f w counts labels) g.extent counts labels) where
    completed : AreCompleted g (shown g.extent f w counts labels) g.extent counts labels
    completed = record {
      counts_are = both.counts_are;
      labels_are = both.labels_are;
      shown = record { acc = λ c inside. pos_at counts (index_of g.extent c); bas = λ c inside. pos_at labels (index_of g.extent c) };
    }

    pub correct : IsCorrect g (shown g.extent f w counts labels) (made_numbers con)
    correct = (correct_by_routing g (shown g.extent f w counts labels) (made_numbers con) g.extent counts labels refl refl completed).0 routed

    module _ (c : Cell) (inside : IsInside g c) where
      data_here : IsSome (g.elevation c) → HasData g c
      data_here is_data = record { inside = inside; is_data = is_data }

      blank : VoidCellWithoutSpill (made_numbers con) (patch_at g (shown g.extent f w counts labels) c)
      blank void Con = (correct.voids c inside void).con
      blank void Dir = (correct.voids c inside void).dir
      blank void Acc = (correct.voids c inside void).acc
      blank void Bas = (correct.voids c inside void).bas
      blank void Rnk = ((present c inside).void void).2

      complete : MissingWithoutSpill (made_numbers con) (patch_at g (shown g.extent f w counts labels) c)
      complete is_data Con = (correct.complete c (data_here is_data)).con
      complete is_data Dir = (correct.complete c (data_here is_data)).dir
      complete is_data Acc = (correct.complete c (data_here is_data)).acc
      complete is_data Bas = (correct.complete c (data_here is_data)).bas
      complete is_data Rnk = (present c inside).data_rnk (data_here is_data)

      holds : (r : Rule) → IsAnyRule r → HoldsAt (check_rules (made_numbers con)) g (shown g.extent f w counts labels) c r
      holds VoidCell any = blank
      holds Missing any = complete
      holds BadCode any = unranked_from_correct g (shown g.extent f w counts labels) (made_numbers con) correct c BadCode inside any
      holds BelowGround any = unranked_from_correct g (shown g.extent f w counts labels) (made_numbers con) correct c BelowGround inside any
      holds OpenRaised any = unranked_from_correct g (shown g.extent f w counts labels) (made_numbers con) correct c OpenRaised inside any
      holds NoSpill any = tt
      holds SpillHeight any = tt
      holds SpillRank any = tt
      holds NotLeast any = unranked_from_correct g (shown g.extent f w counts labels) (made_numbers con) correct c NotLeast inside any
      holds Slope any = unranked_from_correct g (shown g.extent f w counts labels) (made_numbers con) correct c Slope inside any
      holds OutletCode any = unranked_from_correct g (shown g.extent f w counts labels) (made_numbers con) correct c OutletCode inside any
      holds FlatStep any = ways c FlatStep inside (omega arith, omega arith)
      holds Accumulation any = unranked_from_correct g (shown g.extent f w counts labels) (made_numbers con) correct c Accumulation inside any
      holds Label any = unranked_from_correct g (shown g.extent f w counts labels) (made_numbers con) correct c Label inside any
      holds SharedLabel any = unranked_from_correct g (shown g.extent f w counts labels) (made_numbers con) correct c SharedLabel inside any

pub routes_end : RoutesEnd
routes_end g f w con counts labels few surface voids are =
    (flows_are g f w con counts labels few surface voids are, λ c here. (sound g f w con counts labels few surface voids are c here).ends)

pub routes_keep_rules : RoutesKeepRules
routes_keep_rules g f w con counts labels few surface voids are both = record {
  correct = correct g f w con counts labels few surface voids are both;
  runs = sound g f w con counts labels few surface voids are;
  rules = λ c r inside any. holds g f w con counts labels few surface voids are both c inside r any;
}
