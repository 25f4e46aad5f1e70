-- Right counts and labels keep rules 13 to 15; with right heights and directions the products are then correct.
--
-- Rule 13: what drains through a cell is the cell itself and what drains through its inflows. Rules 14 and 15 say what
-- equal labels mean, for a cell and the next one, and for two outlets. At voids both numbers are 0, and at data cells
-- neither is.
use Rattle.drain_paths.proofs.Names.{◌≡◌, ◌≢◌, ◌∙◌, ℕ, pos, List, IsNone, sym, ap, arith, rules, ◌↔◌, Cell, IsCellOf, Extent, Grid, Products, IsInside, HasData, upstream_count, ShareBasin, ended_chains, upstream_count-parts, in_grid, cell_number, AllFlowsEnd}
use Rattle.drain_grid.specs.declared.rule.Rule.{Rule}
use Rattle.drain_grid.specs.declared.rule.Rule.TheVariants.{Slope, OutletCode, FlatStep, Accumulation, Label, SharedLabel}
use Rattle.drain_grid.specs.Correct.{IsCorrect}
use Rattle.drain_grid.specs.GridRules.{HoldsAt}
use Rattle.drain_grid.specs.PatchRules.{flow_rules}
use Rattle.drain_grid.specs.Product.{default_numbers}
use Rattle.drain_grid.specs.Values.{NoDataNumbers}
use Rattle.drain_grid.proofs.CountRules.{counts_inflows, has_own_label, keeps_label}
use Rattle.drain_paths.specs.Laws.{AreCompleted, AreCountsPresent, AreRouted, CorrectByRouting, CountsKeepRules, IsCountOrLabelRule}

pos-same : (a b : ℕ) → pos a ≡ pos b → a ≡ b
pos-same a b h = search rules

-- right heights and directions, with right counts and labels
pub with_counts : (g : Grid) (ps : Products) (nodata : NoDataNumbers) → AreRouted g ps nodata →
    ((c : Cell) → IsInside g c → IsNone (g.elevation c) → (ps.acc c ≡ nodata.acc) × (ps.bas c ≡ nodata.bas)) →
    ((c : Cell) → HasData g c → (ps.acc c ≢ nodata.acc) × (ps.bas c ≢ nodata.bas)) → AllFlowsEnd g ps →
    ((c : Cell) → HasData g c → ps.acc c ≡ pos (upstream_count g ps c)) →
    ((a b : Cell) → HasData g a → HasData g b → (ps.bas a ≡ ps.bas b) ↔ ShareBasin g ps a b) → IsCorrect g ps nodata
with_counts g ps nodata routed void there ends counts labels = record {
  voids = λ c inside is_void.
      (let both = void c inside is_void in
      record { con = routed.void_con c inside is_void; dir = routed.void_dir c inside is_void; acc = both.0; bas = both.1 });
  complete = λ c here. (let both = there c here in record { con = routed.data_con c here; dir = routed.data_dir c here; acc = both.0; bas = both.1 });
  least = routed.least;
  never_climbs = routed.never_climbs;
  steepest = routed.steepest;
  outlets = routed.outlets;
  runs_end = ends;
  counts = counts;
  labels = labels;
}

-- and what is right of heights and directions where all is
pub routed_part : (g : Grid) (ps : Products) (nodata : NoDataNumbers) → IsCorrect g ps nodata → AreRouted g ps nodata
routed_part g ps nodata correct = record {
  void_con = λ c inside is_void. (correct.voids c inside is_void).con;
  void_dir = λ c inside is_void. (correct.voids c inside is_void).dir;
  data_con = λ c here. (correct.complete c here).con;
  data_dir = λ c here. (correct.complete c here).dir;
  least = correct.least;
  never_climbs = correct.never_climbs;
  steepest = correct.steepest;
  outlets = correct.outlets;
}

-- at least the cell itself drains through it
pub upstream_some : (g : Grid) (ps : Products) → AllFlowsEnd g ps → (c : Cell) → HasData g c → upstream_count g ps c ≢ 0
upstream_some g ps ends c here none = (let parts = upstream_count-parts g ps (ended_chains g ps ends) c here in absurd (omega (arith, parts, none)))

module _ (g : Grid) (ps : Products) (e : Extent) (counts labels : List ℕ) (are : AreCompleted g ps e counts labels) where
  at_cell : (c : Cell) → IsInside g c → IsCellOf e c
  at_cell c inside = in_grid g e c are.counts_are.extent inside

  acc_is : (c : Cell) → HasData g c → ps.acc c ≡ pos (upstream_count g ps c)
  acc_is c here = are.shown.acc c (at_cell c here.inside) ∙ ap (λ n. pos n) (are.counts_are.counts_are c here)

  bas_is : (c : Cell) → HasData g c → ps.bas c ≡ pos (cell_number e labels c)
  bas_is c here = are.shown.bas c (at_cell c here.inside)

  bas_shared : (a b : Cell) → HasData g a → HasData g b → (ps.bas a ≡ ps.bas b) ↔ ShareBasin g ps a b
  bas_shared a b at_a at_b = (
    (λ same. (are.labels_are.shared a b at_a at_b).0 (pos-same (cell_number e labels a) (cell_number e labels b) (sym (bas_is a at_a) ∙ (same ∙ bas_is b at_b)))),
    (λ share. bas_is a at_a ∙ (ap (λ n. pos n) ((are.labels_are.shared a b at_a at_b).1 share) ∙ sym (bas_is b at_b))),
  )

  module _ (c : Cell) (inside : IsInside g c) where
    sum_rule : (r : Rule) → IsCountOrLabelRule r → HoldsAt flow_rules g ps c r
    sum_rule Slope own = (let low = own.0 in absurd (omega (arith, low)))
    sum_rule OutletCode own = (let low = own.0 in absurd (omega (arith, low)))
    sum_rule FlatStep own = (let low = own.0 in absurd (omega (arith, low)))
    sum_rule Accumulation own = counts_inflows g ps are.labels_are.ends c inside acc_is
    sum_rule Label own = keeps_label g ps are.labels_are.ends c inside bas_shared
    sum_rule SharedLabel own = has_own_label g ps are.labels_are.ends c inside bas_shared
    sum_rule r own = tt

    present : AreCountsPresent g ps c
    present = record {
      void = λ is_void. (
        are.shown.acc c (at_cell c inside) ∙ ap (λ n. pos n) (are.counts_are.voids c inside is_void),
        are.shown.bas c (at_cell c inside) ∙ ap (λ n. pos n) (are.labels_are.voids c inside is_void),
      );
      data_acc = λ here none. upstream_some g ps are.labels_are.ends c here (pos-same (upstream_count g ps c) 0 (sym (acc_is c here) ∙ none));
      data_bas = λ here none. are.labels_are.some c here (pos-same (cell_number e labels c) 0 (sym (bas_is c here) ∙ none));
    }

  module _ (nodata : NoDataNumbers) (acc_nodata : nodata.acc ≡ default_numbers.acc) (bas_nodata : nodata.bas ≡ default_numbers.bas) where
    routed_correct : AreRouted g ps nodata → IsCorrect g ps nodata
    routed_correct routed = with_counts g ps nodata routed
        (λ c inside is_void. (let both = (present c inside).void is_void in (both.0 ∙ sym acc_nodata, both.1 ∙ sym bas_nodata)))
        (λ c here. (let at = present c here.inside in ((λ none. at.data_acc here (none ∙ acc_nodata)), (λ none. at.data_bas here (none ∙ bas_nodata)))))
        are.labels_are.ends acc_is bas_shared

pub counts_keep_rules : CountsKeepRules
counts_keep_rules g ps e counts labels are =
    (λ c r inside own. sum_rule g ps e counts labels are c inside r own, λ c inside. present g ps e counts labels are c inside)

pub correct_by_routing : CorrectByRouting
correct_by_routing g ps nodata e counts labels acc_nodata bas_nodata are =
    (routed_correct g ps e counts labels are nodata acc_nodata bas_nodata, routed_part g ps nodata)
