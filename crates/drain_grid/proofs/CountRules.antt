-- Rules 13 to 15 at a cell, where every run ends, counts are those of cells upstream, and equal labels mean one basin.
use Rattle.drain_grid.proofs.Names.{◌≡◌, ◌∙◌, ◌↔◌, inl, inr, pos, ◌+ℤ◌, IsSome, sym, ap, subst, arith, pos-+ℤ-pos, Cell, IsEarlier, Grid, Products, IsInside, HasData, patch_at, values_at, SharedLabelHolds, RulesHold, AccumulationHolds, LabelHolds, flow_rules, RunEnds, ShareBasin, upstream_count, run_end, Values, Label, SharedLabel, IsWayRule, IsLabelRule, LabelsAreBasins}
use Rattle.drain_grid.proofs.Codes.{next-named}
use Rattle.drain_grid.proofs.Runs.{ended-run_end, ended_chains, run_end-zero, along_runs, run_end-next, run_end-stops}
use Rattle.drain_grid.proofs.HandedOn.{handed_on, handed_total}
use Rattle.drain_grid.proofs.Inflows.{HasData-flow}
use Rattle.drain_grid.proofs.Patches.{cell_shown}
use Rattle.drain_grid.proofs.Upstream.{upstream_count-parts}
use Rattle.drain_grid.proofs.Alike.{cases_earlier}
use Rattle.drain_grid.proofs.Steps.{LeadsOn}

module _ (g : Grid) (ps : Products) (ends : (c : Cell) → HasData g c → RunEnds g ps c) (c : Cell) (inside : IsInside g c) where
  data_here : IsSome (g.elevation c) → HasData g c
  data_here is_data = record { inside = inside; is_data = is_data }

  -- 13
  pub counts_inflows : ((m : Cell) → HasData g m → ps.acc m ≡ pos (upstream_count g ps m)) → AccumulationHolds (patch_at g ps c)
  counts_inflows counts is_data =
      let parts = upstream_count-parts g ps (ended_chains g ps ends) c (data_here is_data) in
      let handed = handed_total g ps c (upstream_count g ps) (λ d m from_m. counts m (HasData-flow g ps c d m from_m)) in
      counts c (data_here is_data) ∙
      (ap pos parts ∙ (sym (pos-+ℤ-pos 1 (handed_on g ps c (upstream_count g ps))) ∙ ap (λ z. pos 1 +ℤ z) (sym handed)))

  module _ (labels : (a b : Cell) → HasData g a → HasData g b → (ps.bas a ≡ ps.bas b) ↔ ShareBasin g ps a b) where
    -- 14
    pub keeps_label : LabelHolds (patch_at g ps c)
    keeps_label is_data d v code beside =
        let here = data_here is_data in
        let found = cell_shown g ps c d v beside in
        let leads = next-named g ps c found.0 d (record { named = code; there = found.1.there; is_data = found.1.has_data.is_data }) in
        let same = (labels c found.0 here found.1.has_data).1 (ended-run_end g ps c found.0 (ends c here) leads) in
        same ∙ ap (λ (w : Values). w.bas) found.1.values

    -- 15
    pub has_own_label : SharedLabelHolds g ps c
    has_own_label here is_zero b at_b before zero_b same =
        let end = (labels b c at_b here).0 same in
        let one : b ≡ c = sym (run_end-zero g ps b zero_b) ∙ end ∙ run_end-zero g ps c is_zero in
        not_before (subst (λ x. IsEarlier x c) one before)
      where
        not_before : IsEarlier c c → ⊥
        not_before (inl less) = absurd (omega arith)
        not_before (inr less) = absurd (omega arith)

-- Rules 10 to 12, 14 and 15: labels are equal exactly where runs end in one cell.
--
-- A label goes along a run unchanged, by induction along runs (Runs): rule 14 says so of each step. So a cell has the label of
-- the cell where its run ends, and cells whose runs end in one cell have one label. For the converse, two runs end at cells with
-- code 0 and one label: of two such cells one would be earlier in row order, which rule 15 forbids the later one.

module _ (g : Grid) (ps : Products) (ways : RulesHold flow_rules IsWayRule g ps)
    (rules : RulesHold flow_rules IsLabelRule g ps) where
  -- the label of a cell is that of the cell where its code leads
  pub label-next : (c n : Cell) → HasData g c → LeadsOn g ps c n → ps.bas c ≡ ps.bas n
  label-next c n here on = rules c Label here.inside (omega arith, omega arith) here.is_data on.way (values_at g ps n) on.code on.beside

  -- and that of the cell where its run ends
  pub label-run_end : (c : Cell) → HasData g c → ps.bas c ≡ ps.bas (run_end g ps c)
  label-run_end c here = along_runs g ps ways (λ c. ps.bas c ≡ ps.bas (run_end g ps c))
      (λ c here stops. sym (ap ps.bas (run_end-zero g ps c stops.code)))
      (λ c n here on same. label-next c n here on ∙ same ∙ sym (ap ps.bas (run_end-next g ps ways c n here on.follows)))
      c here

  -- two cells with code 0 and the same label are one
  pub one_outlet : (a b : Cell) → HasData g a → HasData g b → ps.dir a ≡ pos 0 → ps.dir b ≡ pos 0 → ps.bas a ≡ ps.bas b → a ≡ b
  one_outlet a b at_a at_b zero_a zero_b same =
      elim (cases_earlier a b) [
        | inl one ↦ one
        | inr (inl before) ↦ absurd (rules b SharedLabel at_b.inside (omega arith, omega arith) at_b zero_b a at_a before zero_a same)
        | inr (inr after) ↦ absurd (rules a SharedLabel at_a.inside (omega arith, omega arith) at_a zero_a b at_b after zero_b (sym same))
      ]

-- labels are equal exactly where runs end in the same cell
pub labels_are_basins : LabelsAreBasins
labels_are_basins g ps ways rules a b at_a at_b =
    let end_a = run_end-stops g ps ways a at_a in
    let end_b = run_end-stops g ps ways b at_b in
    let label_a = label-run_end g ps ways rules a at_a in
    let label_b = label-run_end g ps ways rules b at_b in (
      (λ same. one_outlet g ps ways rules (run_end g ps a) (run_end g ps b) end_a.0 end_b.0 end_a.1.code end_b.1.code
          (sym label_a ∙ same ∙ label_b)),
      (λ same. label_a ∙ ap ps.bas same ∙ sym label_b),
    )
