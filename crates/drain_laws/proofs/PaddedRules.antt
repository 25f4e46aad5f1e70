-- What padding keeps of the rules at each cell: at a cell of the grid since its two patches are alike, and beyond the
-- grid since rules require no more of a void than its no-data numbers.
use Rattle.drain_laws.proofs.Names.{◌≡◌, ◌∙◌, IsNone, IsSome, sym, Cell, Rule, VoidCell, Missing, OpenRaised, NoSpill, SpillHeight, SpillRank, Slope, OutletCode, FlatStep, SharedLabel, product_of, NoDataNumbers, number_for, value_of, Grid, Products, IsInside, patch_at, values_at, check_rules, unranked, HoldsAt, SharedLabelHolds, void_data, ArePadded, ArePaddedRanks, AreKept}
use Rattle.drain_grid.specs.declared.set_product.SetProduct.TheVariants as held
use Rattle.drain_laws.proofs.AlikePatches.{alike_turned, ranks_turned, unranked_there, check_there}
use Rattle.drain_laws.proofs.PaddedCells.{data_there, data_back, patches_alike, same_ranks}

module _ (g p : Grid) (ps qs : Products) (nodata : NoDataNumbers) (padded : ArePadded g p ps qs nodata) where
  -- 15: data cells, codes and labels are the same
  shared_there : (c : Cell) → SharedLabelHolds g ps c → SharedLabelHolds p qs c
  shared_there c holds at_c code b at_b earlier code_b labels =
      let here = data_back g p padded.grid c at_c in
      let there = data_back g p padded.grid b at_b in
      let same_c = padded.set.same c here.inside in
      let same_b = padded.set.same b there.inside in
      holds here (sym same_c.dir ∙ code) b there earlier (sym same_b.dir ∙ code_b) (sym same_b.bas ∙ (labels ∙ same_c.bas))

  shared_back : (c : Cell) → SharedLabelHolds p qs c → SharedLabelHolds g ps c
  shared_back c holds at_c code b at_b earlier code_b labels =
      let same_c = padded.set.same c at_c.inside in
      let same_b = padded.set.same b at_b.inside in
      holds (data_there g p padded.grid c at_c) (same_c.dir ∙ code) b (data_there g p padded.grid b at_b) earlier
      (same_b.dir ∙ code_b) (same_b.bas ∙ (labels ∙ sym same_c.bas))

  pub rules_kept : AreKept (unranked nodata) g p ps qs
  rules_kept c SharedLabel inside = (λ h. shared_back c h, λ h. shared_there c h)
  rules_kept c r inside =
      let alike = patches_alike g p padded.grid ps qs padded.set.same c inside in (
        λ h. unranked_there (patch_at p qs c) (patch_at g ps c) nodata (alike_turned alike) r h,
        λ h. unranked_there (patch_at g ps c) (patch_at p qs c) nodata alike r h,
      )

  pub checks_kept : ArePaddedRanks g p ps qs nodata → AreKept (check_rules nodata) g p ps qs
  checks_kept ranks c SharedLabel inside = (λ h. shared_back c h, λ h. shared_there c h)
  checks_kept ranks c r inside =
      let alike = patches_alike g p padded.grid ps qs padded.set.same c inside in
      let same = same_ranks g p padded.grid ps qs padded.set.same ranks.same c inside in (
        λ h. check_there (patch_at p qs c) (patch_at g ps c) nodata (alike_turned alike) (ranks_turned same) r h,
        λ h. check_there (patch_at g ps c) (patch_at p qs c) nodata alike same r h,
      )

  module _ (c : Cell) (inside : IsInside p c) (beyond : ¬ IsInside g c) where
    void : IsNone (p.elevation c)
    void = padded.grid.voids c inside beyond

    -- what is required of a data cell is required of no void
    no_data : IsSome (p.elevation c) → ⊥
    no_data is_data = void_data (p.elevation c) void is_data

    pub rules_beyond : (r : Rule) → HoldsAt (unranked nodata) p qs c r
    rules_beyond VoidCell =
        let blank = padded.set.blank c inside beyond in
        λ is_void. record { con_is = blank.con; dir_is = blank.dir; acc_is = blank.acc; bas_is = blank.bas }
    rules_beyond OpenRaised = λ is_open. absurd (no_data is_open.0)
    rules_beyond NoSpill = tt
    rules_beyond SpillHeight = tt
    rules_beyond SpillRank = tt
    rules_beyond Slope = λ low. absurd (no_data low.0)
    rules_beyond OutletCode = λ is_open. absurd (no_data is_open.0)
    rules_beyond FlatStep = λ closed. absurd (no_data closed.0)
    rules_beyond SharedLabel = λ at_c. absurd (beyond (data_back g p padded.grid c at_c).inside)
    rules_beyond r = λ is_data. absurd (no_data is_data)

    pub checks_beyond : ArePaddedRanks g p ps qs nodata → (r : Rule) → HoldsAt (check_rules nodata) p qs c r
    checks_beyond ranks VoidCell =
        let blank = padded.set.blank c inside beyond in
        λ is_void. (λ k. elim k as (λ k. value_of (values_at p qs c) (product_of k) ≡ number_for nodata (product_of k)) [
          | held.Con ↦ blank.con
          | held.Dir ↦ blank.dir
          | held.Acc ↦ blank.acc
          | held.Bas ↦ blank.bas
          | held.Rnk ↦ ranks.blank c inside beyond
        ])
    checks_beyond ranks Missing = λ is_data. absurd (no_data is_data)
    checks_beyond ranks NoSpill = tt
    checks_beyond ranks SpillHeight = tt
    checks_beyond ranks SpillRank = tt
    checks_beyond ranks FlatStep = λ closed. absurd (no_data closed.0)
    checks_beyond ranks r = rules_beyond r
