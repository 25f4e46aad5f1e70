-- Which of the rules about some rasters fail at a patch: as of all rasters, if the raster that they judge is one of them.
use Rattle.drain_faults.proofs.Names.{◌≡◌, ◌∙◌, ◌&&◌, Bool, true, false, IsTrue, Some, ap, sym, subst, arith, false≢true, Judged, Patch, Rule, VoidCell, Missing, IfJudged, IsLeastFault, IsPatchRule, part_rules, NoDataNumbers, same_rule, TellsFault}
use Rattle.std.proofs.Common.{◌↔◌}
use Rattle.drain_faults.proofs.PatchFlags.{tells_least}

-- a flag of a rule, and one of it if its raster is judged
told_judged : (judged fails : Bool) (P : Type 0) → TellsFault fails P → TellsFault (judged && fails) (IfJudged judged P)
told_judged true fails P told = told
told_judged false fails P told = tt

pub told_both : (judged is_judged fails both : Bool) (P : Type 0) → is_judged ≡ judged → both ≡ (is_judged && fails) → TellsFault fails P → TellsFault both (IfJudged judged P)
told_both judged is_judged fails both P is same told =
    subst (λ b. TellsFault b (IfJudged judged P)) (sym (same ∙ ap (λ b. b && fails) is)) (told_judged judged fails P told)

-- of the least rule that fails
of_first : (first r : Rule) (b : Bool) → IsTrue b ↔ (first ≡ r) → IsTrue b ↔ (Some first ≡ Some r)
of_first first r b test = ((λ is. ap Some (test.0 is)), λ same. test.1 (let e : Some first ≡ Some r = same in cc))

module _ (judged : Judged) (nodata : NoDataNumbers) (p : Patch) (first : Rule) (b : Bool) (least : IsLeastFault IsPatchRule (part_rules judged nodata p) (Some first)) where
  pub void_cell_first : IsTrue b ↔ (first ≡ VoidCell) → TellsFault b (part_rules judged nodata p VoidCell)
  void_cell_first test =
      tells_least IsPatchRule (part_rules judged nodata p) VoidCell (Some first) b (omega arith, omega arith) (λ q own below fails. absurd (omega (arith, own.0, below)))
      least (of_first first VoidCell b test)

  -- where VoidCell fails the cell is a void, so Missing holds
  void_hides : ¬ part_rules judged nodata p VoidCell → part_rules judged nodata p Missing
  void_hides fails = λ has_data. absurd (fails (λ is_void. absurd (false≢true (sym is_void ∙ has_data))))

  pub missing_first : IsTrue b ↔ (first ≡ Missing) → TellsFault b (part_rules judged nodata p Missing)
  missing_first test =
      tells_least IsPatchRule (part_rules judged nodata p) Missing (Some first) b (omega arith, omega arith)
      (λ q own below fails. void_hides (subst (λ r. ¬ part_rules judged nodata p r) (same_rule q VoidCell (omega (arith, own.0, below))) fails))
      least (of_first first Missing b test)
