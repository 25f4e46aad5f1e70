-- Which of the rules about all rasters fail at a patch: which faults hide others, and that those on spill parents never fail.
use Rattle.drain_faults.proofs.Names.{◌≡◌, ◌<◌, Bool, true, false, not, IsTrue, Option, Some, None, inl, inr, refl, sym, ap, subst, arith, ◌∙◌, false≢true, true≢false, cases_lt, Cell, Rule, rule_number, IsLeastFault, IsFillRule, IsPresenceRule, IsSlopeRule, IsOnly, same_rule, RuleFaults, IsNotedAt, IsWith, TellsFault, Patch, VoidCell, Missing, BadCode, NoSpill, SpillHeight, SpillRank, Slope, OutletCode, Accumulation, Label, FlatStep, NoDataNumbers, BadCodeWithoutSpill, flow_rules, surface_rules, Rules, has_rnk, flow_with, surface_with, whole}
use Rattle.std.proofs.Common.{◌↔◌}
use Rattle.drain_kernel.specs.Rules.{rules_with}

-- What tests and least faults say of whether a rule fails.

-- the negation of a test that a rule holds says whether it fails
pub tells_not : (b : Bool) (P : Type 0) → IsTrue b ↔ P → TellsFault (not b) P
tells_not true P test = test.0 refl
tells_not false P test = λ holds. false≢true (test.1 holds)

-- a flag of a fact is one of an equivalent fact
pub tells_same : (b : Bool) (P Q : Type 0) → P ↔ Q → TellsFault b P → TellsFault b Q
tells_same true P Q same fails = λ holds. fails (same.1 holds)
tells_same false P Q same holds = same.0 holds

-- so it isn't set exactly where the fact holds
pub tells_iff : (b : Bool) (P : Type 0) → TellsFault b P → (b ≡ false) ↔ P
tells_iff true P fails = (λ e. absurd (true≢false e), λ holds. absurd (fails holds))
tells_iff false P holds = (λ e. holds, λ h. refl)

-- a rule fails exactly where it is the least fault, if no lesser rule's fault can hide it
pub tells_least : (IsOwn P : Rule → Type 0) (r : Rule) (o : Option Rule) (b : Bool) → IsOwn r →
    ((q : Rule) → IsOwn q → rule_number q < rule_number r → ¬ P q → P r) → IsLeastFault IsOwn P o → IsTrue b ↔ (o ≡ Some r) → TellsFault b (P r)
tells_least IsOwn P r None true own hides least test = absurd (let is : None ≡ Some r = test.0 refl in cc)
tells_least IsOwn P r (Some q) true own hides least test =
    let is : Some q ≡ Some r = test.0 refl in
    let same : q ≡ r = cc in
    λ holds. least.1 (subst P (sym same) holds)
tells_least IsOwn P r None false own hides least test = least r own
tells_least IsOwn P r (Some q) false own hides least test =
    elim (cases_lt (rule_number q) (rule_number r)) [
      | inl below ↦ hides q least.0 below least.1
      | inr above ↦ elim (cases_lt (rule_number r) (rule_number q)) [
        | inl later ↦ least.2 r own later
        | inr not_later ↦ absurd (false≢true (test.1 (ap Some (same_rule q r (omega (arith, above, not_later))))))
      ]
    ]

-- a cell is recorded by its flag
pub noted_by : (b : Bool) (P : Type 0) (cell : Cell) (old new : RuleFaults) → TellsFault b P → IsWith cell b old new → IsNotedAt P cell old new
noted_by true P cell old new tells with = inr (tells, with)
noted_by false P cell old new tells with = inl (tells, with)

-- and alike of a fact that holds alike
pub noted_same : (P Q : Type 0) (cell : Cell) (old new : RuleFaults) → P ↔ Q → IsNotedAt P cell old new → IsNotedAt Q cell old new
noted_same P Q cell old new same (inl holds) = inl (same.0 holds.0, holds.1)
noted_same P Q cell old new same (inr fails) = inr ((λ holds. fails.0 (same.1 holds)), fails.1)

-- where VoidCell fails the cell is a void, so Missing holds
void_hides : (ranks : Bool) (nodata : NoDataNumbers) (p : Patch) → ¬ rules_with ranks nodata p VoidCell → rules_with ranks nodata p Missing
void_hides true nodata p fails = λ has_data. absurd (fails (λ is_void. absurd (false≢true (sym is_void ∙ has_data))))
void_hides false nodata p fails = λ has_data. absurd (fails (λ is_void. absurd (false≢true (sym is_void ∙ has_data))))

bad_code_with : (ranks : Bool) (nodata : NoDataNumbers) (p : Patch) → BadCodeWithoutSpill p ↔ rules_with ranks nodata p BadCode
bad_code_with true nodata p = (λ h. h, λ h. h)
bad_code_with false nodata p = (λ h. h, λ h. h)

module _ (rules : Rules) (p : Patch) where
  -- of the rules on which numbers are there, the first two
  pub void_cell_told : (o : Option Rule) (b : Bool) → IsLeastFault IsPresenceRule (whole rules p) o → IsTrue b ↔ (o ≡ Some VoidCell) →
      TellsFault b (whole rules p VoidCell)
  void_cell_told o b least test =
      tells_least IsPresenceRule (whole rules p) VoidCell o b (omega arith, omega arith) (λ q own below fails. absurd (omega (arith, own.0, below))) least test

  pub missing_told : (o : Option Rule) (b : Bool) → IsLeastFault IsPresenceRule (whole rules p) o → IsTrue b ↔ (o ≡ Some Missing) →
      TellsFault b (whole rules p Missing)
  missing_told o b least test =
      tells_least IsPresenceRule (whole rules p) Missing o b (omega arith, omega arith)
      (λ q own below fails. void_hides (has_rnk rules.judged) rules.nodata p (subst (λ r. ¬ whole rules p r) (same_rule q VoidCell (omega (arith, own.0, below))) fails))
      least test

  -- a flag of a rule alone is a flag of it as it is tried
  pub bad_code_told : (b : Bool) → TellsFault b (BadCodeWithoutSpill p) → TellsFault b (whole rules p BadCode)
  bad_code_told b told = tells_same b (BadCodeWithoutSpill p) (whole rules p BadCode) (bad_code_with (has_rnk rules.judged) rules.nodata p) told

  pub fill_rule_told : (r : Rule) (b : Bool) → IsFillRule r → TellsFault b (surface_rules p r) → TellsFault b (whole rules p r)
  fill_rule_told r b own told = tells_same b (surface_rules p r) (whole rules p r) (surface_with (has_rnk rules.judged) rules.nodata p r own) told

  -- those on spill parents require nothing
  pub no_spill_holds : whole rules p NoSpill
  no_spill_holds = (surface_with (has_rnk rules.judged) rules.nodata p NoSpill (omega arith, omega arith)).0 tt

  pub spill_height_holds : whole rules p SpillHeight
  spill_height_holds = (surface_with (has_rnk rules.judged) rules.nodata p SpillHeight (omega arith, omega arith)).0 tt

  pub spill_rank_holds : whole rules p SpillRank
  spill_rank_holds = (surface_with (has_rnk rules.judged) rules.nodata p SpillRank (omega arith, omega arith)).0 tt

  -- of those on slopes, Slope fails only where a neighbour is lower, and OutletCode where none is
  pub slope_told : (o : Option Rule) (b : Bool) → IsLeastFault IsSlopeRule (flow_rules p) o → IsTrue b ↔ (o ≡ Some Slope) →
      TellsFault b (whole rules p Slope)
  slope_told o b least test =
      tells_same b (flow_rules p Slope) (whole rules p Slope) (flow_with (has_rnk rules.judged) rules.nodata p Slope (omega arith, omega arith) (λ same. omega arith))
      (tells_least IsSlopeRule (flow_rules p) Slope o b (omega arith, omega arith) (λ q own below fails. absurd (omega (arith, own.0, below))) least test)

  slope_hides : ¬ flow_rules p Slope → flow_rules p OutletCode
  slope_hides fails opened none = absurd (fails (λ lower. absurd (none lower)))

  pub outlet_code_told : (o : Option Rule) (b : Bool) → IsLeastFault IsSlopeRule (flow_rules p) o → IsTrue b ↔ (o ≡ Some OutletCode) →
      TellsFault b (whole rules p OutletCode)
  outlet_code_told o b least test =
      tells_same b (flow_rules p OutletCode) (whole rules p OutletCode)
      (flow_with (has_rnk rules.judged) rules.nodata p OutletCode (omega arith, omega arith) (λ same. omega arith))
      (tells_least IsSlopeRule (flow_rules p) OutletCode o b (omega arith, omega arith)
      (λ q own below fails. slope_hides (subst (λ r. ¬ flow_rules p r) (same_rule q Slope (omega (arith, own.0, below))) fails)) least test)

  -- the others of where water goes are alone in their groups
  pub flat_step_told : (o : Option Rule) (b : Bool) → IsLeastFault (IsOnly FlatStep) (whole rules p) o → IsTrue b ↔ (o ≡ Some FlatStep) →
      TellsFault b (whole rules p FlatStep)
  flat_step_told o b least test =
      tells_least (IsOnly FlatStep) (whole rules p) FlatStep o b (omega arith, omega arith) (λ q own below fails. absurd (omega (arith, own.0, below))) least test

  pub accumulation_told : (o : Option Rule) (b : Bool) → IsLeastFault (IsOnly Accumulation) (flow_rules p) o → IsTrue b ↔ (o ≡ Some Accumulation) →
      TellsFault b (whole rules p Accumulation)
  accumulation_told o b least test =
      tells_same b (flow_rules p Accumulation) (whole rules p Accumulation)
      (flow_with (has_rnk rules.judged) rules.nodata p Accumulation (omega arith, omega arith) (λ same. omega arith))
      (tells_least (IsOnly Accumulation) (flow_rules p) Accumulation o b (omega arith, omega arith) (λ q own below fails. absurd (omega (arith, own.0, below)))
      least test)

  pub label_told : (o : Option Rule) (b : Bool) → IsLeastFault (IsOnly Label) (flow_rules p) o → IsTrue b ↔ (o ≡ Some Label) →
      TellsFault b (whole rules p Label)
  label_told o b least test =
      tells_same b (flow_rules p Label) (whole rules p Label)
      (flow_with (has_rnk rules.judged) rules.nodata p Label (omega arith, omega arith) (λ same. omega arith))
      (tells_least (IsOnly Label) (flow_rules p) Label o b (omega arith, omega arith) (λ q own below fails. absurd (omega (arith, own.0, below))) least test)
