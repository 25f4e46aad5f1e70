-- What one cell more adds to what was found of one rule, and to the first fault.
use Rattle.std.specs.Prelude.{◌≡◌, ◌+◌, ◌^◌, ◌<◌, ◌⊎◌}
use Rattle.drain_faults.specs.Names.{Bool, true, false, Option, Some, None, unwrap_or, LabelSet, Rule, VoidCell, Missing, BadCode, BelowGround, OpenRaised, NoSpill, SpillHeight, SpillRank, NotLeast, Slope, OutletCode, FlatStep, Accumulation, Label, SharedLabel, Cell, Rules, Patch, Grid, Products, HoldsAt, IsLeastFault, IsAnyRule, IsTried, tried, labelled_profile}
use Rattle.drain_faults.specs.declared.per_rule.PerRule.{PerRule}
use Rattle.drain_faults.specs.declared.patch_faults.FaultyPatch.{FaultyPatch}
use Rattle.drain_faults.specs.declared.patch_faults.RuleFaults.{RuleFaults}

-- Flags of failing rules.

-- the flag says whether something fails: true if it doesn't hold, false if it holds
abbrev pub TellsFault : Bool → Type 0 → Type 0
TellsFault true P = ¬ P
TellsFault false P = P

-- Fifteen things, one for each rule.

-- the rule's own
abbrev pub of_rule : {A : Type 0} → PerRule A → Rule → A
of_rule things VoidCell = things.void_cell
of_rule things Missing = things.missing
of_rule things BadCode = things.bad_code
of_rule things BelowGround = things.below_ground
of_rule things OpenRaised = things.open_raised
of_rule things NoSpill = things.no_spill
of_rule things SpillHeight = things.spill_height
of_rule things SpillRank = things.spill_rank
of_rule things NotLeast = things.not_least
of_rule things Slope = things.slope
of_rule things OutletCode = things.outlet_code
of_rule things FlatStep = things.flat_step
of_rule things Accumulation = things.accumulation
of_rule things Label = things.label
of_rule things SharedLabel = things.shared_label

-- What the rules that are tried say of a cell. They are this project's own.

-- the rule, if it is tried, holds at the patch: SharedLabel against these labels
abbrev pub HoldsIfTried : Rules → LabelSet → Patch → Rule → Type 0
HoldsIfTried rules labels p r = IsTried rules.judged r → labelled_profile (tried rules) labels p r

-- each rule that is tried holds at the cell
abbrev pub AllHoldAt : Rules → Grid → Products → Cell → Type 0
AllHoldAt rules g ps c = (r : Rule) → IsTried rules.judged r → HoldsAt (tried rules) g ps c r

-- the rule is the least of them that fails at the cell, and none where each holds
abbrev pub IsLeastAt : Rules → Grid → Products → Cell → Option Rule → Type 0
IsLeastAt rules g ps c = IsLeastFault (IsTried rules.judged) (HoldsAt (tried rules) g ps c)

-- the cell is counted, if the count fits 32 bits, and is the first if there was none
pub record IsWithFault (cell : Cell) (old new : RuleFaults) : Type 0 where
  pub counted : old.cells + 1 < 2 ^ 32 → new.cells ≡ old.cells + 1
  pub first_is : new.first ≡ Some (unwrap_or old.first cell)

-- it is if the rule fails there, else nothing is changed
abbrev pub IsWith : Cell → Bool → RuleFaults → RuleFaults → Type 0
IsWith cell true old new = IsWithFault cell old new
IsWith cell false old new = new ≡ old

-- the fact holds at the cell, and nothing is changed; or it doesn't, and the cell is counted
abbrev pub IsNotedAt : Type 0 → Cell → RuleFaults → RuleFaults → Type 0
IsNotedAt P cell old new = (P × (new ≡ old)) ⊎ (¬ P × IsWithFault cell old new)

-- the first cell so far with a failing rule stays; without one it is this cell, with its patch and least such rule
abbrev pub IsFirstNoted : Option Rule → Cell → Patch → Option FaultyPatch → Option FaultyPatch → Type 0
IsFirstNoted least cell p (Some first) new = new ≡ Some first
IsFirstNoted None cell p None new = new ≡ None
IsFirstNoted (Some rule) cell p None new = new ≡ Some (record { cell = cell; patch = p; rule = rule })

-- it is so with the least of the rules that don't hold here
pub record IsLeastNoted (P : Rule → Type 0) (cell : Cell) (p : Patch) (old new : Option FaultyPatch) : Type 0 where
  pub least : Option Rule
  pub least_is : IsLeastFault IsAnyRule P least
  pub first_is : IsFirstNoted least cell p old new
