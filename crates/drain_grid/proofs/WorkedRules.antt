-- The rules worked on small grids: products that keep them all, so that the laws speak of something, and for each rule
-- products of which it is the first fault; 6 to 8 only with spill parents.
use Rattle.drain_grid.proofs.Names.{pos, ◌==◌, if◌then◌else◌, refl, Cell, Rule, VoidCell, Missing, BadCode, BelowGround, OpenRaised, NoSpill, SpillHeight, SpillRank, NotLeast, Slope, OutletCode, FlatStep, Accumulation, Label, SharedLabel, IsAnyRule, IsFillRule, check_rules, fill_rules, Grid, Products, IsCorrect, RulesHold, IsFirstFault}
use Rattle.drain_grid.proofs.AllRules.{correct_from_rules}
use Rattle.drain_grid.proofs.Decisions.{Decision}
use Rattle.drain_grid.proofs.RuleDecisions.{fill_rule, patch_rule, rules_hold, first_fault}
use Rattle.drain_grid.proofs.WorkedGrids.{cell, changed, defaults, pit_grid, pit_products, overfilled_grid, overfilled_products, flat_grid, flat_products, void_grid, void_products, slope_grid, slope_products, ring_grid, ring_products, gap_grid, gap_products}

-- every rule that a check tries holds at every cell
abbrev Accepted : Grid → Products → Type 0
Accepted g ps = RulesHold (check_rules defaults) IsAnyRule g ps

abbrev accepted : (g : Grid) (ps : Products) → Decision (Accepted g ps)
accepted g ps = rules_hold (patch_rule defaults) 1 15 g ps

-- the rule is the first that fails
abbrev Rejected : Grid → Products → Rule → Cell → Type 0
Rejected g ps r c = IsFirstFault (check_rules defaults) IsAnyRule g ps c r

abbrev rejected : (g : Grid) (ps : Products) (r : Rule) (c : Cell) → Decision (Rejected g ps r c)
rejected g ps r c = first_fault (patch_rule defaults) 1 15 g ps c r

-- the same of the rules on the conditioned elevation alone, with spill parents
abbrev Unfilled : Grid → Products → Rule → Cell → Type 0
Unfilled g ps r c = IsFirstFault fill_rules IsFillRule g ps c r

abbrev unfilled : (g : Grid) (ps : Products) (r : Rule) (c : Cell) → Decision (Unfilled g ps r c)
unfilled g ps r c = first_fault fill_rule 4 9 g ps c r

pit_holds : Accepted pit_grid pit_products
pit_holds = (accepted pit_grid pit_products).sound refl

flat_holds : Accepted flat_grid flat_products
flat_holds = (accepted flat_grid flat_products).sound refl

void_holds : Accepted void_grid void_products
void_holds = (accepted void_grid void_products).sound refl

slope_holds : Accepted slope_grid slope_products
slope_holds = (accepted slope_grid slope_products).sound refl

gap_holds : Accepted gap_grid gap_products
gap_holds = (accepted gap_grid gap_products).sound refl

-- so these products are correct
pit_correct : IsCorrect pit_grid pit_products defaults
pit_correct = (correct_from_rules pit_grid pit_products defaults pit_holds).0

flat_correct : IsCorrect flat_grid flat_products defaults
flat_correct = (correct_from_rules flat_grid flat_products defaults flat_holds).0

gap_correct : IsCorrect gap_grid gap_products defaults
gap_correct = (correct_from_rules gap_grid gap_products defaults gap_holds).0

-- 1: acc 1 at a void
rejects_void_cell : Rejected void_grid (record void_products { acc = changed void_products.acc (cell 1 0) 1 }) VoidCell (cell 1 0)
rejects_void_cell = (rejected void_grid _ VoidCell (cell 1 0)).sound refl

-- 2: con has its no-data number, 0
rejects_missing : IsFirstFault (check_rules (record defaults { con = pos 0 })) IsAnyRule flat_grid flat_products (cell 0 0) Missing
rejects_missing = (first_fault (patch_rule (record defaults { con = pos 0 })) 1 15 flat_grid flat_products (cell 0 0) Missing).sound refl

-- 3: dir 3
rejects_bad_code : Rejected slope_grid (record slope_products { dir = changed slope_products.dir (cell 0 0) 3 }) BadCode (cell 0 0)
rejects_bad_code = (rejected slope_grid _ BadCode (cell 0 0)).sound refl

-- 4: con 2 where z is 4
rejects_below_ground : Rejected slope_grid (record slope_products { con = changed slope_products.con (cell 0 0) 2 }) BelowGround (cell 0 0)
rejects_below_ground = (rejected slope_grid _ BelowGround (cell 0 0)).sound refl

-- 5: con 5 where z is 4, at an open cell
rejects_open_raised : Rejected slope_grid (record slope_products { con = changed slope_products.con (cell 0 0) 5 }) OpenRaised (cell 0 0)
rejects_open_raised = (rejected slope_grid _ OpenRaised (cell 0 0)).sound refl

-- 6: spl 0 at the centre
rejects_no_spill : Unfilled pit_grid (record pit_products { spl = λ c. pos 0 }) NoSpill (cell 1 1)
rejects_no_spill = (unfilled pit_grid _ NoSpill (cell 1 1)).sound refl

-- 7: con 6 at the centre, whose spill parent has 5
rejects_spill_height : Unfilled pit_grid (record pit_products { con = changed pit_products.con (cell 1 1) 6 }) SpillHeight (cell 1 1)
rejects_spill_height = (unfilled pit_grid _ SpillHeight (cell 1 1)).sound refl

-- 8: rnk 0 at the centre
rejects_spill_rank : Unfilled pit_grid (record pit_products { rnk = λ c. pos 0 }) SpillRank (cell 1 1)
rejects_spill_rank = (unfilled pit_grid _ SpillRank (cell 1 1)).sound refl

-- 9: a needless crest
rejects_not_least : Unfilled overfilled_grid overfilled_products NotLeast (cell 1 1)
rejects_not_least = (unfilled overfilled_grid _ NotLeast (cell 1 1)).sound refl

-- 10: dir southeast, where east is as steep a drop over a shorter way
rejects_slope : Rejected slope_grid (record slope_products { dir = changed slope_products.dir (cell 1 0) 2 }) Slope (cell 1 0)
rejects_slope = (rejected slope_grid _ Slope (cell 1 0)).sound refl

-- 11: dir east at an outlet
rejects_outlet_code : Rejected flat_grid (record flat_products { dir = changed flat_products.dir (cell 0 0) 1 }) OutletCode (cell 0 0)
rejects_outlet_code = (rejected flat_grid _ OutletCode (cell 0 0)).sound refl

-- 12: rnk 0 at the centre, which leads to a cell of rank 0
rejects_level_rank : Rejected pit_grid (record pit_products { rnk = λ c. pos 0 }) FlatStep (cell 1 1)
rejects_level_rank = (rejected pit_grid _ FlatStep (cell 1 1)).sound refl

-- 12: a ring on the flat
rejects_flat_step : Rejected ring_grid ring_products FlatStep (cell 1 1)
rejects_flat_step = (rejected ring_grid _ FlatStep (cell 1 1)).sound refl

-- 13: acc 5 where four cells drain through
rejects_accumulation : Rejected slope_grid (record slope_products { acc = changed slope_products.acc (cell 1 3) 5 }) Accumulation (cell 1 3)
rejects_accumulation = (rejected slope_grid _ Accumulation (cell 1 3)).sound refl

-- 14: bas 9, where the next cell has 1
rejects_label : Rejected slope_grid (record slope_products { bas = changed slope_products.bas (cell 0 0) 9 }) Label (cell 0 0)
rejects_label = (rejected slope_grid _ Label (cell 0 0)).sound refl

-- 15: two rows with one label
rejects_shared_label : Rejected slope_grid (record slope_products {
  bas =
      λ c. if c.row == 1 then pos 1 else slope_products.bas c;
}) SharedLabel (cell 1 3)
rejects_shared_label = (rejected slope_grid _ SharedLabel (cell 1 3)).sound refl
