-- The least fault of a cell: from its patch, and for every rule from the labels so far, to the grid.
use Rattle.drain_rules.proofs.Names.{◌≡◌, Bool, true, false, not, IsTrue, Option, Some, None, refl, subst, arith, ◌≢◌, ◌≤◌, LabelSet, Cell, Rule, SharedLabel, VoidCell, BadCode, NotLeast, FlatStep, Label, Patch, IsAnyRule, IsPatchRule, IsLeastFault, rule_number, IsPresenceRule, IsFillRule, IsFlowRule, Judged, ConDir, ConDirAcc, ConDirBas, AllWithRanks, has_bas, has_rnk, IsPartRule, IsTried, Grid, Products, IsInside, patch_at, values_at, Values, NoDataNumbers, Profile, surface_rules, flow_rules, HoldsAt, SharedLabelHolds, IfCompared, IsTriedIf, with_labels, AreLabelsBefore, labelled_profile, labels-shared, IsFrom, IsAfter, found_first, found_next, numbered, Rules, rules_with}
use Rattle.std.proofs.Common.{◌↔◌}
use Rattle.drain_grid.specs.declared.judged.Judged.TheVariants.{Con, All}
use Rattle.drain_grid.proofs.Profiles.{surface_same, flow_same, surface_same_unranked, level_same, flow_level}

-- rules that hold alike have one least fault
pub IsLeastFault-same : (Own P Q : Rule → Type 0) (o : Option Rule) → ((r : Rule) → Own r → P r ↔ Q r) →
    IsLeastFault Own P o → IsLeastFault Own Q o
IsLeastFault-same Own P Q None same all = λ r own. (same r own).0 (all r own)
IsLeastFault-same Own P Q (Some r) same least =
    (least.0, λ holds. least.1 ((same r least.0).1 holds), λ q own below. (same q own).0 (least.2 q own below))

-- a rule of a patch holds at the cell exactly where it holds on its patch
patch-HoldsAt : (profile : Profile) (g : Grid) (ps : Products) (c : Cell) (r : Rule) → IsPatchRule r →
    profile (patch_at g ps c) r ↔ HoldsAt profile g ps c r
patch-HoldsAt profile g ps c SharedLabel own = absurd (omega (arith, own.1))
patch-HoldsAt profile g ps c r own = (λ h. h, λ h. h)

-- so of rules of a patch, the least fault of the patch is that of the cell
pub IsLeastFault-patch : (profile : Profile) (IsOwn : Rule → Type 0) (g : Grid) (ps : Products) (c : Cell) (o : Option Rule) → ((r : Rule) → IsOwn r → IsPatchRule r) →
    IsLeastFault IsOwn (profile (patch_at g ps c)) o → IsLeastFault IsOwn (HoldsAt profile g ps c) o
IsLeastFault-patch profile IsOwn g ps c o of_patch =
    IsLeastFault-same IsOwn (profile (patch_at g ps c)) (HoldsAt profile g ps c) o
    (λ r own. patch-HoldsAt profile g ps c r (of_patch r own))

-- each rule that is tried is that of the grid, if what is new tells whether SharedLabel holds
labelled : (profile : Profile) (IsOwn : Rule → Type 0) (IsNew : Values → Type 0) (g : Grid) (ps : Products) (c : Cell) (r : Rule) →
    (IsOwn SharedLabel → IsNew (values_at g ps c) ↔ SharedLabelHolds g ps c) → IsOwn r → with_labels IsNew profile (patch_at g ps c) r ↔ HoldsAt profile g ps c r
labelled profile IsOwn IsNew g ps c SharedLabel shared own = shared own
labelled profile IsOwn IsNew g ps c r shared own = (λ h. h, λ h. h)

-- the least fault of the cell's patch is that of the cell
pub least-labelled : (profile : Profile) (IsOwn : Rule → Type 0) (IsNew : Values → Type 0) (g : Grid) (ps : Products) (c : Cell) (p : Patch) (o : Option Rule) →
    (IsOwn SharedLabel → IsNew (values_at g ps c) ↔ SharedLabelHolds g ps c) → p ≡ patch_at g ps c →
    IsLeastFault IsOwn (with_labels IsNew profile p) o → IsLeastFault IsOwn (HoldsAt profile g ps c) o
least-labelled profile IsOwn IsNew g ps c p o shared is least =
    IsLeastFault-same IsOwn (with_labels IsNew profile (patch_at g ps c)) (HoldsAt profile g ps c) o
    (λ r own. labelled profile IsOwn IsNew g ps c r shared own)
    (subst (λ p. IsLeastFault IsOwn (with_labels IsNew profile p) o) is least)

-- with the labels of the outlets before the cell, every rule is that of the grid
pub labelled-HoldsAt : (profile : Profile) (g : Grid) (ps : Products) (labels : LabelSet) (c : Cell) (r : Rule) → IsInside g c →
    AreLabelsBefore g ps c labels → labelled_profile profile labels (patch_at g ps c) r ↔ HoldsAt profile g ps c r
labelled-HoldsAt profile g ps labels c SharedLabel inside before = labels-shared g ps labels c inside before
labelled-HoldsAt profile g ps labels c r inside before = (λ h. h, λ h. h)

-- where no rule of the patch fails, none that is tried does if SharedLabel holds or isn't tried
any_holds : (profile : Profile) (IsNew : Values → Type 0) (p : Patch) → IsLeastFault IsPatchRule (profile p) None →
    IsNew p.here → (r : Rule) → IsAnyRule r → with_labels IsNew profile p r
any_holds profile IsNew p all shared SharedLabel own = shared
any_holds profile IsNew p all shared r own = all r (omega arith, omega arith)

part_holds : (judged : Judged) (profile : Profile) (IsNew : Values → Type 0) (p : Patch) → IsLeastFault IsPatchRule (profile p) None →
    (IsTrue (has_bas judged) → IsNew p.here) → (r : Rule) → IsPartRule judged r → with_labels IsNew profile p r
part_holds judged profile IsNew p all shared SharedLabel own = shared own
part_holds judged profile IsNew p all shared r own = all r own

patch_holds : (profile : Profile) (IsNew : Values → Type 0) (p : Patch) → IsLeastFault IsPatchRule (profile p) None → (r : Rule) → IsPatchRule r → with_labels IsNew profile p r
patch_holds profile IsNew p all SharedLabel own = absurd (omega (arith, own.1))
patch_holds profile IsNew p all r own = all r own

pub holds_tried : (compares : Bool) (judged : Judged) (profile : Profile) (IsNew : Values → Type 0) (p : Patch) → IsLeastFault IsPatchRule (profile p) None →
    (IsTrue (has_bas judged) → IsNew p.here) → (r : Rule) → IsTriedIf compares judged r → with_labels IsNew profile p r
holds_tried false judged profile IsNew p all shared r own = patch_holds profile IsNew p all r own
holds_tried true Con profile IsNew p all shared r own = part_holds Con profile IsNew p all shared r own
holds_tried true ConDir profile IsNew p all shared r own = part_holds ConDir profile IsNew p all shared r own
holds_tried true ConDirAcc profile IsNew p all shared r own = part_holds ConDirAcc profile IsNew p all shared r own
holds_tried true ConDirBas profile IsNew p all shared r own = part_holds ConDirBas profile IsNew p all shared r own
holds_tried true All profile IsNew p all shared r own = any_holds profile IsNew p all (shared refl) r own
holds_tried true AllWithRanks profile IsNew p all shared r own = any_holds profile IsNew p all (shared refl) r own

-- SharedLabel is tried only where labels are compared
pub own_compared : (compares : Bool) (judged : Judged) → IsTriedIf compares judged SharedLabel → IsTrue compares
own_compared true judged own = refl
own_compared false judged own = absurd (omega (arith, own.1))

-- what is compared says so
pub if_compared : (compares : Bool) (P Q : Type 0) → IsTrue compares → P ↔ Q → IfCompared compares P ↔ Q
if_compared true P Q is same = same
if_compared false P Q is same = absurd (let no : ⊥ = cc in no)

-- what is passed though its label isn't new has no label that is tried
pub untried : (passed has tried : Bool) → passed ≡ not has → has ≡ tried → passed ≡ true → ¬ IsTrue tried
untried passed true tried is same there own = let no : passed ≡ false = is in cc
untried passed false tried is same there own = cc

-- a rule of a patch is tried
part_tried : (judged : Judged) (r : Rule) → IsPatchRule r → IsPartRule judged r
part_tried judged SharedLabel own = absurd (omega (arith, own.1))
part_tried judged r own = own

pub patch_tried : (judged : Judged) (r : Rule) → IsPatchRule r → IsTried judged r
patch_tried All r own = (own.0, omega (arith, own.1))
patch_tried AllWithRanks r own = (own.0, omega (arith, own.1))
patch_tried judged r own = part_tried judged r own

-- The first fault of a patch, from what the crates below answer in turn: where they find none, the rules so far hold.

-- a rule on the conditioned elevation says what it says among those that are tried
pub surface_with : (ranks : Bool) (nodata : NoDataNumbers) (p : Patch) (r : Rule) → IsFillRule r → surface_rules p r ↔ rules_with ranks nodata p r
surface_with true nodata p r own = surface_same nodata p r own
surface_with false nodata p r own = surface_same_unranked nodata p r own

-- and so does one on where water goes that isn't the one on flats
pub flow_with : (ranks : Bool) (nodata : NoDataNumbers) (p : Patch) (r : Rule) → IsFlowRule r → rule_number r ≢ rule_number FlatStep →
    flow_rules p r ↔ rules_with ranks nodata p r
flow_with true nodata p r own other = flow_same nodata p r own
flow_with false nodata p r own other =
    let here = flow_level p r other in
    let there = level_same nodata p r own in
    (λ h. there.0 (here.0 h), λ h. here.1 (there.1 h))

-- the rules about all rasters, with ranks if these are judged
abbrev pub whole : Rules → Profile
whole rules = rules_with (has_rnk rules.judged) rules.nodata

-- where the rules before hold, the answer on the conditioned elevation is that of all rules so far
pub fill_to : (rules : Rules) (p : Patch) (o : Option Rule) → IsLeastFault IsPresenceRule (whole rules p) None →
    IsLeastFault IsFillRule (surface_rules p) o → IsLeastFault (IsFrom VoidCell NotLeast) (whole rules p) o
fill_to rules p o hold answer =
    found_next (whole rules p) VoidCell BadCode NotLeast o (omega arith) hold
    (IsLeastFault-same IsFillRule (surface_rules p) (whole rules p) o (surface_with (has_rnk rules.judged) rules.nodata p) answer)

-- and so is the answer on where water goes, flats left out
pub flow_to : (rules : Rules) (p : Patch) (passed last : Rule) (o : Option Rule) → rule_number NotLeast ≤ rule_number passed →
    ((r : Rule) → IsAfter passed last r → rule_number r ≢ rule_number FlatStep) →
    IsLeastFault (IsFrom VoidCell passed) (whole rules p) None → IsLeastFault (IsAfter passed last) (flow_rules p) o →
    IsLeastFault (IsFrom VoidCell last) (whole rules p) o
flow_to rules p passed last o behind other hold answer =
    found_next (whole rules p) VoidCell passed last o (omega arith) hold
    (IsLeastFault-same (IsAfter passed last) (flow_rules p) (whole rules p) o
    (λ r own. flow_with (has_rnk rules.judged) rules.nodata p r (omega (arith, own.0), omega (arith, (numbered r).1)) (other r own)) answer)

-- a fault among the rules so far is the first of the patch
pub fault_of_patch : (P : Rule → Type 0) (last r : Rule) → rule_number last ≤ rule_number Label →
    IsLeastFault (IsFrom VoidCell last) P (Some r) → IsLeastFault IsPatchRule P (Some r)
fault_of_patch P last r within = found_first P VoidCell last Label r within
