-- The rules that are tried: what they say of a patch with labels, and of a cell.
use Rattle.drain_faults.proofs.Names.{◌≡◌, List, [], ◌∷◌, ◌++◌, Option, Some, None, sym, subst, ℤ, ◌⊎◌, IsNone, inl, inr, arith, Bool, false, IsTrue, refl, Cell, Rules, Patch, Rule, Grid, Products, patch_at, IsInside, FaultyPatch, IsFirstNoted, AllHoldAt, IsLeastAt, TellsFault, HoldsIfTried, IsFirstPatch, IsAdmitted, LabelSet, SharedLabel, HoldsAt, Profile, IsPatchRule, IsLeastFault, IsAnyRule, IsKept, IsRightVoid, IsLabelOf, IsOutletByCode, AreLabelsBefore, labelled_profile, false≢true, true≢false, Judged, has_bas, IsTried, tried, labelled-HoldsAt, patch_tried}
use Rattle.std.proofs.Common.{◌↔◌, IsSome}
use Rattle.drain_faults.proofs.NumbersWithout.{first_found, first_past, first_stays}
use Rattle.drain_grid.specs.declared.judged.Judged.TheVariants.{ConDirBas, All, AllWithRanks}
use Rattle.drain_faults.proofs.PatchFlags.{tells_same}
use Rattle.drain_faults.proofs.RulePlaces.{any_rule}

-- The first cell of a list at which some rule that is tried fails, with one cell more.

module _ (rules : Rules) (g : Grid) (ps : Products) where
  -- one cell more, at which every rule that is tried holds
  pub patch_past : (cs : List Cell) (c : Cell) (o : Option FaultyPatch) → AllHoldAt rules g ps c → IsFirstPatch rules g ps cs o →
      IsFirstPatch rules g ps (cs ++ c ∷ []) o
  patch_past cs c None holds first = first_past (AllHoldAt rules g ps) cs c None holds first
  patch_past cs c (Some found) holds first = record {
    first_is = first_past (AllHoldAt rules g ps) cs c (Some found.cell) holds first.first_is;
    patch_is = first.patch_is;
    least = first.least;
  }

  -- one cell more that was noted
  pub patch_noted : (cs : List Cell) (c : Cell) (p : Patch) (least : Option Rule) (old new : Option FaultyPatch) → p ≡ patch_at g ps c →
      IsLeastAt rules g ps c least → IsFirstNoted least c p old new → IsFirstPatch rules g ps cs old → IsFirstPatch rules g ps (cs ++ c ∷ []) new
  patch_noted cs c p least (Some found) new is fault noted first =
      subst (IsFirstPatch rules g ps (cs ++ c ∷ [])) (sym noted)
      (record { first_is = first_stays (AllHoldAt rules g ps) cs (c ∷ []) found.cell first.first_is; patch_is = first.patch_is; least = first.least })
  patch_noted cs c p None None new is fault noted first =
      subst (IsFirstPatch rules g ps (cs ++ c ∷ [])) (sym noted) (first_past (AllHoldAt rules g ps) cs c None fault first)
  patch_noted cs c p (Some rule) None new is fault noted first =
      subst (IsFirstPatch rules g ps (cs ++ c ∷ [])) (sym noted)
      (record { first_is = first_found (AllHoldAt rules g ps) cs c None (λ all. fault.1 (all rule fault.0)) first; patch_is = is; least = fault })

-- Cells at which no rule fails and that have no label to admit: cleared cells, and voids with no-data numbers.

-- every rule of a patch holds at the cell, and it is no outlet by its code
pub record IsSound (profile : Profile) (p : Patch) : Type 0 where
  pub holds : IsLeastFault IsPatchRule (profile p) None
  pub no_outlet : ¬ IsOutletByCode p.here

-- a cleared cell is one
pub of_kept : (profile : Profile) (p : Patch) → IsKept profile p → IsSound profile p
of_kept profile p kept = record { holds = kept.holds; no_outlet = λ outlet. kept.no_outlet outlet.code }

-- and so is a void at which no rule fails
no_data : (z : Option ℤ) → IsNone z → ¬ IsSome z
no_data None void there = grind (arith, there)
no_data (Some h) void there = grind (arith, void)

pub of_void : (profile : Profile) (p : Patch) → IsRightVoid profile p → IsSound profile p
of_void profile p right = record { holds = right.holds; no_outlet = λ outlet. no_data p.here.z right.is_void outlet.has_data }

-- every rule holds at a sound cell
pub sound_holds : (profile : Profile) (g : Grid) (ps : Products) (c : Cell) → IsSound profile (patch_at g ps c) → (r : Rule) → HoldsAt profile g ps c r
sound_holds profile g ps c sound SharedLabel = λ here code. absurd (sound.no_outlet (record { has_data = here.is_data; code = code }))
sound_holds profile g ps c sound r = sound.holds r (omega arith, omega arith)

-- and it has no label to admit
pub no_label : (profile : Profile) (labels : LabelSet) (p : Patch) → IsSound profile p → (label : ℤ) →
    IsAdmitted labels label ↔ (IsLabelOf p.here label ⊎ IsAdmitted labels label)
no_label profile labels p sound label = (
  (λ admitted. inr admitted),
  (λ either. elim either [
    | inl own ↦ absurd (sound.no_outlet own.outlet)
    | inr admitted ↦ admitted
  ]),
)

-- where labels aren't judged SharedLabel isn't tried, and else it is
shared_untried : (judged : Judged) → has_bas judged ≡ false → ¬ IsTried judged SharedLabel
shared_untried ConDirBas is own = true≢false is
shared_untried All is own = true≢false is
shared_untried AllWithRanks is own = true≢false is
shared_untried judged is own = false≢true own

shared_tried : (judged : Judged) → IsTrue (has_bas judged) → IsTried judged SharedLabel
shared_tried All is = any_rule SharedLabel
shared_tried AllWithRanks is = any_rule SharedLabel
shared_tried judged is = is

-- so it is tried, or it isn't
shared_or_not : (judged : Judged) → IsTried judged SharedLabel ⊎ ¬ IsTried judged SharedLabel
shared_or_not ConDirBas = inl refl
shared_or_not All = inl (any_rule SharedLabel)
shared_or_not AllWithRanks = inl (any_rule SharedLabel)
shared_or_not judged = inr (shared_untried judged refl)

-- and where it is tried labels are judged
pub labels_judged : (judged : Judged) → IsTried judged SharedLabel → IsTrue (has_bas judged)
labels_judged ConDirBas own = refl
labels_judged All own = refl
labels_judged AllWithRanks own = refl
labels_judged judged own = own

-- a rule is tried, or it isn't
pub tried_or_not : (judged : Judged) (r : Rule) → IsTried judged r ⊎ ¬ IsTried judged r
tried_or_not judged SharedLabel = shared_or_not judged
tried_or_not judged r = inl (patch_tried judged r (omega arith, omega arith))

-- the labels play no part in the rules of a patch
labelled-patch : (profile : Profile) (labels : LabelSet) (p : Patch) (r : Rule) → IsPatchRule r → profile p r ↔ labelled_profile profile labels p r
labelled-patch profile labels p SharedLabel own = absurd (omega (arith, own.1))
labelled-patch profile labels p r own = (λ h. h, λ h. h)

module _ (rules : Rules) where
  -- a rule of a patch is tried, and labels play no part in it
  patch_same : (labels : LabelSet) (p : Patch) (r : Rule) → IsPatchRule r → tried rules p r ↔ HoldsIfTried rules labels p r
  patch_same labels p r own =
      let same = labelled-patch (tried rules) labels p r own in
      ((λ holds again. same.0 holds), λ f. same.1 (f (patch_tried rules.judged r own)))

  -- so a flag of it is one of it among those that are tried, and the other way round
  pub told_patch : (labels : LabelSet) (p : Patch) (b : Bool) (r : Rule) → IsPatchRule r → TellsFault b (tried rules p r) → TellsFault b (HoldsIfTried rules labels p r)
  told_patch labels p b r own told = tells_same b (tried rules p r) (HoldsIfTried rules labels p r) (patch_same labels p r own) told

  pub told_here : (labels : LabelSet) (p : Patch) (b : Bool) (r : Rule) → IsPatchRule r → TellsFault b (HoldsIfTried rules labels p r) → TellsFault b (tried rules p r)
  told_here labels p b r own told =
      let same = patch_same labels p r own in
      tells_same b (HoldsIfTried rules labels p r) (tried rules p r) (same.1, same.0) told

  -- the flag of SharedLabel, where labels are judged
  pub told_shared : (labels : LabelSet) (p : Patch) (b : Bool) → IsTrue (has_bas rules.judged) → TellsFault b (labelled_profile (tried rules) labels p SharedLabel) →
      TellsFault b (HoldsIfTried rules labels p SharedLabel)
  told_shared labels p b own told =
      tells_same b (labelled_profile (tried rules) labels p SharedLabel) (HoldsIfTried rules labels p SharedLabel)
      ((λ holds again. holds), λ f. f (shared_tried rules.judged own)) told

  -- SharedLabel isn't counted where labels aren't judged
  pub told_untried : (labels : LabelSet) (p : Patch) → has_bas rules.judged ≡ false → HoldsIfTried rules labels p SharedLabel
  told_untried labels p is = λ own. absurd (shared_untried rules.judged is own)

  module _ (g : Grid) (ps : Products) (labels : LabelSet) (c : Cell) (inside : IsInside g c)
      (before : IsTrue (has_bas rules.judged) → AreLabelsBefore g ps c labels) where
    -- with the labels before the cell, if they are compared, a rule that is tried holds at the patch as it does at the cell
    pub tried_at : (r : Rule) → IsTried rules.judged r → HoldsIfTried rules labels (patch_at g ps c) r ↔ HoldsAt (tried rules) g ps c r
    tried_at SharedLabel own =
        let same = labelled-HoldsAt (tried rules) g ps labels c SharedLabel inside (before (labels_judged rules.judged own)) in
        ((λ f. same.0 (f own)), λ holds again. same.1 holds)
    tried_at r own = ((λ f. f own), λ holds again. holds)

    -- so the least that fails at the patch is the least that fails at the cell
    pub least_at : (o : Option Rule) → IsLeastFault IsAnyRule (HoldsIfTried rules labels (patch_at g ps c)) o → IsLeastAt rules g ps c o
    least_at None all = λ r own. (tried_at r own).0 (all r (any_rule r))
    least_at (Some r) least = elim (tried_or_not rules.judged r) [
      | inl own ↦ (
        own,
        (λ holds. least.1 ((tried_at r own).1 holds)),
        λ q tried below. (tried_at q tried).0 (least.2 q (any_rule q) below),
      )
      | inr untried ↦ absurd (least.1 (λ own. absurd (untried own)))
    ]

    -- where SharedLabel holds at the patch it holds at the cell, if labels are judged
    pub shared_at : IsTrue (has_bas rules.judged) → HoldsIfTried rules labels (patch_at g ps c) SharedLabel → HoldsAt (tried rules) g ps c SharedLabel
    shared_at own = (tried_at SharedLabel (shared_tried rules.judged own)).0
