-- The list of what lies along the seams of a box, one more of all that is shown at a time.
use Rattle.drain_merge.proofs.Names.{◌↔◌, inl, inr, List, [], ◌∷◌, ◌++◌, subst, sym, Contains, Contains-append_left, Contains-push, Contains-push_cases, IsOuter, Place, SEAM_DEPTH, Shown}

-- the list holds what of these lies along the seams of the box, and nothing else
abbrev pub AreOuterOf : Place → List Shown → List Shown → Type 0
AreOuterOf box shown outer = (x : Shown) → Contains outer x ↔ (IsOuter SEAM_DEPTH box x.cell × Contains shown x)

module _ (box : Place) (shown outer : List Shown) (y : Shown) (are : AreOuterOf box shown outer) where
  -- one that doesn't lie there
  pub one_inside : ¬ IsOuter SEAM_DEPTH box y.cell → AreOuterOf box (shown ++ y ∷ []) outer
  one_inside not x = (
    (λ has. (((are x).0 has).0, Contains-append_left shown (y ∷ []) x ((are x).0 has).1)),
    (λ both. elim (Contains-push_cases shown y x both.1) [
      | inl before ↦ (are x).1 (both.0, before)
      | inr here ↦ absurd (not (subst (λ (z : Shown). IsOuter SEAM_DEPTH box z.cell) (sym here) both.0))
    ]),
  )

  -- one that was shown before
  pub one_again : Contains shown y → AreOuterOf box (shown ++ y ∷ []) outer
  one_again again x = (
    (λ has. (((are x).0 has).0, Contains-append_left shown (y ∷ []) x ((are x).0 has).1)),
    (λ both. elim (Contains-push_cases shown y x both.1) [
      | inl before ↦ (are x).1 (both.0, before)
      | inr here ↦ (are x).1 (both.0, subst (Contains shown) here again)
    ]),
  )

  -- one that does, which is listed
  pub one_outer : IsOuter SEAM_DEPTH box y.cell → AreOuterOf box (shown ++ y ∷ []) (outer ++ y ∷ [])
  one_outer is x = (
    (λ has. elim (Contains-push_cases outer y x has) [
      | inl before ↦ (((are x).0 before).0, Contains-append_left shown (y ∷ []) x ((are x).0 before).1)
      | inr here ↦ subst (λ (z : Shown). IsOuter SEAM_DEPTH box z.cell × Contains (shown ++ y ∷ []) z) here (is, Contains-push shown y)
    ]),
    (λ both. elim (Contains-push_cases shown y x both.1) [
      | inl before ↦ Contains-append_left outer (y ∷ []) x ((are x).1 (both.0, before))
      | inr here ↦ subst (Contains (outer ++ y ∷ [])) here (Contains-push outer y)
    ]),
  )
