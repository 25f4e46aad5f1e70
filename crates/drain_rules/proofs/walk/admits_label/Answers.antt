use Rattle.drain_rules.proofs.Names.{refl, ◌≡◌, ℤ, Bool, Result, Ok, Err, IsTrue, to_z, of_z, w64, arith, sym, ap, ◌∙◌, subst, inl, inr, IfOk, OnOk, OnErr, IsOk, ints, to_z-of_z, IsAdmitted, LabelSet, IsPixel, Values, IsLabelOf, IsOutletByCode}
use Rattle.std.specs.Prelude.{◌↔◌, ◌⊎◌}
use Rattle.drain_rules.proofs.walk.admits_label.Goals as goal

-- a pixel goes through 64 bits unchanged
same_label : (n m : ℤ) → n ≡ m → IsPixel n → to_z w64 (of_z w64 n) ≡ m
same_label n m is ok = to_z-of_z w64 n (grind (arith, ints, ok.low, ok.high)) ∙ is

-- an outlet's label was admitted
new-outlet : {E : Type 0} (r : Result Bool E) (old : LabelSet) (v : Values) (label : ℤ) → label ≡ v.bas → IsOutletByCode v → IfOk r (λ is_new. IsTrue is_new ↔ ¬ IsAdmitted old label) →
    IfOk r (λ is_new. IsTrue is_new ↔ (IsOutletByCode v → ¬ IsAdmitted old v.bas))
new-outlet (Ok b) old v label is outlet h = (λ yes there at. h.0 yes (subst (IsAdmitted old) (sym is) at), λ none. h.1 (λ at. none outlet (subst (IsAdmitted old) is at)))
new-outlet (Err e) old v label is outlet h = tt

kept-outlet : {E : Type 0} (r : Result Bool E) (old new : LabelSet) (v : Values) (label : ℤ) → label ≡ v.bas → IsOutletByCode v → OnOk r ((other : ℤ) → IsAdmitted new other ↔ ((other ≡ label) ⊎ IsAdmitted old other)) →
    OnOk r ((other : ℤ) → IsAdmitted new other ↔ (IsLabelOf v other ⊎ IsAdmitted old other))
kept-outlet (Ok b) old new v label is outlet h = λ other. (λ at. there other ((h other).0 at), λ at. (h other).1 (here other at))
  where
    there : (other : ℤ) → (other ≡ label) ⊎ IsAdmitted old other → IsLabelOf v other ⊎ IsAdmitted old other
    there other (inl same) = inl (record { outlet = outlet; label_is = same ∙ is })
    there other (inr before) = inr before

    here : (other : ℤ) → IsLabelOf v other ⊎ IsAdmitted old other → (other ≡ label) ⊎ IsAdmitted old other
    here other (inl l) = inl (l.label_is ∙ sym is)
    here other (inr before) = inr before
kept-outlet (Err e) old new v label is outlet h = tt

err-outlet : {E : Type 0} (r : Result Bool E) (old : LabelSet) (v : Values) (label : ℤ) → label ≡ v.bas → IsOutletByCode v → (IsAdmitted old label → IsOk r) → OnErr r (IsOutletByCode v × ¬ IsAdmitted old v.bas)
err-outlet (Ok b) old v label is outlet known = tt
err-outlet (Err e) old v label is outlet known = (outlet, λ at. absurd (let ok = known (subst (IsAdmitted old) (sym is) at) in cc))

pub returns-then-is_outlet_by_code-clause-is_new :
    goal.returns-then-is_outlet_by_code-clause-is_new
returns-then-is_outlet_by_code-clause-is_new c =
    new-outlet c.admit.result c.args.labels.now c.args.here.now _ (same_label _ _ (ap (λ v. v.bas) c.here.view_is) c.here.invariant.bas_ok) (c.if-is_outlet_by_code.ensures.outlet.0 refl) c.admit.ensures.new

pub returns-then-is_outlet_by_code-clause-labels :
    goal.returns-then-is_outlet_by_code-clause-labels
returns-then-is_outlet_by_code-clause-labels c =
    kept-outlet c.admit.result c.args.labels.now c.admit.new.self c.args.here.now _ (same_label _ _ (ap (λ v. v.bas) c.here.view_is) c.here.invariant.bas_ok) (c.if-is_outlet_by_code.ensures.outlet.0 refl) c.admit.ensures.kept

pub returns-then-is_outlet_by_code-clause-err : goal.returns-then-is_outlet_by_code-clause-err
returns-then-is_outlet_by_code-clause-err c =
    err-outlet c.admit.result c.args.labels.now c.args.here.now _ (same_label _ _ (ap (λ v. v.bas) c.here.view_is) c.here.invariant.bas_ok) (c.if-is_outlet_by_code.ensures.outlet.0 refl) c.admit.ensures.known_wants_none
