-- The first faults of windows keep their order in the union, so the least of them is the union's.
use Rattle.drain_union.proofs.Names.{◌≡◌, ◌+◌, ◌⊎◌, inl, inr, sym, ap, subst, ◌∙◌, arith, cases_order, Cell, Rule, IsEarlier, IsPatchRule, rule_number, NoDataNumbers, unranked, HoldsAt, IsEarlierPair, cases_earlier, earlier_trans, Place, Window, in_union, IsJudgedIn, RulesHoldInside, IsNotBefore, LeastFaultIsFirst}
use Rattle.drain_union.proofs.WindowPatches.{there, patch_of_window}
use Rattle.drain_union.proofs.Unions.{by_patch}

-- an earlier cell of a window is an earlier one of the union
moved : (p : Place) (a b : Cell) → IsEarlier a b → IsEarlier (in_union p a) (in_union p b)
moved p a b (inl above) = inl (omega arith)
moved p a b (inr beside) = inr (ap (λ n. p.top + n) beside.0, omega (arith, beside.1))

-- what stands before a pair that stands before a third, or at its place, stands before the third
pub pair_trans : (a b c : Cell) (p q r : Rule) → IsEarlierPair a p b q ⊎ ((a ≡ b) × (rule_number p ≡ rule_number q)) → IsEarlierPair b q c r → IsEarlierPair a p c r
pair_trans a b c p q r (inl (inl x)) (inl y) = inl (earlier_trans a b c x y)
pair_trans a b c p q r (inl (inl x)) (inr y) = inl (subst (IsEarlier a) y.0 x)
pair_trans a b c p q r (inl (inr x)) (inl y) = inl (subst (λ z. IsEarlier z c) (sym x.0) y)
pair_trans a b c p q r (inl (inr x)) (inr y) = inr (x.0 ∙ y.0, omega (arith, x.1, y.1))
pair_trans a b c p q r (inr x) (inl y) = inl (subst (λ z. IsEarlier z c) (sym x.0) y)
pair_trans a b c p q r (inr x) (inr y) = inr (x.0 ∙ y.0, omega (arith, x.1, y.1))

-- of two pairs the first stands before the second, or the second before or at the first
pair_order : (a b : Cell) (p q : Rule) → IsEarlierPair a p b q ⊎ (IsEarlierPair b q a p ⊎ ((b ≡ a) × (rule_number q ≡ rule_number p)))
pair_order a b p q =
    elim (cases_earlier a b) [
      | inl same ↦
          elim (cases_order (rule_number p) (rule_number q)) [
            | inl one ↦ inr (inr (sym same, sym one))
            | inr (inl less) ↦ inl (inr (same, less))
            | inr (inr more) ↦ inr (inl (inr (sym same, more)))
          ]
      | inr (inl before) ↦ inl (inl before)
      | inr (inr after) ↦ inr (inl (inl after))
    ]

-- an earlier pair of a window is an earlier one of the union
pub moved_earlier : (p : Place) (a b : Cell) (q r : Rule) → IsEarlierPair a q b r → IsEarlierPair (in_union p a) q (in_union p b) r
moved_earlier p a b q r (inl before) = inl (moved p a b before)
moved_earlier p a b q r (inr same) = inr (ap (in_union p) same.0, same.1)

moved_pair : (p : Place) (a b : Cell) (q r : Rule) → IsEarlierPair a q b r ⊎ ((a ≡ b) × (rule_number q ≡ rule_number r)) →
    IsEarlierPair (in_union p a) q (in_union p b) r ⊎ ((in_union p a ≡ in_union p b) × (rule_number q ≡ rule_number r))
moved_pair p a b q r (inl before) = inl (moved_earlier p a b q r before)
moved_pair p a b q r (inr same) = inr (ap (in_union p) same.0, same.1)

-- what stands before a pair of the union holds in a window that has no fault before the pair
pub in_window : (nodata : NoDataNumbers) (c : Cell) (r : Rule) (v : Window) (x : Cell) (q : Rule) → IsJudgedIn v.place x → IsPatchRule q →
    IsEarlierPair (in_union v.place x) q c r → RulesHoldInside nodata v ⊎ IsNotBefore nodata v c r →
    HoldsAt (unranked nodata) v.grid v.products x q
in_window nodata c r v x q judged own before (inl hold) = hold x q judged own
in_window nodata c r v x q judged own before (inr fault) =
    elim (pair_order x fault.0 q fault.1) [
      | inl sooner ↦ fault.2.first x q judged own sooner
      | inr later ↦
          absurd (fault.3 (pair_trans (in_union v.place fault.0) (in_union v.place x) c fault.1 q r (moved_pair v.place fault.0 x fault.1 q later) before))
    ]

pub least_fault_is_first : LeastFaultIsFirst
least_fault_is_first u ps nodata windows are judge w c r at_w is least = record {
  inside = there u.extent w.place (are w at_w).placed c is.judged.inside;
  is_own = is.is_own;
  fails = λ holds. is.fails
      (by_patch (unranked nodata) u w.grid ps w.products (in_union w.place c) c r is.is_own (sym (patch_of_window u ps w (are w at_w) c is.judged)) holds);
  first = λ b q inside own earlier.
      (let one = judge b inside in
      let at_b : in_union one.0.place one.2.0 ≡ b = one.2.2 in
      let before : IsEarlierPair (in_union one.0.place one.2.0) q (in_union w.place c) r =
      subst (λ z. IsEarlierPair z q (in_union w.place c) r) (sym at_b) earlier in
      subst (λ z. HoldsAt (unranked nodata) u ps z q) at_b
      (by_patch (unranked nodata) one.0.grid u one.0.products ps one.2.0 (in_union one.0.place one.2.0) q own
      (patch_of_window u ps one.0 (are one.0 one.1) one.2.0 one.2.1) (in_window nodata (in_union w.place c) r one.0 one.2.0 q one.2.1 own before (least one.0 one.1))));
}
