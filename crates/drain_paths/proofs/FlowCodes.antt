-- What the flow of a cell says of its elevation and its code.
use Rattle.drain_paths.proofs.Names.{◌≡◌, ◌≢◌, ◌∙◌, inl, inr, ℤ, pos, Bool, true, false, if◌then◌else◌, Option, Some, None, refl, sym, ap, subst, rules, int_eq, option_map_or, cases_Bool, Direction, East, Names, named_direction, none_some, same_some, Flow, Ends, flow_to, direction_of, code_flow}
use Rattle.drain_paths.proofs.NextCells.{named_direction-names}
use Rattle.drain_paths.specs.declared.flow.Flow.TheVariants.{Void, Lost}

direction_of-to : (d : Direction) → direction_of (flow_to d) ≡ Some d
direction_of-to East = refl
direction_of-to d = refl

-- so it is no flow without a direction
flow_to-not : (f : Flow) → direction_of f ≡ None → (d : Direction) → flow_to d ≢ f
flow_to-not f none d h = none_some d (sym none ∙ sym (ap direction_of h) ∙ direction_of-to d)

-- what the flow of a number says of the number
pub record Says (n : ℤ) (f : Flow) : Type 0 where
  pub not_void : f ≢ Void
  pub ends : f ≡ Ends → n ≡ pos 0
  pub lost : f ≡ Lost → (named_direction n ≡ None) × (n ≢ pos 0)
  pub leads : (d : Direction) → direction_of f ≡ Some d → Names n d

int_eq-true : (a : ℤ) → int_eq a (pos 0) ≡ true → a ≡ pos 0
int_eq-true a h = search rules

int_eq-false : (a : ℤ) → int_eq a (pos 0) ≡ false → a ≢ pos 0
int_eq-false a h same = search rules

says_direction : (n : ℤ) (o : Option Direction) → named_direction n ≡ o → n ≢ pos 0 → Says n (option_map_or flow_to o Lost)
says_direction n None named other = record {
  not_void = λ h. cc;
  ends = λ h. absurd (lost_ends h);
  lost = λ h. (named, other);
  leads = λ d h. absurd (none_some d h);
}
  where
    lost_ends : Lost ≡ Ends → ⊥
    lost_ends h = cc
says_direction n (Some e) named other = record {
  not_void = flow_to-not Void refl e;
  ends = λ h. absurd (flow_to-not Ends refl e h);
  lost = λ h. absurd (flow_to-not Lost refl e h);
  leads = λ d h. subst (Names n) (same_some e d (sym (direction_of-to e) ∙ h)) (named_direction-names n e named);
}

says_zero : (n : ℤ) → n ≡ pos 0 → Says n Ends
says_zero n is_zero = record {
  not_void = λ h. cc;
  ends = λ h. is_zero;
  lost = λ h. absurd (ends_lost h);
  leads = λ d h. absurd (none_some d h);
}
  where
    ends_lost : Ends ≡ Lost → ⊥
    ends_lost h = cc

pub code_flow-says : (n : ℤ) → Says n (code_flow n)
code_flow-says n =
    elim (cases_Bool (int_eq n (pos 0))) [
      | inl zero ↦ subst (λ (b : Bool). Says n (if b then Ends else option_map_or flow_to (named_direction n) Lost)) (sym zero) (says_zero n (int_eq-true n zero))
      | inr other ↦ subst (λ (b : Bool). Says n (if b then Ends else option_map_or flow_to (named_direction n) Lost)) (sym other)
          (says_direction n (named_direction n) refl (int_eq-false n other))
    ]
