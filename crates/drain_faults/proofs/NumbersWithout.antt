-- One cell more of a list: how many of its cells lack a fact, and which of them first. By induction over the list.
use Rattle.drain_faults.proofs.Names.{◌≡◌, ℕ, ◌+◌, ◌<◌, ◌≤◌, ◌^◌, List, [], ◌∷◌, ◌++◌, length, Option, Some, None, unwrap_or, inl, inr, refl, sym, subst, arith, Cell, RuleFaults, IsNotedAt, IsWithFault, AreCellsWithout, IsFirstWithout, IsNumberWithout}

module _ (P : Cell → Type 0) where
  -- the numbers of two lists add up
  number_joined : (cs ds : List Cell) (n m : ℕ) → IsNumberWithout P cs n → IsNumberWithout P ds m → IsNumberWithout P (cs ++ ds) (n + m)
  number_joined [] ds n m none more = let same : n + m ≡ m = omega (arith, none) in subst (IsNumberWithout P ds) (sym same) more
  number_joined (c ∷ cs) ds n m (inl holds) more = inl (holds.0, number_joined cs ds n m holds.1 more)
  number_joined (c ∷ cs) ds n m (inr fails) more =
      let rest = fails.1 in
      let less : n ≡ rest.0 + 1 = rest.1 in
      let sum : n + m ≡ rest.0 + m + 1 = omega (arith, less) in
      inr (fails.0, (rest.0 + m, sum, number_joined cs ds rest.0 m rest.2 more))

  -- and are no greater than the list is long
  number_fits : (cs : List Cell) (n : ℕ) → IsNumberWithout P cs n → n ≤ length cs
  number_fits [] n none = omega (arith, none)
  number_fits (c ∷ cs) n (inl holds) = omega (arith, number_fits cs n holds.1)
  number_fits (c ∷ cs) n (inr fails) =
      let less : n ≡ fails.1.0 + 1 = fails.1.1 in
      omega (arith, number_fits cs fails.1.0 fails.1.2, less)

  -- the first of a list is the first of a longer one
  pub first_stays : (cs ds : List Cell) (b : Cell) → IsFirstWithout P cs (Some b) → IsFirstWithout P (cs ++ ds) (Some b)
  first_stays [] ds b is = absurd (let e : Some b ≡ None = is in cc)
  first_stays (c ∷ cs) ds b (inl holds) = inl (holds.0, first_stays cs ds b holds.1)
  first_stays (c ∷ cs) ds b (inr fails) = inr fails

  -- where there is none, it is that of the rest
  first_of_rest : (cs ds : List Cell) (o : Option Cell) → IsFirstWithout P cs None → IsFirstWithout P ds o → IsFirstWithout P (cs ++ ds) o
  first_of_rest [] ds o none more = more
  first_of_rest (c ∷ cs) ds o (inl holds) more = inl (holds.0, first_of_rest cs ds o holds.1 more)
  first_of_rest (c ∷ cs) ds o (inr fails) more = absurd (let e : None ≡ Some c = fails.1 in cc)

  pub first_past : (cs : List Cell) (c : Cell) (o : Option Cell) → P c → IsFirstWithout P cs o → IsFirstWithout P (cs ++ c ∷ []) o
  first_past cs c None holds first = first_of_rest cs (c ∷ []) None first (inl (holds, refl))
  first_past cs c (Some b) holds first = first_stays cs (c ∷ []) b first

  pub first_found : (cs : List Cell) (c : Cell) (o : Option Cell) → ¬ P c → IsFirstWithout P cs o → IsFirstWithout P (cs ++ c ∷ []) (Some (unwrap_or o c))
  first_found cs c None fails first = first_of_rest cs (c ∷ []) (Some c) first (inr (fails, refl))
  first_found cs c (Some b) fails first = first_stays cs (c ∷ []) b first

  -- one cell more, at which the fact holds
  pub holding_more : (cs : List Cell) (c : Cell) (faults : RuleFaults) → P c → AreCellsWithout P cs faults → AreCellsWithout P (cs ++ c ∷ []) faults
  holding_more cs c faults holds so_far =
      let same : faults.cells + 0 ≡ faults.cells = omega arith in
      record {
        number = subst (IsNumberWithout P (cs ++ c ∷ [])) same (number_joined cs (c ∷ []) faults.cells 0 so_far.number (inl (holds, refl)));
        first_is = first_past cs c faults.first holds so_far.first_is;
      }

  -- one more, at which it doesn't
  failing_more : (cs : List Cell) (c : Cell) (old new : RuleFaults) → length cs + 1 < 2 ^ 32 → ¬ P c → IsWithFault c old new → AreCellsWithout P cs old →
      AreCellsWithout P (cs ++ c ∷ []) new
  failing_more cs c old new few fails with so_far =
      let fits : old.cells + 1 < 2 ^ 32 = omega (arith, few, number_fits cs old.cells so_far.number) in
      record {
        number = subst (IsNumberWithout P (cs ++ c ∷ [])) (sym (with.counted fits)) (number_joined cs (c ∷ []) old.cells 1 so_far.number (inr (fails, (0, refl, refl))));
        first_is = subst (IsFirstWithout P (cs ++ c ∷ [])) (sym with.first_is) (first_found cs c old.first fails so_far.first_is);
      }

  -- one more that was noted
  pub noted_more : (cs : List Cell) (c : Cell) (old new : RuleFaults) → length cs + 1 < 2 ^ 32 → IsNotedAt (P c) c old new → AreCellsWithout P cs old →
      AreCellsWithout P (cs ++ c ∷ []) new
  noted_more cs c old new few (inl kept) so_far = subst (AreCellsWithout P (cs ++ c ∷ [])) (sym kept.1) (holding_more cs c old kept.0 so_far)
  noted_more cs c old new few (inr fails) so_far = failing_more cs c old new few fails.0 fails.1 so_far
