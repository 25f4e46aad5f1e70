-- What an option holds; a list that gets a number for each cell in row order.
use Rattle.drain_flood.proofs.Names.{◌≡◌, ℕ, ◌+◌, ◌<◌, ◌≤◌, ◌⊎◌, ◌∙◌, ◌++◌, ◌∷◌, [], List, inl, inr, ℤ, Option, Some, None, IsNone, IsSome, length, get_or, refl, sym, ap, subst, arith, cases_lt, get_or_append_left, get_or_push, length-append, Cell, index_of, Grid, IsInside, same_index}

-- an elevation is none or some
pub none_or_some : (o : Option ℤ) → IsNone o ⊎ IsSome o
none_or_some None = inl refl
none_or_some (Some z) = inr refl

-- a number for each cell, one after the other

pub one_more : (xs : List ℕ) (x place : ℕ) → length xs ≡ place → length (xs ++ x ∷ []) ≡ place + 1
one_more xs x place long = length-append xs (x ∷ []) ∙ ap (λ n. n + 1) long

is_last : (k place : ℕ) → k < place + 1 → place ≤ k → k ≡ place
is_last k place less most = omega (arith, less, most)

pub within : (i cells end place : ℕ) → i < cells → end ≡ cells → end ≤ place → i < place
within i cells end place less is most = omega (arith, less, is, most)

pub same_end : (place end cells : ℕ) → place ≤ end → end ≤ place → end ≡ cells → place ≡ cells
same_end place end cells low high is = omega (arith, low, high, is)

-- what holds of the numbers of the cells so far, and of one more
pub with_next : (g : Grid) (P : Cell → ℕ → Type 0) (xs : List ℕ) (x place : ℕ) (n : Cell) → IsInside g n → index_of g.extent n ≡ place → length xs ≡ place →
    P n x → ((c : Cell) → IsInside g c → index_of g.extent c < place → P c (get_or xs (index_of g.extent c) 0)) →
    (c : Cell) → IsInside g c → index_of g.extent c < place + 1 → P c (get_or (xs ++ x ∷ []) (index_of g.extent c) 0)
with_next g P xs x place n at place_is long right before c inside less =
    elim (cases_lt (index_of g.extent c) place) [
      | inl early ↦ subst (P c) (sym (get_or_append_left xs (x ∷ []) 0 (index_of g.extent c) (subst (λ m. index_of g.extent c < m) (sym long) early)))
          (before c inside early)
      | inr late ↦
          (let here : index_of g.extent c ≡ place = is_last (index_of g.extent c) place less late in
          let one : n ≡ c = same_index g.extent n c at inside (place_is ∙ sym here) in
          subst (P c) (sym (get_or_push xs x 0 (index_of g.extent c) (long ∙ sym here))) (subst (λ a. P a x) one right))
    ]
