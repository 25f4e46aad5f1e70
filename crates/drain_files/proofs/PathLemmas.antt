-- What follows the last slash of a path, and what precedes it.
use Rattle.drain_files.proofs.Names.{List, [], ◌∷◌, ◌++◌, ◌≡◌, ℕ, ◌+◌, ◌<◌, get_or, take, ◌⊎◌, inl, inr, sym, subst, below_more, ◌-◌, ◌≤◌, length, drop, refl, ap, ◌∙◌, arith, length-drop, take-append-drop, AllZip, get_or_from_slice_get, Clashes, IsInput, MeetsSome, FileId, Target, slice_range, drop_more, get_or-drop, take_more, slash, IsFolderPart, IsLastPart}
use Rattle.std.specs.Prelude.{◌≢◌}
use Rattle.std.proofs.lemmas.List.Elements.{All-from_get_or}

-- The names of tiles that were opened one after the other.

-- one more on either side
pub AllZip-more : {A B : Type 0} (R : A → B → Type 0) (xs : List A) (ys : List B) (x : A) (y : B) → AllZip R xs ys → R x y → AllZip R (xs ++ x ∷ []) (ys ++ y ∷ [])
AllZip-more R [] [] x y all here = (here, tt)
AllZip-more R [] (b ∷ ys) x y all here = absurd all
AllZip-more R (a ∷ xs) [] x y all here = absurd all
AllZip-more R (a ∷ xs) (b ∷ ys) x y all here = (all.0, AllZip-more R xs ys x y all.1 here)

-- The first output that clashes, place by place.

-- an output that is no input and meets no earlier output is one more that doesn't clash
pub no_clash_more : (outputs : List Target) (inputs : List FileId) (k : ℕ) (d : Target) → ¬ IsInput (get_or outputs k d) inputs → ¬ MeetsSome (get_or outputs k d) (take k outputs)
    → ((j : ℕ) → j < k → ¬ Clashes outputs inputs j) → (j : ℕ) → j < k + 1 → ¬ Clashes outputs inputs j
no_clash_more outputs inputs k d no_input meets_none before = below_more (λ j. ¬ Clashes outputs inputs j) k before here
  where
    here : ¬ Clashes outputs inputs k
    here clash =
        either clash.0 (sym (get_or_from_slice_get outputs k clash.0 d clash.1)) clash.2
      where
        either : (other : Target) → other ≡ get_or outputs k d → (IsInput other inputs ⊎ MeetsSome other (take k outputs)) → ⊥
        either other same (inl input) = no_input (subst (λ o. IsInput o inputs) same input)
        either other same (inr meets) = meets_none (subst (λ o. MeetsSome o (take k outputs)) same meets)

-- the path is what precedes its slash in this place, the slash, and what follows
split_at_slash : (path : List ℕ) (at : ℕ) → at < length path → get_or path at 0 ≡ slash → path ≡ take at path ++ slash ∷ drop (at + 1) path
split_at_slash path at within is =
    sym (take-append-drop at path) ∙ ap (λ rest. take at path ++ rest) (drop_more path at 0 within ∙ ap (λ byte. byte ∷ drop (at + 1) path) is)

pub whole_path : (path : List ℕ) → ((k : ℕ) → k < length path → get_or path k 0 ≢ slash) → IsLastPart path path
whole_path path none = record {
  ends = inl refl;
  has_no_slash = All-from_get_or (λ byte. byte ≢ slash) path 0 none;
}

pub after_last_slash : (path : List ℕ) (at : ℕ) → at < length path → get_or path at 0 ≡ slash →
    ((k : ℕ) → at + 1 ≤ k → k < length path → get_or path k 0 ≢ slash) → IsLastPart path (drop (at + 1) path)
after_last_slash path at within is none = record {
  ends = inr (take at path, split_at_slash path at within is);
  has_no_slash = All-from_get_or (λ byte. byte ≢ slash) (drop (at + 1) path) 0
      (λ i inside same. none (at + 1 + i) (omega arith) (omega (arith, inside, length-drop (at + 1) path)) (sym (get_or-drop (at + 1) path i 0) ∙ same));
}

-- a path is its first bytes and the rest
pub first_part : (path : List ℕ) (n : ℕ) → slice_range path 0 n ++ drop n path ≡ path
first_part path n =
    let same : n - 0 ≡ n = omega arith in
    ap (λ k. take k path ++ drop n path) same ∙ take-append-drop n path

pub no_folder : (path : List ℕ) → ((k : ℕ) → k < length path → get_or path k 0 ≢ slash) → IsFolderPart path []
no_folder path none = record {
  name = path;
  parts = refl;
  no_slash_behind = (whole_path path none).has_no_slash;
  ends = inl refl;
}

pub to_last_slash : (path folder : List ℕ) (at : ℕ) → folder ≡ slice_range path 0 (at + 1) → at < length path → get_or path at 0 ≡ slash →
    ((k : ℕ) → at < k → k < length path → get_or path k 0 ≢ slash) → IsFolderPart path folder
to_last_slash path folder at is_front within is none =
    let same : at + 1 - 0 ≡ at + 1 = omega arith in
    record {
      name = drop (at + 1) path;
      parts = sym (ap (λ front. front ++ drop (at + 1) path) is_front ∙ first_part path (at + 1));
      no_slash_behind = (after_last_slash path at within is (λ k after inside. none k (omega arith) inside)).has_no_slash;
      ends = inr (
        take at path,
        is_front ∙ (ap (λ n. take n path) same ∙ (take_more path at 0 within ∙ ap (λ byte. take at path ++ byte ∷ []) is)),
      );
    }
