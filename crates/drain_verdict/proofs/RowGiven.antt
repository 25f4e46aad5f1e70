-- One more row of all inputs: what came.
use Rattle.drain_verdict.proofs.Names.{◌≡◌, ◌⊎◌, ◌≤◌, ◌+◌, ℤ, Bool, inl, inr, List, length, Some, None, IfSome, refl, sym, subst, ◌∙◌, arith, FaultCounts, Coming, SetProduct, Dir, Acc, Bas, Rnk, of_product, IsPixel, GroundToGive, ground_row, AreRowNumbers, RowNumbers, blank, IsNext, IsEven, InputsHaveRead, Reading, AreGiven, HaveCome, IsAfter, IsAfterTold, IsNextRow, ToGive, given, InputRows, Refusal}
use Rattle.std.proofs.Common.{ℕ, Option}
use Rattle.std.specs.List.{All}
use Rattle.drain_grid.specs.declared.cell.TheConstants.{MAX_LENGTH}
use Rattle.drain_grid.specs.declared.set_product.SetProduct.TheVariants.{Con}
use Rattle.drain_verdict.specs.Inputs.{Products}

abbrev made : List (Option ℤ) → List ℤ → List ℤ → List ℤ → List ℤ → List ℤ → RowNumbers
made z con dir acc bas rnk = record { z = z; products = record { con = con; dir = dir; acc = acc; bas = bas; rnk = rnk } }

made_same : (z z2 : List (Option ℤ)) (con con2 dir dir2 acc acc2 bas bas2 rnk rnk2 : List ℤ) → z ≡ z2 → con ≡ con2 → dir ≡ dir2 → acc ≡ acc2 → bas ≡ bas2 → rnk ≡ rnk2 →
    made z con dir acc bas rnk ≡ made z2 con2 dir2 acc2 bas2 rnk2
made_same z z2 con con2 dir dir2 acc acc2 bas bas2 rnk rnk2 a b c d e f = rw (a, b, c, d, e, f) refl

-- numbers that are the same, list by list
pub same_numbers : (a b : RowNumbers) → a.z ≡ b.z → ((p : SetProduct) → of_product a.products p ≡ of_product b.products p) → a ≡ b
same_numbers a b z each =
    made_same a.z b.z a.products.con b.products.con a.products.dir b.products.dir a.products.acc b.products.acc a.products.bas b.products.bas a.products.rnk b.products.rnk
    z (each Con) (each Dir) (each Acc) (each Bas) (each Rnk)

-- the row that was read is kept where it is whole, and forgotten where it isn't
abbrev pub IsKept : RowNumbers → RowNumbers → Type 0
IsKept row kept = (IsEven row × (kept ≡ row)) ⊎ ((¬ IsEven row) × (kept ≡ blank))

-- it holds numbers of a row
pub kept_numbers : (row kept : RowNumbers) → length row.z ≤ MAX_LENGTH → All (λ z. IfSome z IsPixel) row.z → ((p : SetProduct) → All IsPixel (of_product row.products p)) → IsKept row kept → AreRowNumbers kept
kept_numbers row kept narrow samples pixels is = elim is [
  | inl whole ↦ subst AreRowNumbers (sym whole.1) (record { narrow = narrow; long = whole.0; samples = samples; pixels = pixels })
  | inr none ↦ subst AreRowNumbers (sym none.1) (record { narrow = omega arith; long = λ p. none_long p; samples = λ k t inside. absurd (omega (arith, inside)); pixels = λ p. none_pixels p })
]
  where
    none_long : (p : SetProduct) → length (of_product blank.products p) ≡ 0
    none_long Con = refl
    none_long Dir = refl
    none_long Acc = refl
    none_long Bas = refl
    none_long Rnk = refl

    none_pixels : (p : SetProduct) → All IsPixel (of_product blank.products p)
    none_pixels p k t inside = absurd (let none = none_long p in omega (arith, inside, none))

module _ {M X R : Type 0} (after : M → List X → GroundToGive → ℕ → Type 0) (has_read : M × List X → M × List X → Bool → Type 0) (bl : R → Option (List ℕ)) (ct : R → FaultCounts) where
  -- one row more of the ground was requested, and this came
  abbrev pub OneMore : M → M → List X → List X → List (Option ℤ) → Type 0
  OneMore old new from now z = (t : GroundToGive) (n : ℕ) → after old from t n → after new now t (n + 1) × (z ≡ ground_row t n)

  -- it is the next of those to give
  pub next_given : (old new : InputRows R M) (from now : List X) (ps ps_then : Products R) (row kept : RowNumbers) → IsKept row kept →
      OneMore old.elevations new.elevations from now row.z →
      ((p : SetProduct) (start : Coming) (n : ℕ) → IsAfterTold (of_product old.rasters p) (bl (of_product ps p).body) start n →
      IsNextRow (of_product new.rasters p) (bl (of_product ps_then p).body) start n (of_product row.products p)) →
      IsNext (AreGiven after bl (old, from, ps)) (AreGiven after bl (new, now, ps_then)) kept
  next_given old new from now ps ps_then row kept is ground_more product rows n before =
      let t = before.to_give in
      let z = ground_more t.elevations n before.are_after.elevations in
      let each = λ (p : SetProduct). product p (t.product p) n (before.are_after.product p) in
      let same : row ≡ given t n = same_numbers row (given t n) z.1 (list_by_list t each) in
      let next = before.rows_are n in (
        elim is [
          | inl whole ↦ whole.1 ∙ same ∙ sym (next.even (subst IsEven same whole.0))
          | inr none ↦ none.1 ∙ sym (next.uneven (λ even. none.0 (subst IsEven (sym same) even)))
        ],
        record {
          to_give = t;
          are_after = record { elevations = z.0; product = λ p. (each p).after };
          rows_are = before.rows_are;
        },
      )
    where
      list_by_list : (t : ToGive) → ((p : SetProduct) → IsNextRow (of_product new.rasters p) (bl (of_product ps_then p).body) (t.product p) n (of_product row.products p)) →
          (p : SetProduct) → of_product row.products p ≡ of_product (given t n).products p
      list_by_list t each Con = (each Con).out_is
      list_by_list t each p = (each p).out_is

  -- one call more
  pub come_more : (start : Reading M X R) (old new : InputRows R M) (from now : List X) (ps ps_then : Products R) (row : RowNumbers) (calls : ℕ) →
      HaveCome after has_read bl ct start (old, from, ps) calls None → InputsHaveRead has_read bl ct start (new, now, ps_then) None →
      OneMore old.elevations new.elevations from now row.z →
      ((p : SetProduct) (first : Coming) (n : ℕ) → IsAfterTold (of_product old.rasters p) (bl (of_product ps p).body) first n →
      IsNextRow (of_product new.rasters p) (bl (of_product ps_then p).body) first n (of_product row.products p)) →
      HaveCome after has_read bl ct start (new, now, ps_then) (calls + 1) None
  come_more start old new from now ps ps_then row calls before reads ground_more product = record {
    reads = reads;
    came = λ none t n at.
        let here = before.came refl t n at in
        let longer : n + calls + 1 ≡ n + (calls + 1) = omega arith in
        subst (λ k. IsAfter after bl new now ps_then t k) longer (record {
          elevations = (ground_more t.elevations (n + calls) here.elevations).0;
          product = λ p. (product p (t.product p) (n + calls) (here.product p)).after;
        });
  }

  -- the last call was refused
  pub come_refused : (start now : Reading M X R) (calls : ℕ) (refusal : Refusal) → InputsHaveRead has_read bl ct start now (Some refusal) →
      HaveCome after has_read bl ct start now calls (Some refusal)
  come_refused start now calls refusal reads = record { reads = reads; came = λ none. absurd (let wrong = none in cc) }
