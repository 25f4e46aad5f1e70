-- One tile more over a row of the mosaic.
use Rattle.drain_mosaic.proofs.Names.{◌≡◌, ◌≢◌, ℕ, ◌+◌, ◌-◌, ◌<◌, ◌≤◌, ℤ, min, List, [], ◌∷◌, ◌++◌, length, Option, Some, arith, refl, sym, ap, ◌∙◌, inl, inr, subst, true, false, int_eq, ◌⊎◌, slice_index_or, option_or, false≢true, cases_lt, Decides-int_eq, same_Some, Cell, VOID, height_from, tile_sample_at, Tiling, extent_of, top_of, left_of, Tile, Covers, HasTwoValues, value_from, first_value, IsLeastOf, ConflictOver, IsLaidOver, IsJoinedRow, first_of, filled}
use Rattle.std.proofs.Common.{None, cond}
use Rattle.drain_mosaic.proofs.Agreement.{covered, gives_from}
use Rattle.drain_mosaic.proofs.Values.{or_none, first_value_push, GivesAnother, two_keep, two_new, two_split}

-- the least place of two properties together
pub least_join : (P Q R : ℕ → Type 0) (n : ℕ) (a b : Option ℕ) → IsLeastOf P n a → IsLeastOf Q n b → ((k : ℕ) → k < n → P k → R k) → ((k : ℕ) → k < n → Q k → R k) → ((k : ℕ) → k < n → R k → P k ⊎ Q k) → IsLeastOf R n (first_of a b)
least_join P Q R n None None p q pr qr split = λ k inside r. elim (split k inside r) [ inl x ↦ p k inside x | inr y ↦ q k inside y ]
least_join P Q R n (Some a) None p q pr qr split =
    (p.0, pr a p.0 p.1, λ k before r. elim (split k (omega (arith, p.0)) r) [ inl x ↦ p.2 k before x | inr y ↦ q k (omega (arith, p.0)) y ])
least_join P Q R n None (Some b) p q pr qr split =
    (q.0, qr b q.0 q.1, λ k before r. elim (split k (omega (arith, q.0)) r) [ inl x ↦ p k (omega (arith, q.0)) x | inr y ↦ q.2 k before y ])
least_join P Q R n (Some a) (Some b) p q pr qr split = elim (cases_lt a b) [
  | inl less ↦ (
      let e : min a b ≡ a = omega arith in
      subst (λ s. (s < n) × R s × ((k : ℕ) → k < s → ¬ R k)) (sym e) (
        p.0,
        pr a p.0 p.1,
        λ k before r. elim (split k (omega (arith, p.0)) r) [ inl x ↦ p.2 k before x | inr y ↦ q.2 k (omega arith) y ],
      ))
  | inr more ↦ (
      let e : min a b ≡ b = omega arith in
      subst (λ s. (s < n) × R s × ((k : ℕ) → k < s → ¬ R k)) (sym e) (
        q.0,
        qr b q.0 q.1,
        λ k before r. elim (split k (omega (arith, q.0)) r) [ inl x ↦ p.2 k (omega arith) x | inr y ↦ q.2 k before y ],
      ))
]

-- a sample that isn't a void is its own height
pub height_of_data : (z : ℤ) → z ≢ VOID → height_from z ≡ Some z
height_of_data z not_void = elim (int_eq z VOID) as (λ b. int_eq z VOID ≡ b → cond b None (Some z) ≡ Some z) [
  | true ↦ λ e. absurd (not_void ((Decides-int_eq z VOID).0 e))
  | false ↦ λ e. refl
] refl

pub data_of_height : (z v : ℤ) → height_from z ≡ Some v → (z ≡ v) × (z ≢ VOID)
data_of_height z v = elim (int_eq z VOID) as (λ b. int_eq z VOID ≡ b → cond b None (Some z) ≡ Some v → (z ≡ v) × (z ≢ VOID)) [
  | true ↦ λ e is. cc
  | false ↦ λ e is. (same_Some z v is, λ p. false≢true (sym e ∙ (Decides-int_eq z VOID).1 p))
] refl

pub height_of_filled : (z s : ℤ) → height_from (filled z s) ≡ option_or (height_from z) (height_from s)
height_of_filled z s = elim (int_eq z VOID) as (λ b. int_eq z VOID ≡ b → height_from (cond b s z) ≡ option_or (cond b None (Some z)) (height_from s)) [
  | true ↦ λ e. refl
  | false ↦ λ e. ap (λ b. cond b None (Some z)) e
] refl

-- a tile gives nothing where it doesn't cover the cell
pub uncovered : (t : Tiling) (tile : Tile) (c : Cell) → ¬ Covers t tile c → value_from t tile c ≡ None
uncovered t tile c not = elim (value_from t tile c) as (λ o. value_from t tile c ≡ o → o ≡ None) [
  | Some v ↦ λ e. absurd (not (gives_from t tile c v e).covers)
  | None ↦ λ e. refl
] refl

pub first_of_none : (a : Option ℕ) → first_of a None ≡ a
first_of_none (Some x) = refl
first_of_none None = refl

-- a tile that doesn't lie over the row changes nothing
pub passed : (t : Tiling) (ts : List Tile) (tile : Tile) (row : ℕ) (samples : List ℤ) (seam : Option ℕ) → ¬ ((top_of t tile.corner ≤ row) × (row < top_of t tile.corner + t.side)) → IsJoinedRow t ts row samples seam → IsJoinedRow t (ts ++ tile ∷ []) row samples seam
passed t ts tile row samples seam aside joined = record {
  values = λ col inside. joined.values col inside ∙ sym (or_none (first_value t ts (cell col))) ∙ ap (option_or (first_value t ts (cell col))) (sym (none col)) ∙ sym (first_value_push t ts tile (cell col));
  first = subst (IsLeastOf (λ col. HasTwoValues t (ts ++ tile ∷ []) (cell col)) (extent_of t).cols) (first_of_none seam) (least_join (λ col. HasTwoValues t ts (cell col)) (λ col. GivesAnother t ts tile (cell col)) (λ col. HasTwoValues t (ts ++ tile ∷ []) (cell col)) (extent_of t).cols seam None joined.first
      (λ col inside h. (let e = sym (none col) ∙ h.from in cc))
      (λ col inside. two_keep t ts (tile ∷ []) (cell col))
      (λ col inside. two_new t ts tile (cell col))
      (λ col inside. two_split t ts tile (cell col)));
}
  where
    cell : ℕ → Cell
    cell col = record { row = row; col = col }

    none : (col : ℕ) → value_from t tile (cell col) ≡ None
    none col = uncovered t tile (cell col) (λ h. aside (h.from_top, h.to_bottom))

-- the tile's samples in the part that lies over the row
abbrev pub IsPartOf : Tiling → Tile → ℕ → List ℤ → Type 0
IsPartOf t tile row part = (k : ℕ) → k < t.side → slice_index_or part k VOID ≡ tile_sample_at t.side tile.samples (row - top_of t tile.corner) k

-- a tile that was laid over the row
pub laid : (t : Tiling) (ts : List Tile) (tile : Tile) (row : ℕ) (old new part : List ℤ) (seam found : Option ℕ) → length old ≡ (extent_of t).cols → top_of t tile.corner ≤ row → row < top_of t tile.corner + t.side → length part ≡ t.side
    → IsPartOf t tile row part → IsJoinedRow t ts row old seam → IsLaidOver (left_of t tile.corner) part old new found → IsJoinedRow t (ts ++ tile ∷ []) row new (first_of seam found)
laid t ts tile row old new part seam found wide from_top to_bottom long samples joined over = record {
  values = λ col inside. value col inside ∙ sym (first_value_push t ts tile (cell col));
  first = least_join (λ col. HasTwoValues t ts (cell col)) (ConflictOver left part old) (λ col. HasTwoValues t (ts ++ tile ∷ []) (cell col)) cols seam found joined.first
      (subst (λ n. IsLeastOf (ConflictOver left part old) n found) wide over.first)
      (λ col inside. two_keep t ts (tile ∷ []) (cell col))
      (λ col inside h. two_new t ts tile (cell col) (conflict_gives col inside h))
      (λ col inside h. elim (two_split t ts tile (cell col) h) [ inl two ↦ inl two | inr another ↦ inr (gives_conflict col inside another) ]);
}
  where
    left : ℕ
    left = left_of t tile.corner

    cols : ℕ
    cols = (extent_of t).cols

    cell : ℕ → Cell
    cell col = record { row = row; col = col }

    covers : (col : ℕ) → left ≤ col → col < left + t.side → Covers t tile (cell col)
    covers col from to = record { from_top = from_top; to_bottom = to_bottom; from_left = from; to_right = to }

    sample : ℕ → ℤ
    sample col = slice_index_or part (col - left) VOID

    given : (col : ℕ) → left ≤ col → col < left + t.side → value_from t tile (cell col) ≡ height_from (sample col)
    given col from to = covered t tile (cell col) (covers col from to) ∙ ap height_from (sym (samples (col - left) (omega arith)))

    aside : (col : ℕ) → col < cols → (col < left) ⊎ (left + length part ≤ col) → ¬ Covers t tile (cell col) → height_from (slice_index_or new col VOID) ≡ option_or (first_value t ts (cell col)) (value_from t tile (cell col))
    aside col inside out not = ap height_from (over.outside col out) ∙ joined.values col inside ∙ sym (or_none (first_value t ts (cell col))) ∙ ap (option_or (first_value t ts (cell col))) (sym (uncovered t tile (cell col) not))

    value : (col : ℕ) → col < cols → height_from (slice_index_or new col VOID) ≡ option_or (first_value t ts (cell col)) (value_from t tile (cell col))
    value col inside = elim (cases_lt col left) [
      | inl before ↦ aside col inside (inl before) (λ h. absurd (omega (arith, before, h.from_left)))
      | inr from ↦ elim (cases_lt col (left + t.side)) [
        | inl to ↦ (
            let e : left + (col - left) ≡ col = omega arith in
            let here = over.inside (col - left) (omega (arith, long)) in
            let filled_here = subst (λ c. slice_index_or new c VOID ≡ filled (slice_index_or old c VOID) (sample col)) e here in
            ap height_from filled_here ∙ height_of_filled (slice_index_or old col VOID) (sample col) ∙ ap (λ o. option_or o (height_from (sample col))) (joined.values col inside)
            ∙ ap (option_or (first_value t ts (cell col))) (sym (given col from to)))
        | inr behind ↦ aside col inside (inr (omega (arith, long, behind))) (λ h. absurd (omega (arith, behind, h.to_right)))
      ]
    ]

    conflict_gives : (col : ℕ) → col < cols → ConflictOver left part old col → GivesAnother t ts tile (cell col)
    conflict_gives col inside h = record {
      one = slice_index_or old col VOID;
      other = sample col;
      first = sym (joined.values col inside) ∙ height_of_data (slice_index_or old col VOID) h.conflict.0;
      from = given col h.from_left (omega (arith, long, h.to_right)) ∙ height_of_data (sample col) h.conflict.1;
      differ = h.conflict.2;
    }

    gives_conflict : (col : ℕ) → col < cols → GivesAnother t ts tile (cell col) → ConflictOver left part old col
    gives_conflict col inside h =
        let gives = gives_from t tile (cell col) h.other h.from in
        let have = data_of_height (slice_index_or old col VOID) h.one (joined.values col inside ∙ h.first) in
        let other = data_of_height (sample col) h.other (sym (given col gives.covers.from_left gives.covers.to_right) ∙ h.from) in
        record {
          from_left = gives.covers.from_left;
          to_right = omega (arith, long, gives.covers.to_right);
          conflict = (have.1, other.1, λ e. h.differ (sym have.0 ∙ e ∙ other.0));
        }
