-- The order of refusals, kind by kind.
use Rattle.drain_verdict.proofs.Names.{◌≡◌, ◌+◌, ◌<◌, arith, inl, inr, refl, subst, below_more, Cell, SetProduct, Spl, product_of, by_set_product_or_spill, IsBefore, IsFirst, Corner, HeaderFault, Refusal, BadSide, BadName, NoTiles, RepeatedTile, BoxTooLarge, BadHeader, WrongShape, Misplaced, BadTileLength, RasterShort, SeamMismatch, BadSinkLine, SinkNotData, BadSpacingLine, SpacingRows, BadDemHeader, BadPixelSize, DemShort, OutOfMemory, ReadFailed, refusal_kind, GroundSet, IsReadable, IsRefusalIn, NoneStandsIn, StandsIn, order_in, place_in}
use Rattle.std.proofs.Common.{ℕ}

-- a statement holds of every refusal of a kind where it holds of each that has the kind
pub at_side : (P : Refusal → Type 0) → P BadSide → ((fault : HeaderFault) → P (BadDemHeader fault)) → (b : Refusal) → refusal_kind b ≡ 1 → P b
at_side P side header BadSide e = side
at_side P side header (BadDemHeader fault) e = header fault
at_side P side header b e = absurd (omega arith)

pub at_name : (P : Refusal → Type 0) → ((k : ℕ) → P (BadName k)) → P BadPixelSize → (b : Refusal) → refusal_kind b ≡ 2 → P b
at_name P name size (BadName k) e = name k
at_name P name size BadPixelSize e = size
at_name P name size b e = absurd (omega arith)

pub at_layout : (P : Refusal → Type 0) → P NoTiles → ((c : Corner) → P (RepeatedTile c)) → P BoxTooLarge → (b : Refusal) → refusal_kind b ≡ 3 → P b
at_layout P none repeated large NoTiles e = none
at_layout P none repeated large (RepeatedTile c) e = repeated c
at_layout P none repeated large BoxTooLarge e = large
at_layout P none repeated large b e = absurd (omega arith)

-- of those that name a product where it holds of each that names a held product, and of each that doesn't apply
pub at_header : (s : GroundSet) (P : Refusal → Type 0) → ((b : Refusal) → ¬ StandsIn s b → P b) → ((p : SetProduct) (fault : HeaderFault) → P (BadHeader (product_of p) fault))
    → ((p : SetProduct) → P (WrongShape (product_of p))) → ((p : SetProduct) → P (Misplaced (product_of p))) → (b : Refusal) → refusal_kind b ≡ 4 → P b
at_header s P unless header shape place (BadHeader p fault) e = by_set_product_or_spill (λ p. P (BadHeader p fault)) (λ p. header p fault) (unless (BadHeader Spl fault) (λ h. h)) p
at_header s P unless header shape place (WrongShape p) e = by_set_product_or_spill (λ p. P (WrongShape p)) shape (unless (WrongShape Spl) (λ h. h)) p
at_header s P unless header shape place (Misplaced p) e = by_set_product_or_spill (λ p. P (Misplaced p)) place (unless (Misplaced Spl) (λ h. h)) p
at_header s P unless header shape place b e = absurd (omega arith)

pub at_tile : (P : Refusal → Type 0) → ((c : Corner) → P (BadTileLength c)) → P DemShort → (b : Refusal) → refusal_kind b ≡ 5 → P b
at_tile P tile short (BadTileLength c) e = tile c
at_tile P tile short DemShort e = short
at_tile P tile short b e = absurd (omega arith)

pub at_raster : (s : GroundSet) (P : Refusal → Type 0) → ((b : Refusal) → ¬ StandsIn s b → P b) → ((p : SetProduct) → P (RasterShort (product_of p))) → (b : Refusal) → refusal_kind b ≡ 6 → P b
at_raster s P unless raster (RasterShort p) e = by_set_product_or_spill (λ p. P (RasterShort p)) raster (unless (RasterShort Spl) (λ h. h)) p
at_raster s P unless raster b e = absurd (omega arith)

pub at_seam : (P : Refusal → Type 0) → ((c : Cell) → P (SeamMismatch c)) → (b : Refusal) → refusal_kind b ≡ 7 → P b
at_seam P seam (SeamMismatch c) e = seam c
at_seam P seam b e = absurd (omega arith)

pub at_bad_line : (P : Refusal → Type 0) → ((n : ℕ) → P (BadSinkLine n)) → (b : Refusal) → refusal_kind b ≡ 8 → P b
at_bad_line P line (BadSinkLine n) e = line n
at_bad_line P line b e = absurd (omega arith)

pub at_off_data : (P : Refusal → Type 0) → ((n : ℕ) → P (SinkNotData n)) → (b : Refusal) → refusal_kind b ≡ 9 → P b
at_off_data P line (SinkNotData n) e = line n
at_off_data P line b e = absurd (omega arith)

pub at_bad_spacing : (P : Refusal → Type 0) → ((n : ℕ) → P (BadSpacingLine n)) → (b : Refusal) → refusal_kind b ≡ 10 → P b
at_bad_spacing P line (BadSpacingLine n) e = line n
at_bad_spacing P line b e = absurd (omega arith)

pub at_spacing_rows : (P : Refusal → Type 0) → ((n : ℕ) → P (SpacingRows n)) → (b : Refusal) → refusal_kind b ≡ 11 → P b
at_spacing_rows P rows (SpacingRows n) e = rows n
at_spacing_rows P rows b e = absurd (omega arith)

-- Refusals that are the ground's own.

-- it applies to the set exactly if the ground refuses it, and has its place there
pub record IsOwn (s : GroundSet) (b : Refusal) : Type 0 where
  pub stands : StandsIn s b → s.terrain.Refuses b
  pub refuses : s.terrain.Refuses b → StandsIn s b
  pub place_is : place_in s b ≡ s.terrain.among b

-- those of kinds before headers
pub own_early : (s : GroundSet) (b : Refusal) → refusal_kind b < 4 → IsOwn s b
own_early s BadSide e = record { stands = λ h. h; refuses = λ h. h; place_is = refl }
own_early s (BadName k) e = record { stands = λ h. h; refuses = λ h. h; place_is = refl }
own_early s NoTiles e = record { stands = λ h. h; refuses = λ h. h; place_is = refl }
own_early s (RepeatedTile c) e = record { stands = λ h. h; refuses = λ h. h; place_is = refl }
own_early s BoxTooLarge e = record { stands = λ h. h; refuses = λ h. h; place_is = refl }
own_early s (BadDemHeader fault) e = record { stands = λ h. h; refuses = λ h. h; place_is = refl }
own_early s BadPixelSize e = record { stands = λ h. h; refuses = λ h. h; place_is = refl }
own_early s b e = absurd (omega arith)

-- those of lengths
pub own_length : (s : GroundSet) (b : Refusal) → refusal_kind b ≡ 5 → IsOwn s b
own_length s (BadTileLength c) e = record { stands = λ h. h; refuses = λ h. h; place_is = refl }
own_length s DemShort e = record { stands = λ h. h; refuses = λ h. h; place_is = refl }
own_length s b e = absurd (omega arith)

-- those of values
pub own_values : (s : GroundSet) (b : Refusal) → refusal_kind b ≡ 7 → IsOwn s b
own_values s (SeamMismatch c) e = record { stands = λ h. h; refuses = λ h. h; place_is = refl }
own_values s b e = absurd (omega arith)

-- no refusal before the first kind applies
pub none_first : (s : GroundSet) → NoneStandsIn s 1
none_first s BadSide less = omega arith
none_first s r less = omega arith

-- what holds of no refusal before this kind, and of none of this kind, holds of none before the next
pub none_more : (Holds : Refusal → Type 0) (kind : ℕ) → ((b : Refusal) → refusal_kind b < kind → ¬ Holds b) → ((b : Refusal) → refusal_kind b ≡ kind → ¬ Holds b)
    → (b : Refusal) → refusal_kind b < kind + 1 → ¬ Holds b
none_more Holds kind before here b less =
    below_more (λ n. refusal_kind b ≡ n → ¬ Holds b) kind (λ n earlier e. before b (omega (arith, earlier, e))) (λ e. here b e) (refusal_kind b) less refl

-- if no refusal of any kind applies, the bytes are readable
pub readable : (s : GroundSet) → NoneStandsIn s 12 → IsReadable s
readable s none OutOfMemory stands = stands
readable s none ReadFailed stands = stands
readable s none b stands = none b (omega arith) stands

-- a refusal of which it holds is the first, where it holds of none of an earlier kind, and of its own kind of none in an earlier place
pub first_of : (s : GroundSet) (Holds : Refusal → Type 0) (kind place : ℕ) (refusal : Refusal) → order_in s refusal ≡ (kind, place) → Holds refusal
    → ((b : Refusal) → refusal_kind b < kind → ¬ Holds b) → ((b : Refusal) → refusal_kind b ≡ kind → place_in s b < place → ¬ Holds b)
    → IsFirst (order_in s) Holds refusal
first_of s Holds kind place refusal at holds none same = record {
  holds = holds;
  first = λ b before. elim (subst (λ at. IsBefore (order_in s b) at) at before) [ inl earlier ↦ none b earlier | inr here ↦ same b here.0 here.1 ];
}

-- the first refusal that applies is the answer
pub first_is : (s : GroundSet) (refusal : Refusal) → IsFirst (order_in s) (StandsIn s) refusal → IsRefusalIn s refusal
first_is s OutOfMemory first = tt
first_is s ReadFailed first = tt
first_is s refusal first = first
