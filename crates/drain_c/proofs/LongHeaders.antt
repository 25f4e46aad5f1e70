-- A header of more than 65,536 bytes is refused for its length, and so are its first 65,537 bytes: a set with these in the
-- place of the headers of products has the answer of the whole set, whatever ground they lie on.
use Rattle.drain_c.proofs.Names.{◌≡◌, ℕ, ◌*◌, ◌<◌, ◌≤◌, ◌↔◌, List, length, true, false, arith, refl, sym, ap, subst, take, inl, inr, ◌⊎◌, nat_le, take_all, length-take-le, Refusal, BadHeader, WrongShape, Misplaced, RasterShort, BadSinkLine, SinkNotData, BadSpacingLine, SpacingRows, OutOfMemory, ReadFailed, SetProduct, IsBefore, IsFirst, HeaderFault, TooLong, fields_of, fault_order, HasFaultOf, AnswersOf, GroundSet, IsReadable, IsRefusalIn, StandsIn, order_in, SetTexts, kind_in}
use Rattle.std.specs.Prelude.{Err}
use Rattle.std.proofs.Math.Path.{fun_ext}
use Rattle.std.proofs.lemmas.Bool.{leb-true, leb-false}
use Rattle.drain_grid.specs.declared.height_kind.HeightKind.{HeightKind}
use Rattle.drain_grid.specs.declared.product.Product.{Product}
use Rattle.drain_grid.specs.declared.product.Product.TheVariants as product
use Rattle.drain_grid.specs.declared.set_product.SetProduct.TheVariants as held
use Rattle.drain_grid.specs.SetProduct.{OfSetProduct, product_of, place_of}
use Rattle.drain_text.specs.Text.{lines_of}
use Rattle.drain_raster.specs.Pixels.{header_extent, IsShort}
use Rattle.drain_verdict.specs.Ground.{Ground, refusal_kind}

-- Texts.

-- nothing comes before a text that is too long
none_earlier : (b : HeaderFault) → IsBefore (fault_order b) (1, 0) → ⊥
none_earlier TooLong before = elim before [ inl lower ↦ omega (arith, lower) | inr same ↦ omega (arith, same.1) ]
none_earlier b before = elim before [ inl lower ↦ omega (arith, lower) | inr same ↦ omega (arith, same.1) ]

pub too_long : (kind : HeightKind) (text : List ℕ) → 65536 < length text → IsFirst fault_order (HasFaultOf kind text) TooLong
too_long kind text long = record { holds = long; first = λ b before has. none_earlier b before }

-- of a text that is too long that is the one fault
only_too_long : (kind : HeightKind) (text : List ℕ) (fault : HeaderFault) → 65536 < length text → IsFirst fault_order (HasFaultOf kind text) fault → fault ≡ TooLong
only_too_long kind text TooLong long is = refl
only_too_long kind text fault long is = absurd (is.first TooLong (inl (omega arith)) long)

-- a text is its first bytes, or both are too long
pub record IsLong (text : List ℕ) : Type 0 where
  pub whole : 65536 < length text
  pub first_bytes : 65536 < length (take 65537 text)

pub short_or_long : (text : List ℕ) → (take 65537 text ≡ text) ⊎ IsLong text
short_or_long text = elim (nat_le (length text) 65537) as (λ b. nat_le (length text) 65537 ≡ b → (take 65537 text ≡ text) ⊎ IsLong text) [
  | true ↦ λ short. inl (take_all 65537 text (leb-true (length text) 65537 short))
  | false ↦ λ long. (
      let whole : 65536 < length text = (let p = leb-false (length text) 65537 long in omega (arith, p)) in
      inr (record { whole = whole; first_bytes = omega (arith, length-take-le 65537 text (omega (arith, whole)), whole) }))
] refl

-- the fault of the first bytes of a text that is too long is the text's, for heights of any kind
pub long_fault : (kind other : HeightKind) (text : List ℕ) (fault : HeaderFault) → IsLong text → AnswersOf kind (take 65537 text) (Err fault) → AnswersOf other text (Err fault)
long_fault kind other text fault long is =
    subst (λ f. AnswersOf other text (Err f)) (sym (only_too_long kind (take 65537 text) fault long.first_bytes is)) (too_long other text long.whole)

-- that of the first bytes is the text's
same_fault : (kind : HeightKind) (text : List ℕ) (fault : HeaderFault) → AnswersOf kind (take 65537 text) (Err fault) → AnswersOf kind text (Err fault)
same_fault kind text fault is = elim (short_or_long text) [
  | inl kept ↦ subst (λ t. AnswersOf kind t (Err fault)) kept is
  | inr long ↦ long_fault kind kind text fault long is
]

-- Sets.

-- the first bytes of each header
abbrev pub cut_texts : SetTexts → SetTexts
cut_texts t = record { given = t.given; header = λ p. take 65537 (t.header p); raster = t.raster }

-- words for the refusals of a ground that apply where its own do, in the same order
pub record SameRefusals (g : Ground) : Type 1 where
  pub Refuses : Refusal → Type 0
  pub among : Refusal → ℕ
  pub applies : (refusal : Refusal) → Refuses refusal ↔ g.Refuses refusal
  pub places : (refusal : Refusal) → among refusal ≡ g.among refusal

-- its own
abbrev pub own : (g : Ground) → SameRefusals g
own g = record { Refuses = g.Refuses; among = g.among; applies = λ refusal. ((λ is. is), (λ is. is)); places = λ refusal. refl }

abbrev pub set_on : Ground → SetTexts → GroundSet
set_on g t = record { terrain = g; texts = t }

-- the set by these words, with the first bytes of each header
abbrev pub cut_on : (g : Ground) → SameRefusals g → SetTexts → GroundSet
cut_on g o t = set_on (record { extent = g.extent; elevation = g.elevation; kind = g.kind; Holds = g.Holds; Refuses = o.Refuses; among = o.among }) (cut_texts t)

-- what a refusal says of a header's text
abbrev HasOtherShape : Ground → SetProduct → List ℕ → Type 0
HasOtherShape g h text = ¬ (header_extent (fields_of (kind_in g.kind h) (lines_of text)) ≡ g.extent)

abbrev LiesElsewhere : Ground → SetProduct → List ℕ → Type 0
LiesElsewhere g h text = ¬ g.Holds (fields_of (kind_in g.kind h) (lines_of text)).place

abbrev IsRasterShort : Ground → SetTexts → SetProduct → List ℕ → Type 0
IsRasterShort g t h text = IsShort (fields_of (kind_in g.kind h) (lines_of text)) (t.raster h)

same_order : (g : Ground) (o : SameRefusals g) (t : SetTexts) (refusal : Refusal) → order_in (cut_on g o t) refusal ≡ order_in (set_on g t) refusal
same_order g o t (BadHeader p fault) = refl
same_order g o t (WrongShape p) = refl
same_order g o t (Misplaced p) = refl
same_order g o t (RasterShort p) = refl
same_order g o t (BadSinkLine n) = refl
same_order g o t (SinkNotData n) = refl
same_order g o t (BadSpacingLine n) = refl
same_order g o t (SpacingRows n) = refl
same_order g o t OutOfMemory = refl
same_order g o t ReadFailed = refl
same_order g o t refusal = ap (λ n. (refusal_kind refusal, n)) (o.places refusal)

-- the held product of which a fact is
record Held (P : SetProduct → Type 0) (p : Product) : Type 0 where
  held : SetProduct
  is : p ≡ product_of held
  holds : P held

held_of : (P : SetProduct → Type 0) (p : Product) → OfSetProduct P p → Held P p
held_of P product.Con fact = record { held = held.Con; is = refl; holds = fact }
held_of P product.Dir fact = record { held = held.Dir; is = refl; holds = fact }
held_of P product.Acc fact = record { held = held.Acc; is = refl; holds = fact }
held_of P product.Bas fact = record { held = held.Bas; is = refl; holds = fact }
held_of P product.Rnk fact = record { held = held.Rnk; is = refl; holds = fact }
held_of P product.Spl fact = absurd fact

of_product : (P : SetProduct → Type 0) (h : SetProduct) → P h → OfSetProduct P (product_of h)
of_product P held.Con fact = fact
of_product P held.Dir fact = fact
of_product P held.Acc fact = fact
of_product P held.Bas fact = fact
of_product P held.Rnk fact = fact

of_held : (P : SetProduct → Type 0) (p : Product) → Held P p → OfSetProduct P p
of_held P p h = subst (OfSetProduct P) (sym h.is) (of_product P h.held h.holds)

pub too_long_at : (g : Ground) (o : SameRefusals g) (t : SetTexts) (p : SetProduct) → IsLong (t.header p) → StandsIn (cut_on g o t) (BadHeader (product_of p) TooLong)
too_long_at g o t p long = of_product (λ h. AnswersOf (kind_in g.kind h) (take 65537 (t.header h)) (Err TooLong)) p (too_long (kind_in g.kind p) (take 65537 (t.header p)) long.first_bytes)

-- in the order of refusals
abbrev NoLater : ℕ × ℕ → ℕ × ℕ → Type 0
NoLater a b = (a.0 < b.0) ⊎ ((a.0 ≡ b.0) × (a.1 ≤ b.1))

sooner : (a b c : ℕ × ℕ) → NoLater a b → IsBefore b c → IsBefore a c
sooner a b c no_later before = elim no_later [
  | inl l ↦ elim before [ inl m ↦ inl (omega (arith, l, m)) | inr s ↦ inl (omega (arith, l, s.0)) ]
  | inr t ↦ elim before [ inl m ↦ inl (omega (arith, t.0, m)) | inr s ↦ inr (omega (arith, t.0, s.0), omega (arith, t.1, s.1)) ]
]

-- what applies to the set: it, or an earlier refusal, applies to the first bytes
record Earlier (g : Ground) (o : SameRefusals g) (t : SetTexts) (refusal : Refusal) : Type 0 where
  other : Refusal
  stands : StandsIn (cut_on g o t) other
  no_later : NoLater (order_in (set_on g t) other) (order_in (set_on g t) refusal)

itself : (g : Ground) (o : SameRefusals g) (t : SetTexts) (refusal : Refusal) → StandsIn (cut_on g o t) refusal → Earlier g o t refusal
itself g o t refusal stands = record { other = refusal; stands = stands; no_later = inr (refl, omega arith) }

-- the same of a fact of a header
of_header : (g : Ground) (o : SameRefusals g) (t : SetTexts) (refusal : Refusal) (p : Product) (Q : SetProduct → List ℕ → Type 0) →
    (OfSetProduct (λ h. Q h (take 65537 (t.header h))) p → StandsIn (cut_on g o t) refusal) → NoLater (4, 3 * place_of p) (order_in (set_on g t) refusal) →
    OfSetProduct (λ h. Q h (t.header h)) p → Earlier g o t refusal
of_header g o t refusal p Q stands no_later fact =
    let h = held_of (λ h. Q h (t.header h)) p fact in
    elim (short_or_long (t.header h.held)) [
      | inl kept ↦ itself g o t refusal (stands (of_held (λ h. Q h (take 65537 (t.header h))) p (record { held = h.held; is = h.is; holds = subst (Q h.held) (sym kept) h.holds })))
      | inr long ↦ record {
        other = BadHeader (product_of h.held) TooLong;
        stands = too_long_at g o t h.held long;
        no_later = subst (λ q. NoLater (4, 3 * place_of q) (order_in (set_on g t) refusal)) h.is no_later;
      }
    ]

earlier : (g : Ground) (o : SameRefusals g) (t : SetTexts) (refusal : Refusal) → StandsIn (set_on g t) refusal → Earlier g o t refusal
earlier g o t (BadHeader p fault) stands = of_header g o t (BadHeader p fault) p (λ h text. AnswersOf (kind_in g.kind h) text (Err fault)) (λ s. s) (inr (refl, omega arith)) stands
earlier g o t (WrongShape p) stands = of_header g o t (WrongShape p) p (HasOtherShape g) (λ s. s) (inr (refl, omega arith)) stands
earlier g o t (Misplaced p) stands = of_header g o t (Misplaced p) p (LiesElsewhere g) (λ s. s) (inr (refl, omega arith)) stands
earlier g o t (RasterShort p) stands = of_header g o t (RasterShort p) p (IsRasterShort g t) (λ s. s) (inl (omega arith)) stands
earlier g o t (BadSinkLine n) stands = itself g o t (BadSinkLine n) stands
earlier g o t (SinkNotData n) stands = itself g o t (SinkNotData n) stands
earlier g o t (BadSpacingLine n) stands = itself g o t (BadSpacingLine n) stands
earlier g o t (SpacingRows n) stands = itself g o t (SpacingRows n) stands
earlier g o t OutOfMemory stands = absurd stands
earlier g o t ReadFailed stands = absurd stands
earlier g o t refusal stands = itself g o t refusal ((o.applies refusal).1 stands)

-- what applies to the first bytes of a header that isn't too long applies to the header
of_first_bytes : (g : Ground) (o : SameRefusals g) (t : SetTexts) (p : Product) (Q : SetProduct → List ℕ → Type 0) → (StandsIn (cut_on g o t) (BadHeader p TooLong) → ⊥) →
    OfSetProduct (λ h. Q h (take 65537 (t.header h))) p → OfSetProduct (λ h. Q h (t.header h)) p
of_first_bytes g o t p Q fits fact =
    let h = held_of (λ h. Q h (take 65537 (t.header h))) p fact in
    of_held (λ h. Q h (t.header h)) p (record {
      held = h.held;
      is = h.is;
      holds = elim (short_or_long (t.header h.held)) [
        | inl kept ↦ subst (Q h.held) kept h.holds
        | inr long ↦ absurd (fits (subst (λ q. StandsIn (cut_on g o t) (BadHeader q TooLong)) (sym h.is) (too_long_at g o t h.held long)))
      ];
    })

first_applies : (g : Ground) (o : SameRefusals g) (t : SetTexts) (refusal : Refusal) → StandsIn (cut_on g o t) refusal →
    ((b : Refusal) → IsBefore (order_in (set_on g t) b) (order_in (set_on g t) refusal) → StandsIn (cut_on g o t) b → ⊥) → StandsIn (set_on g t) refusal
first_applies g o t (BadHeader p fault) stands first =
    let h = held_of (λ h. AnswersOf (kind_in g.kind h) (take 65537 (t.header h)) (Err fault)) p stands in
    of_held (λ h. AnswersOf (kind_in g.kind h) (t.header h) (Err fault)) p (record { held = h.held; is = h.is; holds = same_fault (kind_in g.kind h.held) (t.header h.held) fault h.holds })
first_applies g o t (WrongShape p) stands first = of_first_bytes g o t p (HasOtherShape g) (first (BadHeader p TooLong) (inr (refl, omega arith))) stands
first_applies g o t (Misplaced p) stands first = of_first_bytes g o t p (LiesElsewhere g) (first (BadHeader p TooLong) (inr (refl, omega arith))) stands
first_applies g o t (RasterShort p) stands first = of_first_bytes g o t p (IsRasterShort g t) (first (BadHeader p TooLong) (inl (omega arith))) stands
first_applies g o t (BadSinkLine n) stands first = stands
first_applies g o t (SinkNotData n) stands first = stands
first_applies g o t (BadSpacingLine n) stands first = stands
first_applies g o t (SpacingRows n) stands first = stands
first_applies g o t OutOfMemory stands first = absurd stands
first_applies g o t ReadFailed stands first = absurd stands
first_applies g o t refusal stands first = (o.applies refusal).0 stands

-- the first refusal of the first bytes is that of the set
first_kept : (g : Ground) (o : SameRefusals g) (t : SetTexts) (refusal : Refusal) → IsFirst (order_in (cut_on g o t)) (StandsIn (cut_on g o t)) refusal →
    IsFirst (order_in (set_on g t)) (StandsIn (set_on g t)) refusal
first_kept g o t refusal is =
    let first : (b : Refusal) → IsBefore (order_in (set_on g t) b) (order_in (set_on g t) refusal) → StandsIn (cut_on g o t) b → ⊥ =
    (λ b before. is.first b (subst (λ a. IsBefore a (order_in (cut_on g o t) refusal)) (sym (same_order g o t b))
    (subst (λ a. IsBefore (order_in (set_on g t) b) a) (sym (same_order g o t refusal)) before))) in
    record {
      holds = first_applies g o t refusal is.holds first;
      first = λ b before stands. (
          let e = earlier g o t b stands in
          first e.other (sooner (order_in (set_on g t) e.other) (order_in (set_on g t) b) (order_in (set_on g t) refusal) e.no_later before) e.stands);
    }

pub refusal_kept : (g : Ground) (o : SameRefusals g) (t : SetTexts) (refusal : Refusal) → IsRefusalIn (cut_on g o t) refusal → IsRefusalIn (set_on g t) refusal
refusal_kept g o t OutOfMemory is = tt
refusal_kept g o t ReadFailed is = tt
refusal_kept g o t refusal is = first_kept g o t refusal is

-- where the first bytes are readable, they are the texts
pub same_texts : (g : Ground) (o : SameRefusals g) (t : SetTexts) → IsReadable (cut_on g o t) → cut_texts t ≡ t
same_texts g o t readable =
    let kept : (p : SetProduct) → take 65537 (t.header p) ≡ t.header p = (λ p. elim (short_or_long (t.header p)) [
      | inl kept ↦ kept
      | inr long ↦ absurd (readable (BadHeader (product_of p) TooLong) (too_long_at g o t p long))
    ]) in
    ap (λ header. record { given = t.given; header = header; raster = t.raster }) (fun_ext kept)
