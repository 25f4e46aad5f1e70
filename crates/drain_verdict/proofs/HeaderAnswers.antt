-- What the stage of the headers says of a set: no refusal of its kind applies, or its refusal is the first.
use Rattle.drain_verdict.proofs.Names.{◌≡◌, ◌∙◌, List, subst, ◌↔◌, ◌+◌, ◌*◌, ◌<◌, ap, arith, refl, sym, below_more, SetProduct, product_of, rank_of, AreHeadersFor, AreHeadersOf, IsFirstRefusalOf, IsHeaderFor, IsHeaderRefusal, Refusal, Dir, Acc, Bas, Rnk, PerProduct, of_product, of_held, HeaderFault, Fields, AnswersOf, DescribesOf, header_extent, BadHeader, WrongShape, Misplaced, HeightKind, Extent, Place, lines_of, header_of, IsLaidOn, refusal_kind, GroundSet, HasShapeIn, IsRefusalIn, NoneStandsIn, StandsIn, place_in, kind_in, set_fields, AreAlike}
use Rattle.std.proofs.Common.{ℕ, Err}
use Rattle.drain_grid.specs.declared.set_product.SetProduct.TheVariants.{Con}
use Rattle.drain_verdict.specs.Inputs.{Products}
use Rattle.drain_verdict.proofs.Order.{at_header, none_more, first_of}

-- Statements on the texts of headers.

-- what is said of texts is said of the same texts by other names
pub told_of_same : (kind : HeightKind) (e : Extent) (Holds : Place → Type 0) (text other : SetProduct → List ℕ) (refusal : Refusal) → IsFirstRefusalOf kind e Holds text refusal → ((p : SetProduct) → text p ≡ other p) → IsFirstRefusalOf kind e Holds other refusal
told_of_same kind e Holds text other refusal found same = record {
  product = found.product;
  refused = subst (λ x. IsHeaderRefusal (kind_in kind found.product) e Holds (product_of found.product) x refusal) (same found.product) found.refused;
  before = λ q less. let right = found.before q less in (right.0, subst (λ x. IsHeaderFor (kind_in kind q) e Holds x right.0) (same q) right.1);
}

pub headers_of_same : (kind : HeightKind) (e : Extent) (Holds : Place → Type 0) (text other : SetProduct → List ℕ) (hs : PerProduct Fields) → AreHeadersOf kind e Holds text hs → ((p : SetProduct) → text p ≡ other p) → AreHeadersOf kind e Holds other hs
headers_of_same kind e Holds text other hs are same = λ p. subst (λ x. IsHeaderFor (kind_in kind p) e Holds x (of_product hs p)) (same p) (are p)

-- headers of dir and of what is read as ranks are one if their texts are
pub alike : {R : Type 0} (kind : HeightKind) (e : Extent) (Holds : Place → Type 0) (ps : Products R) (hs : PerProduct Fields) → AreHeadersFor kind e Holds ps hs → AreAlike ps hs
alike kind e Holds ps hs are same = (are Rnk).described.fields ∙ ap (λ (x : List ℕ). header_of (lines_of x)) same ∙ sym ((are Dir).described.fields)

-- products of one rank are one product
pub one_rank : (p q : SetProduct) → rank_of p ≡ rank_of q → p ≡ q
one_rank Con Con e = refl
one_rank Dir Dir e = refl
one_rank Acc Acc e = refl
one_rank Bas Bas e = refl
one_rank Rnk Rnk e = refl
one_rank p q e = absurd (omega arith)

-- a header that is described is what its lines say
fields_are : (s : GroundSet) (p : SetProduct) (h : Fields) → DescribesOf (kind_in s.terrain.kind p) (s.texts.header p) h → h ≡ set_fields s.terrain.kind s.texts p
fields_are s p h described = described.fields

-- what a product's header can be refused for
record IsRight (s : GroundSet) (p : SetProduct) : Type 0 where
  no_fault : (fault : HeaderFault) → ¬ StandsIn s (BadHeader (product_of p) fault)
  shape : ¬ StandsIn s (WrongShape (product_of p))
  place : ¬ StandsIn s (Misplaced (product_of p))

-- what these refusals say where they name a held product
stands_bad : (s : GroundSet) (p : SetProduct) (fault : HeaderFault) → StandsIn s (BadHeader (product_of p) fault) ↔ AnswersOf (kind_in s.terrain.kind p) (s.texts.header p) (Err fault)
stands_bad s p fault = of_held (λ h. AnswersOf (kind_in s.terrain.kind h) (s.texts.header h) (Err fault)) p

stands_wrong : (s : GroundSet) (p : SetProduct) → StandsIn s (WrongShape (product_of p)) ↔ ¬ HasShapeIn s p
stands_wrong s p = of_held (λ h. ¬ HasShapeIn s h) p

stands_misplaced : (s : GroundSet) (p : SetProduct) → StandsIn s (Misplaced (product_of p)) ↔ ¬ s.terrain.Holds (set_fields s.terrain.kind s.texts p).place
stands_misplaced s p = of_held (λ h. ¬ s.terrain.Holds (set_fields s.terrain.kind s.texts h).place) p

no_header_fault : (s : GroundSet) (p : SetProduct) (h : Fields) → DescribesOf (kind_in s.terrain.kind p) (s.texts.header p) h → (fault : HeaderFault) → ¬ StandsIn s (BadHeader (product_of p) fault)
no_header_fault s p h described fault stands = described.sound fault ((stands_bad s p fault).0 stands).holds

module _ (s : GroundSet) (e : Extent) (Holds : Place → Type 0) (laid : IsLaidOn s.terrain.kind e Holds s.terrain) where
  has_shape : (p : SetProduct) (h : Fields) → DescribesOf (kind_in s.terrain.kind p) (s.texts.header p) h → header_extent h ≡ e → HasShapeIn s p
  has_shape p h described shape = subst (λ (f : Fields). header_extent f ≡ s.terrain.extent) described.fields (shape ∙ sym laid.extent_is)

  is_right : (p : SetProduct) (h : Fields) → IsHeaderFor (kind_in s.terrain.kind p) e Holds (s.texts.header p) h → IsRight s p
  is_right p h is = record {
    no_fault = no_header_fault s p h is.described;
    shape = λ stands. (stands_wrong s p).0 stands (has_shape p h is.described is.shape);
    place = λ stands. (stands_misplaced s p).0 stands (subst (λ (f : Fields). s.terrain.Holds f.place) is.described.fields ((laid.holds_is h.place).1 is.placed));
  }

  pub headers_none : (hs : PerProduct Fields) → AreHeadersOf s.terrain.kind e Holds s.texts.header hs → NoneStandsIn s 4 → NoneStandsIn s 5
  headers_none hs are none =
      let right : (p : SetProduct) → IsRight s p = λ p. is_right p (of_product hs p) (are p) in
      none_more (StandsIn s) 4 none (at_header s (λ b. ¬ StandsIn s b) (λ b no. no) (λ p fault. (right p).no_fault fault) (λ p. (right p).shape) (λ p. (right p).place))

  pub headers_are : (hs : PerProduct Fields) → AreHeadersOf s.terrain.kind e Holds s.texts.header hs → (p : SetProduct) → of_product hs p ≡ set_fields s.terrain.kind s.texts p
  headers_are hs are p = fields_are s p (of_product hs p) ((are p).described)

  -- the product and the refusals of its own that come before
  before_product : (p : SetProduct) (j : ℕ) → j < 3 → ((q : SetProduct) → rank_of q < rank_of p → IsRight s q)
      → (0 < j → (fault : HeaderFault) → ¬ StandsIn s (BadHeader (product_of p) fault)) → (1 < j → ¬ StandsIn s (WrongShape (product_of p)))
      → (b : Refusal) → refusal_kind b ≡ 4 → place_in s b < 3 * rank_of p + j → ¬ StandsIn s b
  before_product p j small earlier header shape = at_header s (λ b. place_in s b < 3 * rank_of p + j → ¬ StandsIn s b) (λ b no less. no) on_header on_shape on_place
    where
      either : (q : SetProduct) → rank_of q < rank_of p + 1 → (P : SetProduct → Type 0) → ((q : SetProduct) → rank_of q < rank_of p → P q) → (rank_of q ≡ rank_of p → P p) → P q
      either q less P first last =
          below_more (λ n. rank_of q ≡ n → P q) (rank_of p) (λ n below e. first q (omega (arith, below, e))) (λ e. subst P (sym (one_rank q p e)) (last e)) (rank_of q) less refl

      on_header : (q : SetProduct) (fault : HeaderFault) → 3 * rank_of q < 3 * rank_of p + j → ¬ StandsIn s (BadHeader (product_of q) fault)
      on_header q fault less = either q (omega arith) (λ q. 3 * rank_of q < 3 * rank_of p + j → (fault : HeaderFault) → ¬ StandsIn s (BadHeader (product_of q) fault)) (λ q below l fault. (earlier q below).no_fault fault) (λ same l. header (omega arith)) less fault

      on_shape : (q : SetProduct) → 3 * rank_of q + 1 < 3 * rank_of p + j → ¬ StandsIn s (WrongShape (product_of q))
      on_shape q less = either q (omega arith) (λ q. 3 * rank_of q + 1 < 3 * rank_of p + j → ¬ StandsIn s (WrongShape (product_of q))) (λ q below l. (earlier q below).shape) (λ same l. shape (omega arith)) less

      on_place : (q : SetProduct) → 3 * rank_of q + 2 < 3 * rank_of p + j → ¬ StandsIn s (Misplaced (product_of q))
      on_place q less = (earlier q (omega arith)).place

  refused_for : (p : SetProduct) (refusal : Refusal) → IsHeaderRefusal (kind_in s.terrain.kind p) e Holds (product_of p) (s.texts.header p) refusal → ((q : SetProduct) → rank_of q < rank_of p → IsRight s q) →
      NoneStandsIn s 4 → IsRefusalIn s refusal
  refused_for p (BadHeader q fault) bad earlier none =
      let same : q ≡ product_of p = bad.0 in
      subst (λ q. IsRefusalIn s (BadHeader q fault)) (sym same)
      (first_of s (StandsIn s) 4 (3 * rank_of p) (BadHeader (product_of p) fault) refl ((stands_bad s p fault).1 bad.1) none
      (λ b at less. before_product p 0 (omega arith) earlier (λ less. absurd (omega arith)) (λ less. absurd (omega arith)) b at (omega (arith, less))))
  refused_for p (WrongShape q) bad earlier none =
      let w = bad.1 in
      let stands : ¬ HasShapeIn s p = λ shape. w.shape_is_not (subst (λ (f : Fields). header_extent f ≡ s.terrain.extent) (sym w.described.fields) shape ∙ laid.extent_is) in
      subst (λ q. IsRefusalIn s (WrongShape q)) (sym bad.0)
      (first_of s (StandsIn s) 4 (3 * rank_of p + 1) (WrongShape (product_of p)) refl ((stands_wrong s p).1 stands) none
      (before_product p 1 (omega arith) earlier (λ less. no_header_fault s p w.fields w.described) (λ less. absurd (omega arith))))
  refused_for p (Misplaced q) bad earlier none =
      let w = bad.1 in
      let stands : ¬ s.terrain.Holds (set_fields s.terrain.kind s.texts p).place = λ placed. w.not_placed ((laid.holds_is w.fields.place).0 (subst (λ (f : Fields). s.terrain.Holds f.place) (sym w.described.fields) placed)) in
      subst (λ q. IsRefusalIn s (Misplaced q)) (sym bad.0)
      (first_of s (StandsIn s) 4 (3 * rank_of p + 2) (Misplaced (product_of p)) refl ((stands_misplaced s p).1 stands) none
      (before_product p 2 (omega arith) earlier (λ less. no_header_fault s p w.fields w.described) (λ less stands. (stands_wrong s p).0 stands (has_shape p w.fields w.described w.shape))))
  refused_for p refusal bad earlier none = absurd bad

  -- the refusal of a header is the first
  pub header_refused : (refusal : Refusal) → IsFirstRefusalOf s.terrain.kind e Holds s.texts.header refusal → NoneStandsIn s 4 → IsRefusalIn s refusal
  header_refused refusal first none =
      refused_for first.product refusal first.refused (λ q less. let right = first.before q less in is_right q right.0 right.1) none
