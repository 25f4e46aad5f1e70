-- The answer to a set by rows, from new readers to their last row.
use Rattle.drain_verdict.proofs.Names.{◌≡◌, ◌⊎◌, ◌+◌, ◌∙◌, Bool, false, inl, inr, List, Some, None, IsErrOf, arith, refl, sym, ap, subst, FaultCounts, Cell, PerProduct, SetProduct, of_product, Grid, FoundOffDataIsRight, spacing_of, Extent, NoDataNumbers, Fields, IsRowsStop, OfGrid, ReadsOn, AreListedVoids, AreGroundRows, GroundToGive, IsToldOf, AreNotesIn, AreTextsIn, GroundSet, IsReadable, IsRefusalIn, NoneStandsIn, rules_in, set_grid, set_products, nodata_in, HaveBeenRead, Reading, inputs_lent, products_lent, readers, AreBegun, HasStopped, IsToldRefusal, RasterLaws, IsListingOf, IsToldOfLists, Listing, IsOfBodies, refusal_of, AreGiven, HaveCome, IsAfter, Refusal, OutOfMemory, ReadFailed}
use Rattle.std.proofs.Common.{ℕ, Option, Err}
use Rattle.drain_grid.specs.Grid as grid
use Rattle.drain_raster.specs.Pixels as pixels
use Rattle.drain_grid.specs.declared.judged.Rules.{Rules}
use Rattle.drain_rows.specs.declared.row_visitor.WalkStop.{WalkStop}
use Rattle.drain_rows.specs.declared.row_visitor.WalkStop.TheVariants.{Source}
use Rattle.drain_rows.specs.declared.row_visitor.WalkStop.TheVariants as walk_stop
use Rattle.drain_verdict.proofs.RowAnswers.{nodata_are, rows_of_bytes, told_none, told_refusal, AreAtEnd, at_end}
use Rattle.drain_verdict.proofs.SpacingAnswers.{lists_none, lists_refused}
use Rattle.drain_verdict.proofs.RowDevices.{come_none}
use Rattle.drain_verdict.proofs.RowStart.{after_none, row_given, start_given, to_give}

-- a ground that new readers are to give, with the texts that lie on it
pub record IsOfSet {M X R : Type 0} (after : M → List X → GroundToGive → ℕ → Type 0) (Begun : M → Type 0) (bl : R → Option (List ℕ)) (s : GroundSet) (t : GroundToGive) (hs : PerProduct Fields) (start : Reading M X R) (e : Extent) : Type 0 where
  pub extent_is : s.terrain.extent ≡ e
  pub laws : RasterLaws
  pub shapes : (p : SetProduct) → pixels.header_extent (of_product hs p) ≡ e
  pub begun : AreBegun Begun hs (readers start)
  pub starts : after (readers start).elevations (inputs_lent start) t 0
  pub texts : AreTextsIn bl s.terrain.kind hs (products_lent start) s.texts
  pub ground_rows : IsToldOf s.terrain 5 None → AreGroundRows s.terrain t
  pub none_before : NoneStandsIn s 5

-- so where a grid of this shape is read, of this size
pub of_call : {M X R : Type 0} (after : M → List X → GroundToGive → ℕ → Type 0) (Begun : M → Type 0) (bl : R → Option (List ℕ)) (s : GroundSet) (t : GroundToGive) (hs : PerProduct Fields) (start : Reading M X R) (shape e : Extent) →
    shape ≡ e → s.terrain.extent ≡ e → RasterLaws → ((p : SetProduct) → pixels.header_extent (of_product hs p) ≡ e) → AreBegun Begun hs (readers start) → after (readers start).elevations (inputs_lent start) t 0 →
    AreTextsIn bl s.terrain.kind hs (products_lent start) s.texts → (IsToldOf s.terrain 5 None → AreGroundRows s.terrain t) → NoneStandsIn s 5 → IsOfSet after Begun bl s t hs start shape
of_call after Begun bl s t hs start shape e shape_is extent_is laws shapes begun starts texts ground_rows none_before = record {
  extent_is = extent_is ∙ sym shape_is;
  laws = laws;
  shapes = λ p. shapes p ∙ sym shape_is;
  begun = begun;
  starts = starts;
  texts = texts;
  ground_rows = ground_rows;
  none_before = none_before;
}

module _ {M X R : Type 0} (after : M → List X → GroundToGive → ℕ → Type 0) (has_read : M × List X → M × List X → Bool → Type 0) (bl : R → Option (List ℕ)) (ct : R → FaultCounts) (Begun : M → Type 0)
    (s : GroundSet) (t : GroundToGive) (hs : PerProduct Fields) (start now : Reading M X R) (e : Extent) (of_set : IsOfSet after Begun bl s t hs start e)
    (come : HaveCome after has_read bl ct start now (0 + (e.rows + 1)) None) where
  -- as many rows as there are and one more were requested
  asked : IsAfter after bl (readers now) (inputs_lent now) (products_lent now) (to_give t hs s.texts.raster) (e.rows + 1)
  asked =
      let same : 0 + (0 + (e.rows + 1)) ≡ e.rows + 1 = omega arith in
      subst (λ n. IsAfter after bl (readers now) (inputs_lent now) (products_lent now) (to_give t hs s.texts.raster) n) same
      (come.came refl (to_give t hs s.texts.raster) 0 (after_none after bl Begun t hs (readers start) (inputs_lent start) (products_lent start) s.texts.raster of_set.begun of_set.starts of_set.texts.rasters))

  -- of the ground too
  pub ground_asked : after (readers now).elevations (inputs_lent now) t (e.rows + 1)
  ground_asked = asked.elevations

  ended : AreAtEnd s.terrain.extent hs s.texts.raster (HasStopped (readers now))
  ended = subst (λ (x : Extent). AreAtEnd x hs s.texts.raster (HasStopped (readers now))) (sym of_set.extent_is)
      (at_end after bl t e hs s.texts.raster (readers now) (inputs_lent now) (products_lent now) asked of_set.laws of_set.begun.bounds of_set.shapes)

  -- the reported refusal is the answer
  pub refusal_answers : (refusal : Refusal) → IsToldRefusal s.terrain (HasStopped (readers now)) (Some refusal) → IsRefusalIn s refusal
  refusal_answers refusal told = told_refusal of_set.laws s hs of_set.texts.fields ended refusal told of_set.none_before

  module _ (told : IsToldRefusal s.terrain (HasStopped (readers now)) None) where
    -- if none was reported, what holds of the grid that is given by rows holds of that of the set
    pub given_holds : (listing : Listing) (P : Grid → grid.Products → Type 0) → IsListingOf s.terrain.kind listing s.texts.given → OfGrid (AreGiven after bl start) e listing.sinks.sinks (spacing_of listing.spacing.spacings) P → P (set_grid s) (set_products s)
    given_holds listing P listed of_grid =
        of_grid (row_given (to_give t hs s.texts.raster)) (set_grid s) (set_products s)
        (start_given after bl Begun t hs (readers start) (inputs_lent start) (products_lent start) s.texts.raster of_set.begun of_set.starts of_set.texts.rasters) of_set.extent_is
        (rows_of_bytes of_set.laws s hs of_set.texts.fields ended t (of_set.ground_rows told.0) told.1 listing.sinks.sinks (spacing_of listing.spacing.spacings) listed.sinks listed.spacing.spacing)

    -- and no refusal before the lists applies
    none_stood : NoneStandsIn s 8
    none_stood = told_none of_set.laws s hs of_set.texts.fields ended told of_set.none_before

    -- so the refusal of the lists is the answer
    pub lists_answer : FoundOffDataIsRight → (listing : Listing) (voids : List Cell) (refusal : Refusal) → IsListingOf s.terrain.kind listing s.texts.given →
        OfGrid (AreGiven after bl start) e listing.sinks.sinks (spacing_of listing.spacing.spacings) (λ g products. AreListedVoids g voids) → IsToldOfLists listing e voids (Some refusal) → IsRefusalIn s refusal
    lists_answer law listing voids refusal listed of_grid said =
        let voids_are = given_holds listing (λ g products. AreListedVoids g voids) listed of_grid in
        lists_refused s listing e voids listed (sym of_set.extent_is) voids_are law refusal said none_stood

    -- or else none applies
    pub none_stands : FoundOffDataIsRight → (listing : Listing) (voids : List Cell) → IsListingOf s.terrain.kind listing s.texts.given →
        OfGrid (AreGiven after bl start) e listing.sinks.sinks (spacing_of listing.spacing.spacings) (λ g products. AreListedVoids g voids) → IsToldOfLists listing e voids None → IsReadable s
    none_stands law listing voids listed of_voids said =
        let voids_are = given_holds listing (λ g products. AreListedVoids g voids) listed of_voids in
        lists_none s listing e voids listed (sym of_set.extent_is) voids_are law said none_stood

    -- and notes of the grid that is given are of the set's grid
    pub notes_hold : {K : Type 0} (are_of : Rules → Grid → grid.Products → ℕ → K → Type 0) (rules : Rules) (notes : K) (listing : Listing) → rules.nodata ≡ nodata_in hs → IsListingOf s.terrain.kind listing s.texts.given →
        OfGrid (AreGiven after bl start) e listing.sinks.sinks (spacing_of listing.spacing.spacings) (λ g products. are_of rules g products g.extent.rows notes) → AreNotesIn are_of rules.judged s notes
    notes_hold are_of rules notes listing nodata_is listed of_grid =
        let numbers = nodata_is ∙ nodata_are s hs of_set.texts.fields in
        let same : rules ≡ rules_in rules.judged s = ap (λ (n : NoDataNumbers). rules_with_nodata rules n) numbers in
        subst (λ (r : Rules). are_of r (set_grid s) (set_products s) (set_grid s).extent.rows notes) same
        (given_holds listing (λ g products. are_of rules g products g.extent.rows notes) listed of_grid)
      where
        rules_with_nodata : Rules → NoDataNumbers → Rules
        rules_with_nodata rules n = record { nodata = n; judged = rules.judged }

-- a refusal of reading, by readers of five products, whichever are given
module _ {M X R S : Type 0} (after : M → List X → GroundToGive → ℕ → Type 0) (has_read : M × List X → M × List X → Bool → Type 0) (bl : R → Option (List ℕ)) (ct : R → FaultCounts) (nothing : (s : M × List X) → has_read s s false)
    (view : S → Reading M X R) (before now : S) where
  abbrev HasCome : S → S → ℕ → Option Refusal → Type 0
  HasCome a b calls told = HaveCome after has_read bl ct (view a) (view b) calls told

  -- this number of rows came
  pub came : (n : ℕ) (told : Option Refusal) → ReadsOn HasCome before now n told → HaveCome after has_read bl ct (view before) (view now) (0 + n) told
  came n told reads = reads before 0 (come_none after has_read bl ct nothing (view before))

  -- all rows were read, and no device failed for good
  pub all_read : {H : Type 0} (n : ℕ) → ReadsOn HasCome before now n None → (H → ⊥) → HaveBeenRead has_read bl ct (view before) (view now) H
  all_read n reads never = record {
    told = None;
    exactly = (λ wrong. absurd (let no = wrong in cc), λ h. absurd (never h));
    reads = (came n None reads).reads;
  }

  pub refused : {T : Type 0} (N : Type 0) (stopped : WalkStop Refusal) → IsRowsStop HasCome before now N stopped →
      ((refusal_of stopped ≡ OutOfMemory) ⊎ (refusal_of stopped ≡ ReadFailed)) × HaveBeenRead has_read bl ct (view before) (view now) (IsErrOf {T = T} (Err (refusal_of stopped)) ReadFailed)
  refused {T} N (Source refusal) (calls, reads) = (let now = (came calls (Some refusal) reads).reads in (
    now.of_reading,
    record {
      told = Some refusal;
      exactly = (λ is. (let same : refusal ≡ ReadFailed = cc in ap Err same), λ is. (let same : refusal ≡ ReadFailed = cc in ap Some same));
      reads = now;
    },
  ))
  refused {T} N walk_stop.OutOfMemory (calls, wants) = (
    inl refl,
    record {
      told = None;
      exactly = (λ wrong. absurd (let no = wrong in cc), λ is. absurd (let other : OutOfMemory ≡ ReadFailed = cc in cc));
      reads = (came calls None wants.0).reads;
    },
  )

-- out of memory and a failed read may come at any point
pub of_reading_answers : (s : GroundSet) (refusal : Refusal) → (refusal ≡ OutOfMemory) ⊎ (refusal ≡ ReadFailed) → IsRefusalIn s refusal
of_reading_answers s refusal why = elim why [
  | inl is ↦ subst (IsRefusalIn s) (sym is) tt
  | inr is ↦ subst (IsRefusalIn s) (sym is) tt
]

pub of_reading_bodies : (refusal : Refusal) → (refusal ≡ OutOfMemory) ⊎ (refusal ≡ ReadFailed) → IsOfBodies refusal
of_reading_bodies refusal why = elim why [
  | inl is ↦ subst IsOfBodies (sym is) tt
  | inr is ↦ subst IsOfBodies (sym is) tt
]
