-- What the stages of a check find: the layout, the headers and the tiles; or the first refusal of their kind.
use Rattle.std.specs.Prelude.{◌≡◌, ◌<◌}
use Rattle.drain_verdict.specs.Names.{ℕ, List, length, Option, Some, None, Result, Ok, Err, slice_get, Cell, SinkLine, HeightKind, Extent, IsLeastLine, IsLeastOff, has_data_but, Refusal, BadSinkLine, SinkNotData, BadSide, BadName, NoTiles, RepeatedTile, BoxTooLarge, BadHeader, WrongShape, Misplaced, BadTileLength, OutOfMemory, ReadFailed, AllZip, SetProduct, PerProduct, IsFirst, IsSide, of_product, product_of, rank_of, Corner, IsNameOf, IsFirstBadLength, Place, Fields, AnswersOf, DescribesOf, header_extent, LayoutFault, HasLayoutFault, layout_fault_order}
use Rattle.drain_verdict.specs.declared.stages.SinkListing.{SinkListing}
use Rattle.drain_grid.specs.declared.product.Product.{Product}
use Rattle.drain_verdict.specs.Inputs.{Products}
use Rattle.drain_verdict.specs.Texts.{kind_in}
use Rattle.drain_verdict.specs.TileGround.{IsBadName}
use Rattle.drain_mosaic.specs.declared.layout.LayoutFault.TheVariants as layout
use Rattle.drain_mosaic.specs.Tiling as tiling

-- A list of sinks in a check, and why it is refused.

-- the first bad line, if there is one
abbrev pub IsBadLine : Result (List SinkLine) ℕ → Option ℕ → Type 0
IsBadLine lines None = (sinks : List SinkLine) × (lines ≡ Ok sinks)
IsBadLine lines (Some bad) = lines ≡ Err bad

-- the bad line is reported, or else the least line whose cell is outside the grid or one of these voids; if any
abbrev pub IsToldOfSinks : SinkListing → Extent → List Cell → Option Refusal → Type 0
IsToldOfSinks listing e voids None = (listing.bad ≡ None) × IsLeastOff (has_data_but e voids) listing.sinks (length listing.sinks) None
IsToldOfSinks listing e voids (Some (BadSinkLine bad)) = listing.bad ≡ Some bad
IsToldOfSinks listing e voids (Some (SinkNotData line)) = (listing.bad ≡ None) × IsLeastLine (has_data_but e voids) listing.sinks (length listing.sinks) line
IsToldOfSinks listing e voids (Some refusal) = ⊥

-- the names are those of tiles that make a mosaic
pub record IsLayoutOf (side : ℕ) (names : List (List ℕ)) (t : tiling.Tiling) : Type 0 where
  pub side_is : t.side ≡ side
  pub in_range : IsSide side
  pub named : AllZip IsNameOf names t.corners
  pub sound : (fault : LayoutFault) → ¬ HasLayoutFault t fault

-- the first name that names no tile
pub record IsFirstBadName (names : List (List ℕ)) (place : ℕ) : Type 0 where
  pub bad : IsBadName names place
  pub first : (k : ℕ) → k < place → ¬ IsBadName names k

-- the names are those of tiles, and this is the first fault of their list
pub record IsLayoutFault (side : ℕ) (names : List (List ℕ)) (fault : LayoutFault) : Type 0 where
  pub corners : List Corner
  pub named : AllZip IsNameOf names corners
  pub first : IsFirst layout_fault_order (HasLayoutFault (record { side = side; corners = corners })) fault

-- why the names alone are refused
abbrev pub IsNameRefusal : List (List ℕ) → Refusal → Type 0
IsNameRefusal names (BadName k) = IsFirstBadName names k
IsNameRefusal names OutOfMemory = Unit {0}
IsNameRefusal names refusal = ⊥

-- the refusal for a fault of the list of tiles
abbrev pub IsLayoutFaultAs : LayoutFault → Refusal → Type 0
IsLayoutFaultAs layout.NoTiles refusal = refusal ≡ NoTiles
IsLayoutFaultAs (layout.RepeatedTile c) refusal = refusal ≡ RepeatedTile c
IsLayoutFaultAs layout.BoxTooLarge refusal = refusal ≡ BoxTooLarge
IsLayoutFaultAs layout.OutOfMemory refusal = refusal ≡ OutOfMemory

-- why side and names are refused
abbrev pub IsLayoutRefusal : ℕ → List (List ℕ) → Refusal → Type 0
IsLayoutRefusal side names BadSide = ¬ IsSide side
IsLayoutRefusal side names (BadName k) = IsSide side × IsFirstBadName names k
IsLayoutRefusal side names NoTiles = IsSide side × IsLayoutFault side names layout.NoTiles
IsLayoutRefusal side names (RepeatedTile c) = IsSide side × IsLayoutFault side names (layout.RepeatedTile c)
IsLayoutRefusal side names BoxTooLarge = IsSide side × IsLayoutFault side names layout.BoxTooLarge
IsLayoutRefusal side names OutOfMemory = Unit {0}
IsLayoutRefusal side names refusal = ⊥

-- the text describes a header of numbers of this kind, with this shape and a place that lies on the ground
pub record IsHeaderFor (kind : HeightKind) (e : Extent) (Holds : Place → Type 0) (text : List ℕ) (h : Fields) : Type 0 where
  pub described : DescribesOf kind text h
  pub shape : header_extent h ≡ e
  pub placed : Holds h.place

-- the text describes a header of another shape
pub record HasWrongShape (kind : HeightKind) (e : Extent) (text : List ℕ) : Type 0 where
  pub fields : Fields
  pub described : DescribesOf kind text fields
  pub shape_is_not : ¬ (header_extent fields ≡ e)

-- the text describes a header of the right shape that lies elsewhere
pub record IsElsewhere (kind : HeightKind) (e : Extent) (Holds : Place → Type 0) (text : List ℕ) : Type 0 where
  pub fields : Fields
  pub described : DescribesOf kind text fields
  pub shape : header_extent fields ≡ e
  pub not_placed : ¬ Holds fields.place

-- why the header of a product is refused
abbrev pub IsHeaderRefusal : HeightKind → Extent → (Place → Type 0) → Product → List ℕ → Refusal → Type 0
IsHeaderRefusal kind e Holds p text (BadHeader q fault) = (q ≡ p) × AnswersOf kind text (Err fault)
IsHeaderRefusal kind e Holds p text (WrongShape q) = (q ≡ p) × HasWrongShape kind e text
IsHeaderRefusal kind e Holds p text (Misplaced q) = (q ≡ p) × IsElsewhere kind e Holds text
IsHeaderRefusal kind e Holds p text refusal = ⊥

-- each text is a correct header on heights of this kind, and these are they
abbrev pub AreHeadersOf : HeightKind → Extent → (Place → Type 0) → (SetProduct → List ℕ) → PerProduct Fields → Type 0
AreHeadersOf kind e Holds text hs = (p : SetProduct) → IsHeaderFor (kind_in kind p) e Holds (text p) (of_product hs p)

-- the first product whose text is refused, and why
pub record IsFirstRefusalOf (kind : HeightKind) (e : Extent) (Holds : Place → Type 0) (text : SetProduct → List ℕ) (refusal : Refusal) : Type 0 where
  pub product : SetProduct
  pub refused : IsHeaderRefusal (kind_in kind product) e Holds (product_of product) (text product) refusal
  pub before : (q : SetProduct) → rank_of q < rank_of product → (h : Fields) × IsHeaderFor (kind_in kind q) e Holds (text q) h

-- the header of each product is right
abbrev pub AreHeadersFor : {R : Type 0} → HeightKind → Extent → (Place → Type 0) → Products R → PerProduct Fields → Type 0
AreHeadersFor kind e Holds ps hs = AreHeadersOf kind e Holds (λ p. (of_product ps p).header) hs

-- the first product whose header is refused, and why
abbrev pub IsFirstHeaderRefusal : {R : Type 0} → HeightKind → Extent → (Place → Type 0) → Products R → Refusal → Type 0
IsFirstHeaderRefusal kind e Holds ps refusal = IsFirstRefusalOf kind e Holds (λ p. (of_product ps p).header) refusal

-- why the bodies of tiles are refused
abbrev pub IsTileRefusal : tiling.Tiling → List (List ℕ) → Refusal → Type 0
IsTileRefusal t bodies (BadTileLength c) = (place : ℕ) × (slice_get t.corners place ≡ Some c) × IsFirstBadLength t.side bodies place
IsTileRefusal t bodies OutOfMemory = Unit {0}
IsTileRefusal t bodies ReadFailed = Unit {0}
IsTileRefusal t bodies refusal = ⊥

-- the products have these bodies
abbrev pub AreRasterBodies : {R : Type 0} → (R → Option (List ℕ)) → Products R → (SetProduct → List ℕ) → Type 0
AreRasterBodies bytes_left ps bodies = (p : SetProduct) → bytes_left (of_product ps p).body ≡ Some (bodies p)
