use Rattle.drain_explain.proofs.Names.{◌≡◌, Option, Some, None, ℕ, List, ap, refl, rules, subst, IfSome, ◌≢◌, BadHeader, BadPixelSize, DemShort, IsDemDetailOf, IsSetDetail, OfDem, Extent, Fields, IsDemHeader}
use Rattle.drain_answer.specs.declared.refusal.Refusal.{Refusal}
use Rattle.drain_findings.specs.declared.refusal_detail.RefusalDetail.{RefusalDetail}
use Rattle.drain_grid.specs.declared.height_kind.HeightKind.{HeightKind}
use Rattle.drain_grid.specs.declared.product.Product.{Product}
use Rattle.drain_grid.specs.declared.set_product.SetProduct.{SetProduct}
use Rattle.drain_grid.specs.PerProduct.{of_product}
use Rattle.drain_header.specs.declared.fault.HeaderFault.{HeaderFault}
use Rattle.drain_header.specs.declared.header.Place.{Place}
use Rattle.drain_raster.specs.Pixels.{header_extent}
use Rattle.drain_verdict.specs.Given.{Given}
use Rattle.drain_explain.proofs.refused.dem_detail.Goals as goal

-- a refusal that isn't of the raster's header or body, nor of a product's header, has the details of a set
of_set : (text : List ℕ) (texts : SetProduct → List ℕ) (given : Given) (r : Refusal) (detail : RefusalDetail) → r ≢ BadPixelSize → r ≢ DemShort → ((p : Product) (fault : HeaderFault) → r ≢ BadHeader p fault) →
    OfDem text (λ h. IsSetDetail h.kind (header_extent h) h.place texts given r detail) → IsDemDetailOf text texts given r detail
of_set text texts given BadPixelSize detail size short header is = absurd (size refl)
of_set text texts given DemShort detail size short header is = absurd (short refl)
of_set text texts given (BadHeader p fault) detail size short header is = absurd (header p fault refl)
of_set text texts given r detail size short header is = is

-- so of one that may be told
told_of_set : (told : Option RefusalDetail) (h : Fields) (text : List ℕ) (texts : SetProduct → List ℕ) (given : Given) (r : Refusal) → r ≢ BadPixelSize → r ≢ DemShort → ((p : Product) (fault : HeaderFault) → r ≢ BadHeader p fault) →
    IsDemHeader h text → IfSome told (IsSetDetail h.kind (header_extent h) h.place texts given r) → IfSome told (IsDemDetailOf text texts given r)
told_of_set None h text texts given r size short header is told = tt
told_of_set (Some detail) h text texts given r size short header is told = of_set text texts given r detail size short header (h, is, told)

-- what is told of a kind, a size and a place is told of the header that has them
told_of_header : (told : Option RefusalDetail) (h : Fields) (kind : HeightKind) (e : Extent) (at : Place) (texts : SetProduct → List ℕ) (given : Given) (r : Refusal) → kind ≡ h.kind → e ≡ header_extent h → at ≡ h.place →
    IfSome told (IsSetDetail kind e at texts given r) → IfSome told (IsSetDetail h.kind (header_extent h) h.place texts given r)
told_of_header told h kind e at texts given r kind_is extent_is place_is is =
    subst (λ (k : HeightKind). IfSome told (IsSetDetail k (header_extent h) h.place texts given r)) kind_is
    (subst (λ (size : Extent). IfSome told (IsSetDetail kind size h.place texts given r)) extent_is
    (subst (λ (place : Place). IfSome told (IsSetDetail kind e place texts given r)) place_is is))

pub returns-in_ok-header-in_default : goal.returns-in_ok-header-in_default
returns-in_ok-header-in_default g c =
    let h = c.in_ok-header-in_default.header in
    let texts : SetProduct → List ℕ = λ p. (of_product c.args.headers.now p).now in
    let view = c.header-in_default.view_is in
    told_of_set c.set_detail.result h c.args.dem.now.header texts c.args.given.now c.args.refusal
    c.in_default.not-BadPixelSize c.in_default.not-DemShort c.in_default.not-BadHeader (search rules)
    (told_of_header c.set_detail.result h c.header-in_default.inside.kind c.shape.result c.header-in_default.inside.place texts c.args.given.now c.args.refusal
    (ap (λ (k : Fields). k.kind) view) c.shape.ensures (ap (λ (k : Fields). k.place) view) c.set_detail.ensures)
