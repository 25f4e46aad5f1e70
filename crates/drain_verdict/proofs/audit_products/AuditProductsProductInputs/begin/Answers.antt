use Rattle.drain_verdict.proofs.Names.{◌≡◌, refl, subst, sym, full_patience, Going, by_set_product, Fields, RasterRows, IsRasterBegun}
use Rattle.drain_verdict.proofs.audit_products.AuditProductsProductInputs.begin.Goals as goal

-- a new reader is one of its header
begun : (h : Fields) (raster : RasterRows) → raster.header ≡ h → raster.left ≡ h.rows → raster.gap ≡ h.skip → raster.progress ≡ Going → raster.patience ≡ full_patience → IsRasterBegun h raster
begun h raster header left gap going patience = record { header_is = header; left_is = left; gap_is = gap; going = going; patience_is = patience }

pub returns : goal.returns
returns g c =
    let hs = c.args.headers in
    let dir = begun hs.dir c.new-2.result c.new-2.ensures.header c.new-2.ensures.left c.new-2.ensures.gap c.new-2.ensures.going c.new-2.ensures.patience in
    record {
      begun = by_set_product _ (begun hs.con c.new.result c.new.ensures.header c.new.ensures.left c.new.ensures.gap c.new.ensures.going c.new.ensures.patience)
          dir
          (begun hs.acc c.new-3.result c.new-3.ensures.header c.new-3.ensures.left c.new-3.ensures.gap c.new-3.ensures.going c.new-3.ensures.patience)
          (begun hs.bas c.new-4.result c.new-4.ensures.header c.new-4.ensures.left c.new-4.ensures.gap c.new-4.ensures.going c.new-4.ensures.patience)
          (subst (λ (h : Fields). IsRasterBegun h c.new-2.result) (sym (c.requires.alike refl)) dir);
    }
