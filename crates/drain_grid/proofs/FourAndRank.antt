-- What is said of each product that a set holds is said of con, dir, acc and bas, and of the rank.
use Rattle.drain_grid.proofs.Names.{◌≡◌, ◌≢◌, ◌↔◌, product_of, Values, NoDataNumbers, number_for, value_of, IsBlankWithoutSpill, IsCompleteWithoutSpill, IsBlankWithoutRank, IsCompleteWithoutRank}
use Rattle.drain_grid.specs.declared.set_product.SetProduct.TheVariants.{Con, Dir, Acc, Bas, Rnk}
use Rattle.drain_grid.proofs.ByProduct.{by_set_product}

-- the five have their no-data numbers where the four and the rank do
pub blank_and_rank : (nodata : NoDataNumbers) (v : Values) →
    (IsBlankWithoutRank nodata v × (v.rnk ≡ nodata.rnk)) ↔ IsBlankWithoutSpill nodata v
blank_and_rank nodata v = (
  (λ h. by_set_product (λ p. value_of v (product_of p) ≡ number_for nodata (product_of p)) h.0.con_is h.0.dir_is h.0.acc_is h.0.bas_is h.1),
  (λ each. (record { con_is = each Con; dir_is = each Dir; acc_is = each Acc; bas_is = each Bas }, each Rnk)),
)

-- none of the five has where none of the four does, nor the rank
pub complete_and_rank : (nodata : NoDataNumbers) (v : Values) →
    (IsCompleteWithoutRank nodata v × (v.rnk ≢ nodata.rnk)) ↔ IsCompleteWithoutSpill nodata v
complete_and_rank nodata v = (
  (λ h. by_set_product (λ p. value_of v (product_of p) ≢ number_for nodata (product_of p)) h.0.con_differs h.0.dir_differs h.0.acc_differs h.0.bas_differs h.1),
  (λ each. (record { con_differs = each Con; dir_differs = each Dir; acc_differs = each Acc; bas_differs = each Bas }, each Rnk)),
)
