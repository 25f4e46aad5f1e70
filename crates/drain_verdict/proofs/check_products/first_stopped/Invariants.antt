use Rattle.drain_verdict.proofs.Names.{◌≡◌, ◌<◌, Stopped, SetProduct, rank_of, of_product}
use Rattle.drain_verdict.proofs.check_products.first_stopped.Given as goal

abbrev pub invariant-loop-product : goal.invariant-loop-product
invariant-loop-product l = (q : SetProduct) → rank_of q < l.product-index → ¬ ((of_product l.rasters q).progress ≡ Stopped)
