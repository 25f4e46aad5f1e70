use Rattle.drain_verdict.proofs.Names.{◌≡◌, ◌<◌, Stopped, SetProduct, rank_of, of_product, readers_as_five}
use Rattle.drain_verdict.proofs.audit_products.first_stopped.Given as goal

abbrev pub invariant-loop-product : goal.invariant-loop-product
invariant-loop-product l = (q : SetProduct) → rank_of q < l.product-index → ¬ ((of_product (readers_as_five l.rasters) q).progress ≡ Stopped)
