use Rattle.drain_union.proofs.Names.{ℤ, pos, to_z, of_z, sym, subst, arith, ints, to_z-of_z, w64, AreNoDataInRange, IsNoData}
use Rattle.drain_grid.specs.declared.product.Product.TheVariants.{Con, Dir, Acc, Bas, Spl, Rnk}
use Rattle.drain_union.proofs.report.AuditNoData.of.Goals as goal

-- a number in range is kept in 64 bits
stored : (x : ℤ) → IsNoData x → IsNoData (to_z w64 (of_z w64 x))
stored x is =
    let low = is.low in
    let high = is.high in
    subst IsNoData (sym (to_z-of_z w64 x (grind (arith, ints, low, high)))) is

ranged : (con dir acc bas : ℤ) → IsNoData con → IsNoData dir → IsNoData acc → IsNoData bas →
    AreNoDataInRange (record { con = con; dir = dir; acc = acc; bas = bas; spl = pos 0; rnk = pos 0 })
ranged con dir acc bas a b c d Con = a
ranged con dir acc bas a b c d Dir = b
ranged con dir acc bas a b c d Acc = c
ranged con dir acc bas a b c d Bas = d
ranged con dir acc bas a b c d Spl = record { low = grind (arith, ints); high = grind (arith, ints) }
ranged con dir acc bas a b c d Rnk = record { low = grind (arith, ints); high = grind (arith, ints) }

pub invariant_of-result : goal.invariant_of-result
invariant_of-result c =
    let range = c.nodata.invariant in
    ranged _ _ _ _ (stored _ (range Con)) (stored _ (range Dir)) (stored _ (range Acc)) (stored _ (range Bas))
