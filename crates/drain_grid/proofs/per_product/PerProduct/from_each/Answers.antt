use Rattle.drain_grid.proofs.Names.{◌<◌, arith, SetProduct, rank_of}
use Rattle.std.proofs.lemmas.Result.{err_from_is_err_and}
use Rattle.drain_grid.specs.declared.set_product.SetProduct.TheVariants.{Con, Dir, Acc, Bas, Rnk}
use Rattle.drain_grid.proofs.per_product.PerProduct.from_each.Goals as goal

-- the products before the last
before_rnk : (P : SetProduct → Type 0) → P Con → P Dir → P Acc → P Bas → (q : SetProduct) → rank_of q < rank_of Rnk → P q
before_rnk P con dir acc bas Con less = con
before_rnk P con dir acc bas Dir less = dir
before_rnk P con dir acc bas Acc less = acc
before_rnk P con dir acc bas Bas less = bas
before_rnk P con dir acc bas Rnk less = absurd (omega arith)

pub returns-in_err-rnk-clause-first : goal.returns-in_err-rnk-clause-first
returns-in_err-rnk-clause-first g c =
    let told = err_from_is_err_and c.from_residual-in_err-rnk.result c.from_residual-in_err-rnk.ensures.1 in
    rw (told.1, told.2) (
      Rnk,
      c.in_err-rnk.ensures,
      before_rnk _ (c.in_ok-con.con, c.in_ok-con.ensures) (c.in_ok-dir.dir, c.in_ok-dir.ensures)
          (c.in_ok-acc.acc, c.in_ok-acc.ensures) (c.in_ok-bas.bas, c.in_ok-bas.ensures),
    )
