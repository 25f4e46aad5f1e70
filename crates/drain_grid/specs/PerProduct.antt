-- Five things, one for each product that a set holds.
use Rattle.drain_grid.specs.declared.set_product.SetProduct.{SetProduct}
use Rattle.drain_grid.specs.declared.set_product.SetProduct.TheVariants.{Con, Dir, Acc, Bas, Rnk}
use Rattle.drain_grid.specs.declared.per_product.PerProduct.{PerProduct}

-- the product's own
abbrev pub of_product : {A : Type 0} → PerProduct A → SetProduct → A
of_product things Con = things.con
of_product things Dir = things.dir
of_product things Acc = things.acc
of_product things Bas = things.bas
of_product things Rnk = things.rnk

-- what a function gives for each
abbrev pub per_product : {A : Type 0} → (SetProduct → A) → PerProduct A
per_product give = record { con = give Con; dir = give Dir; acc = give Acc; bas = give Bas; rnk = give Rnk }
