-- The products that a set holds: all but the spill parents.
use Rattle.std.specs.Prelude.{ℕ, List, [], ◌∷◌}
use Rattle.drain_grid.specs.declared.set_product.SetProduct.{SetProduct}
use Rattle.drain_grid.specs.declared.set_product.SetProduct.TheVariants as held
use Rattle.drain_grid.specs.declared.product.Product.{Product}
use Rattle.drain_grid.specs.declared.product.Product.TheVariants as product

-- the product that it is
abbrev pub product_of : SetProduct → Product
product_of held.Con = product.Con
product_of held.Dir = product.Dir
product_of held.Acc = product.Acc
product_of held.Bas = product.Bas
product_of held.Rnk = product.Rnk

-- they in their order
abbrev pub products : List SetProduct
products = held.Con ∷ held.Dir ∷ held.Acc ∷ held.Bas ∷ held.Rnk ∷ []

-- a product's place in that order; spill parents come after them
abbrev pub place_of : Product → ℕ
place_of product.Con = 0
place_of product.Dir = 1
place_of product.Acc = 2
place_of product.Bas = 3
place_of product.Rnk = 4
place_of product.Spl = 5

-- a held product's place
abbrev pub rank_of : SetProduct → ℕ
rank_of p = place_of (product_of p)

-- the fact of the held product that this is, and of no other
abbrev pub OfSetProduct : (SetProduct → Type 0) → Product → Type 0
OfSetProduct P product.Con = P held.Con
OfSetProduct P product.Dir = P held.Dir
OfSetProduct P product.Acc = P held.Acc
OfSetProduct P product.Bas = P held.Bas
OfSetProduct P product.Rnk = P held.Rnk
OfSetProduct P product.Spl = ⊥
