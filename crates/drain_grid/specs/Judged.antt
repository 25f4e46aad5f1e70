-- Which rasters of a set are judged.
use Rattle.std.specs.Prelude.{Bool, true, false}
use Rattle.drain_grid.specs.declared.judged.Judged.{Judged}
use Rattle.drain_grid.specs.declared.judged.Judged.TheVariants.{Con, ConDir, ConDirAcc, ConDirBas, All, AllWithRanks}
use Rattle.drain_grid.specs.declared.set_product.SetProduct.{SetProduct}
use Rattle.drain_grid.specs.declared.set_product.SetProduct.TheVariants as product

-- directions are
abbrev pub has_dir : Judged → Bool
has_dir Con = false
has_dir ConDir = true
has_dir ConDirAcc = true
has_dir ConDirBas = true
has_dir All = true
has_dir AllWithRanks = true

-- the accumulation is
abbrev pub has_acc : Judged → Bool
has_acc Con = false
has_acc ConDir = false
has_acc ConDirAcc = true
has_acc ConDirBas = false
has_acc All = true
has_acc AllWithRanks = true

-- labels are
abbrev pub has_bas : Judged → Bool
has_bas Con = false
has_bas ConDir = false
has_bas ConDirAcc = false
has_bas ConDirBas = true
has_bas All = true
has_bas AllWithRanks = true

-- ranks are
abbrev pub has_rnk : Judged → Bool
has_rnk Con = false
has_rnk ConDir = false
has_rnk ConDirAcc = false
has_rnk ConDirBas = false
has_rnk All = false
has_rnk AllWithRanks = true

-- this product is: the filled surface always
abbrev pub has_product : Judged → SetProduct → Bool
has_product judged product.Con = true
has_product judged product.Dir = has_dir judged
has_product judged product.Acc = has_acc judged
has_product judged product.Bas = has_bas judged
has_product judged product.Rnk = has_rnk judged

-- the fact, if it is about a raster that is judged
abbrev pub IfJudged : Bool → Type 0 → Type 0
IfJudged true P = P
IfJudged false P = Unit {0}
