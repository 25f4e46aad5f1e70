-- The rules VoidCell and Missing hold exactly where each judged product keeps its part of them.
use Rattle.drain_faults.proofs.Names.{◌≡◌, ◌≢◌, Bool, true, false, IsNone, IsTrue, inl, refl, subst, ◌+◌, ◌<◌, ◌^◌, List, [], ◌∷◌, ◌++◌, length, arith, true≢false, Cell, Judged, Rules, Patch, VoidCell, Missing, IfJudged, has_acc, has_bas, has_dir, has_product, has_rnk, part_rules, rules_about, tried, NoDataNumbers, number_for, value_of, by_set_product, AreProductsNotedAt, MissingHoldsOf, VoidCellHoldsOf, AreFaultsByProduct, TellsFault, Grid, Products, patch_at, of_product}
use Rattle.std.proofs.Common.{◌↔◌}
use Rattle.drain_grid.specs.declared.set_product.SetProduct.{SetProduct}
use Rattle.drain_grid.specs.declared.set_product.SetProduct.TheVariants.{Con, Dir, Acc, Bas, Rnk}
use Rattle.drain_grid.specs.declared.per_product.PerProduct.{PerProduct}
use Rattle.drain_grid.specs.SetProduct.{product_of}
use Rattle.drain_grid.specs.Patch.{IsDataCell}
use Rattle.drain_faults.specs.declared.product_faults.ProductFaults.{ProductFaults}
use Rattle.drain_faults.proofs.NumbersWithout.{holding_more, noted_more}
use Rattle.drain_faults.proofs.TriedRules.{IsSound}
use Rattle.drain_grid.specs.declared.judged.Judged.TheVariants as rasters

-- a fact about a raster if it is judged, on a condition
within : (b : Bool) (N P : Type 0) → (N → IfJudged b P) → IfJudged b (N → P)
within true N P h = h
within false N P h = tt

of_within : (b : Bool) (N P : Type 0) → IfJudged b (N → P) → N → IfJudged b P
of_within true N P h = h
of_within false N P h = λ n. tt

-- it requires nothing if the raster isn't judged, and is the fact itself if it is
pub unjudged : (b : Bool) (P : Type 0) → b ≡ false → IfJudged b P
unjudged true P is = absurd (true≢false is)
unjudged false P is = tt

pub if_judged : (b : Bool) (P : Type 0) → IsTrue b → P ↔ IfJudged b P
if_judged true P is = (λ h. h, λ h. h)
if_judged false P is = let no : false ≡ true = is in cc

module _ (nodata : NoDataNumbers) (p : Patch) where
  -- what is required of one product
  abbrev void_of : Judged → SetProduct → Type 0
  void_of judged product = IfJudged (has_product judged product) (IsNone p.here.z → value_of p.here (product_of product) ≡ number_for nodata (product_of product))

  abbrev data_of : Judged → SetProduct → Type 0
  data_of judged product = IfJudged (has_product judged product) (IsDataCell p → value_of p.here (product_of product) ≢ number_for nodata (product_of product))

  -- of some rasters, without ranks
  void_part : (judged : Judged) → has_rnk judged ≡ false → part_rules judged nodata p VoidCell ↔ ((product : SetProduct) → void_of judged product)
  void_part judged none = (
    (λ holds. by_set_product (void_of judged) (λ void. (holds void).con_is) (within (has_dir judged) _ _ (λ void. (holds void).dir_is))
        (within (has_acc judged) _ _ (λ void. (holds void).acc_is)) (within (has_bas judged) _ _ (λ void. (holds void).bas_is)) (unjudged (has_rnk judged) _ none)),
    (λ each void. record {
      con_is = each Con void;
      dir_is = of_within (has_dir judged) _ _ (each Dir) void;
      acc_is = of_within (has_acc judged) _ _ (each Acc) void;
      bas_is = of_within (has_bas judged) _ _ (each Bas) void;
    }),
  )

  data_part : (judged : Judged) → has_rnk judged ≡ false → part_rules judged nodata p Missing ↔ ((product : SetProduct) → data_of judged product)
  data_part judged none = (
    (λ holds. by_set_product (data_of judged) (λ has. (holds has).con_differs) (within (has_dir judged) _ _ (λ has. (holds has).dir_differs))
        (within (has_acc judged) _ _ (λ has. (holds has).acc_differs)) (within (has_bas judged) _ _ (λ has. (holds has).bas_differs))
        (unjudged (has_rnk judged) _ none)),
    (λ each has. record {
      con_differs = each Con has;
      dir_differs = of_within (has_dir judged) _ _ (each Dir) has;
      acc_differs = of_within (has_acc judged) _ _ (each Acc) has;
      bas_differs = of_within (has_bas judged) _ _ (each Bas) has;
    }),
  )

  -- and of all
  void_cell_about : (judged : Judged) → rules_about judged nodata p VoidCell ↔ ((product : SetProduct) → void_of judged product)
  void_cell_about rasters.All = (
    (λ holds. by_set_product (void_of rasters.All) (λ void. (holds void).con_is) (λ void. (holds void).dir_is) (λ void. (holds void).acc_is) (λ void. (holds void).bas_is) tt),
    (λ each void. record { con_is = each Con void; dir_is = each Dir void; acc_is = each Acc void; bas_is = each Bas void }),
  )
  void_cell_about rasters.AllWithRanks = (
    (λ holds. by_set_product (void_of rasters.AllWithRanks) (λ void. holds void Con) (λ void. holds void Dir) (λ void. holds void Acc) (λ void. holds void Bas) (λ void. holds void Rnk)),
    (λ each void. by_set_product (λ product. value_of p.here (product_of product) ≡ number_for nodata (product_of product))
        (each Con void) (each Dir void) (each Acc void) (each Bas void) (each Rnk void)),
  )
  void_cell_about judged = void_part judged refl

  missing_about : (judged : Judged) → rules_about judged nodata p Missing ↔ ((product : SetProduct) → data_of judged product)
  missing_about rasters.All = (
    (λ holds. by_set_product (data_of rasters.All) (λ has. (holds has).con_differs) (λ has. (holds has).dir_differs) (λ has. (holds has).acc_differs)
        (λ has. (holds has).bas_differs) tt),
    (λ each has. record { con_differs = each Con has; dir_differs = each Dir has; acc_differs = each Acc has; bas_differs = each Bas has }),
  )
  missing_about rasters.AllWithRanks = (
    (λ holds. by_set_product (data_of rasters.AllWithRanks) (λ has. holds has Con) (λ has. holds has Dir) (λ has. holds has Acc) (λ has. holds has Bas) (λ has. holds has Rnk)),
    (λ each has. by_set_product (λ product. value_of p.here (product_of product) ≢ number_for nodata (product_of product))
        (each Con has) (each Dir has) (each Acc has) (each Bas has) (each Rnk has)),
  )
  missing_about judged = data_part judged refl

pub void_cell_by_product : (rules : Rules) (p : Patch) → tried rules p VoidCell ↔ ((product : SetProduct) → VoidCellHoldsOf rules product p)
void_cell_by_product rules p = void_cell_about rules.nodata p rules.judged

pub missing_by_product : (rules : Rules) (p : Patch) → tried rules p Missing ↔ ((product : SetProduct) → MissingHoldsOf rules product p)
missing_by_product rules p = missing_about rules.nodata p rules.judged

-- where neither rule fails nothing is counted of any product
pub none_noted : (rules : Rules) (cell : Cell) (p : Patch) (faults : PerProduct ProductFaults) (void_cell missing : Bool) → void_cell ≡ false → missing ≡ false →
    TellsFault void_cell (tried rules p VoidCell) → TellsFault missing (tried rules p Missing) → AreProductsNotedAt rules cell p faults faults
none_noted rules cell p faults void_cell missing unset unset_too tells tells_too = λ product. record {
  at_void = inl ((void_cell_by_product rules p).0 (subst (λ b. TellsFault b (tried rules p VoidCell)) unset tells) product, refl);
  at_data = inl ((missing_by_product rules p).0 (subst (λ b. TellsFault b (tried rules p Missing)) unset_too tells_too) product, refl);
}

-- The faults of each product, with one cell more.

module _ (rules : Rules) (g : Grid) (ps : Products) (cs : List Cell) (c : Cell) where
  -- a sound cell
  pub products_sound : (faults : PerProduct ProductFaults) → IsSound (tried rules) (patch_at g ps c) → AreFaultsByProduct rules g ps cs faults →
      AreFaultsByProduct rules g ps (cs ++ c ∷ []) faults
  products_sound faults at so_far = λ product. record {
    at_voids = holding_more (λ b. VoidCellHoldsOf rules product (patch_at g ps b)) cs c (of_product faults product).at_voids
        ((void_cell_by_product rules (patch_at g ps c)).0 (at.holds VoidCell (omega arith, omega arith)) product) (so_far product).at_voids;
    at_data = holding_more (λ b. MissingHoldsOf rules product (patch_at g ps b)) cs c (of_product faults product).at_data
        ((missing_by_product rules (patch_at g ps c)).0 (at.holds Missing (omega arith, omega arith)) product) (so_far product).at_data;
  }

  -- one that was noted
  pub products_noted : (old new : PerProduct ProductFaults) → length cs + 1 < 2 ^ 32 → AreProductsNotedAt rules c (patch_at g ps c) old new →
      AreFaultsByProduct rules g ps cs old → AreFaultsByProduct rules g ps (cs ++ c ∷ []) new
  products_noted old new few noted so_far = λ product. record {
    at_voids = noted_more (λ b. VoidCellHoldsOf rules product (patch_at g ps b)) cs c (of_product old product).at_voids (of_product new product).at_voids few
        (noted product).at_void (so_far product).at_voids;
    at_data = noted_more (λ b. MissingHoldsOf rules product (patch_at g ps b)) cs c (of_product old product).at_data (of_product new product).at_data few
        (noted product).at_data (so_far product).at_data;
  }
