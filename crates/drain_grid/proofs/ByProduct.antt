-- The least of rules 1 to 3, from what holds of a data cell.
use Rattle.drain_grid.proofs.Names.{◌<◌, Some, sym, subst, inl, inr, arith, ◌↔◌, cases_eq, Patch, Rule, VoidCell, Missing, BadCode, IsCode, NoDataNumbers, IsComplete, rule_number, IsPresenceRule, IsLeastFault, IsDataCell, profile1, VoidCellHolds, SetProduct, OfSetProduct, product_of}
use Rattle.drain_grid.proofs.AllRules.{same_rule}
use Rattle.drain_grid.specs.declared.product.Product.{Product}
use Rattle.drain_grid.specs.declared.product.Product.TheVariants.{Con, Dir, Acc, Bas, Spl, Rnk}
use Rattle.drain_grid.specs.declared.set_product.SetProduct.TheVariants as held

-- a data cell is no void
void_holds : (nodata : NoDataNumbers) (p : Patch) → IsDataCell p → VoidCellHolds nodata p
void_holds nodata p has_data is_void = grind arith

-- of a data cell with every number, rule 3 is the first that fails
pub bad_code_least : (nodata : NoDataNumbers) (p : Patch) → IsDataCell p → IsComplete nodata p.here → ¬ IsCode p.here.spl →
    IsLeastFault IsPresenceRule (profile1 nodata p) (Some BadCode)
bad_code_least nodata p has_data whole no_code = ((omega arith, omega arith), (λ h. no_code (h has_data).1), earlier)
  where
    earlier : (q : Rule) → IsPresenceRule q → rule_number q < 3 → profile1 nodata p q
    earlier q own less =
        elim (cases_eq (rule_number q) 1) [
          | inl first ↦ subst (profile1 nodata p) (sym (same_rule q VoidCell first)) (void_holds nodata p has_data)
          | inr later ↦ subst (profile1 nodata p) (sym (same_rule q Missing (omega arith))) (λ _. whole)
        ]

-- What holds of each product holds of all, and what holds of each that a set holds, of all these.

pub by_product : (P : Product → Type 0) → P Con → P Dir → P Acc → P Bas → P Spl → P Rnk → (p : Product) → P p
by_product P con dir acc bas spl rnk Con = con
by_product P con dir acc bas spl rnk Dir = dir
by_product P con dir acc bas spl rnk Acc = acc
by_product P con dir acc bas spl rnk Bas = bas
by_product P con dir acc bas spl rnk Spl = spl
by_product P con dir acc bas spl rnk Rnk = rnk

pub by_set_product : (P : SetProduct → Type 0) → P held.Con → P held.Dir → P held.Acc → P held.Bas → P held.Rnk → (p : SetProduct) → P p
by_set_product P con dir acc bas rnk held.Con = con
by_set_product P con dir acc bas rnk held.Dir = dir
by_set_product P con dir acc bas rnk held.Acc = acc
by_set_product P con dir acc bas rnk held.Bas = bas
by_set_product P con dir acc bas rnk held.Rnk = rnk

-- so a fact that says what holds of each says what holds of all
pub as_each : (P : Product → Type 0) (All : Type 0) → (All → P Con) → (All → P Dir) → (All → P Acc) → (All → P Bas) → (All → P Spl) → (All → P Rnk) →
    (P Con → P Dir → P Acc → P Bas → P Spl → P Rnk → All) → All ↔ ((p : Product) → P p)
as_each P All con dir acc bas spl rnk all = (
  (λ h. by_product P (con h) (dir h) (acc h) (bas h) (spl h) (rnk h)),
  (λ each. all (each Con) (each Dir) (each Acc) (each Bas) (each Spl) (each Rnk)),
)

pub as_each_held : (P : SetProduct → Type 0) (All : Type 0) → (All → P held.Con) → (All → P held.Dir) → (All → P held.Acc) → (All → P held.Bas) → (All → P held.Rnk) →
    (P held.Con → P held.Dir → P held.Acc → P held.Bas → P held.Rnk → All) → All ↔ ((p : SetProduct) → P p)
as_each_held P All con dir acc bas rnk all = (
  (λ h. by_set_product P (con h) (dir h) (acc h) (bas h) (rnk h)),
  (λ each. all (each held.Con) (each held.Dir) (each held.Acc) (each held.Bas) (each held.Rnk)),
)

-- and of the other product
pub by_set_product_or_spill : (P : Product → Type 0) → ((p : SetProduct) → P (product_of p)) → P Spl → (p : Product) → P p
by_set_product_or_spill P held_one spl Con = held_one held.Con
by_set_product_or_spill P held_one spl Dir = held_one held.Dir
by_set_product_or_spill P held_one spl Acc = held_one held.Acc
by_set_product_or_spill P held_one spl Bas = held_one held.Bas
by_set_product_or_spill P held_one spl Spl = spl
by_set_product_or_spill P held_one spl Rnk = held_one held.Rnk

-- a held product's fact is that of the product that it is
pub of_held : (P : SetProduct → Type 0) (p : SetProduct) → OfSetProduct P (product_of p) ↔ P p
of_held P held.Con = (λ h. h, λ h. h)
of_held P held.Dir = (λ h. h, λ h. h)
of_held P held.Acc = (λ h. h, λ h. h)
of_held P held.Bas = (λ h. h, λ h. h)
of_held P held.Rnk = (λ h. h, λ h. h)

-- where it is the fact of no held product, it is that of none
pub none_of_held : (P : SetProduct → Type 0) → ((p : SetProduct) → ¬ P p) → (p : Product) → ¬ OfSetProduct P p
none_of_held P none = by_set_product_or_spill (λ p. ¬ OfSetProduct P p) (λ p holds. none p ((of_held P p).0 holds)) (λ holds. holds)
