-- What holds of each product holds of all six.
use Rattle.std.proofs.Common.{IsTrue, rules}
use Rattle.drain_grid.proofs.ByProduct.{as_each}
use Rattle.drain_grid.proofs.values.CellValues.is_complete.Goals.{then-self-nodata, else-self-nodata, then-self-nodata-2, else-self-nodata-2, then-self-nodata-3, else-self-nodata-3, then-self-nodata-4, else-self-nodata-4}
use Rattle.drain_grid.proofs.values.CellValues.is_complete.Goals as goal

pub returns-then-self-nodata-5 : goal.returns-then-self-nodata-5
returns-then-self-nodata-5 c =
    as_each _ _ (λ h. search rules) (λ h. search rules) (λ h. search rules) (λ h. search rules) (λ h. search rules) (λ h. search rules) (λ con dir acc bas spl rnk. search rules)

pub returns-else-self-nodata-5 : goal.returns-else-self-nodata-5
returns-else-self-nodata-5 c =
    as_each _ _ (λ h. search rules) (λ h. search rules) (λ h. search rules) (λ h. search rules) (λ h. search rules) (λ h. search rules)
    (λ con dir acc bas spl rnk.
    let v1 : IsTrue c.if-self-nodata.value = elim c.if-self-nodata.branch [ then-self-nodata w ↦ search (rules, dir) | else-self-nodata w ↦ search (rules, con) ] in
    let v2 : IsTrue c.if-self-nodata-2.value = elim c.if-self-nodata-2.branch [ then-self-nodata-2 w ↦ search (rules, acc) | else-self-nodata-2 w ↦ search (rules, v1) ] in
    let v3 : IsTrue c.if-self-nodata-3.value = elim c.if-self-nodata-3.branch [ then-self-nodata-3 w ↦ search (rules, bas) | else-self-nodata-3 w ↦ search (rules, v2) ] in
    elim c.if-self-nodata-4.branch [ then-self-nodata-4 w ↦ search (rules, spl) | else-self-nodata-4 w ↦ search (rules, v3) ])
