-- What holds of each product holds of all six.
use Rattle.std.proofs.Common.{rules}
use Rattle.drain_grid.proofs.ByProduct.{as_each}
use Rattle.drain_grid.proofs.values.CellValues.is_blank.Goals as goal

pub returns-then-self-nodata-5 : goal.returns-then-self-nodata-5
returns-then-self-nodata-5 c =
    as_each _ _ (λ h. search rules) (λ h. search rules) (λ h. search rules) (λ h. search rules) (λ h. search rules) (λ h. search rules) (λ con dir acc bas spl rnk. search rules)

pub returns-else-self-nodata-5 : goal.returns-else-self-nodata-5
returns-else-self-nodata-5 c =
    as_each _ _ (λ h. search rules) (λ h. search rules) (λ h. search rules) (λ h. search rules) (λ h. search rules) (λ h. search rules) (λ con dir acc bas spl rnk. search rules)
