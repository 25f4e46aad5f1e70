-- What holds of each product holds of all.
use Rattle.drain_rows.proofs.Names.{rules, as_each_held}
use Rattle.drain_rows.proofs.row_buffer.RowBuffer.is_even.Goals as goal

pub returns-then-len-4 : goal.returns-then-len-4
returns-then-len-4 c =
    as_each_held _ _ (λ h. search rules) (λ h. search rules) (λ h. search rules) (λ h. search rules) (λ h. search rules) (λ con dir acc bas rnk. search rules)

pub returns-else-len-4 : goal.returns-else-len-4
returns-else-len-4 c =
    as_each_held _ _ (λ h. search rules) (λ h. search rules) (λ h. search rules) (λ h. search rules) (λ h. search rules) (λ con dir acc bas rnk. search rules)
