use Rattle.std.proofs.Common.{inl, inr}
use Rattle.drain_grid.proofs.laws.open_without_sinks.Goals as goal

pub returns : goal.returns
returns c = λ g cell unlisted. (
  λ is. (record { inside = is.0; is_data = is.1.0 }, elim is.1.1 [ inl listed ↦ absurd (unlisted listed) | inr gap ↦ gap ]),
  λ told. (told.0.inside, (told.0.is_data, inr told.1)),
)
