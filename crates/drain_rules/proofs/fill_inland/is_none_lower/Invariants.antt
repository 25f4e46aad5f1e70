use Rattle.drain_rules.proofs.Names.{ℕ, ◌<◌, ◌≤ℤ◌, get_or, East, directions, con_at, place_beside}
use Rattle.drain_rules.proofs.fill_inland.is_none_lower.Given as goal

-- none of the neighbours that were looked at is lower
abbrev pub invariant-loop-direction : goal.invariant-loop-direction
invariant-loop-direction l =
    (k : ℕ) → k < l.direction-index → l.con ≤ℤ con_at l.input.shape.rows l.input.bytes.now (place_beside l.input.shape.rows l.place (get_or directions k East))
