use Rattle.drain_explain.proofs.Names.{ℕ, ◌<◌, IfSome, IsHeightAt}
use Rattle.drain_explain.proofs.refusal_detail.seam_detail.Given as goal

-- the first height is that of a tile before
abbrev pub invariant-loop-i : goal.invariant-loop-i
invariant-loop-i g l = IfSome l.first (λ value. (k : ℕ) × (k < l.i) × IsHeightAt g.L.FileLookup.shows l.layout l.cell k value)
