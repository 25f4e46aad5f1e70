-- The open cells so far.
use Rattle.drain_flood.proofs.Names.{◌≡◌, ℕ, ◌<◌, Contains, slice_index, All, OPEN, IsOpenPlace}
use Rattle.drain_flood.proofs.open_cells.open_places.Given as goal

abbrev pub invariant-loop-place : goal.invariant-loop-place
invariant-loop-place l = record {
  all : (place : ℕ) → place < l.place → slice_index l.marks place ≡ OPEN → Contains l.places.items place;
  open_alone : All (IsOpenPlace l.marks) l.places.items;
}
