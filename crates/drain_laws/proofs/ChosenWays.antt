-- On a surface that drains each cell has a direction: the steepest way down, none at an outlet, else along the flat to a
-- cell with a smaller rank. With these directions and ranks rules 10 to 12 hold.
use Rattle.drain_laws.proofs.Names.{◌≡◌, ◌⊎◌, inl, inr, ℤ, pos, negsuc, refl, arith, ints, Cell, Direction, Slope, OutletCode, FlatStep, IsCode, Names, code_of, Grid, Products, HasData, patch_at, values_at, RulesHold, IsOpen, HasLower, flow_rules, SlopeHolds, OutletCodeHolds, FlatStepHolds, Drains, IsWayRule, IsSteepest, cases, step_lies, has_lower, is_open, data_cell, shown_cell, steepest_cell, IsSteepest-cell}
use Rattle.drain_laws.proofs.NearEdges.{IsStepOn, rank_of, step_on}
use Rattle.drain_laws.proofs.SameWays.{steepest_there, open_there, open_back, low_there, low_back}
use Rattle.drain_laws.proofs.SteepestWays.{some_steepest}

module _ (g : Grid) (ps : Products) (drains : Drains g ps.con) where
  -- the steepest way down
  record GoesDown (c : Cell) (code : ℤ) : Type 0 where
    low : HasLower (patch_at g ps c)
    way : Direction
    named : Names code way
    steepest : IsSteepest (patch_at g ps c) way

  -- an outlet, which has code 0
  record Stops (c : Cell) (code : ℤ) : Type 0 where
    opens : IsOpen (patch_at g ps c)
    flat : ¬ HasLower (patch_at g ps c)
    is_zero : code ≡ pos 0

  -- along the flat, to a smaller rank
  record GoesAlong (c : Cell) (code : ℤ) : Type 0 where
    shut : ¬ IsOpen (patch_at g ps c)
    flat : ¬ HasLower (patch_at g ps c)
    way : Direction
    named : Names code way
    to : Cell
    nearer : IsStepOn g ps drains c (rank_of g ps drains c) way to

  abbrev HasWay : Cell → ℤ → Type 0
  HasWay c code = GoesDown c code ⊎ (Stops c code ⊎ GoesAlong c code)

  way_from : (c : Cell) → HasData g c → (code : ℤ) × HasWay c code
  way_from c here =
      elim (cases (has_lower (patch_at g ps c))) [
        | inl low ↦
            (let steepest = some_steepest (patch_at g ps c) low in
            (pos (code_of steepest.0), inl (record { low = low; way = steepest.0; named = refl; steepest = steepest.1 })))
        | inr flat ↦
            elim (cases (is_open (patch_at g ps c))) [
              | inl opens ↦ (pos 0, inr (inl (record { opens = opens; flat = flat; is_zero = refl })))
              | inr shut ↦
                  (let on = step_on g ps drains c here shut flat in
                  (pos (code_of on.0), inr (inr (record { shut = shut; flat = flat; way = on.0; named = refl; to = on.1.0; nearer = on.1.1 }))))
            ]
      ]

  -- the code of a data cell, and -1 elsewhere
  record IsCodeAt (c : Cell) (code : ℤ) : Type 0 where
    has_way : HasData g c → HasWay c code
    off_data : ¬ HasData g c → code ≡ negsuc 0

  coded : (c : Cell) → (code : ℤ) × IsCodeAt c code
  coded c =
      elim (cases (data_cell g c)) [
        | inl here ↦ (let way = way_from c here in (way.0, record { has_way = λ h. way.1; off_data = λ none. absurd (none here) }))
        | inr none ↦ (negsuc 0, record { has_way = λ here. absurd (none here); off_data = λ h. refl })
      ]

  pub chosen : Cell → ℤ
  chosen c = (coded c).0

  chosen-is : (c : Cell) → IsCodeAt c (chosen c)
  unfolding chosen
  chosen-is c = (coded c).1

  -- the surface with these directions and ranks
  abbrev pub routed : Products
  routed = record {
    con = ps.con;
    dir = chosen;
    acc = ps.acc;
    bas = ps.bas;
    spl = ps.spl;
    rnk = λ c. pos (rank_of g ps drains c);
  }

  pub void_code : (c : Cell) → ¬ HasData g c → routed.dir c ≡ negsuc 0
  void_code c none = (chosen-is c).off_data none

  pub data_code : (c : Cell) → HasData g c → IsCode (routed.dir c)
  data_code c here =
      elim ((chosen-is c).has_way here) [
        | inl down ↦ inr (down.way, down.named)
        | inr (inl stops) ↦ inl stops.is_zero
        | inr (inr along) ↦ inr (along.way, along.named)
      ]

  module _ (c : Cell) (here : HasData g c) where
    way_here : HasWay c (routed.dir c)
    way_here = (chosen-is c).has_way here

    goes_down : SlopeHolds (patch_at g routed c)
    goes_down low =
        let low_here = low_back g ps routed c here.inside low in
        elim way_here [
          | inl down ↦
              (let cell = steepest_cell g ps c down.way here down.steepest in
              (down.way, down.named, (IsSteepest-cell g routed c cell.0 down.way here cell.1).1 (steepest_there g ps routed c cell.0 cell.2)))
          | inr (inl stops) ↦ absurd (stops.flat low_here)
          | inr (inr along) ↦ absurd (along.flat low_here)
        ]

    stops_at_outlet : OutletCodeHolds (patch_at g routed c)
    stops_at_outlet opens flat =
        elim way_here [
          | inl down ↦ absurd (flat (low_there g ps routed c here.inside down.low))
          | inr (inl stops) ↦ stops.is_zero
          | inr (inr along) ↦ absurd (along.shut (open_back g ps routed c here.inside opens))
        ]

    goes_along : FlatStepHolds (patch_at g routed c)
    goes_along closed flat =
        elim way_here [
          | inl down ↦ absurd (flat (low_there g ps routed c here.inside down.low))
          | inr (inl stops) ↦ absurd (closed.1 (open_there g ps routed c here.inside stops.opens))
          | inr (inr along) ↦
              (let on = along.nearer in
              let less = on.nearer in (
                along.way,
                values_at g routed along.to,
                record {
                  named = along.named;
                  beside = shown_cell g routed c along.to along.way on.to_data (step_lies g.extent c along.to along.way on.there).1;
                  level = on.level;
                  nearer = omega (arith, ints, less);
                },
              ))
        ]

  pub way_rules : RulesHold flow_rules IsWayRule g routed
  way_rules c Slope inside own = λ low. goes_down c (record { inside = inside; is_data = low.0 }) low
  way_rules c OutletCode inside own = λ opens flat. stops_at_outlet c (record { inside = inside; is_data = opens.0 }) opens flat
  way_rules c FlatStep inside own = λ closed flat. goes_along c (record { inside = inside; is_data = closed.0 }) closed flat
  way_rules c r inside own = absurd (omega (arith, own.0, own.1))
