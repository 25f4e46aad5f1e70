-- What flows say of cells: which have data, which end there, and where each leads.
use Rattle.drain_paths.proofs.Names.{◌≡◌, ◌≢◌, ◌∙◌, ℤ, pos, Bool, true, inl, inr, if◌then◌else◌, List, Option, Some, None, IsSome, IsNone, refl, sym, ap, subst, rules, option_map_or, int_eq, cases_Bool, false≢true, Cell, Direction, East, SouthEast, South, SouthWest, West, NorthWest, North, NorthEast, named_direction, IsCellOf, step, Extent, Grid, Products, IsInside, HasData, next, none_some, void_data, Flow, Ends, ToEast, ToSouthEast, ToSouth, ToSouthWest, ToWest, ToNorthWest, ToNorth, ToNorthEast, direction_of, flow_to, code_flow, cell_flow, flow_at, AreFlowsOf, IsKnownFlow, AreKnownFlows}
use Rattle.drain_paths.specs.declared.flow.Flow.TheVariants.{Void, Lost}
use Rattle.drain_paths.proofs.KnownWays.{AreKnownFlows-grid, stuck_outside, stuck_void, leads_on}
use Rattle.drain_paths.proofs.NextCells.{next-unnamed, next-of_no_code}

pub with_height : (z : Option ℤ) (n : ℤ) → IsSome z → cell_flow z n ≡ code_flow n
with_height None n some = absurd (false≢true some)
with_height (Some z) n some = refl

-- a direction's flow is no end, nor is that of a number that is no code
leads_or_lost : (o : Option Direction) → option_map_or flow_to o Lost ≡ Ends → ⊥
leads_or_lost None h = cc
leads_or_lost (Some East) h = cc
leads_or_lost (Some d) h = cc

is_zero : (n : ℤ) → int_eq n (pos 0) ≡ true → n ≡ pos 0
is_zero n h = search rules

-- so an end's number is 0
zero_of_end : (n : ℤ) → code_flow n ≡ Ends → n ≡ pos 0
zero_of_end n ends = elim (cases_Bool (int_eq n (pos 0))) [
  | inl zero ↦ is_zero n zero
  | inr other ↦ absurd (leads_or_lost (named_direction n)
      (subst (λ (b : Bool). (if b then Ends else option_map_or flow_to (named_direction n) Lost) ≡ Ends) other ends))
]

-- a flow that leads nowhere
nowhere : (g : Grid) (ps : Products) (c : Cell) (f : Flow) → IsKnownFlow g ps c f → (f ≡ Ends → ps.dir c ≡ pos 0) → HasData g c →
    direction_of f ≡ None → next g ps c ≡ None
nowhere g ps c Ends known zero here leads = next-unnamed g ps c (ap named_direction (zero refl))
nowhere g ps c Void known zero here leads = absurd (void_data (g.elevation c) (known.void refl) here.is_data)
nowhere g ps c Lost known zero here leads = next-of_no_code g ps c (known.lost refl)
nowhere g ps c ToEast known zero here leads = absurd (none_some East (sym leads))
nowhere g ps c ToSouthEast known zero here leads = absurd (none_some SouthEast (sym leads))
nowhere g ps c ToSouth known zero here leads = absurd (none_some South (sym leads))
nowhere g ps c ToSouthWest known zero here leads = absurd (none_some SouthWest (sym leads))
nowhere g ps c ToWest known zero here leads = absurd (none_some West (sym leads))
nowhere g ps c ToNorthWest known zero here leads = absurd (none_some NorthWest (sym leads))
nowhere g ps c ToNorth known zero here leads = absurd (none_some North (sym leads))
nowhere g ps c ToNorthEast known zero here leads = absurd (none_some NorthEast (sym leads))

module _ (g : Grid) (ps : Products) (e : Extent) (flows : List Flow) (are : AreFlowsOf g ps e flows) where
  known : AreKnownFlows g ps e flows
  known = AreKnownFlows-grid g ps e flows are

  -- a data cell's flow is no void, and the other way round
  pub flow_of_data : (c : Cell) → HasData g c → flow_at e flows c ≢ Void
  flow_of_data c here void = void_data (g.elevation c) ((known.each c here.inside).void void) here.is_data

  pub data_of_flow : (c : Cell) → IsInside g c → flow_at e flows c ≢ Void → HasData g c
  data_of_flow c inside some = record { inside = inside; is_data = (known.each c inside).has_data some }

  pub data_at : (c : Cell) → IsCellOf e c → flow_at e flows c ≢ Void → HasData g c
  data_at c inside some = data_of_flow c (subst (λ (x : Extent). IsCellOf x c) (sym are.extent) inside) some

  pub flow_of_void : (c : Cell) → IsInside g c → IsNone (g.elevation c) → flow_at e flows c ≡ Void
  flow_of_void c inside void = are.each c inside ∙ at_void (g.elevation c) (ps.dir c) void
    where
      at_void : (z : Option ℤ) (n : ℤ) → IsNone z → cell_flow z n ≡ Void
      at_void None n none = refl
      at_void (Some z) n none = absurd (false≢true (sym none))

  -- it is an end exactly where the code is 0
  pub zero_of_flow : (c : Cell) → HasData g c → flow_at e flows c ≡ Ends → ps.dir c ≡ pos 0
  zero_of_flow c here ends =
      zero_of_end (ps.dir c) (sym (are.each c here.inside ∙ with_height (g.elevation c) (ps.dir c) here.is_data) ∙ ends)

  pub flow_of_zero : (c : Cell) → HasData g c → ps.dir c ≡ pos 0 → flow_at e flows c ≡ Ends
  flow_of_zero c here is_zero = are.each c here.inside ∙ with_height (g.elevation c) (ps.dir c) here.is_data ∙ ap code_flow is_zero

  -- where the flow of a data cell leads
  pub leads_nowhere : (c : Cell) → HasData g c → direction_of (flow_at e flows c) ≡ None → next g ps c ≡ None
  leads_nowhere c here leads = nowhere g ps c (flow_at e flows c) (known.each c here.inside) (zero_of_flow c here) here leads

  module _ (c : Cell) (here : HasData g c) (d : Direction) (leads : direction_of (flow_at e flows c) ≡ Some d) where
    pub leads_outside : step e c d ≡ None → next g ps c ≡ None
    leads_outside outside = (stuck_outside g ps e are.extent c (flow_at e flows c) (known.each c here.inside) d leads outside).0

    pub leads_to_void : (n : Cell) → IsInside g n → step e c d ≡ Some n → flow_at e flows n ≡ Void → next g ps c ≡ None
    leads_to_void n there to_n void =
        (stuck_void g ps e are.extent c (flow_at e flows c) (known.each c here.inside) d n (flow_at e flows n) leads to_n (known.each n there) void).0

    pub leads_to_data : (n : Cell) → IsInside g n → step e c d ≡ Some n → flow_at e flows n ≢ Void → next g ps c ≡ Some n
    leads_to_data n there to_n some =
        leads_on g ps e are.extent c (flow_at e flows c) (known.each c here.inside) d n (flow_at e flows n) leads to_n (known.each n there) some
