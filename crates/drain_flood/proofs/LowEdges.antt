-- The start: ways down and outlets, and then the cells of flats next to low edges, in row order.
use Rattle.drain_flood.proofs.Names.{◌≡◌, ◌≢◌, ℕ, ◌+◌, ◌*◌, ◌<◌, ◌≤◌, ◌∙◌, inl, inr, ℤ, pos, ◌==◌, cond, List, [], Option, Some, None, length, set, get_or, count_by, refl, sym, ap, subst, arith, if◌then◌else◌, All, cases_eq, ne_eqb, All-nil, sum_by-set, count_by-le-length, Cell, Direction, East, code_of, opposite, index_of, step, Extent, Grid, HasData, IsInside, cases, step_back, opposite_opposite, step_lies, open_cell, index_of-below, same_index, OPEN, REACHED, VOID, NO_RANK, Flooding, con_at, mark_at, IsSurfaceOf, first_rank, AreFirstRanks, Laying, way_at, rank_at, wayless, IsSettled, IsFlat, IsOnFlat, HasWay, IsLookedFor, IsToLook, AreLaid, Settles, IsSettledFrom, IsLowEdgeThere, with_ahead, IsWayDown, way_code, AreFirstCodes}
use Rattle.std.proofs.lemmas.List.{length-set}
use Rattle.drain_flood.proofs.Cells.{none_or_some}
use Rattle.drain_flood.proofs.Settling.{kept_by_settling, code_settles}
use Rattle.drain_flood.proofs.SteepestWays.{data_code}
use Rattle.drain_flood.proofs.Walking.{relaid}

-- fewer cells have no way than there are cells, if one has
not_all_wayless : (xs : List ℕ) (i : ℕ) → i < length xs → get_or xs i 0 ≢ REACHED → count_by (λ way. way == REACHED) xs < length xs
not_all_wayless xs i within coded =
    let f : ℕ → ℕ = λ way. cond (way == REACHED) 1 0 in
    let moved = sum_by-set f xs i REACHED 0 within in
    let here : f (get_or xs i 0) ≡ 0 = ap (λ b. cond b 1 0) (ne_eqb (get_or xs i 0) REACHED coded) in
    let there : f REACHED ≡ 1 = refl in
    let long : length (set xs i REACHED) ≡ length xs = length-set xs i REACHED in
    let most = count_by-le-length (λ way. way == REACHED) (set xs i REACHED) in
    omega (arith, moved, here, there, long, most)

open_differs : (code : ℕ) → code ≡ OPEN → code ≡ REACHED → ⊥
open_differs code outlet flat = absurd (omega arith)

rank_zero : (rank left cells : ℕ) → rank ≡ 0 → left < cells → rank + left < cells
rank_zero rank left cells is less = omega arith

code_no_void : (d : Direction) → code_of d ≢ VOID
code_no_void East h = absurd (omega arith)
code_no_void d h = absurd (omega arith)

-- the first codes and ranks, and an empty trail
module _ (g : Grid) (f : Flooding) (w : Laying) (flooded : IsSurfaceOf g f) (codes : AreFirstCodes g f w.way)
    (rank_long : length w.rnk ≡ g.extent.rows * g.extent.cols) (ranks : AreFirstRanks w.way w.rnk) (no_ahead : w.ahead ≡ []) where
  rank_here : (c : Cell) → IsInside g c → rank_at g.extent w c ≡ first_rank (way_at g.extent w c)
  rank_here c inside = ranks (index_of g.extent c) (subst (λ n. index_of g.extent c < n) (sym codes.counted) (index_of-below g.extent c inside))

  data_way : (c : Cell) → (code : ℕ) (way : Option Direction) → HasData g c → code ≡ way_code (mark_at g.extent f c) way → code ≢ VOID
  data_way c code None here is void = data_code g f c flooded here (sym is ∙ void)
  data_way c code (Some d) here is void = code_no_void d (sym is ∙ void)

  rank_is : (c : Cell) → HasData g c → rank_at g.extent w c ≡ 0
  rank_is c here =
      let way = codes.ways c here in
      rank_here c here.inside ∙ ap (λ b. if b then NO_RANK else 0) (ne_eqb (way_at g.extent w c) VOID (data_way c (way_at g.extent w c) way.way here way.is))

  flat_here : (c : Cell) → IsFlat g w c → (way : Option Direction) → IsWayDown g f c way → way_at g.extent w c ≡ way_code (mark_at g.extent f c) way → IsOnFlat g f c
  flat_here c flat None down is = record {
    shut = λ is_open. open_differs (mark_at g.extent f c) (flooded.opened c is_open).mark (sym is ∙ flat.code);
    lowest = down;
  }
  flat_here c flat (Some d) down is = absurd (code_settles d (sym is ∙ flat.code))

  way_here : (c : Cell) → IsSettled g w c → (way : Option Direction) → IsWayDown g f c way → way_at g.extent w c ≡ way_code (mark_at g.extent f c) way → HasWay g f w c
  way_here c settled (Some d) (n, steepest) is = inl (d, n, record { steepest = steepest; code = is })
  way_here c settled None down is =
      elim (cases (open_cell g c)) [
        | inl is_open ↦ inr (inl (record { opens = is_open; lowest = down; code = is ∙ (flooded.opened c is_open).mark }))
        | inr shut ↦ absurd (settled.code (is ∙ flooded.closed c settled.here shut))
      ]

  pub laid_first : AreLaid g f w 0 []
  laid_first = record {
    counted = record { way = codes.counted; rnk = rank_long };
    voids = λ c inside void.
        (let way = codes.voids c inside void in
        record { way = way; rank = rank_here c inside ∙ ap first_rank way });
    flat = λ c flat. (let way = codes.ways c flat.here in flat_here c flat way.way way.down way.is);
    ways = λ c settled. (let way = codes.ways c settled.here in way_here c settled way.way way.down way.is);
    frontier = λ c n d at_c at_n leads same. inr (rank_is c at_c.here, omega arith);
    ahead = subst (All (IsToLook g w)) (sym no_ahead) (All-nil (IsToLook g w));
    ranked = λ c settled. rank_zero (rank_at g.extent w c) (wayless w) (g.extent.rows * g.extent.cols) (rank_is c settled.here)
        (subst (λ n. wayless w < n) codes.counted
        (not_all_wayless w.way (index_of g.extent c) (subst (λ n. index_of g.extent c < n) (sym codes.counted) (index_of-below g.extent c settled.here.inside)) settled.code));
  }

later_on : (a b : ℕ) → b ≤ a → a ≢ b → b + 1 ≤ a
later_on a b most differ = omega arith

-- one cell more was looked at, which isn't next to a low edge if it has no way
pub looked_at : (g : Grid) (f : Flooding) (w : Laying) (n : Cell) → IsInside g n → AreLaid g f w (index_of g.extent n) [] →
    ((c : Cell) (d : Direction) → IsSettled g w c → IsFlat g w n → step g.extent c d ≡ Some n → con_at g.extent f n ≡ con_at g.extent f c →
    rank_at g.extent w c ≡ 0 → ⊥) → AreLaid g f w (index_of g.extent n + 1) []
looked_at g f w n inside laid none =
    relaid g f w (index_of g.extent n) (index_of g.extent n + 1) [] [] w.ahead laid
    (λ c m d at_c at_m leads same. kept c m d at_c at_m leads same (laid.frontier c m d at_c at_m leads same)) laid.ahead
  where
    kept : (c m : Cell) (d : Direction) → IsSettled g w c → IsFlat g w m → step g.extent c d ≡ Some m → con_at g.extent f m ≡ con_at g.extent f c →
        IsLookedFor g w (index_of g.extent n) [] c m → IsLookedFor g (with_ahead w w.ahead) (index_of g.extent n + 1) [] c m
    kept c m d at_c at_m leads same (inl held) = inl held
    kept c m d at_c at_m leads same (inr later) =
        elim (cases_eq (index_of g.extent m) (index_of g.extent n)) [
          | inl place ↦ (let one : m ≡ n = same_index g.extent m n at_m.here.inside inside place in
              absurd (none c d at_c (subst (IsFlat g w) one at_m) (leads ∙ ap (λ x. Some x) one) (subst (λ x. con_at g.extent f x ≡ con_at g.extent f c) one same) later.0))
          | inr other ↦ inr (later.0, later_on (index_of g.extent m) (index_of g.extent n) later.1 other)
        ]

-- it has its way already
pub looked_settled : (g : Grid) (f : Flooding) (w : Laying) (n : Cell) → IsInside g n → way_at g.extent w n ≢ REACHED → AreLaid g f w (index_of g.extent n) [] →
    AreLaid g f w (index_of g.extent n + 1) []
looked_settled g f w n inside coded laid = looked_at g f w n inside laid (λ c d at_c flat leads same low. coded flat.code)

-- it isn't next to a low edge
void_differs : (code : ℕ) → code ≡ OPEN → code ≡ VOID → ⊥
void_differs code outlet void = absurd (omega arith)

no_void : (g : Grid) (f : Flooding) (w : Laying) (c : Cell) → HasWay g f w c → way_at g.extent w c ≢ VOID
no_void g f w c (inl (d, n, is)) void = code_no_void d (sym is.code ∙ void)
no_void g f w c (inr (inl is)) void = void_differs (way_at g.extent w c) is.code void
no_void g f w c (inr (inr (d, n, is))) void = code_no_void d (sym is.code ∙ void)

pub looked_none : (g : Grid) (f : Flooding) (w : Laying) (n : Cell) (level : ℤ) → IsInside g n → level ≡ con_at g.extent f n →
    ((d : Direction) → IsLowEdgeThere g.extent f w n level d → ⊥) → AreLaid g f w (index_of g.extent n) [] → AreLaid g f w (index_of g.extent n + 1) []
looked_none g f w n level inside level_is none laid =
    looked_at g f w n inside laid (λ c d at_c flat leads same low.
    none (opposite d) (
      c,
      record {
        there = step_back g c n d at_c.here.inside leads;
        coded = at_c.code;
        no_void = no_void g f w c (laid.ways c at_c);
        height = sym same ∙ sym level_is;
        low = low;
      },
    ))

-- it is next to a low edge, and was settled from there
pub looked_found : (g : Grid) (f : Flooding) (old new : Laying) (n : Cell) (level : ℤ) (d : Direction) (code : ℕ) → IsInside g n → level ≡ con_at g.extent f n →
    way_at g.extent old n ≡ REACHED → IsLowEdgeThere g.extent f old n level d → code ≡ code_of d → Settles g.extent old new n code 1 →
    AreLaid g f old (index_of g.extent n) [] → AreLaid g f new (index_of g.extent n + 1) []
looked_found g f old new n level d code inside level_is flat (c, low_edge) code_is settles laid =
    let inside_c : IsInside g c = (step_lies g.extent n c d low_edge.there).0 in
    let here_c : HasData g c = elim (none_or_some (g.elevation c)) [
      | inl void ↦ absurd (low_edge.no_void (laid.voids c inside_c void).way)
      | inr some ↦ record { inside = inside_c; is_data = some }
    ] in
    let from : IsSettledFrom g f old c (opposite d) n code 1 = record {
      from = record { here = here_c; code = low_edge.coded };
      there = step_back g n c d inside low_edge.there;
      new = flat;
      level = sym level_is ∙ sym low_edge.height;
      code_is = code_is ∙ ap code_of (sym (opposite_opposite d));
      rank_is = ap (λ r. r + 1) (sym low_edge.low);
    } in
    let after = kept_by_settling g f old new (index_of g.extent n) [] c n (opposite d) code 1 laid from settles in
    looked_settled g f new n inside (λ h. code_settles d (sym (settles.way_there ∙ code_is) ∙ h)) after

-- the numbers at a cell's place are its code, rank and height
pub way_seen : (e : Extent) (seen now : Laying) (place : ℕ) (c : Cell) → seen ≡ now → e ≡ now.extent → place ≡ index_of seen.extent c →
    get_or now.way place 0 ≡ way_at e now c
way_seen e seen now place c view extent at =
    ap (λ k. get_or now.way k 0) (at ∙ (ap (λ (w : Laying). index_of w.extent c) view ∙ ap (λ x. index_of x c) (sym extent)))

pub level_seen : (e : Extent) (f : Flooding) (seen now : Laying) (place : ℕ) (c : Cell) → seen ≡ now → e ≡ now.extent → place ≡ index_of seen.extent c →
    get_or f.con place (pos 0) ≡ con_at e f c
level_seen e f seen now place c view extent at =
    ap (λ k. get_or f.con k (pos 0)) (at ∙ (ap (λ (w : Laying). index_of w.extent c) view ∙ ap (λ x. index_of x c) (sym extent)))

-- what has its way already is passed by, place by place
pub looked_coded : (g : Grid) (f : Flooding) (w : Laying) (k : ℕ) → get_or w.way k 0 ≢ REACHED → AreLaid g f w k [] → AreLaid g f w (k + 1) []
looked_coded g f w k coded laid =
    relaid g f w k (k + 1) [] [] w.ahead laid
    (λ c m d at_c at_m leads same. kept c m d at_c at_m leads same (laid.frontier c m d at_c at_m leads same)) laid.ahead
  where
    kept : (c m : Cell) (d : Direction) → IsSettled g w c → IsFlat g w m → step g.extent c d ≡ Some m → con_at g.extent f m ≡ con_at g.extent f c →
        IsLookedFor g w k [] c m → IsLookedFor g (with_ahead w w.ahead) (k + 1) [] c m
    kept c m d at_c at_m leads same (inl held) = inl held
    kept c m d at_c at_m leads same (inr later) =
        elim (cases_eq (index_of g.extent m) k) [
          | inl place ↦ absurd (coded (ap (λ i. get_or w.way i 0) (sym place) ∙ at_m.code))
          | inr other ↦ inr (later.0, later_on (index_of g.extent m) k later.1 other)
        ]
