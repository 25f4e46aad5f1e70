-- The walk along flats: a cell is taken, its neighbours are looked at direction by direction, and it is left.
use Rattle.drain_flood.proofs.Names.{◌≡◌, ◌≢◌, ℕ, ◌+◌, ◌*◌, ◌<◌, ◌≤◌, ◌∙◌, inl, inr, ℤ, ◌==◌, cond, List, [], ◌∷◌, ◌++◌, Some, Contains, length, set, get_or, drop, count_by, min, refl, sym, ap, subst, arith, All, cases_order, ne_eqb, length_push, drop-append-le, All-head, All-tail, All-weaker, sum_by-set, Cell, Direction, East, directions, code_of, opposite, IsCellOf, index_of, step, Extent, Grid, IsInside, same_some, index_of-below, same_index, of_each, REACHED, MAX_CELLS, Flooding, con_at, Laying, way_at, rank_at, wayless, IsSettled, IsFlat, HasWay, IsLookedFor, IsToLook, AreLaid, Settles, IsSettledFrom, IsWalk, NoneAt, IsWalked, IsPassed, IsLessWalk, with_ahead, IsNextPlace}
use Rattle.std.proofs.lemmas.Bool.{eq-eqb}
use Rattle.std.proofs.lemmas.List.{length-set}
use Rattle.drain_flood.proofs.Putting.{put_there, put_elsewhere}
use Rattle.drain_flood.proofs.Settling.{kept_by_settling, code_settles}
use Rattle.drain_flood.proofs.Turns.{cons_cases}

-- one fewer has no way
one_fewer : (xs : List ℕ) (place code : ℕ) → place < length xs → get_or xs place 0 ≡ REACHED → code ≢ REACHED →
    count_by (λ k. k == REACHED) (set xs place code) + 1 ≡ count_by (λ k. k == REACHED) xs
one_fewer xs place code within flat coded =
    let f : ℕ → ℕ = λ k. cond (k == REACHED) 1 0 in
    let moved = sum_by-set f xs place code 0 within in
    let before : f (get_or xs place 0) ≡ 1 = ap (λ b. cond b 1 0) (eq-eqb (get_or xs place 0) REACHED flat) in
    let after : f code ≡ 0 = ap (λ b. cond b 1 0) (ne_eqb code REACHED coded) in
    omega (arith, moved, before, after)

-- what was written and pushed was settled
put_settles : (e : Extent) (old new : Laying) (place : ℕ) (n : Cell) (code rank : ℕ) → IsCellOf e n → place ≡ index_of e n →
    length old.way ≡ e.rows * e.cols → length old.rnk ≡ e.rows * e.cols →
    way_at e old n ≡ REACHED → code ≢ REACHED →
    new.way ≡ set old.way place code → new.rnk ≡ set old.rnk place rank →
    new.ahead ≡ old.ahead ++ place ∷ [] → Settles e old new n code rank
put_settles e old new place n code rank inside at way_long rank_long flat coded way_is rank_is ahead =
    let below = index_of-below e n inside in
    let within : place < length old.way = omega (arith, below, way_long, at) in
    record {
      inside = inside;
      way_there = ap (λ xs. get_or xs (index_of e n) 0) way_is ∙ put_there e old.way place n code 0 inside way_long at;
      rank_there = ap (λ xs. get_or xs (index_of e n) 0) rank_is ∙ put_there e old.rnk place n rank 0 inside rank_long at;
      way_same = λ c inside_c differ. ap (λ xs. get_or xs (index_of e c) 0) way_is ∙ put_elsewhere e old.way place n c code 0 inside inside_c at differ;
      rank_same = λ c inside_c differ. ap (λ xs. get_or xs (index_of e c) 0) rank_is ∙ put_elsewhere e old.rnk place n c rank 0 inside inside_c at differ;
      way_long = ap (λ xs. length xs) way_is ∙ length-set old.way place code;
      rank_long = ap (λ xs. length xs) rank_is ∙ length-set old.rnk place rank;
      fewer = ap (λ xs. count_by (λ k. k == REACHED) xs + 1) way_is
          ∙ one_fewer old.way place code within (ap (λ k. get_or old.way k 0) at ∙ flat) coded;
      ahead = ahead ∙ ap (λ k. old.ahead ++ k ∷ []) at;
    }

put_settles_seen : (now : Laying) (e : Extent) (ways ranks trail more : List ℕ) (head : ℕ) →
    record { extent = e; way = ways; rnk = ranks; ahead = drop head trail } ≡ now →
    (place : ℕ) (n : Cell) (code rank : ℕ) → IsCellOf now.extent n → place ≡ index_of e n →
    length ways ≡ e.rows * e.cols → length ranks ≡ e.rows * e.cols → head ≤ length trail →
    way_at now.extent now n ≡ REACHED → code ≢ REACHED → more ≡ trail ++ place ∷ [] →
    Settles now.extent now (record { extent = e; way = set ways place code; rnk = set ranks place rank; ahead = drop head more }) n code rank
put_settles_seen now e ways ranks trail more head view place n code rank inside at way_long rank_long in_trail flat coded pushed =
    let old : Laying = record { extent = e; way = ways; rnk = ranks; ahead = drop head trail } in
    let new : Laying = record { extent = e; way = set ways place code; rnk = set ranks place rank; ahead = drop head more } in
    subst (λ s. IsCellOf s.extent n → way_at s.extent s n ≡ REACHED → Settles s.extent s new n code rank) view
    (λ inside_e flat_e. put_settles e old new place n code rank inside_e at way_long rank_long flat_e coded
    refl refl (ap (λ xs. drop head xs) pushed ∙ drop-append-le head trail (place ∷ []) in_trail))
    inside flat

pub put_settles_at : (now : Laying) (e : Extent) (ways ranks trail more : List ℕ) (head : ℕ) →
    record { extent = e; way = ways; rnk = ranks; ahead = drop head trail } ≡ now →
    (place code rank : ℕ) →
    length ways ≡ e.rows * e.cols → length ranks ≡ e.rows * e.cols → head ≤ length trail →
    get_or now.way place 0 ≡ REACHED → code ≢ REACHED → more ≡ trail ++ place ∷ [] →
    (n : Cell) → IsCellOf now.extent n → place ≡ index_of now.extent n →
    Settles now.extent now (record { extent = e; way = set ways place code; rnk = set ranks place rank; ahead = drop head more }) n code rank
put_settles_at now e ways ranks trail more head view place code rank way_long rank_long in_trail flat coded pushed n inside at =
    let extent : now.extent ≡ e = ap (λ (f : Laying). f.extent) (sym view) in
    put_settles_seen now e ways ranks trail more head view place n code rank inside (at ∙ ap (λ x. index_of x n) extent)
    way_long rank_long in_trail (ap (λ k. get_or now.way k 0) (sym at) ∙ flat) coded pushed

-- one direction more
pub walk_more : (g : Grid) (e : Extent) (f : Flooding) (old new : Laying) (k : ℕ) (busy : List ℕ) (c : Cell) (level : ℤ) (rank i : ℕ) →
    g.extent ≡ e → level ≡ con_at g.extent f c → IsWalked g f old k busy c rank i →
    IsWalk e f old new c (get_or directions i East) level rank → IsWalked g f new k busy c rank (i + 1)
walk_more g e f old new k busy c level rank i extent level_is walked walk =
    by_case (subst (λ x. IsWalk x f old new c (get_or directions i East) level rank) (sym extent) walk)
  where
    by_case : IsWalk g.extent f old new c (get_or directions i East) level rank → IsWalked g f new k busy c rank (i + 1)
    by_case (inl stays) =
        subst (λ w. IsWalked g f w k busy c rank (i + 1)) (sym stays.same) (record {
          laid = walked.laid;
          settled = walked.settled;
          rank_is = walked.rank_is;
          passed = λ j less. elim (cases_order j i) [
            | inl here ↦ subst (λ x. NoneAt g f old c (get_or directions x East)) (sym here)
                (λ n flat there same. stays.none n (record { there = there; flat = flat.code; height = same ∙ sym level_is }))
            | inr (inl before) ↦ walked.passed j before
            | inr (inr after) ↦ absurd (omega (arith, less, after))
          ];
        })
    by_case (inr (n, goes)) =
        let d = get_or directions i East in
        let from : IsSettledFrom g f old c d n (code_of (opposite d)) rank = record {
          from = walked.settled;
          there = goes.is.there;
          new = goes.is.flat;
          level = goes.is.height ∙ level_is;
          code_is = refl;
          rank_is = walked.rank_is;
        } in
        let settles = goes.settles in
        let after = kept_by_settling g f old new k busy c n d (code_of (opposite d)) rank walked.laid from settles in
        let differ : c ≢ n = λ same. walked.settled.code (ap (way_at g.extent old) same ∙ goes.is.flat) in
        let was_flat : (m : Cell) → IsFlat g new m → IsFlat g old m =
        λ m flat. (let other : m ≢ n = λ same. code_settles (opposite d) (sym settles.way_there ∙ (ap (way_at g.extent new) (sym same) ∙ flat.code)) in
        record { here = flat.here; code = sym (settles.way_same m flat.here.inside other) ∙ flat.code }) in
        record {
          laid = after;
          settled = record { here = walked.settled.here; code = λ h. walked.settled.code (sym (settles.way_same c walked.settled.here.inside differ) ∙ h) };
          rank_is = walked.rank_is ∙ ap (λ r. r + 1) (sym (settles.rank_same c walked.settled.here.inside differ));
          passed = λ j less. elim (cases_order j i) [
            | inl here ↦ subst (λ x. NoneAt g f new c (get_or directions x East)) (sym here)
                (λ m flat there same.
                (let one : m ≡ n = same_some m n (sym there ∙ goes.is.there) in
                code_settles (opposite d) (sym settles.way_there ∙ (ap (way_at g.extent new) (sym one) ∙ flat.code))))
            | inr (inl before) ↦ (λ m flat there same. walked.passed j before m (was_flat m flat) there same)
            | inr (inr later) ↦ absurd (omega (arith, less, later))
          ];
        }

-- before the first direction
pub walk_none : (g : Grid) (f : Flooding) (w : Laying) (k : ℕ) (busy : List ℕ) (c : Cell) (rank : ℕ) → AreLaid g f w k busy → IsSettled g w c →
    rank ≡ rank_at g.extent w c + 1 → IsWalked g f w k busy c rank 0
walk_none g f w k busy c rank laid settled is = record { laid = laid; settled = settled; rank_is = is; passed = λ j less. absurd (omega (arith, less)) }

-- past the last
pub walk_all : (g : Grid) (f : Flooding) (w : Laying) (k : ℕ) (busy : List ℕ) (c : Cell) (rank i : ℕ) → i ≡ 8 → IsWalked g f w k busy c rank i →
    IsPassed g f w k busy c
walk_all g f w k busy c rank i last walked = record {
  laid = walked.laid;
  settled = walked.settled;
  none = of_each (NoneAt g f w c) i last walked.passed;
}

-- a rank of 32 bits has room for one more
pub rank_seen : (g : Grid) (e : Extent) (f : Flooding) (w : Laying) (k : ℕ) (busy : List ℕ) (c : Cell) (r told : ℕ) → g.extent ≡ e →
    AreLaid g f w k busy → IsSettled g w c → r ≡ rank_at e w c → e.rows * e.cols ≤ MAX_CELLS → told ≡ min (r + 1) 4294967295 →
    told ≡ rank_at g.extent w c + 1
rank_seen g e f w k busy c r told extent laid settled is few sum =
    let ranked = laid.ranked c settled in
    let here : r ≡ rank_at g.extent w c = is ∙ ap (λ x. rank_at x w c) (sym extent) in
    let few_g : g.extent.rows * g.extent.cols ≤ MAX_CELLS = subst (λ (x : Extent). x.rows * x.cols ≤ MAX_CELLS) (sym extent) few in
    fits r told (rank_at g.extent w c) (wayless w) (g.extent.rows * g.extent.cols) here ranked few_g sum
  where
    fits : (r told rnk left cells : ℕ) → r ≡ rnk → rnk + left < cells → cells ≤ MAX_CELLS → told ≡ min (r + 1) 4294967295 → told ≡ rnk + 1
    fits r told rnk left cells here ranked few sum = omega arith

-- what is done in a direction leaves no more to do
pub less_more : (e : Extent) (f : Flooding) (first old new : Laying) (c : Cell) (d : Direction) (level : ℤ) (rank : ℕ) →
    IsLessWalk first old → IsWalk e f old new c d level rank → IsLessWalk first new
less_more e f first old new c d level rank less (inl stays) = subst (IsLessWalk first) (sym stays.same) less
less_more e f first old new c d level rank less (inr (n, goes)) =
    let settles = goes.settles in
    let long : length new.ahead ≡ length old.ahead + 1 = ap (λ xs. length xs) settles.ahead ∙ length_push old.ahead (index_of e n) in
    record {
      fewer = fall (wayless new) (wayless old) (wayless first) settles.fewer less.fewer;
      same = balance (wayless new) (wayless old) (wayless first) (length new.ahead) (length old.ahead) (length first.ahead) settles.fewer long less.same;
    }
  where
    fall : (a b c : ℕ) → a + 1 ≡ b → b ≤ c → a ≤ c
    fall a b c one most = omega arith

    balance : (a b c x y z : ℕ) → a + 1 ≡ b → x ≡ y + 1 → b + y ≡ c + z → a + x ≡ c + z
    balance a b c x y z one more is = omega arith

-- if each settled cell next to one of its height without a way is on the trail or a low edge, the walk goes on with
-- other lists, and from another place on
pub relaid : (g : Grid) (f : Flooding) (w : Laying) (k other : ℕ) (busy others ahead : List ℕ) → AreLaid g f w k busy →
    ((c n : Cell) (d : Direction) → IsSettled g w c → IsFlat g w n → step g.extent c d ≡ Some n → con_at g.extent f n ≡ con_at g.extent f c →
    IsLookedFor g (with_ahead w ahead) other others c n) → All (IsToLook g w) (others ++ ahead) → AreLaid g f (with_ahead w ahead) other others
relaid g f w k other busy others ahead laid kept among = record {
  counted = record { way = laid.counted.way; rnk = laid.counted.rnk };
  voids = λ c inside void. (let blank = laid.voids c inside void in record { way = blank.way; rank = blank.rank });
  flat = λ c flat. laid.flat c (record { here = flat.here; code = flat.code });
  ways = λ c settled. way_still c (laid.ways c (record { here = settled.here; code = settled.code }));
  frontier = λ c n d at_c at_n leads same. kept c n d (record { here = at_c.here; code = at_c.code }) (record { here = at_n.here; code = at_n.code }) leads same;
  ahead = All-weaker (IsToLook g w) (IsToLook g (with_ahead w ahead))
      (λ p is. record { cell = is.cell; settled = record { here = is.settled.here; code = is.settled.code }; place_is = is.place_is }) (others ++ ahead) among;
  ranked = λ c settled. laid.ranked c (record { here = settled.here; code = settled.code });
}
  where
    way_still : (c : Cell) → HasWay g f w c → HasWay g f (with_ahead w ahead) c
    way_still c (inl (d, n, is)) = inl (d, n, record { steepest = is.steepest; code = is.code })
    way_still c (inr (inl is)) = inr (inl (record { opens = is.opens; lowest = is.lowest; code = is.code }))
    way_still c (inr (inr (d, n, is))) = inr (inr (
      d,
      n,
      record {
        shut = is.shut;
        lowest = is.lowest;
        code = is.code;
        there = is.there;
        settled = record { here = is.settled.here; code = is.settled.code };
        level = is.level;
        nearer = is.nearer;
      },
    ))

-- the next cell is taken: it is settled, and busy
pub next_laid : (g : Grid) (f : Flooding) (old new : Laying) (k : ℕ) (c : Cell) → g.extent ≡ old.extent → AreLaid g f old k [] → IsNextPlace old new c →
    AreLaid g f new k (index_of g.extent c ∷ []) × IsSettled g new c
next_laid g f old new k c extent laid next =
    let first : old.ahead ≡ index_of g.extent c ∷ new.ahead = subst (λ e. old.ahead ≡ index_of e c ∷ new.ahead) (sym extent) next.first in
    let inside : IsInside g c = subst (λ e. IsCellOf e c) (sym extent) next.inside in
    let now : AreLaid g f new k (index_of g.extent c ∷ []) = subst (λ w. AreLaid g f w k (index_of g.extent c ∷ [])) (sym next.rest)
    (relaid g f old k k [] (index_of g.extent c ∷ []) new.ahead laid
    (λ a n d at_a at_n leads same. kept first a n (laid.frontier a n d at_a at_n leads same))
    (subst (All (IsToLook g old)) first laid.ahead)) in
    let top = All-head (IsToLook g new) (index_of g.extent c) new.ahead now.ahead in
    (now, subst (IsSettled g new) (sym (same_index g.extent c top.cell inside top.settled.here.inside top.place_is)) top.settled)
  where
    kept : old.ahead ≡ index_of g.extent c ∷ new.ahead → (a n : Cell) → IsLookedFor g old k [] a n →
        IsLookedFor g (with_ahead old new.ahead) k (index_of g.extent c ∷ []) a n
    kept first a n (inl held) = inl (subst (λ xs. Contains xs (index_of g.extent a)) first held)
    kept first a n (inr later) = inr later

-- a cell that was passed is left
pub passed_laid : (g : Grid) (f : Flooding) (w : Laying) (k : ℕ) (c : Cell) → IsInside g c → IsPassed g f w k (index_of g.extent c ∷ []) c → AreLaid g f w k []
passed_laid g f w k c inside passed =
    relaid g f w k k (index_of g.extent c ∷ []) [] w.ahead passed.laid
    (λ a n d at_a at_n leads same. kept a n d at_a at_n leads same (passed.laid.frontier a n d at_a at_n leads same))
    (All-tail (IsToLook g w) (index_of g.extent c) w.ahead passed.laid.ahead)
  where
    kept : (a n : Cell) (d : Direction) → IsSettled g w a → IsFlat g w n → step g.extent a d ≡ Some n → con_at g.extent f n ≡ con_at g.extent f a →
        IsLookedFor g w k (index_of g.extent c ∷ []) a n → IsLookedFor g (with_ahead w w.ahead) k [] a n
    kept a n d at_a at_n leads same (inr later) = inr later
    kept a n d at_a at_n leads same (inl held) =
        elim (cons_cases (index_of g.extent c) w.ahead (index_of g.extent a) held) [
          | inl here ↦ (let one : c ≡ a = same_index g.extent c a inside at_a.here.inside here in
              absurd (subst (λ x. NoneAt g f w x d) one (passed.none d) n at_n leads same))
          | inr after ↦ inl after
        ]

-- one turn of the walk
pub turn : (g : Grid) (f : Flooding) (s0 s1 s2 : Laying) (k : ℕ) (c : Cell) → g.extent ≡ s0.extent → g.extent ≡ s1.extent → IsNextPlace s0 s1 c →
    ((g : Grid) (k : ℕ) (busy : List ℕ) → g.extent ≡ s1.extent → IsSettled g s1 c → AreLaid g f s1 k busy → IsPassed g f s2 k busy c) →
    AreLaid g f s0 k [] → AreLaid g f s2 k []
turn g f s0 s1 s2 k c e0 e1 next around laid =
    let inside : IsInside g c = subst (λ e. IsCellOf e c) (sym e0) next.inside in
    let now = next_laid g f s0 s1 k c e0 laid next in
    passed_laid g f s2 k c inside (around g k (index_of g.extent c ∷ []) e1 now.1 now.0)
