-- Numbers that are written at one place: the numbers of each cell afterwards.
use Rattle.drain_flood.proofs.Names.{Flooding, Reaches, mark_at, REACHED, UNREACHED, same_index, place, index_of-below, Extent, IsCellOf, index_of, Cell, List, [], ap, arith, cond, count_by, get_or, get_or-set_other, get_or-set_same, length, pos, refl, set, subst, sym, ℕ, ℤ, ◌*◌, ◌++◌, ◌+◌, ◌<◌, ◌==◌, ◌∙◌, ◌∷◌, ◌≡◌, ◌≢◌, ne_eqb, sum_by-set}
use Rattle.std.proofs.lemmas.Bool.{eq-eqb}
use Rattle.std.proofs.lemmas.List.{length-set}

-- a number written at a cell's place is there
pub put_there : {X : Type 0} (e : Extent) (xs : List X) (place : ℕ) (n : Cell) (x d : X) → IsCellOf e n → length xs ≡ e.rows * e.cols →
    place ≡ index_of e n → get_or (set xs place x) (index_of e n) d ≡ x
put_there e xs place n x d inside long at =
    let below = index_of-below e n inside in
    let within : index_of e n < length xs = omega (arith, below, long) in
    ap (λ k. get_or (set xs k x) (index_of e n) d) at ∙ get_or-set_same xs (index_of e n) x d within

-- and nowhere else
pub put_elsewhere : {X : Type 0} (e : Extent) (xs : List X) (place : ℕ) (n c : Cell) (x d : X) → IsCellOf e n → IsCellOf e c → place ≡ index_of e n →
    c ≢ n → get_or (set xs place x) (index_of e c) d ≡ get_or xs (index_of e c) d
put_elsewhere e xs place n c x d inside_n inside_c at differ =
    get_or-set_other xs place (index_of e c) x d (λ same. differ (same_index e c n inside_c inside_n (same ∙ at)))

-- one fewer is unreached
pub one_fewer : (xs : List ℕ) (place code : ℕ) → place < length xs → get_or xs place 0 ≡ UNREACHED → code ≢ UNREACHED →
    count_by (λ k. k == UNREACHED) (set xs place code) + 1 ≡ count_by (λ k. k == UNREACHED) xs
one_fewer xs place code within fresh reached =
    let f : ℕ → ℕ = λ k. cond (k == UNREACHED) 1 0 in
    let moved = sum_by-set f xs place code 0 within in
    let before : f (get_or xs place 0) ≡ 1 = ap (λ b. cond b 1 0) (eq-eqb (get_or xs place 0) UNREACHED fresh) in
    let after : f code ≡ 0 = ap (λ b. cond b 1 0) (ne_eqb code UNREACHED reached) in
    omega (arith, moved, before, after)

-- what was written and pushed was reached
pub put_reaches : (e : Extent) (old new : Flooding) (place : ℕ) (n : Cell) (con : ℤ) → IsCellOf e n → place ≡ index_of e n →
    length old.con ≡ e.rows * e.cols → length old.mark ≡ e.rows * e.cols →
    mark_at e old n ≡ UNREACHED →
    new.con ≡ set old.con place con → new.mark ≡ set old.mark place REACHED →
    new.ahead ≡ old.ahead ++ place ∷ [] → new.waiting ≡ old.waiting → Reaches e old new n con
put_reaches e old new place n con inside at con_long mark_long fresh con_is mark_is ahead waiting =
    let below = index_of-below e n inside in
    let within : place < length old.mark = omega (arith, below, mark_long, at) in
    record {
      inside = inside;
      con_there = ap (λ xs. get_or xs (index_of e n) (pos 0)) con_is ∙ put_there e old.con place n con (pos 0) inside con_long at;
      mark_there = ap (λ xs. get_or xs (index_of e n) 0) mark_is ∙ put_there e old.mark place n REACHED 0 inside mark_long at;
      con_same = λ c inside_c differ. ap (λ xs. get_or xs (index_of e c) (pos 0)) con_is ∙ put_elsewhere e old.con place n c con (pos 0) inside inside_c at differ;
      mark_same = λ c inside_c differ. ap (λ xs. get_or xs (index_of e c) 0) mark_is ∙ put_elsewhere e old.mark place n c REACHED 0 inside inside_c at differ;
      con_long = ap (λ xs. length xs) con_is ∙ length-set old.con place con;
      mark_long = ap (λ xs. length xs) mark_is ∙ length-set old.mark place REACHED;
      fewer = ap (λ xs. count_by (λ k. k == UNREACHED) xs + 1) mark_is
          ∙ one_fewer old.mark place REACHED within (ap (λ k. get_or old.mark k 0) at ∙ fresh) (λ h. reached_differs REACHED refl h);
      ahead = ahead ∙ ap (λ k. old.ahead ++ k ∷ []) at;
      waiting = waiting;
    }
  where
    reached_differs : (mark : ℕ) → mark ≡ REACHED → mark ≡ UNREACHED → ⊥
    reached_differs mark reached fresh = absurd (omega arith)

-- the same of the parts of what is seen as a flood
pub put_reaches_seen : (now : Flooding) (e : Extent) (cons news : List ℤ) (marks trail more : List ℕ) (waiting : List (ℤ × ℕ)) →
    record { extent = e; con = cons; mark = marks; ahead = trail; waiting = waiting } ≡ now →
    (place : ℕ) (n : Cell) (con : ℤ) → IsCellOf now.extent n → place ≡ index_of e n →
    length cons ≡ e.rows * e.cols → length marks ≡ e.rows * e.cols →
    mark_at now.extent now n ≡ UNREACHED → news ≡ set cons place con → more ≡ trail ++ place ∷ [] →
    Reaches now.extent now (record { extent = e; con = news; mark = set marks place REACHED; ahead = more; waiting = waiting }) n con
put_reaches_seen now e cons news marks trail more waiting view place n con inside at con_long mark_long fresh put pushed =
    let old : Flooding = record { extent = e; con = cons; mark = marks; ahead = trail; waiting = waiting } in
    let new : Flooding = record { extent = e; con = news; mark = set marks place REACHED; ahead = more; waiting = waiting } in
    subst (λ s. IsCellOf s.extent n → mark_at s.extent s n ≡ UNREACHED → Reaches s.extent s new n con) view
    (λ inside_e fresh_e. put_reaches e old new place n con inside_e at con_long mark_long fresh_e put refl pushed refl)
    inside fresh

-- the same at a place, whichever cell is there
pub put_reaches_at : (now : Flooding) (e : Extent) (cons news : List ℤ) (marks trail more : List ℕ) (waiting : List (ℤ × ℕ)) →
    record { extent = e; con = cons; mark = marks; ahead = trail; waiting = waiting } ≡ now →
    (place : ℕ) (con : ℤ) →
    length cons ≡ e.rows * e.cols → length marks ≡ e.rows * e.cols →
    get_or now.mark place 0 ≡ UNREACHED → news ≡ set cons place con → more ≡ trail ++ place ∷ [] →
    (n : Cell) → IsCellOf now.extent n → place ≡ index_of now.extent n →
    Reaches now.extent now (record { extent = e; con = news; mark = set marks place REACHED; ahead = more; waiting = waiting }) n con
put_reaches_at now e cons news marks trail more waiting view place con con_long mark_long fresh put pushed n inside at =
    let extent : now.extent ≡ e = ap (λ (f : Flooding). f.extent) (sym view) in
    put_reaches_seen now e cons news marks trail more waiting view place n con inside (at ∙ ap (λ x. index_of x n) extent)
    con_long mark_long (ap (λ k. get_or now.mark k 0) (sym at) ∙ fresh) put pushed
