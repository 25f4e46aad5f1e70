-- Places that are laid one by one: in the columns from an end up to the next, the judged rows of each begin where those
-- of the earlier ones end, so each cell above the level there is judged once.
use Rattle.drain_merge.proofs.Names.{◌≡◌, ℕ, ◌+◌, ◌*◌, ◌<◌, ◌≤◌, ◌⊎◌, inl, inr, List, [], ◌∷◌, ◌++◌, length, slice_index, sym, ap, ◌∙◌, subst, arith, sum_by, nat_tests, All-push, sum_by_push, Cell, cases, less_number, Place, IsJudgedAt, judged_top, judged_left, judged_bottom, judged_right, edges_within, within_edges, AreLaid, IsBetweenEnds, IsLaid, times, within}

-- Numbers from one up to another.

pub within_one : (from end x : ℕ) → from ≤ x → x < end → within from end x ≡ 1
within_one from end x low high = grind (arith, nat_tests)

within_before : (from end x : ℕ) → x < from → within from end x ≡ 0
within_before from end x low = grind (arith, nat_tests)

within_behind : (from end x : ℕ) → end ≤ x → within from end x ≡ 0
within_behind from end x high = grind (arith, nat_tests)

pub within_cases : (from end x : ℕ) → ((within from end x ≡ 1) × (from ≤ x) × (x < end)) ⊎ (within from end x ≡ 0)
within_cases from end x =
    elim (cases (less_number x from)) [
      | inl before ↦ inr (within_before from end x before)
      | inr later ↦
          elim (cases (less_number x end)) [
            | inl inside ↦ inl (within_one from end x (omega arith) inside, omega arith, inside)
            | inr behind ↦ inr (within_behind from end x (omega arith))
          ]
    ]

-- from a up to b, and on up to c
within_join : (a b c x : ℕ) → a ≤ b → b ≤ c → within a b x + within b c x ≡ within a c x
within_join a b c x first second =
    elim (cases (less_number x b)) [
      | inl before ↦
          (let none = within_before b c x before in
          elim (cases (less_number x a)) [
            | inl out ↦ (let p = within_before a b x out in let q = within_before a c x out in omega (arith, none, p, q))
            | inr later ↦
                (let p = within_one a b x (omega arith) before in
                let q = within_one a c x (omega arith) (omega arith) in
                omega (arith, none, p, q))
          ])
      | inr later ↦
          (let none = within_behind a b x (omega arith) in
          elim (cases (less_number x c)) [
            | inl inside ↦
                (let p = within_one b c x (omega arith) inside in
                let q = within_one a c x (omega arith) inside in
                omega (arith, none, p, q))
            | inr out ↦
                (let p = within_behind b c x (omega arith) in
                let q = within_behind a c x (omega arith) in
                omega (arith, none, p, q))
          ])
    ]

-- What a place judges is counted once.

pub times_judged : (p : Place) (c : Cell) → IsJudgedAt p c → times c p ≡ 1
times_judged p c judged =
    let at = within_edges p c judged in
    let rows : within (judged_top p) (judged_bottom p) c.row ≡ 1 = within_one (judged_top p) (judged_bottom p) c.row at.top at.bottom in
    let cols : within (judged_left p) (judged_right p) c.col ≡ 1 = within_one (judged_left p) (judged_right p) c.col at.left at.right in
    ap (λ (k : ℕ). k * within (judged_left p) (judged_right p) c.col) rows ∙ ap (λ (k : ℕ). 1 * k) cols

pub judged_times : (p : Place) (c : Cell) → 0 < times c p → IsJudgedAt p c
judged_times p c some =
    elim (within_cases (judged_top p) (judged_bottom p) c.row) [
      | inr none ↦
          (let zero_times = ap (λ (k : ℕ). k * within (judged_left p) (judged_right p) c.col) none in
          absurd (omega (arith, zero_times, some)))
      | inl rows ↦
          elim (within_cases (judged_left p) (judged_right p) c.col) [
            | inr none ↦
                (let zero_times = ap (λ (k : ℕ). within (judged_top p) (judged_bottom p) c.row * k) none in
                absurd (omega (arith, zero_times, some)))
            | inl cols ↦ edges_within p c (record { top = rows.1; bottom = rows.2; left = cols.1; right = cols.2 })
          ]
    ]

-- in its columns a place counts as its rows do, in others not at all
times_across : (p : Place) (c : Cell) → judged_left p ≤ c.col → c.col < judged_right p → times c p ≡ within (judged_top p) (judged_bottom p) c.row
times_across p c from to =
    let cols = within_one (judged_left p) (judged_right p) c.col from to in
    let one = ap (λ (k : ℕ). within (judged_top p) (judged_bottom p) c.row * k) cols in
    omega (arith, one)

times_apart : (p : Place) (c : Cell) → (c.col < judged_left p) ⊎ (judged_right p ≤ c.col) → times c p ≡ 0
times_apart p c (inl before) =
    let one = ap (λ (k : ℕ). within (judged_top p) (judged_bottom p) c.row * k) (within_before (judged_left p) (judged_right p) c.col before) in
    omega (arith, one)
times_apart p c (inr behind) =
    let one = ap (λ (k : ℕ). within (judged_top p) (judged_bottom p) c.row * k) (within_behind (judged_left p) (judged_right p) c.col behind) in
    omega (arith, one)

-- One place more.

pub laid_more : (start : ℕ) (ends old new : List ℕ) (places : List Place) (p : Place) → length new ≡ length ends → AreLaid start ends old places →
    IsLaid ends old p new → AreLaid start ends new (places ++ p ∷ [])
laid_more start ends old new places p sized laid here = record {
  sized = sized;
  between = All-push (IsBetweenEnds ends) places p laid.between here.between;
  down = λ k inside. elim (here.parts k inside) [
    | inl on ↦
        (let above : start ≤ slice_index old k = laid.down k inside in
        let top : slice_index old k ≡ judged_top p = on.old_level in
        let bottom : slice_index new k ≡ judged_bottom p = on.new_level in
        let rows : judged_top p ≤ judged_bottom p = here.rows in
        omega (arith, above, top, bottom, rows))
    | inr by ↦ subst (λ n. start ≤ n) (sym by.level) (laid.down k inside)
  ];
  once = λ k c inside from to.
      (let before : sum_by (times c) places ≡ within start (slice_index old k) c.row = laid.once k c inside from to in
      let more = sum_by_push (times c) places p in
      elim (here.parts k inside) [
        | inl on ↦
            (let west : judged_left p ≤ slice_index ends k = on.from in
            let east : slice_index ends (k + 1) ≤ judged_right p = on.to in
            let counted = times_across p c (omega (arith, west, from)) (omega (arith, east, to)) in
            let above : start ≤ judged_top p = subst (λ n. start ≤ n) on.old_level (laid.down k inside) in
            let joined = within_join start (judged_top p) (judged_bottom p) c.row above here.rows in
            let old_level = ap (λ (n : ℕ). within start n c.row) on.old_level in
            let new_level = ap (λ (n : ℕ). within start n c.row) on.new_level in
            omega (arith, before, more, counted, joined, old_level, new_level))
        | inr by ↦
            (let none = times_apart p c (beside k c from to by.apart) in
            let level = ap (λ (n : ℕ). within start n c.row) by.level in
            omega (arith, before, more, none, level))
      ]);
}
  where
    beside : (k : ℕ) (c : Cell) → slice_index ends k ≤ c.col → c.col < slice_index ends (k + 1) →
        (slice_index ends (k + 1) ≤ judged_left p) ⊎ (judged_right p ≤ slice_index ends k) → (c.col < judged_left p) ⊎ (judged_right p ≤ c.col)
    beside k c from to (inl before) = inl (omega (arith, to, before))
    beside k c from to (inr behind) = inr (omega (arith, from, behind))
