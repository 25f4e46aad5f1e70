-- Runs give line numbers: which run gives a number, and what one more run or cell changes.
use Rattle.drain_grid.proofs.Names.{◌≡◌, ℕ, zero, suc, ◌+◌, ◌-◌, ◌<◌, ◌≤◌, leb, le-leb, leb-true, leb-false, true, false, cond, List, [], ◌∷◌, ◌++◌, length, map, get_or, take, drop, Some, refl, sym, ap, ◌∙◌, arith, All, fold, slice_get, IsPartitionPoint, lt-leb, get_or-drop, length-drop, take-append-drop, take_more, fold-append, Cell, counted_on, line_number_at, numbered_from, numbered}
use Rattle.drain_grid.specs.declared.numbered_cells.LineRun.{LineRun}

-- a run that begins at the cell or before it counts on, and one that begins later doesn't
counted_in : (i number : ℕ) (run : LineRun) → run.first ≤ i → counted_on i number run ≡ run.line + (i - run.first)
counted_in i number run le = ap (λ b. cond b (run.line + (i - run.first)) number) (le-leb run.first i le)

not_counted : (i number : ℕ) (run : LineRun) → i < run.first → counted_on i number run ≡ number
not_counted i number run less = ap (λ b. cond b (run.line + (i - run.first)) number) (lt-leb run.first i less)

-- runs that begin later say nothing of the cell
none_counted : (i number : ℕ) (runs : List LineRun) → All (λ run. i < run.first) runs → fold (counted_on i) number runs ≡ number
none_counted i number [] later = refl
none_counted i number (run ∷ runs) later =
    none_counted i (counted_on i number run) runs (λ k d less. later (suc k) d (omega arith)) ∙ not_counted i number run (later 0 run (omega arith))

-- the run at k gives the number where it is the last that begins at the cell or before it
pub number_of_run : (runs : List LineRun) (i k : ℕ) (d : LineRun) → k < length runs → (get_or runs k d).first ≤ i →
    ((j : ℕ) (d : LineRun) → k < j → j < length runs → i < (get_or runs j d).first) →
    line_number_at runs i ≡ (get_or runs k d).line + (i - (get_or runs k d).first)
number_of_run runs i k d inside begun last =
    ap (λ rs. line_number_at rs i) (sym (take-append-drop (k + 1) runs))
    ∙ fold-append (counted_on i) 0 (take (k + 1) runs) (drop (k + 1) runs)
    ∙ none_counted i (line_number_at (take (k + 1) runs) i) (drop (k + 1) runs) later
    ∙ ap (λ rs. line_number_at rs i) (take_more runs k d inside)
    ∙ fold-append (counted_on i) 0 (take k runs) (get_or runs k d ∷ [])
    ∙ counted_in i (line_number_at (take k runs) i) (get_or runs k d) begun
  where
    later : (j : ℕ) (e : LineRun) → j < length (drop (k + 1) runs) → i < (get_or (drop (k + 1) runs) j e).first
    later j e less = rw get_or-drop (last (k + 1 + j) e (omega arith) (omega (arith, length-drop (k + 1) runs)))

-- where a search by halves leaves off, the run before is the last that begins at the cell or before it
pub record IsRunOf (runs : List LineRun) (i begun : ℕ) : Type 0 where
  pub some : 0 < begun
  pub first : (d : LineRun) → (get_or runs (begun - 1) d).first ≤ i
  pub number : (d : LineRun) → line_number_at runs i ≡ (get_or runs (begun - 1) d).line + (i - (get_or runs (begun - 1) d).first)

pub run_at_point : (runs : List LineRun) (i begun : ℕ) → 0 < length runs → ((d : LineRun) → (get_or runs 0 d).first ≡ 0) → begun ≤ length runs →
    IsPartitionPoint (λ run. leb run.first i ≡ true) (λ run. leb run.first i ≡ false) runs begun → IsRunOf runs i begun
run_at_point [] i begun some starts within point = absurd (omega arith)
run_at_point (r ∷ runs) i zero some starts within point = let far = leb-false r.first i (point.1 0 r (omega arith) (omega arith)) in absurd (omega (arith, far, starts r))
run_at_point (r ∷ runs) i (suc k) some starts within point = record {
  some = omega arith;
  first = λ d. rw before (here d);
  number = λ d. rw before (number_of_run (r ∷ runs) i k d (omega arith) (here d)
      (λ j e less inside. leb-false (get_or (r ∷ runs) j e).first i (point.1 j e (omega arith) (omega arith))));
}
  where
    before : suc k - 1 ≡ k
    before = omega arith

    here : (d : LineRun) → (get_or (r ∷ runs) k d).first ≤ i
    here d = leb-true (get_or (r ∷ runs) k d).first i (point.0 k d (omega arith) (omega arith))

pub length-numbered : (i : ℕ) (runs : List LineRun) (cells : List Cell) → length (numbered_from i runs cells) ≡ length cells
length-numbered i runs [] = refl
length-numbered i runs (c ∷ cells) = ap suc (length-numbered (i + 1) runs cells)

pub cells_of_numbered : (i : ℕ) (runs : List LineRun) (cells : List Cell) → map (λ s. s.cell) (numbered_from i runs cells) ≡ cells
cells_of_numbered i runs [] = refl
cells_of_numbered i runs (c ∷ cells) = ap (λ cs. c ∷ cs) (cells_of_numbered (i + 1) runs cells)

pub get-numbered : (i k : ℕ) (runs : List LineRun) (cells : List Cell) (d : Cell) → k < length cells →
    slice_get (numbered_from i runs cells) k ≡ Some (record { line = line_number_at runs (i + k); cell = get_or cells k d })
get-numbered i k runs [] d less = absurd (omega arith)
get-numbered i zero runs (c ∷ cells) d less = ap (λ n. Some (record { line = line_number_at runs n; cell = c })) (omega arith)
get-numbered i (suc k) runs (c ∷ cells) d less =
    get-numbered (i + 1) k runs cells d (omega arith) ∙ ap (λ n. Some (record { line = line_number_at runs n; cell = get_or cells k d })) (omega arith)

-- a cell that is added
pub numbered-push : (i : ℕ) (runs : List LineRun) (cells : List Cell) (c : Cell) →
    numbered_from i runs (cells ++ c ∷ []) ≡ numbered_from i runs cells ++ record { line = line_number_at runs (i + length cells); cell = c } ∷ []
numbered-push i runs [] c = ap (λ n. record { line = line_number_at runs n; cell = c } ∷ []) (omega arith)
numbered-push i runs (x ∷ cells) c =
    ap (λ ys. record { line = line_number_at runs i; cell = x } ∷ ys) (numbered-push (i + 1) runs cells c
    ∙ ap (λ n. numbered_from (i + 1) runs cells ++ record { line = line_number_at runs n; cell = c } ∷ []) (omega arith))

-- the cells from the first on, where the next line's number is given
pub numbered-more : (runs : List LineRun) (cells more : List Cell) (c : Cell) (line : ℕ) → more ≡ cells ++ c ∷ [] → line_number_at runs (length cells) ≡ line →
    numbered runs more ≡ numbered runs cells ++ record { line = line; cell = c } ∷ []
numbered-more runs cells more c line is there =
    ap (numbered runs) is ∙ numbered-push 0 runs cells c
    ∙ ap (λ n. numbered runs cells ++ record { line = n; cell = c } ∷ []) (ap (line_number_at runs) (omega arith) ∙ there)

-- runs that give the same numbers
pub numbered-same : (i : ℕ) (runs others : List LineRun) (cells : List Cell) →
    ((k : ℕ) → k < i + length cells → line_number_at others k ≡ line_number_at runs k) → numbered_from i others cells ≡ numbered_from i runs cells
numbered-same i runs others [] same = refl
numbered-same i runs others (c ∷ cells) same =
    ap (λ n. record { line = n; cell = c } ∷ numbered_from (i + 1) others cells) (same i (omega arith))
    ∙ ap (λ ys. record { line = line_number_at runs i; cell = c } ∷ ys) (numbered-same (i + 1) runs others cells (λ k less. same k (omega arith)))
