-- A row that comes is the next one: by induction on the rows that came.
use Rattle.drain_device.proofs.Names.{◌≡◌, zero, suc, ◌+◌, arith, refl, sym, ap, subst, ◌∙◌, ℕ, ◌≤◌, List, ◌++◌, length, take, length-append, ◌-◌, ◌<◌, inl, inr, [], Option, Some, None, Ok, ◌≢◌, ℤ, Err, Coming, IsNthRow, after_rows, EndsWithin, PartComes, RowComes, Next, End, Wrong, take-append-le, length-take-le, take-append-add, GivesUp, GivesUpWriting, Appends, Keeps, Consumes, stalls_after, counted, Answered, FaultCounts, Consumes-trans, TakesAtMost, ReadFault, WrongLength, ReadFailed, OutOfMemory, AlreadyFailed}
use Rattle.drain_device.specs.Laws.{RowsComeInOrder}
use Rattle.std.proofs.lemmas.List.{append-nil}
use borrow.Rule.Slice.PartMut.{put_mid, post_of}

pub rows_come_in_order : RowsComeInOrder
rows_come_in_order start now left zero row is is_next =
    let begins : start ≡ Next row left = sym is ∙ is_next in
    subst (λ (s : Coming). IsNthRow s zero row left) (sym begins) (record { row_is = refl; left_is = refl })
rows_come_in_order (Next first after) now left (suc n) row is is_next =
    let rest = rows_come_in_order after now left n row is is_next in
    let longer : suc n + 1 ≡ suc (n + 1) = omega arith in
    record { row_is = rest.row_is; left_is = rest.left_is ∙ ap (λ k. after_rows k (Next first after)) (sym longer) }
rows_come_in_order End now left (suc n) row is is_next = absurd (let wrong : End ≡ Next row left = sym is ∙ is_next in cc)
rows_come_in_order Wrong now left (suc n) row is is_next = absurd (let wrong : Wrong ≡ Next row left = sym is ∙ is_next in cc)

-- What a slice begins with after more bytes came.

-- what a slice begins with after a write from a on
pub take-put_mid_part : {X : Type 0} (a k n : ℕ) (xs ys : List X) → a ≤ length xs → n ≤ length ys → take (a + n) (put_mid a k xs ys) ≡ take a xs ++ take n ys
take-put_mid_part {X} a k n xs ys within fits =
    ap (λ (m : ℕ). take (m + n) (put_mid a k xs ys)) (sym (length-take-le a xs within))
    ∙ take-append-add (take a xs) (ys ++ post_of a k xs) n
    ∙ ap (λ (zs : List X). take a xs ++ zs) (take-append-le n ys (post_of a k xs) fits)

pub within-put_mid : {X : Type 0} (a k n : ℕ) (xs ys : List X) → a ≤ length xs → n ≤ length ys → a + n ≤ length (put_mid a k xs ys)
within-put_mid a k n xs ys within fits =
    omega (arith, length-take-le a xs within, length-append (take a xs) (ys ++ post_of a k xs), length-append ys (post_of a k xs))

-- What a call that fails for good says of the patience that it began with.

-- a call that doesn't fail for good met no failure, and no more interruptions than its patience
pub bears : (patience failures interruptions : ℕ) → (GivesUp patience failures interruptions → ⊥) → (failures ≡ 0) × (interruptions ≤ patience)
bears patience failures interruptions goes_on =
    let fails : 0 < failures → ⊥ = λ h. goes_on (inl h) in
    let runs_out : patience < interruptions → ⊥ = λ h. goes_on (inr h) in
    (omega arith, omega arith)

-- failing for good with the patience left is failing for good with all of it and the interruptions before
pub gives_up-left : (full left failures interruptions : ℕ) → left ≤ full → GivesUp left failures interruptions → GivesUp full failures (full - left + interruptions)
gives_up-left full left failures interruptions within (inl failed) = inl failed
gives_up-left full left failures interruptions within (inr ran_out) = inr (omega arith)

pub gives_up-full : (full left failures interruptions : ℕ) → left ≤ full → GivesUp full failures (full - left + interruptions) → GivesUp left failures interruptions
gives_up-full full left failures interruptions within (inl failed) = inl failed
gives_up-full full left failures interruptions within (inr ran_out) = inr (omega arith)

-- What a call that was lent no byte leaves.

-- no byte is taken of none
pub nothing_taken : (a b : Option (List ℕ)) (n : ℕ) → n ≤ 0 → Appends a b (take n []) → Keeps a b
nothing_taken None b n none taken = tt
nothing_taken (Some xs) None n none taken = taken
nothing_taken (Some xs) (Some ys) n none taken = (let zero : n ≡ 0 = omega arith in rw (zero, append-nil) at taken)

-- and that is no stall
pub no_stall : (so_far n : ℕ) → stalls_after so_far (Ok n) [] ≡ so_far
no_stall so_far zero = refl
no_stall so_far (suc n) = refl

-- interruptions within the patience don't make a call fail for good
pub goes_on : (patience interruptions : ℕ) → interruptions ≤ patience → ¬ GivesUpWriting patience 0 interruptions 0
goes_on patience interruptions borne (inl failed) = omega arith
goes_on patience interruptions borne (inr (inl out)) = omega arith
goes_on patience interruptions borne (inr (inr stalled)) = omega arith

-- How counts of faults add up.

-- one call more that failed
pub answered_failure : (a b c : FaultCounts) (failures interruptions : ℕ) → Answered a b failures interruptions →
    c ≡ record { failures = counted b.failures 1; interruptions = b.interruptions } → Answered a c (failures + 1) interruptions
answered_failure a b c failures interruptions so_far is = rw is (record {
  failures_are = omega (arith, so_far.failures_are);
  interruptions_are = so_far.interruptions_are;
})

-- one call more that was interrupted
pub answered_interruption : (a b c : FaultCounts) (failures interruptions : ℕ) → Answered a b failures interruptions →
    c ≡ record { failures = b.failures; interruptions = counted b.interruptions 1 } → Answered a c failures (interruptions + 1)
answered_interruption a b c failures interruptions so_far is = rw is (record {
  failures_are = so_far.failures_are;
  interruptions_are = omega (arith, so_far.interruptions_are);
})

-- a call that took some bytes didn't stall
pub stalls_after-some : (so_far n : ℕ) (bytes : List ℕ) → n ≢ 0 → stalls_after so_far (Ok n) bytes ≡ so_far
stalls_after-some so_far zero bytes some = absurd (some refl)
stalls_after-some so_far (suc n) bytes some = refl

-- interruptions, and then more faults
pub answered_more : (a b c : FaultCounts) (failures earlier later : ℕ) → Answered a b 0 earlier → Answered b c failures later → Answered a c failures (earlier + later)
answered_more a b c failures earlier later so_far more = record {
  failures_are = omega (arith, so_far.failures_are, more.failures_are);
  interruptions_are = omega (arith, so_far.interruptions_are, more.interruptions_are);
}

-- interruptions, and then more of them
pub answered_on : (a b c : FaultCounts) (earlier failures later all : ℕ) → Answered a b 0 earlier → Answered b c failures later → failures ≡ 0 → all ≡ earlier + later → Answered a c 0 all
answered_on a b c earlier failures later all so_far more none is = record {
  failures_are = omega (arith, so_far.failures_are, more.failures_are);
  interruptions_are = omega (arith, so_far.interruptions_are, more.interruptions_are);
}

-- How parts of a read add up, in bytes.

-- bytes that came before an end
ends-later : (a b c : Option (List ℕ)) (bytes : List ℕ) (n count : ℕ) → Consumes a b bytes → length bytes + n ≤ count → EndsWithin n b c → EndsWithin count a c
ends-later a b c bytes n count took within end = record {
  bytes = bytes ++ end.bytes;
  took = Consumes-trans a b c bytes end.bytes took end.took;
  ended = end.ended;
  short = omega (arith, length-append bytes end.bytes, end.short);
}

-- bytes that came before some more
takes-later : (a b c : Option (List ℕ)) (bytes : List ℕ) (n count : ℕ) → Consumes a b bytes → length bytes + n ≤ count → TakesAtMost n b c → TakesAtMost count a c
takes-later a b c bytes n count took within more =
    (bytes ++ more.0, Consumes-trans a b c bytes more.0 took more.1, omega (arith, length-append bytes more.0, more.2))

-- bytes that came before a part that failed
pub fails-later : (a b c : Option (List ℕ)) (bytes part : List ℕ) (n count : ℕ) (fault : ReadFault) → Consumes a b bytes → length bytes + n ≤ count →
    PartComes n b c (Err fault) part → (other : List ℕ) → PartComes count a c (Err fault) other
fails-later a b c bytes part n count WrongLength took within came other = ends-later a b c bytes n count took within came
fails-later a b c bytes part n count ReadFailed took within came other = takes-later a b c bytes n count took within came
fails-later a b c bytes part n count OutOfMemory took within came other = came
fails-later a b c bytes part n count AlreadyFailed took within came other = came

-- two parts
pub comes-both : (a b c : Option (List ℕ)) (xs ys : List ℕ) (m n : ℕ) → length xs ≡ m → Consumes a b xs → length ys ≡ n → Consumes b c ys →
    (length (xs ++ ys) ≡ m + n) × Consumes a c (xs ++ ys)
comes-both a b c xs ys m n is took is_then then = (omega (arith, length-append xs ys), Consumes-trans a b c xs ys took then)

-- a row that didn't come, because one of its parts didn't
pub row-fails : (numbers : List ℕ → List ℤ) (n : ℕ) (old new : Option (List ℕ)) (fault : ReadFault) (out : List ℤ) (bytes : List ℕ) → PartComes n old new (Err fault) bytes →
    out ≡ [] → RowComes numbers n old new (Err fault) out bytes
row-fails numbers n old new WrongLength out bytes came empty = (came, empty)
row-fails numbers n old new ReadFailed out bytes came empty = (came, empty)
row-fails numbers n old new OutOfMemory out bytes came empty = absurd came
row-fails numbers n old new AlreadyFailed out bytes came empty = came
