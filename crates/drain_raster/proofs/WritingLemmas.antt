-- How the parts of a write add up.
use Rattle.drain_raster.proofs.Names.{◌≡◌, ◌↔◌, ℕ, ◌+◌, ◌-◌, ◌<◌, ◌≤◌, inl, inr, List, [], ◌++◌, length, take, Option, Result, Ok, Err, IsErr, refl, arith, rules, subst, false≢true, take-append-le, take-append-add, Appends-trans, Appends, full_patience, GivesUpWriting, WriteFails, answered_more, Hands}
use Rattle.std.proofs.Common.{length-append}
use Rattle.drain_device.specs.declared.counts.FaultCounts.{FaultCounts}
use Rattle.drain_device.specs.Counts.{Answered, counted, HandsOver}

-- a call that didn't fail for good met no failure and no stall, and no more interruptions than its patience
pub went_on : (patience failures interruptions stalls : ℕ) → (GivesUpWriting patience failures interruptions stalls → ⊥) →
    (failures ≡ 0) × (interruptions ≤ patience) × (stalls ≡ 0)
went_on patience failures interruptions stalls goes_on =
    let fails : 0 < failures → ⊥ = λ h. goes_on (inl h) in
    let runs_out : patience < interruptions → ⊥ = λ h. goes_on (inr (inl h)) in
    let stops : 0 < stalls → ⊥ = λ h. goes_on (inr (inr h)) in
    (omega arith, omega arith, omega arith)

-- giving up with the patience that is left is giving up with all of it and the interruptions before
gives_up-later : (patience earlier failures later stalls : ℕ) → earlier ≤ patience → GivesUpWriting (patience - earlier) failures later stalls →
    GivesUpWriting patience failures (earlier + later) stalls
gives_up-later patience earlier failures later stalls within (inl failed) = inl failed
gives_up-later patience earlier failures later stalls within (inr (inl ran_out)) = inr (inl (omega arith))
gives_up-later patience earlier failures later stalls within (inr (inr stalled)) = inr (inr stalled)

gives_up-then : (patience earlier failures later stalls : ℕ) → earlier ≤ patience → GivesUpWriting patience failures (earlier + later) stalls →
    GivesUpWriting (patience - earlier) failures later stalls
gives_up-then patience earlier failures later stalls within (inl failed) = inl failed
gives_up-then patience earlier failures later stalls within (inr (inl ran_out)) = inr (inl (omega arith))
gives_up-then patience earlier failures later stalls within (inr (inr stalled)) = inr (inr stalled)

none_given : (patience : ℕ) → GivesUpWriting patience 0 0 0 → ⊥
none_given patience (inl failed) = omega arith
none_given patience (inr (inl ran_out)) = omega arith
none_given patience (inr (inr stalled)) = omega arith

handed-then : {F : Type 0} (old now new : Option (List ℕ)) (result : Result (Unit {0}) F) (xs ys : List ℕ) →
    Appends old now xs → HandsOver now new result ys → HandsOver old new result (xs ++ ys)
handed-then old now new (Ok done) xs ys first second = Appends-trans old now new xs ys first second
handed-then old now new (Err fault) xs ys first second = (
  length xs + second.0,
  omega (arith, length-append xs ys, second.1),
  rw (take-append-add xs ys second.0) (Appends-trans old now new xs (take second.0 ys) first second.2),
)

handed-stopped : {E F : Type 0} (old new : Option (List ℕ)) (e : E) (result : Result (Unit {0}) F) (xs ys : List ℕ) → IsErr result →
    HandsOver {T = Unit {0}} old new (Err e) xs → HandsOver old new result (xs ++ ys)
handed-stopped old new e (Ok done) xs ys fails stopped = absurd (false≢true fails)
handed-stopped old new e (Err f) xs ys fails stopped = (
  stopped.0,
  omega (arith, length-append xs ys, stopped.1),
  rw (take-append-le stopped.0 xs ys (omega (arith, stopped.1))) stopped.2,
)

-- a write of some bytes, and then a write of more
pub Hands-then : {E F : Type 0} (old now new : Option (List ℕ)) (counts_old counts_now counts_new : FaultCounts) (stalls_old stalls_now stalls_new : ℕ)
    (patience left least : ℕ) (result : Result (Unit {0}) F) (xs ys : List ℕ) →
    Hands {E = E} old now counts_old counts_now stalls_old stalls_now patience left (Ok (tt {0})) xs →
    Hands now new counts_now counts_new stalls_now stalls_new left least result ys →
    Hands old new counts_old counts_new stalls_old stalls_new patience least result (xs ++ ys)
Hands-then old now new counts_old counts_now counts_new stalls_old stalls_now stalls_new patience left least result xs ys first second =
    let on = went_on patience first.failures first.interruptions first.stalls (λ h. let gave_up = first.exactly.1 h in cc) in
    let so_far : Answered counts_old counts_now 0 first.interruptions = rw (on.0) at first.answered in
    let left_is : left ≡ patience - first.interruptions = first.left_is in
    record {
      handed = handed-then old now new result xs ys first.handed second.handed;
      failures = second.failures;
      interruptions = first.interruptions + second.interruptions;
      stalls = second.stalls;
      answered = answered_more counts_old counts_now counts_new second.failures first.interruptions second.interruptions so_far second.answered;
      stalled = omega (arith, first.stalled, second.stalled, on.2);
      left_is = omega (arith, second.left_is, on.1);
      exactly = (
        (λ e. gives_up-later patience first.interruptions second.failures second.interruptions second.stalls on.1 (rw left_is at (second.exactly.0 e))),
        (λ h. second.exactly.1 (rw left_is (gives_up-then patience first.interruptions second.failures second.interruptions second.stalls on.1 h))),
      );
    }

-- a write that failed for good writes no more
pub Hands-stopped : {E F : Type 0} (old new : Option (List ℕ)) (counts_old counts_new : FaultCounts) (stalls_old stalls_new : ℕ)
    (patience left : ℕ) (e : E) (result : Result (Unit {0}) F) (xs ys : List ℕ) → IsErr result →
    Hands old new counts_old counts_new stalls_old stalls_new patience left (Err e) xs →
    Hands old new counts_old counts_new stalls_old stalls_new patience left result (xs ++ ys)
Hands-stopped old new counts_old counts_new stalls_old stalls_new patience left e result xs ys fails stopped = record {
  handed = handed-stopped old new e result xs ys fails stopped.handed;
  failures = stopped.failures;
  interruptions = stopped.interruptions;
  stalls = stopped.stalls;
  answered = stopped.answered;
  stalled = stopped.stalled;
  left_is = stopped.left_is;
  exactly = ((λ _. stopped.exactly.0 refl), (λ _. fails));
}

-- the first part of a write went on
pub Hands-both : {E F : Type 0} (old now new : Option (List ℕ)) (counts_old counts_now counts_new : FaultCounts) (stalls_old stalls_now stalls_new : ℕ)
    (patience left least : ℕ) (result : Result (Unit {0}) F) (xs ys zs : List ℕ) →
    Hands {E = E} old now counts_old counts_now stalls_old stalls_now patience left (Ok (tt {0})) xs →
    Hands now new counts_now counts_new stalls_now stalls_new left least result ys → xs ++ ys ≡ zs →
    Hands old new counts_old counts_new stalls_old stalls_new patience least result zs
Hands-both old now new counts_old counts_now counts_new stalls_old stalls_now stalls_new patience left least result xs ys zs first second are =
    subst (Hands old new counts_old counts_new stalls_old stalls_new patience least result) are
    (Hands-then old now new counts_old counts_now counts_new stalls_old stalls_now stalls_new patience left least result xs ys first second)

-- the first part of a write failed for good
pub Hands-halted : {E F : Type 0} (old new : Option (List ℕ)) (counts_old counts_new : FaultCounts) (stalls_old stalls_new : ℕ)
    (patience left : ℕ) (e : E) (result : Result (Unit {0}) F) (xs rest zs : List ℕ) → IsErr result →
    Hands old new counts_old counts_new stalls_old stalls_new patience left (Err e) xs → xs ++ rest ≡ zs →
    Hands old new counts_old counts_new stalls_old stalls_new patience left result zs
Hands-halted old new counts_old counts_new stalls_old stalls_new patience left e result xs rest zs fails stopped are =
    subst (Hands old new counts_old counts_new stalls_old stalls_new patience left result) are
    (Hands-stopped old new counts_old counts_new stalls_old stalls_new patience left e result xs rest fails stopped)

-- both parts of a write went on
pub Hands-more : {E F : Type 0} (old now new : Option (List ℕ)) (counts_old counts_now counts_new : FaultCounts) (stalls_old stalls_now stalls_new : ℕ)
    (patience left least : ℕ) (xs ys zs : List ℕ) →
    Hands {E = E} old now counts_old counts_now stalls_old stalls_now patience left (Ok (tt {0})) xs →
    Hands {E = F} now new counts_now counts_new stalls_now stalls_new left least (Ok (tt {0})) ys → xs ++ ys ≡ zs →
    Hands {E = F} old new counts_old counts_new stalls_old stalls_new patience least (Ok (tt {0})) zs
Hands-more {F = F} old now new counts_old counts_now counts_new stalls_old stalls_now stalls_new patience left least xs ys zs first second are =
    subst (Hands {E = F} old new counts_old counts_new stalls_old stalls_new patience least (Ok (tt {0}))) are
    (Hands-then old now new counts_old counts_now counts_new stalls_old stalls_now stalls_new patience left least (Ok (tt {0})) xs ys first second)

-- the second part of a write failed for good
pub Hands-ended : {E F G : Type 0} (old now new : Option (List ℕ)) (counts_old counts_now counts_new : FaultCounts) (stalls_old stalls_now stalls_new : ℕ)
    (patience left least : ℕ) (e : F) (result : Result (Unit {0}) G) (xs ys rest zs : List ℕ) → IsErr result →
    Hands {E = E} old now counts_old counts_now stalls_old stalls_now patience left (Ok (tt {0})) xs →
    Hands {E = F} now new counts_now counts_new stalls_now stalls_new left least (Err e) ys → (xs ++ ys) ++ rest ≡ zs →
    Hands old new counts_old counts_new stalls_old stalls_new patience least result zs
Hands-ended old now new counts_old counts_now counts_new stalls_old stalls_now stalls_new patience left least e result xs ys rest zs fails first second are =
    subst (Hands old new counts_old counts_new stalls_old stalls_new patience least result) are
    (Hands-stopped old new counts_old counts_new stalls_old stalls_new patience least e result (xs ++ ys) rest fails
    (Hands-then old now new counts_old counts_now counts_new stalls_old stalls_now stalls_new patience left least (Err e) xs ys first second))

-- nothing is written yet
pub Hands-start : {E : Type 0} (taken : Option (List ℕ)) (counts : FaultCounts) (stalls patience : ℕ) →
    Hands {E = E} taken taken counts counts stalls stalls patience patience (Ok (tt {0})) []
Hands-start taken counts stalls patience = record {
  handed = search rules;
  failures = 0;
  interruptions = 0;
  stalls = 0;
  answered = record { failures_are = omega arith; interruptions_are = omega arith };
  stalled = omega arith;
  left_is = omega arith;
  exactly = ((λ fails. absurd (false≢true fails)), (λ gave_up. absurd (none_given patience gave_up)));
}

-- one call of `write_all`
pub Hands-write_all : {E : Type 0} (old new : Option (List ℕ)) (counts_old counts_new : FaultCounts) (stalls_old stalls_new : ℕ)
    (patience left : ℕ) (result : Result (Unit {0}) E) (bytes : List ℕ) → HandsOver old new result bytes →
    (failures : ℕ) × (interruptions : ℕ) × (stalls : ℕ) × Answered counts_old counts_new failures interruptions
    × (stalls_new ≡ counted stalls_old stalls) × (left ≡ patience - interruptions)
    × (IsErr result ↔ GivesUpWriting patience failures interruptions stalls) →
    Hands old new counts_old counts_new stalls_old stalls_new patience left result bytes
Hands-write_all old new counts_old counts_new stalls_old stalls_new patience left result bytes handed faults = record {
  handed = handed;
  failures = faults.0;
  interruptions = faults.1;
  stalls = faults.2;
  answered = faults.3;
  stalled = faults.4;
  left_is = faults.5;
  exactly = faults.6;
}

-- a write that wasn't begun didn't fail
pub WriteFails-not_begun : (counts : FaultCounts) (stalls : ℕ) (Fails : Type 0) → (Fails → ⊥) → WriteFails counts counts stalls stalls Fails
WriteFails-not_begun counts stalls Fails fine = record {
  failures = 0;
  interruptions = 0;
  stalls = 0;
  answered = record { failures_are = omega arith; interruptions_are = omega arith };
  stalled = omega arith;
  exactly = ((λ fails. absurd (fine fails)), (λ gave_up. absurd (none_given full_patience gave_up)));
}

-- nothing of some bytes
pub nothing-handed : {E : Type 0} (taken : Option (List ℕ)) (e : E) (bytes : List ℕ) → 0 < length bytes → HandsOver {T = Unit {0}} taken taken (Err e) bytes
nothing-handed taken e bytes some = (0, some, search rules)
