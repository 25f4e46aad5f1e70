-- A file that wasn't called, and the texts of headers, which have some bytes.
use Rattle.drain_sets.proofs.Names.{◌<◌, ℕ, List, length, arith, inl, inr, [], ◌++◌, Err, sym, subst, length-append, append-nil, HeightKind, Whole, Single, Fields, IsTextOf, IsTextOfKind, text_of, pixel_lines, place_lines, nodata_line}
use Rattle.std.proofs.Common.{Option, Some, None}
use Rattle.std.specs.Io.KnownBytes.{Appends}
use Rattle.drain_device.specs.Failing.{Sink, full_patience, GivesUpWriting}
use Rattle.drain_header.specs.Text.{shape_lines, line}
use Rattle.drain_sets.specs.FileWrites.{WritesFile}
use Rattle.drain_sets.specs.declared.set_files.SetFault.TheVariants.{OutOfMemory}

-- no byte was taken
appends-nothing : (taken : Option (List ℕ)) → Appends taken taken []
appends-nothing None = tt
appends-nothing (Some xs) = sym (append-nil xs)

-- without a fault no sink fails for good
never-gives-up : GivesUpWriting full_patience 0 0 0 → ⊥
never-gives-up (inl failed) = omega (arith, failed)
never-gives-up (inr (inl interrupted)) = omega (arith, interrupted)
never-gives-up (inr (inr stalled)) = omega (arith, stalled)

-- a file that wasn't called, as memory ran out
pub no_memory : {F : Type 0} (sink : Sink F) (file : F) (bytes : List ℕ) → 0 < length bytes →
    WritesFile sink file file bytes (Err OutOfMemory)
no_memory sink file bytes some = record {
  written = (0, some, appends-nothing (sink.bytes_taken file));
  faults = record {
    failures = 0;
    interruptions = 0;
    stalls = 0;
    answered = record { failures_are = omega arith; interruptions_are = omega arith };
    stalled = omega arith;
    exactly = ((λ e. cc), λ gave. absurd (never-gives-up gave));
  };
}

-- a header's text has some bytes
shape-some : (h : Fields) → 0 < length (shape_lines h)
unfolding shape_lines line
shape-some h = omega arith

some-more : (xs ys : List ℕ) → 0 < length xs → 0 < length (xs ++ ys)
some-more xs ys some = omega (arith, some, length-append xs ys)

ended-some : (h : Fields) (end : List ℕ) → 0 < length (shape_lines h ++ pixel_lines h ++ place_lines h.place ++ end)
ended-some h end =
    some-more (shape_lines h ++ pixel_lines h ++ place_lines h.place) end
    (some-more (shape_lines h ++ pixel_lines h) (place_lines h.place) (some-more (shape_lines h) (pixel_lines h) (shape-some h)))

pub text-some : (h : Fields) → 0 < length (text_of h)
text-some h = ended-some h (nodata_line h.nodata)

kind-some : (kind : HeightKind) (h : Fields) (text : List ℕ) → IsTextOfKind kind h text → 0 < length text
kind-some Whole h text is = subst (λ (t : List ℕ). 0 < length t) (sym is) (text-some h)
kind-some Single h text is = subst (λ (t : List ℕ). 0 < length t) (sym is.2) (ended-some h is.0)

pub any_text-some : (h : Fields) (text : List ℕ) → IsTextOf h text → 0 < length text
any_text-some h text is = kind-some h.kind h text is
