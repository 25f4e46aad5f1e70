-- The parts of a text, one after another.
use Rattle.drain_report.proofs.Names.{◌≡◌, ℕ, pos, Bool, List, [], ◌∷◌, ◌++◌, length, refl, ap, ◌∙◌, append_assoc, Result, IfOk, MatchResult, OnOk, Ok, Err, codes, Cell, Distances, NoDataNumbers, Corner, UnionVerdict, Report, is_accepted, Outlet, Place, UnionGrid, Head, grid_line, nodata_line, outlet_line, place_line, shown_line, sink_line, tile_line, verdict_line, HasVersion, head_text, version_line, all_text, list_text, spacings_text, Contents, end_line, head_of, spaced}
use Rattle.drain_union.specs.declared.report.Shown.{Shown}

-- parts that were appended
pub five : (t0 t1 t2 t3 t4 t5 a b c d e : List ℕ) → t1 ≡ t0 ++ a → t2 ≡ t1 ++ b → t3 ≡ t2 ++ c → t4 ≡ t3 ++ d → t5 ≡ t4 ++ e → t5 ≡ t0 ++ (a ++ (b ++ (c ++ (d ++ e))))
five t0 t1 t2 t3 t4 t5 a b c d e p q r s t = rw (t, s, r, q, p) (simp append_assoc)

pub seven_new : (t0 t1 t2 t3 t4 t5 t6 t7 a b c d e f g : List ℕ) → t0 ≡ [] → t1 ≡ t0 ++ a → t2 ≡ t1 ++ b → t3 ≡ t2 ++ c → t4 ≡ t3 ++ d → t5 ≡ t4 ++ e → t6 ≡ t5 ++ f → t7 ≡ t6 ++ g → t7 ≡ a ++ (b ++ (c ++ (d ++ (e ++ (f ++ g)))))
seven_new t0 t1 t2 t3 t4 t5 t6 t7 a b c d e f g new p q r s t u v = rw (v, u, t, s, r, q, p, new) (simp append_assoc)

-- parts that were read
pub read_five : (text r1 r2 r3 r4 r5 a b c d e : List ℕ) → text ≡ a ++ r1 → r1 ≡ b ++ r2 → r2 ≡ c ++ r3 → r3 ≡ d ++ r4 → r4 ≡ e ++ r5 → text ≡ (a ++ (b ++ (c ++ (d ++ e)))) ++ r5
read_five text r1 r2 r3 r4 r5 a b c d e p q r s t = rw (p, q, r, s, t) (simp append_assoc)

pub read_seven : (text r1 r2 r3 r4 r5 r6 a b c d e f g : List ℕ) → text ≡ a ++ r1 → r1 ≡ b ++ r2 → r2 ≡ c ++ r3 → r3 ≡ d ++ r4 → r4 ≡ e ++ r5 → r5 ≡ f ++ r6 → r6 ≡ g → text ≡ a ++ (b ++ (c ++ (d ++ (e ++ (f ++ g)))))
read_seven text r1 r2 r3 r4 r5 r6 a b c d e f g p q r s t u v =
    p ∙ ap (λ x. a ++ x) (q ∙ ap (λ x. b ++ x) (r ∙ ap (λ x. c ++ x) (s ∙ ap (λ x. d ++ x) (t ∙ ap (λ x. e ++ x) (u ∙ ap (λ x. f ++ x) v)))))

pub seven_then : (text r1 r2 r3 r4 r5 r6 a b c d e f g more : List ℕ) → text ≡ a ++ r1 → r1 ≡ b ++ r2 → r2 ≡ c ++ r3 → r3 ≡ d ++ r4 → r4 ≡ e ++ r5 → r5 ≡ f ++ r6 → r6 ≡ g ++ more → text ≡ (a ++ (b ++ (c ++ (d ++ (e ++ (f ++ g)))))) ++ more
seven_then text r1 r2 r3 r4 r5 r6 a b c d e f g more p q r s t u v = read_seven text r1 r2 r3 r4 r5 r6 a b c d e f (g ++ more) p q r s t u v ∙ simp append_assoc

-- parts that are to be read
pub five_split : (a b c d e rest : List ℕ) → (a ++ (b ++ (c ++ (d ++ e)))) ++ rest ≡ a ++ (b ++ (c ++ (d ++ (e ++ rest))))
five_split a b c d e rest = simp append_assoc

-- the version comes first
pub version_first : (text rest : List ℕ) (h : Head) → text ≡ head_text h ++ rest → HasVersion text
version_first text rest h is =
    let parts = grid_line h.grid ++ (place_line h.place ++ (nodata_line h.nodata ++ verdict_line h.verdict)) in
    (parts ++ rest, is ∙ append_assoc version_line parts rest)

-- two facts of one answer
pub on_both : {X E : Type 0} {P Q R : X → Type 0} (r : Result X E) → ((x : X) → P x → Q x → R x) → IfOk r P → IfOk r Q → IfOk r R
on_both (Ok x) f p q = f x p q
on_both (Err e) f p q = tt

pub match_both : {X E : Type 0} {P Q : X → Type 0} {S T : E → Type 0} (r : Result X E) → ((x : X) → P x → Q x) → ((e : E) → S e → T e) → MatchResult r P S → MatchResult r Q T
match_both (Ok x) f g p = f x p
match_both (Err e) f g p = g e p

pub on_ok : {X E P Q : Type 0} (r : Result X E) → (P → Q) → OnOk r P → OnOk r Q
on_ok (Ok x) f p = f p
on_ok (Err e) f p = tt

pub same_head : (h : Head) (grid : UnionGrid) (place : Place) (nodata : NoDataNumbers) (verdict : UnionVerdict) → grid ≡ h.grid → place ≡ h.place → nodata ≡ h.nodata → verdict ≡ h.verdict
    → record { grid = grid; place = place; nodata = nodata; verdict = verdict } ≡ h
same_head h grid place nodata verdict a b c d = rw (a, b, c, d) refl

-- the first lines of a report with this grid and this verdict
abbrev pub head_with : UnionGrid → UnionVerdict → Report → Head
head_with grid verdict r = record { grid = grid; place = r.place; nodata = r.nodata; verdict = verdict }

-- what these parts say
abbrev pub contents_with : Head → List Distances → List Corner → List Cell → List Outlet → List Shown → Contents
contents_with h spacings tiles sinks outlets seams = record {
  grid = h.grid;
  tiles = tiles;
  verdict = h.verdict;
  report = record { place = h.place; spacings = spacings; nodata = h.nodata; holds = is_accepted h.verdict; outlets = outlets; seams = seams; sinks = sinks };
}

-- what follows each part of a report
abbrev pub after_outlets : Contents → List ℕ
after_outlets w = list_text (codes "seams") shown_line w.report.seams ++ end_line

abbrev pub after_sinks : Contents → List ℕ
after_sinks w = list_text (codes "outlets") outlet_line w.report.outlets ++ after_outlets w

abbrev pub after_tiles : Contents → List ℕ
after_tiles w = list_text (codes "sinks") sink_line w.report.sinks ++ after_sinks w

abbrev pub after_spacings : Contents → List ℕ
after_spacings w = list_text (codes "tiles") tile_line w.tiles ++ after_tiles w

abbrev pub after_head : Contents → List ℕ
after_head w = spacings_text w.report.spacings ++ after_spacings w

-- the list of tiles begins with its word
abbrev pub behind_tiles_word : Contents → List ℕ
behind_tiles_word w = (spaced (pos (length w.tiles) ∷ []) ++ 10 ∷ []) ++ (all_text tile_line w.tiles ++ after_tiles w)

pub tiles_begin : (w : Contents) → after_spacings w ≡ codes "tiles" ++ behind_tiles_word w
tiles_begin w = simp append_assoc

pub with_word : (w : Contents) → after_head w ≡ spacings_text w.report.spacings ++ (codes "tiles" ++ behind_tiles_word w)
with_word w = ap (λ t. spacings_text w.report.spacings ++ t) (tiles_begin w)

pub same_contents : (w : Contents) (head : Head) (holds : Bool) (spacings : List Distances) (tiles : List Corner) (sinks : List Cell) (outlets : List Outlet) (seams : List Shown)
    → head ≡ head_of w → holds ≡ w.report.holds → spacings ≡ w.report.spacings → tiles ≡ w.tiles → sinks ≡ w.report.sinks → outlets ≡ w.report.outlets → seams ≡ w.report.seams
    → record {
      grid = head.grid;
      tiles = tiles;
      verdict = head.verdict;
      report = record { place = head.place; spacings = spacings; nodata = head.nodata; holds = holds; outlets = outlets; seams = seams; sinks = sinks };
    } ≡ w
same_contents w head holds spacings tiles sinks outlets seams a b c d e f g = rw (a, b, c, d, e, f, g) refl
