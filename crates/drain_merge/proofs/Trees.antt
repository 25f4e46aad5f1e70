-- A report that joins windows stands for theirs, and so does one that joins such reports.
use Rattle.drain_merge.proofs.Names.{◌≡◌, ◌↔◌, ℕ, ◌-◌, ◌^◌, ◌≤◌, arith, inl, inr, None, List, slice_index_or, IsTrue, subst, ◌∙◌, Contains, All-contains, Contains-get_or, Cell, Grid, Products, NoDataNumbers, Place, SEAM_DEPTH, WindowReport, UnionVerdict, Accepted, Rejected, IsGroup, LiesInBox, shown_at, Report, ShowTheSame, SpacedAlike, AreWindowsFrom, IsFrom, IsWindowOf, Window, window_from, are_windows, corner, from_corner, own_shown, own_window, from_map, IsJoinUpTo, IsJoinedVerdict, IsOfBox, HaveNoData, all_seams, reports_of, IsFirstOfFaults, all_behind, EachStandsFor, JoinsStandForAll, JoinStands, MergeOfJoins, StandsFor, AreTaken, HasMapSinks, IsEnd, IsMapVerdict, IsWholeJoin, UnionSinks, box_at, box_of, ap, AreJudgedFrom, IsJudgedFrom, IsRejected, SomeIsRejected, windows_of}
use Rattle.drain_union.proofs.SeenWindows.{grid_at, products_at, window_at_box}
use Rattle.drain_merge.specs.declared.map_merge.MapVerdict.{MapVerdict}
use Rattle.drain_merge.proofs.JoinedVerdicts.{join_of_box}
use Rattle.drain_merge.proofs.JoinedWindows as joined
use Rattle.drain_merge.proofs.JudgedWindows.{agree, faulty, from_window, overlaps, pairs_map, says_so, some_or_none, some_rejected, to_window}
use Rattle.drain_merge.proofs.MadeJoins.{whole_join}
use Rattle.drain_merge.proofs.SortedSeams.{from_flat, in_flat}
use Rattle.drain_merge.proofs.WholeUnions.{union_sinks, union_verdict}

-- A joined report stands for the windows.

-- it is rejected exactly if one of them is
rejected_for : (p : Place) (ws : List WindowReport) (v : UnionVerdict) → IsJoinedVerdict p ws v → IsRejected v → SomeIsRejected ws
rejected_for p ws (Accepted counts) told never = absurd never
rejected_for p ws (Rejected fault) told rejected = some_rejected ws _ told

rejected_with : (p : Place) (ws : List WindowReport) (v : UnionVerdict) → IsJoinedVerdict p ws v → SomeIsRejected ws → IsRejected v
rejected_with p ws (Accepted counts) told some = absurd (faulty some.0.report.place some.0.verdict some.2 (told.0 some.0 some.1))
rejected_with p ws (Rejected fault) told some = tt

module _ (last : ℕ) (most_last : last ≤ 2 ^ 32) (ws : List WindowReport) (j : WindowReport) (is : IsJoinUpTo last ws j) (none : IsFirstOfFaults ws None) (window_of : Report → Window)
    (judged : AreJudgedFrom window_of ws) where
  abbrev box : Place
  box = j.report.place

  abbrev windows : List Window
  windows = windows_of window_of ws

  holds : (r : Report) → Contains (reports_of ws) r → IsTrue r.holds
  holds r has =
      let w = from_map (λ (x : WindowReport). x.report) ws r has in
      subst (λ (q : Report). IsTrue q.holds) w.2 (says_so j.report.nodata ws is.one_nodata window_of judged none w.0 w.1)

  same : ShowTheSame (all_seams ws) (all_seams ws)
  same = elim is.agree [ inl some ↦ absurd (faulty some.0.report.place some.0.verdict some.2 (none some.0 some.1)) | inr all ↦ all ]

  group : IsGroup SEAM_DEPTH j.report.nodata (reports_of ws) j.report
  group = record {
    lie = λ r has.
        (let w = from_map (λ (x : WindowReport). x.report) ws r has in
        subst (λ (q : Report). LiesInBox box q.place) w.2 (joined.lies last most_last ws j is w.0 w.1));
    one_nodata = joined.one_nodata last most_last ws j is;
    spaced = pairs_map (λ (w : WindowReport). w.report) SpacedAlike ws is.spaced;
    fills = joined.filled_by_reports last most_last ws j is;
    overlaps = overlaps box ws (joined.lies last most_last ws j is) is.fills.some is.fills.apart;
    agree = agree ws same;
    made = joined.made last most_last ws j is window_of judged;
  }

  theirs : (origin : Cell) (u : Grid) (ps : Products) → IsFrom origin box → IsWindowOf u ps (window_from origin (window_at_box box windows)) →
      AreWindowsFrom origin u ps windows
  theirs = are_windows j.report.nodata (reports_of ws) window_of j.report (joined.of_windows last most_last ws j is window_of judged) holds group

  -- it is of the window that theirs make, which is what that window shows of itself at the box
  of_one : IsJudgedFrom (window_at_box box windows) j
  of_one =
      let g = grid_at box windows in
      let ps = products_at box windows in
      subst (λ (w : Window). IsJudgedFrom w j) (own_shown box windows)
      (join_of_box last most_last ws j is (corner box) window_of judged g ps (from_corner box) (theirs (corner box) g ps (from_corner box) (own_window box windows))).0

pub box_stands : (last : ℕ) → last ≤ 2 ^ 32 → (ws : List WindowReport) (j : WindowReport) → IsJoinUpTo last ws j →
    StandsFor ws (λ window_of. window_at_box j.report.place (windows_of window_of ws)) j
box_stands last most_last ws j is = record {
  begins = joined.begins last most_last ws j is;
  nodata = is.one_nodata;
  rejected = (
    rejected_for j.report.place ws j.verdict is.verdict,
    (λ some. rejected_with j.report.place ws j.verdict is.verdict some),
  );
  of_box = join_of_box last most_last ws j is;
  one = elim (some_or_none ws) [
    | inl some ↦ inl some
    | inr none ↦ inr (λ window_of judged. (of_one last most_last ws j is none window_of judged, theirs last most_last ws j is none window_of judged))
  ];
}

pub join_stands : JoinStands
join_stands = (window_at_box, λ ws j is. box_stands (2 ^ 32 - 1) (omega arith) ws j is)

-- A report that stands for reports stands for all that these stand for.

-- what a list of windows holds, the windows of a longer one do
more_windows : (window_of : Report → Window) (xs ys : List WindowReport) → ((j : WindowReport) → Contains xs j → Contains ys j) →
    (w : Window) → Contains (windows_of window_of xs) w → Contains (windows_of window_of ys) w
more_windows window_of xs ys more w has =
    let j = from_window window_of xs w has in
    subst (Contains (windows_of window_of ys)) j.2 (to_window window_of ys j.0 (more j.0 j.1))

module _ (joined : List WindowReport) (windows_behind : Place → List WindowReport) (made : Place → (Report → Window) → Window)
    (each : EachStandsFor windows_behind made joined) where
  abbrev all : List WindowReport
  all = all_behind windows_behind joined

  abbrev behind : WindowReport → List WindowReport
  behind j = windows_behind j.report.place

  among : (j : WindowReport) → Contains joined j → (w : WindowReport) → Contains (behind j) w → Contains all w
  among j has w has_w = in_flat behind joined j w has has_w

  -- which is one of those behind some report
  pub from_all : (w : WindowReport) → Contains all w → (j : WindowReport) × Contains joined j × Contains (behind j) w
  from_all w has = from_flat behind joined w has

  pub nodata_behind : (nodata : NoDataNumbers) → ((j : WindowReport) → Contains joined j → j.report.nodata ≡ nodata) → HaveNoData nodata all
  nodata_behind nodata one i d below =
      let w = slice_index_or all i d in
      let at = from_all w (Contains-get_or all i d below) in
      All-contains (λ (x : WindowReport). x.report.nodata ≡ at.0.report.nodata) (behind at.0) w (each at.0 at.1).nodata at.2 ∙ one at.0 at.1

  pub rejected_behind : (j : WindowReport) → Contains joined j → IsRejected j.verdict → SomeIsRejected all
  rejected_behind j has rejected =
      let some = (each j has).rejected.0 rejected in
      (some.0, among j has some.0 some.1, some.2)

  module _ (window_of : Report → Window) (judged : AreJudgedFrom window_of all) where
    pub judged_behind : (j : WindowReport) → Contains joined j → AreJudgedFrom window_of (behind j)
    judged_behind j has w has_w = judged w (among j has w has_w)

    pub window_behind : (j : WindowReport) → Contains joined j → (w : Window) → Contains (windows_of window_of (behind j)) w → Contains (windows_of window_of all) w
    window_behind j has = more_windows window_of (behind j) all (among j has)

    -- where none is rejected, each joined report is of the window that those behind it make
    module _ (none : IsFirstOfFaults all None) where
      pub of_made : (j : WindowReport) → Contains joined j → IsJudgedFrom (made j.report.place window_of) j
          × ((origin : Cell) (u : Grid) (ps : Products) → IsFrom origin j.report.place → IsWindowOf u ps (window_from origin (made j.report.place window_of)) →
          AreWindowsFrom origin u ps (windows_of window_of (behind j)))
      of_made j has =
          elim (each j has).one [
            | inl some ↦ absurd (faulty some.0.report.place some.0.verdict some.2 (none some.0 (among j has some.0 some.1)))
            | inr made_of ↦ made_of window_of (judged_behind j has)
          ]

      -- so where these are windows of a union, all behind are
      pub all_are_windows : (origin : Cell) (u : Grid) (ps : Products) → ((j : WindowReport) → Contains joined j → IsFrom origin j.report.place) →
          ((j : WindowReport) → Contains joined j → IsWindowOf u ps (window_from origin (made j.report.place window_of))) →
          AreWindowsFrom origin u ps (windows_of window_of all)
      all_are_windows origin u ps from are w has =
          let k = from_window window_of all w has in
          let j = from_all k.0 k.1 in
          subst (λ (v : Window). IsFrom origin v.place × IsWindowOf u ps (window_from origin v)) k.2
          ((of_made j.0 j.1).1 origin u ps (from j.0 j.1) (are j.0 j.1) (window_of k.0.report) (to_window window_of (behind j.0) k.0 j.2))

  module _ (top : WindowReport) (made_top : (Report → Window) → Window) (is : StandsFor joined made_top top) where
    from_top : (origin : Cell) → IsFrom origin top.report.place → (j : WindowReport) → Contains joined j → IsFrom origin j.report.place
    from_top origin = (is.begins origin).0

    all_begin : (origin : Cell) → IsFrom origin top.report.place ↔ ((w : WindowReport) → Contains all w → IsFrom origin w.report.place)
    all_begin origin = (
      (λ from w has. (let j = from_all w has in ((each j.0 j.1).begins origin).0 (from_top origin from j.0 j.1) w j.2)),
      (λ from. (is.begins origin).1 (λ j has. ((each j has).begins origin).1 (λ w has_w. from w (among j has w has_w)))),
    )

    all_of_box : IsOfBox all top
    all_of_box origin window_of judged u ps from are =
        is.of_box origin (λ r. shown_at origin r.place u ps) (λ j has. (part j has).0) u ps from
        (λ w has.
        (let j = from_window (λ r. shown_at origin r.place u ps) joined w has in
        subst (λ (v : Window). IsFrom origin v.place × IsWindowOf u ps (window_from origin v)) j.2 (from_top origin from j.0 j.1, (part j.0 j.1).1)))
      where
        -- what the union shows at the box of a joined report
        part : (j : WindowReport) → Contains joined j → IsJudgedFrom (shown_at origin j.report.place u ps) j
            × IsWindowOf u ps (window_from origin (shown_at origin j.report.place u ps))
        part j has =
            (each j has).of_box origin window_of (judged_behind window_of judged j has) u ps (from_top origin from j has)
            (λ w has_w. are w (window_behind window_of judged j has w has_w))

    all_made : IsFirstOfFaults all None → (window_of : Report → Window) → AreJudgedFrom window_of all →
        IsJudgedFrom (made_top (λ r. made r.place window_of)) top
        × ((origin : Cell) (u : Grid) (ps : Products) → IsFrom origin top.report.place →
        IsWindowOf u ps (window_from origin (made_top (λ r. made r.place window_of))) → AreWindowsFrom origin u ps (windows_of window_of all))
    all_made none window_of judged =
        elim is.one [
          | inl some ↦
              (let found = rejected_behind some.0 some.1 some.2 in
              absurd (faulty found.0.report.place found.0.verdict found.2 (none found.0 found.1)))
          | inr made_of ↦
              (let one = made_of (λ r. made r.place window_of) (λ j has. (of_made window_of judged none j has).0) in (
                one.0,
                λ origin u ps from of_top. all_are_windows window_of judged none origin u ps (from_top origin from)
                    (λ j has. (one.1 origin u ps from of_top (made j.report.place window_of) (to_window (λ r. made r.place window_of) joined j has)).1),
              ))
        ]

pub joins_stand_for_all : JoinsStandForAll
joins_stand_for_all joined windows_behind made each top made_top is = record {
  begins = all_begin joined windows_behind made each top made_top is;
  nodata = nodata_behind joined windows_behind made each top.report.nodata
      (λ j has. All-contains (λ (x : WindowReport). x.report.nodata ≡ top.report.nodata) joined j is.nodata has);
  rejected = (
    (λ rejected. (let j = is.rejected.0 rejected in rejected_behind joined windows_behind made each j.0 j.1 j.2)),
    (λ some.
        (let j = from_all joined windows_behind made each some.0 some.1 in
        is.rejected.1 (j.0, j.1, (each j.0 j.1).rejected.1 (some.0, j.2, some.2)))),
  );
  of_box = all_of_box joined windows_behind made each top made_top is;
  one = elim (some_or_none (all_behind windows_behind joined)) [
    | inl some ↦ inl some
    | inr none ↦ inr (all_made joined windows_behind made each top made_top is none)
  ];
}

-- The verdict on a union from the report of all of it is one on all that this stands for: on its windows, and, where they are
-- joined ones, on theirs.
module _ (ws : List WindowReport) (whole : WindowReport) (over : IsWholeJoin ws whole) where
  stands : StandsFor ws (λ window_of. window_at_box whole.report.place (windows_of window_of ws)) whole
  stands = box_stands (2 ^ 32) (omega arith) ws whole (whole_join ws whole over)

  pub map_verdict : (m : MapVerdict) → IsEnd whole m → IsMapVerdict ws m
  map_verdict m end = record {
    one_grid = over.make.alike.grid;
    bounds = end.bounds ∙ ap box_at over.place;
    verdict = union_verdict (box_of ws) ws _ whole over.place stands m.verdict end.verdict;
  }

  pub map_sinks : (sinks : UnionSinks) → AreTaken sinks whole → HasMapSinks sinks ws
  map_sinks = union_sinks (box_of ws) ws _ whole over.place stands

pub merge_of_joins : MergeOfJoins
merge_of_joins joined windows_behind made each m (whole, over, end) =
    union_verdict (box_of joined) (all_behind windows_behind joined) _ whole over.place
    (joins_stand_for_all joined windows_behind made each whole _ (stands joined whole over)) m.verdict end.verdict
