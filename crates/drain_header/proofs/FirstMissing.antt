-- The first keyword that the lines lack is the first that their values lack.
use Rattle.drain_header.proofs.Names.{true, false, length, ◌∙◌, suc, Bool, ap, not, cond, Option, Some, None, is_some, is_none, option_or, Key, Nrows, Ncols, Ulxmap, Ulymap, Xdim, Ydim, Value, Seen, lacking, is_unseen, HeightKind}
use Rattle.std.proofs.Common.{◌≡◌, ℕ, List, refl}
use Rattle.drain_header.proofs.AnswerFunction.{is_absent, first_missing}
use Rattle.drain_header.proofs.Folding.{IsSeen, at}

abbrev either : Bool → Key → Option Key
either b key = cond b (Some key) None

-- the first six of the keywords in the order of the table, with those between that may be absent
chain : (a b c d e f : Bool) → option_or (option_or (option_or (option_or (option_or (option_or (option_or (option_or (option_or (option_or (option_or (option_or (option_or (option_or (option_or None (either a Nrows)) (either b Ncols)) None) None) None) None) None) None) None) None) (either c Ulxmap)) (either d Ulymap)) (either e Xdim)) (either f Ydim)) None
    ≡ cond a (Some Nrows) (cond b (Some Ncols) (cond c (Some Ulxmap) (cond d (Some Ulymap) (cond e (Some Xdim) (cond f (Some Ydim) None)))))
chain true b c d e f = refl
chain false true c d e f = refl
chain false false true d e f = refl
chain false false false true e f = refl
chain false false false false true f = refl
chain false false false false false true = refl
chain false false false false false false = refl

unseen : (o : Option Value) → not (is_some o) ≡ is_none o
unseen None = refl
unseen (Some v) = refl

absent : (kind : HeightKind) (lines : List (List ℕ)) (seen : Seen) → IsSeen kind lines lines (suc (length lines)) seen → (key : Key) → is_absent lines key ≡ is_unseen seen key
absent kind lines seen s key = ap not (s.there key) ∙ unseen (at key seen)

pub missing_is : (kind : HeightKind) (lines : List (List ℕ)) (seen : Seen) → IsSeen kind lines lines (suc (length lines)) seen → first_missing lines ≡ lacking seen
missing_is kind lines seen s =
    chain (is_absent lines Nrows) (is_absent lines Ncols) (is_absent lines Ulxmap) (is_absent lines Ulymap) (is_absent lines Xdim) (is_absent lines Ydim)
    ∙ ap (λ b. cond b (Some Nrows) (cond (is_absent lines Ncols) (Some Ncols) (cond (is_absent lines Ulxmap) (Some Ulxmap) (cond (is_absent lines Ulymap) (Some Ulymap) (cond (is_absent lines Xdim) (Some Xdim) (cond (is_absent lines Ydim) (Some Ydim) None)))))) (absent kind lines seen s Nrows)
    ∙ ap (λ b. cond (is_unseen seen Nrows) (Some Nrows) (cond b (Some Ncols) (cond (is_absent lines Ulxmap) (Some Ulxmap) (cond (is_absent lines Ulymap) (Some Ulymap) (cond (is_absent lines Xdim) (Some Xdim) (cond (is_absent lines Ydim) (Some Ydim) None)))))) (absent kind lines seen s Ncols)
    ∙ ap (λ b. cond (is_unseen seen Nrows) (Some Nrows) (cond (is_unseen seen Ncols) (Some Ncols) (cond b (Some Ulxmap) (cond (is_absent lines Ulymap) (Some Ulymap) (cond (is_absent lines Xdim) (Some Xdim) (cond (is_absent lines Ydim) (Some Ydim) None)))))) (absent kind lines seen s Ulxmap)
    ∙ ap (λ b. cond (is_unseen seen Nrows) (Some Nrows) (cond (is_unseen seen Ncols) (Some Ncols) (cond (is_unseen seen Ulxmap) (Some Ulxmap) (cond b (Some Ulymap) (cond (is_absent lines Xdim) (Some Xdim) (cond (is_absent lines Ydim) (Some Ydim) None)))))) (absent kind lines seen s Ulymap)
    ∙ ap (λ b. cond (is_unseen seen Nrows) (Some Nrows) (cond (is_unseen seen Ncols) (Some Ncols) (cond (is_unseen seen Ulxmap) (Some Ulxmap) (cond (is_unseen seen Ulymap) (Some Ulymap) (cond b (Some Xdim) (cond (is_absent lines Ydim) (Some Ydim) None)))))) (absent kind lines seen s Xdim)
    ∙ ap (λ b. cond (is_unseen seen Nrows) (Some Nrows) (cond (is_unseen seen Ncols) (Some Ncols) (cond (is_unseen seen Ulxmap) (Some Ulxmap) (cond (is_unseen seen Ulymap) (Some Ulymap) (cond (is_unseen seen Xdim) (Some Xdim) (cond b (Some Ydim) None)))))) (absent kind lines seen s Ydim)
