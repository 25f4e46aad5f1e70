-- A raster that isn't judged has con's pixels under the header of a missing raster. Beside the first 65,537 bytes of con's
-- header that is the first bytes of the one beside the whole: con's header is these bytes, and a map's header has fewer;
-- or both are too long, and copied.
use Rattle.drain_c.proofs.Names.{◌≡◌, ℕ, ◌<◌, List, [], if◌then◌else◌, false, length, take, Option, inl, inr, refl, sym, ap, subst, ◌∙◌, AreJudgedOf, IsJudgedOf, IsRasterOf, as_passed, judged_raster, raster_or_missing, CheckBytes, Judged, AllWithRanks, has_dir, has_acc, has_bas, has_rnk, SetProduct, of_product, HeaderFault, TooLong, AnswersOf, Fields, kind_of, as_five}
use Rattle.std.proofs.Common.{Result, Ok, Err}
use Rattle.drain_c.proofs.LongHeaders.{IsLong, short_or_long}
use Rattle.drain_grid.specs.declared.set_product.SetProduct.TheVariants.{Con, Dir, Acc, Bas, Rnk}
use Rattle.drain_header.proofs.AnswerFunction.{answer_of}
use Rattle.drain_header.proofs.AnswerMeaning.{answer_is}
use Rattle.drain_header.proofs.OneAnswer.{one_answer_of}
use Rattle.drain_sets.specs.declared.raster_input.AuditProducts.{AuditProducts}
use Rattle.drain_verdict.specs.Inputs.{Products}
use Rattle.drain_sets.specs.Missing.{IsMissingText, ReadsAsMap, missing_text}

-- beside each text there is one
pub missing_beside : (there : List ℕ) → (text : List ℕ) × IsMissingText there text
missing_beside there =
    let answer : Result Fields HeaderFault = answer_of (kind_of there) there in
    (missing_text there answer, record { answer = answer; answers = answer_is (kind_of there) there; text_is = refl })

-- and only one
one_missing : (there text other : List ℕ) → IsMissingText there text → IsMissingText there other → other ≡ text
one_missing there text other is too =
    let same : is.answer ≡ too.answer = one_answer_of (kind_of there) there is.answer too.answer is.answers too.answers in
    too.text_is ∙ (ap (missing_text there) (sym same) ∙ sym is.text_is)

-- beside a text that isn't too long it is its own first bytes
kept : (there text : List ℕ) (answer : Result Fields HeaderFault) → take 65537 there ≡ there → AnswersOf (kind_of there) there answer → text ≡ missing_text there answer → ReadsAsMap there text →
    take 65537 text ≡ text
kept there text (Ok h) short described is reads = elim (short_or_long text) [
  | inl same ↦ same
  | inr long ↦ absurd ((reads h described).sound TooLong long.whole)
]
kept there text (Err fault) short is_first is reads = subst (λ t. take 65537 t ≡ t) (sym is) short

-- beside one that is too long it is that text
copied : (there text : List ℕ) (answer : Result Fields HeaderFault) → 65536 < length there → AnswersOf (kind_of there) there answer → text ≡ missing_text there answer → text ≡ there
copied there text (Ok h) long described is = absurd (described.sound TooLong long)
copied there text (Err fault) long is_first is = is

of_short : (there text found : List ℕ) → take 65537 there ≡ there → IsMissingText there text → IsMissingText there found → ReadsAsMap there found → found ≡ take 65537 text
of_short there text found short is found_is reads =
    sym (kept there found found_is.answer short found_is.answers found_is.text_is reads) ∙ ap (take 65537) (one_missing there text found is found_is)

of_long : (there text found : List ℕ) → IsLong there → IsMissingText there text → IsMissingText (take 65537 there) found → found ≡ take 65537 text
of_long there text found long is found_is =
    copied (take 65537 there) found found_is.answer long.first_bytes found_is.answers found_is.text_is
    ∙ ap (take 65537) (sym (copied there text is.answer long.whole is.answers is.text_is))

pub of_first_bytes : (there text found : List ℕ) → IsMissingText there text → IsMissingText (take 65537 there) found → ReadsAsMap (take 65537 there) found → found ≡ take 65537 text
of_first_bytes there text found is found_is reads = elim (short_or_long there) [
  | inl short ↦ of_short there text found short is (subst (λ t. IsMissingText t found) short found_is) (subst (λ t. ReadsAsMap t found) short reads)
  | inr long ↦ of_long there text found long is found_is
]

-- each product has its raster
pub four_judged : {R : Type 0} (bytes_left : R → Option (List ℕ)) (judged : Judged) (given : CheckBytes) (ps : AuditProducts R) → has_rnk judged ≡ false → IsRasterOf bytes_left (as_passed given.con) ps.con →
    IsJudgedOf bytes_left (has_dir judged) given.dir given.con ps.dir → IsJudgedOf bytes_left (has_acc judged) given.acc given.con ps.acc →
    IsJudgedOf bytes_left (has_bas judged) given.bas given.con ps.bas → AreJudgedOf bytes_left judged given (as_five ps)
four_judged bytes_left judged given ps none con dir acc bas header is Con = con
four_judged bytes_left judged given ps none con dir acc bas header is Dir = dir header is
four_judged bytes_left judged given ps none con dir acc bas header is Acc = acc header is
four_judged bytes_left judged given ps none con dir acc bas header is Bas = bas header is
four_judged bytes_left judged given ps none con dir acc bas header is Rnk =
    subst (λ b. IsRasterOf bytes_left (if b then as_passed given.rnk else raster_or_missing (has_dir judged) given.dir given.con header) ps.dir) (sym none) (dir header is)

pub five_judged : {R : Type 0} (bytes_left : R → Option (List ℕ)) (given : CheckBytes) (ps : Products R) → ((p : SetProduct) → IsRasterOf bytes_left (judged_raster AllWithRanks given [] p) (of_product ps p)) →
    AreJudgedOf bytes_left AllWithRanks given ps
five_judged bytes_left given ps are header is Con = are Con
five_judged bytes_left given ps are header is Dir = are Dir
five_judged bytes_left given ps are header is Acc = are Acc
five_judged bytes_left given ps are header is Bas = are Bas
five_judged bytes_left given ps are header is Rnk = are Rnk
