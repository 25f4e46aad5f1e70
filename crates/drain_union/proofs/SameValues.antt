-- The derived tests of values pass exactly where these are the same.
use Rattle.drain_union.proofs.Names.{◌≡◌, Bool, true, ◌&&◌, ℤ, refl, sym, subst, ◌∙◌, false, Option, Some, None, ap, int_eq, and_parts, and_from, false≢true, NoDataNumbers, Values, audited, AreOfSeam}
use Rattle.std.proofs.lemmas.Bool.Decides.{Decides-int_eq}
use Rattle.std.specs.Option.{option_eq}
use mathlib.Core.Bool.{beq}

-- The derived tests of numbers of products, and of the no-data numbers of an audit, pass exactly where these are the same.

number_itself : (a : ℤ) → int_eq a a ≡ true
number_itself a = (Decides-int_eq a a).1 refl

abbrev pub numbers_test : NoDataNumbers → NoDataNumbers → Bool
numbers_test m n = int_eq m.con n.con && (int_eq m.dir n.dir && (int_eq m.acc n.acc && (int_eq m.bas n.bas && (int_eq m.spl n.spl && int_eq m.rnk n.rnk))))

pub same_numbers : (m n : NoDataNumbers) → numbers_test m n ≡ true → m ≡ n
same_numbers m n passes =
    let con = and_parts _ _ passes in
    let dir = and_parts _ _ con.1 in
    let acc = and_parts _ _ dir.1 in
    let bas = and_parts _ _ acc.1 in
    let spl = and_parts _ _ bas.1 in
    λ i. record {
      con = (Decides-int_eq m.con n.con).0 con.0 i;
      dir = (Decides-int_eq m.dir n.dir).0 dir.0 i;
      acc = (Decides-int_eq m.acc n.acc).0 acc.0 i;
      bas = (Decides-int_eq m.bas n.bas).0 bas.0 i;
      spl = (Decides-int_eq m.spl n.spl).0 spl.0 i;
      rnk = (Decides-int_eq m.rnk n.rnk).0 spl.1 i;
    }

pub numbers_pass : (m n : NoDataNumbers) → m ≡ n → numbers_test m n ≡ true
numbers_pass m n same = subst (λ x. numbers_test m x ≡ true) same
    (and_from _ _ (number_itself m.con)
    (and_from _ _ (number_itself m.dir)
    (and_from _ _ (number_itself m.acc) (and_from _ _ (number_itself m.bas) (and_from _ _ (number_itself m.spl) (number_itself m.rnk))))))

abbrev pub four_test : NoDataNumbers → NoDataNumbers → Bool
four_test m n = int_eq m.con n.con && (int_eq m.dir n.dir && (int_eq m.acc n.acc && int_eq m.bas n.bas))

-- of numbers of which the others are 0
pub same_four : (m n : NoDataNumbers) → audited m ≡ m → audited n ≡ n → four_test m n ≡ true → m ≡ n
same_four m n of_m of_n passes =
    let con = and_parts _ _ passes in
    let dir = and_parts _ _ con.1 in
    let acc = and_parts _ _ dir.1 in
    let four : audited m ≡ audited n = λ i. audited (record {
      con = (Decides-int_eq m.con n.con).0 con.0 i;
      dir = (Decides-int_eq m.dir n.dir).0 dir.0 i;
      acc = (Decides-int_eq m.acc n.acc).0 acc.0 i;
      bas = (Decides-int_eq m.bas n.bas).0 acc.1 i;
      spl = m.spl;
      rnk = m.rnk;
    }) in
    sym of_m ∙ four ∙ of_n

pub four_pass : (m n : NoDataNumbers) → m ≡ n → four_test m n ≡ true
four_pass m n same = subst (λ x. four_test m x ≡ true) same
    (and_from _ _ (number_itself m.con) (and_from _ _ (number_itself m.dir) (and_from _ _ (number_itself m.acc) (number_itself m.bas))))

same_flag : (a b : Bool) → beq a b ≡ true → a ≡ b
same_flag true true h = refl
same_flag true false h = sym h
same_flag false true h = h
same_flag false false h = refl

flag_itself : (a : Bool) → beq a a ≡ true
flag_itself true = refl
flag_itself false = refl

same_option : (a b : Option ℤ) → option_eq int_eq a b ≡ true → a ≡ b
same_option None None h = refl
same_option None (Some y) h = absurd (false≢true h)
same_option (Some x) None h = absurd (false≢true h)
same_option (Some x) (Some y) h = ap (λ n. Some n) ((Decides-int_eq x y).0 h)

option_itself : (a : Option ℤ) → option_eq int_eq a a ≡ true
option_itself None = refl
option_itself (Some x) = (Decides-int_eq x x).1 refl

-- the numbers of the products
abbrev numbers_in : Values → NoDataNumbers
numbers_in v = record { con = v.con; dir = v.dir; acc = v.acc; bas = v.bas; spl = v.spl; rnk = v.rnk }

abbrev pub values_test : Values → Values → Bool
values_test v w = option_eq int_eq v.z w.z && (beq v.sink w.sink && numbers_test (numbers_in v) (numbers_in w))

pub same_values : (v w : Values) → values_test v w ≡ true → v ≡ w
same_values v w passes =
    let z = and_parts _ _ passes in
    let sink = and_parts _ _ z.1 in
    let numbers = same_numbers (numbers_in v) (numbers_in w) sink.1 in
    λ i. record {
      z = same_option v.z w.z z.0 i;
      sink = same_flag v.sink w.sink sink.0 i;
      con = (numbers i).con;
      dir = (numbers i).dir;
      acc = (numbers i).acc;
      bas = (numbers i).bas;
      spl = (numbers i).spl;
      rnk = (numbers i).rnk;
    }

values_itself : (v : Values) → values_test v v ≡ true
values_itself v = and_from _ _ (option_itself v.z) (and_from _ _ (flag_itself v.sink) (numbers_pass (numbers_in v) (numbers_in v) refl))

pub values_pass : (v w : Values) → v ≡ w → values_test v w ≡ true
values_pass v w same = subst (λ x. values_test v x ≡ true) same (values_itself v)

-- the same of the values of a seam

abbrev pub seam_test : Values → Values → Bool
seam_test v w = option_eq int_eq v.z w.z && (beq v.sink w.sink && four_test (numbers_in v) (numbers_in w))

pub same_seam : (v w : Values) → AreOfSeam v → AreOfSeam w → seam_test v w ≡ true → v ≡ w
same_seam v w of_v of_w passes =
    let z = and_parts _ _ passes in
    let sink = and_parts _ _ z.1 in
    let con = and_parts _ _ sink.1 in
    let dir = and_parts _ _ con.1 in
    let acc = and_parts _ _ dir.1 in
    let dir_is = (Decides-int_eq v.dir w.dir).0 dir.0 in
    λ i. record {
      z = same_option v.z w.z z.0 i;
      sink = same_flag v.sink w.sink sink.0 i;
      con = (Decides-int_eq v.con w.con).0 con.0 i;
      dir = dir_is i;
      acc = (Decides-int_eq v.acc w.acc).0 acc.0 i;
      bas = (Decides-int_eq v.bas w.bas).0 acc.1 i;
      spl = (of_v.spl ∙ sym of_w.spl) i;
      rnk = (of_v.rnk ∙ dir_is ∙ sym of_w.rnk) i;
    }

pub seam_pass : (v w : Values) → v ≡ w → seam_test v w ≡ true
seam_pass v w same = subst (λ x. seam_test v x ≡ true) same
    (and_from _ _ (option_itself v.z) (and_from _ _ (flag_itself v.sink) (four_pass (numbers_in v) (numbers_in v) refl)))
