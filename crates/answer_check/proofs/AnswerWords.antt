-- The numbers that an answer line gives the variables, read from its front.
use Rattle.std.proofs.Common.{◌≡◌, ℕ, suc, ◌<◌, ◌≤◌, ◌^◌, Bool, true, false, cond, not, pos, List, [], ◌∷◌, ◌++◌, map, length, take, drop, get_or, codes}
use Rattle.std.proofs.Common.{decimal, Option, Some, None, refl, sym, ap, ◌∙◌, subst, arith, append_assoc, take-append-drop, length-take-le}
use Rattle.std.specs.Prelude.{◌&&◌, nat_eq, nat_le, option_map, option_and_then, slice_index, All}
use Rattle.std.specs.Char.{is_ascii_digit}
use Rattle.std.specs.List.{position_or_len, starts_with}
use Rattle.std.specs.Str.{bytes_eq}
use Rattle.std.specs.Str.Parse.{digits_value}
use Rattle.std.proofs.Math.Seq.{drop-append_seam, take-append_seam, get_or-append_seam}
use Rattle.std.proofs.lemmas.Bool.{leb-true}
use Rattle.std.proofs.lemmas.Bool.Decides.{nat_tests}
use Rattle.std.proofs.lemmas.Fmt.{decimal_is_IsNumeral}
use Rattle.std.proofs.lemmas.List.{get_or_append_left, length-append}
use Rattle.std.proofs.lemmas.List.Elements.{All-nil, All-cons, All-head, All-tail}
use Rattle.std.proofs.lemmas.List.Sums.{position_or_len_is, prefix_len-le-length}
use Rattle.std.proofs.lemmas.Slice.Eq.{bytes_eq-Decides}
use Rattle.std.proofs.lemmas.Str.Parse.{digit_at}
use Rattle.std.proofs.lemmas.Option.{same_Some}
use Rattle.fd_language.specs.declared.TheConstants.{INFINITY}
use Rattle.fd_language.specs.Family.{count_up}
use Rattle.fd_language.specs.Term.{Name, Term, Int}
use Rattle.fd_model.specs.FlatLines.{assigned_line}
use Rattle.fd_model.specs.Goal.{Query}
use Rattle.fd_model.specs.Lines.{line, line_of, equals_text, joined}
use Rattle.answer_check.specs.AnswerLines.{assigned, IsAnswer}
use Rattle.answer_check.specs.Rows.{behind, number_in, digits_of, with_rest, number_and_rest, value_in, values_in, answer_in}

-- ---- options

then_is : {A B : Type 0} (f : A → Option B) (o : Option A) (y : B) → option_and_then f o ≡ Some y → (x : A) × (o ≡ Some x) × (f x ≡ Some y)
then_is f None y e = absurd (cc (e))
then_is f (Some x) y e = (x, refl, e)

map_is : {A B : Type 0} (f : A → B) (o : Option A) (y : B) → option_map f o ≡ Some y → (x : A) × (o ≡ Some x) × (f x ≡ y)
map_is f None y e = absurd (cc (e))
map_is f (Some x) y e = (x, refl, same_Some (f x) y e)

-- ---- what stands behind a front

pub behind_is : (front bytes rest : List ℕ) → behind front bytes ≡ Some rest → bytes ≡ front ++ rest
behind_is front bytes rest e = go (starts_with nat_eq bytes front) refl e
  where
    go : (t : Bool) → starts_with nat_eq bytes front ≡ t → cond t (Some (drop (length front) bytes)) None ≡ Some rest → bytes ≡ front ++ rest
    go true s f =
        let head : take (length front) bytes ≡ front = sym ((bytes_eq-Decides front (take (length front) bytes)).0 s) in
        sym (take-append-drop (length front) bytes) ∙ ap (λ t. t ++ drop (length front) bytes) head ∙ ap (λ t. front ++ t) (same_Some (drop (length front) bytes) rest f)
    go false s f = absurd (cc (f))

pub behind_of : (front rest : List ℕ) → behind front (front ++ rest) ≡ Some rest
behind_of front rest =
    let t : starts_with nat_eq (front ++ rest) front ≡ true = (bytes_eq-Decides front (take (length front) (front ++ rest))).1 (sym (take-append_seam front rest)) in
    ap (λ b. cond b (Some (drop (length front) (front ++ rest))) None) t ∙ ap Some (drop-append_seam front rest)

-- ---- numbers

pub small : (n : ℕ) → n ≤ INFINITY → n < 2 ^ 64
small n l = omega arith

pub number_is : (bs : List ℕ) (n : ℕ) → number_in bs ≡ Some n → (bs ≡ decimal n) × (n ≤ INFINITY)
number_is bs n e = go (bytes_eq (decimal v) bs) (nat_le v INFINITY) refl refl e
  where
    v : ℕ
    v = digits_value 10 bs

    go : (a b : Bool) → bytes_eq (decimal v) bs ≡ a → nat_le v INFINITY ≡ b → cond (a && b) (Some v) None ≡ Some n → (bs ≡ decimal n) × (n ≤ INFINITY)
    go false b s l f = absurd (cc (f))
    go true false s l f = absurd (cc (f))
    go true true s l f =
        let same : v ≡ n = same_Some v n f in
        (sym ((bytes_eq-Decides (decimal v) bs).0 s) ∙ ap decimal same, subst (λ k. k ≤ INFINITY) same (leb-true v INFINITY l))

within : (n : ℕ) → n ≤ INFINITY → nat_le n INFINITY ≡ true
within n l = grind (arith, nat_tests)

number_of : (n : ℕ) → n ≤ INFINITY → number_in (decimal n) ≡ Some n
number_of n l =
    ap (λ v. cond (bytes_eq (decimal v) (decimal n) && nat_le v INFINITY) (Some v) None) (decimal_is_IsNumeral n (small n l)).1
    ∙ ap (λ b. cond (b && nat_le n INFINITY) (Some n) None) ((bytes_eq-Decides (decimal n) (decimal n)).1 refl) ∙ ap (λ b. cond b (Some n) None) (within n l)

-- ---- the digits in front of another character

a_digit : (c : ℕ) → 48 ≤ c → c ≤ 57 → not (is_ascii_digit c) ≡ false
a_digit c l h = grind (arith, nat_tests)

digits_before : (n c : ℕ) (ws : List ℕ) → n < 2 ^ 64 → not (is_ascii_digit c) ≡ true → digits_of (decimal n ++ c ∷ ws) ≡ decimal n
digits_before n c ws l other =
    let ds = decimal n in
    let xs = ds ++ c ∷ ws in
    let all = (decimal_is_IsNumeral n l).0.1 in
    let len : length ds ≤ length xs = omega (arith, length-append ds (c ∷ ws)) in
    let at : position_or_len (λ b. not (is_ascii_digit b)) xs ≡ length ds = position_or_len_is (λ b. not (is_ascii_digit b)) xs (length ds) 0 len
    (λ k h. ap (λ x. not (is_ascii_digit x)) (get_or_append_left ds (c ∷ ws) 0 k h) ∙ a_digit (get_or ds k 0) (digit_at ds k all h).0 (digit_at ds k all h).1)
    (λ h. ap (λ x. not (is_ascii_digit x)) (get_or-append_seam ds c ws 0) ∙ other) in
    ap (λ k. take k xs) at ∙ take-append_seam ds (c ∷ ws)

digits_and_rest : (rest : List ℕ) → digits_of rest ++ drop (length (digits_of rest)) rest ≡ rest
digits_and_rest rest =
    let k = position_or_len (λ b. not (is_ascii_digit b)) rest in
    let len : length (take k rest) ≡ k = length-take-le k rest (prefix_len-le-length _ rest) in
    ap (λ n. take k rest ++ drop n rest) len ∙ take-append-drop k rest

-- ---- the value of one variable

pub value_is : (between : List ℕ) (name : Name) (bytes rest : List ℕ) (n : ℕ) → value_in between name bytes ≡ Some (n, rest)
    → (bytes ≡ between ++ (name ++ (codes " = " ++ (decimal n ++ rest)))) × (n ≤ INFINITY)
value_is between name bytes rest n e =
    let a = then_is (λ (named : List ℕ). option_and_then
    (λ (equals : List ℕ). option_and_then (λ (later : List ℕ). number_and_rest later) (behind (codes " = ") equals)) (behind name named))
    (behind between bytes) (n, rest) e in
    let b = then_is (λ (equals : List ℕ). option_and_then (λ (later : List ℕ). number_and_rest later) (behind (codes " = ") equals)) (behind name a.0) (n, rest) a.2 in
    let d = then_is (λ (later : List ℕ). number_and_rest later) (behind (codes " = ") b.0) (n, rest) b.2 in
    let later = d.0 in
    let m = map_is (with_rest (drop (length (digits_of later)) later)) (number_in (digits_of later)) (n, rest) d.2 in
    let first : m.0 ≡ n = ap (λ (p : ℕ × List ℕ). p.0) m.2 in
    let second : drop (length (digits_of later)) later ≡ rest = ap (λ (p : ℕ × List ℕ). p.1) m.2 in
    let num = number_is (digits_of later) m.0 m.1 in
    let text : later ≡ decimal n ++ rest = sym (digits_and_rest later) ∙ ap (λ t. t ++ drop (length (digits_of later)) later) (num.0 ∙ ap decimal first) ∙ ap (λ t. decimal n ++ t) second in (
      behind_is between bytes a.0 a.1 ∙ ap (λ t. between ++ t)
          (behind_is name a.0 b.0 b.1 ∙ ap (λ t. name ++ t) (behind_is (codes " = ") b.0 later d.1 ∙ ap (λ t. codes " = " ++ t) text)),
      subst (λ k. k ≤ INFINITY) first num.1,
    )

pub value_of : (between : List ℕ) (name : Name) (n c : ℕ) (ws : List ℕ) → n ≤ INFINITY → not (is_ascii_digit c) ≡ true
    → value_in between name (between ++ (name ++ (codes " = " ++ (decimal n ++ c ∷ ws)))) ≡ Some (n, c ∷ ws)
value_of between name n c ws l other =
    let later = decimal n ++ c ∷ ws in
    let F = λ (named : List ℕ). option_and_then (λ (equals : List ℕ). option_and_then (λ (rest : List ℕ). number_and_rest rest) (behind (codes " = ") equals)) (behind name named) in
    let G = λ (equals : List ℕ). option_and_then (λ (rest : List ℕ). number_and_rest rest) (behind (codes " = ") equals) in
    let digits : digits_of later ≡ decimal n = digits_before n c ws (small n l) other in
    ap (option_and_then F) (behind_of between (name ++ (codes " = " ++ later)))
    ∙ ap (option_and_then G) (behind_of name (codes " = " ++ later))
    ∙ ap (option_and_then (λ (rest : List ℕ). number_and_rest rest)) (behind_of (codes " = ") later)
    ∙ ap (λ ds. option_map (with_rest (drop (length ds) later)) (number_in ds)) digits
    ∙ ap (option_map (with_rest (drop (length (decimal n)) later))) (number_of n l)
    ∙ ap (λ (t : List ℕ). Some (n, t)) (drop-append_seam (decimal n) (c ∷ ws))

-- ---- the values of all variables

abbrev tail_text : List Name → List ℕ → List ℕ
tail_text [] ks = codes "\n"
tail_text (n ∷ ns) [] = codes "\n"
tail_text (n ∷ ns) (k ∷ ks) = codes ", " ++ (n ++ (codes " = " ++ (decimal k ++ tail_text ns ks)))

abbrev row_text : Name → List Name → ℕ → List ℕ → List ℕ
row_text n ns k ks = n ++ (codes " = " ++ (decimal k ++ tail_text ns ks))

-- the bytes that tail_text begins with
values_of_row : (between : List ℕ) (n : Name) (ns : List Name) (k : ℕ) (ks : List ℕ) → length ks ≡ length ns → k ≤ INFINITY → All (λ j. j ≤ INFINITY) ks
    → values_in between (n ∷ ns) (between ++ row_text n ns k ks) ≡ Some (k ∷ ks)
values_of_row between n [] k [] e l h =
    ap (option_and_then (λ v. option_map (λ vs. v.0 ∷ vs) (values_in (codes ", ") [] v.1))) (value_of between n k 10 [] l refl)
values_of_row between n [] k (j ∷ ks) e l h = absurd (omega (arith, e))
values_of_row between n (m ∷ ns) k [] e l h = absurd (omega (arith, e))
values_of_row between n (m ∷ ns) k (j ∷ ks) e l h =
    let later = values_of_row (codes ", ") m ns j ks (omega (arith, e)) (All-head (λ i. i ≤ INFINITY) j ks h) (All-tail (λ i. i ≤ INFINITY) j ks h) in
    ap (option_and_then (λ v. option_map (λ vs. v.0 ∷ vs) (values_in (codes ", ") (m ∷ ns) v.1))) (value_of between n k 44 (32 ∷ row_text m ns j ks) l refl)
    ∙ ap (option_map (λ vs. k ∷ vs)) later

record IsRow (between : List ℕ) (n : Name) (ns : List Name) (bytes ks : List ℕ) : Type 0 where
  first : ℕ
  others : List ℕ
  values : ks ≡ first ∷ others
  count : length others ≡ length ns
  low : first ≤ INFINITY
  lows : All (λ j. j ≤ INFINITY) others
  is : bytes ≡ between ++ row_text n ns first others

row_of_values : (between : List ℕ) (n : Name) (ns : List Name) (bytes ks : List ℕ) → values_in between (n ∷ ns) bytes ≡ Some ks → IsRow between n ns bytes ks
row_of_values between n [] bytes ks e =
    let a = then_is (λ (v : ℕ × List ℕ). option_map (λ vs. v.0 ∷ vs) (values_in (codes ", ") [] v.1)) (value_in between n bytes) ks e in
    let b = map_is (λ (vs : List ℕ). a.0.0 ∷ vs) (values_in (codes ", ") [] a.0.1) ks a.2 in
    let v = value_is between n bytes a.0.1 a.0.0 a.1 in
    let end : (b.0 ≡ []) × (a.0.1 ≡ codes "\n") = last a.0.1 b.0 b.1 in
    record {
      first = a.0.0;
      others = [];
      values = sym b.2 ∙ ap (λ vs. a.0.0 ∷ vs) end.0;
      count = refl;
      low = v.1;
      lows = All-nil (λ i. i ≤ INFINITY);
      is = v.0 ∙ ap (λ t. between ++ (n ++ (codes " = " ++ (decimal a.0.0 ++ t)))) end.1;
    }
  where
    last : (bs vs : List ℕ) → cond (bytes_eq bs (codes "\n")) (Some []) None ≡ Some vs → (vs ≡ []) × (bs ≡ codes "\n")
    last bs vs e = by (bytes_eq bs (codes "\n")) refl e where
      by : (t : Bool) → bytes_eq bs (codes "\n") ≡ t → cond t (Some []) None ≡ Some vs → (vs ≡ []) × (bs ≡ codes "\n")
      by true f g = (sym (same_Some [] vs g), (bytes_eq-Decides bs (codes "\n")).0 f)
      by false f g = absurd (cc (g))
row_of_values between n (m ∷ ns) bytes ks e =
    let a = then_is (λ (v : ℕ × List ℕ). option_map (λ vs. v.0 ∷ vs) (values_in (codes ", ") (m ∷ ns) v.1)) (value_in between n bytes) ks e in
    let b = map_is (λ (vs : List ℕ). a.0.0 ∷ vs) (values_in (codes ", ") (m ∷ ns) a.0.1) ks a.2 in
    let v = value_is between n bytes a.0.1 a.0.0 a.1 in
    let r = row_of_values (codes ", ") m ns a.0.1 b.0 b.1 in
    record {
      first = a.0.0;
      others = r.first ∷ r.others;
      values = sym b.2 ∙ ap (λ vs. a.0.0 ∷ vs) r.values;
      count = ap suc r.count;
      low = v.1;
      lows = All-cons (λ i. i ≤ INFINITY) r.first r.others r.low r.lows;
      is = v.0 ∙ ap (λ t. between ++ (n ++ (codes " = " ++ (decimal a.0.0 ++ t)))) r.is;
    }

-- ---- as the query's answer is written

abbrev term_for : ℕ → Term
term_for k = Int (pos k)

joined_row : (vars : ℕ → List ℕ) (n : Name) (ns : List Name) (k : ℕ) (ks : List ℕ) → length ks ≡ length ns
    → joined (codes ", ") (equals_text vars (n ∷ ns) (map term_for (k ∷ ks))) ++ codes "\n" ≡ row_text n ns k ks
joined_row vars n [] k [] e = append_assoc n (codes " = " ++ decimal k) (codes "\n") ∙ ap (λ t. n ++ t) (append_assoc (codes " = ") (decimal k) (codes "\n"))
joined_row vars n [] k (j ∷ ks) e = absurd (omega (arith, e))
joined_row vars n (m ∷ ns) k [] e = absurd (omega (arith, e))
joined_row vars n (m ∷ ns) k (j ∷ ks) e =
    let later = joined (codes ", ") (equals_text vars (m ∷ ns) (map term_for (j ∷ ks))) in
    append_assoc (n ++ (codes " = " ++ decimal k)) (codes ", " ++ later) (codes "\n")
    ∙ append_assoc n (codes " = " ++ decimal k) ((codes ", " ++ later) ++ codes "\n")
    ∙ ap (λ t. n ++ t) (append_assoc (codes " = ") (decimal k) ((codes ", " ++ later) ++ codes "\n"))
    ∙ ap (λ t. n ++ (codes " = " ++ (decimal k ++ t))) (append_assoc (codes ", ") later (codes "\n") ∙ ap (λ t. codes ", " ++ t) (joined_row vars m ns j ks (omega (arith, e))))

-- the values by the numbers of the variables
behind_those : (ms ns : List ℕ) → map (λ v. term_for (slice_index (ms ++ ns) v)) (count_up (length ms) (length ns)) ≡ map term_for ns
behind_those ms [] = refl
behind_those ms (n ∷ ns) =
    let here : slice_index (ms ++ n ∷ ns) (length ms) ≡ n = get_or-append_seam ms n ns 0 in
    let longer : suc (length ms) ≡ length (ms ++ n ∷ []) = omega (arith, length-append ms (n ∷ [])) in
    ap (λ k. term_for k ∷ map (λ v. term_for (slice_index (ms ++ n ∷ ns) v)) (count_up (suc (length ms)) (length ns))) here
    ∙ ap (λ i. term_for n ∷ map (λ v. term_for (slice_index (ms ++ n ∷ ns) v)) (count_up i (length ns))) longer
    ∙ ap (λ (xs : List ℕ). term_for n ∷ map (λ v. term_for (slice_index xs v)) (count_up (length (ms ++ n ∷ [])) (length ns))) (sym (append_assoc ms (n ∷ []) ns))
    ∙ ap (λ ts. term_for n ∷ ts) (behind_those (ms ++ n ∷ []) ns)

-- a query all of whose variables are shown
pub record IsShownAll (q : Query) (ns : List Name) : Type 0 where
  pub names : q.names ≡ ns
  pub shown : q.shown ≡ count_up 0 (length ns)
  pub variables : q.variables ≡ length ns

line_is : (q : Query) (ns : List Name) (ks : List ℕ) → IsShownAll q ns → length ks ≡ length ns → line (assigned_line q (assigned ks)) ≡ line (line_of (λ y. []) ns (map term_for ks))
line_is q ns ks h e =
    ap (λ (xs : List Name). line (line_of (λ y. []) xs (map (λ v. term_for (slice_index ks v)) q.shown))) h.names
    ∙ ap (λ (xs : List ℕ). line (line_of (λ y. []) ns (map (λ v. term_for (slice_index ks v)) xs))) (h.shown ∙ ap (count_up 0) (sym e))
    ∙ ap (λ (ts : List Term). line (line_of (λ y. []) ns ts)) (behind_those [] ks)

pub answer_of : (q : Query) (ns : List Name) (l ks : List ℕ) → IsShownAll q ns → answer_in ns l ≡ Some ks → IsAnswer INFINITY q l ks
answer_of q [] l ks h e = by (bytes_eq l (codes "true\n")) refl e where
  by : (t : Bool) → bytes_eq l (codes "true\n") ≡ t → cond t (Some []) None ≡ Some ks → IsAnswer INFINITY q l ks
  by true f g =
      let none : [] ≡ ks = same_Some [] ks g in
      subst (IsAnswer INFINITY q l) none (record { count = sym h.variables; within = All-nil (λ i. i ≤ INFINITY); is = (bytes_eq-Decides l (codes "true\n")).0 f ∙ sym (line_is q [] [] h refl) })
  by false f g = absurd (cc (g))
answer_of q (n ∷ ns) l ks h e =
    let r = row_of_values [] n ns l ks e in
    let len : length (r.first ∷ r.others) ≡ length (n ∷ ns) = ap suc r.count in
    subst (IsAnswer INFINITY q l) (sym r.values) (record {
      count = len ∙ sym h.variables;
      within = All-cons (λ i. i ≤ INFINITY) r.first r.others r.low r.lows;
      is = r.is ∙ sym (line_is q (n ∷ ns) (r.first ∷ r.others) h len ∙ joined_row (λ y. []) n ns r.first r.others r.count);
    })

pub answer_is : (q : Query) (ns : List Name) (l ks : List ℕ) → IsShownAll q ns → IsAnswer INFINITY q l ks → answer_in ns l ≡ Some ks
answer_is q [] l [] h a = ap (λ b. cond b (Some []) None) ((bytes_eq-Decides l (codes "true\n")).1 (a.is ∙ line_is q [] [] h refl))
answer_is q [] l (k ∷ ks) h a = absurd (let c = a.count ∙ h.variables in omega (arith, c))
answer_is q (n ∷ ns) l [] h a = absurd (let c = a.count ∙ h.variables in omega (arith, c))
answer_is q (n ∷ ns) l (k ∷ ks) h a =
    let len : length (k ∷ ks) ≡ length (n ∷ ns) = a.count ∙ h.variables in
    let short : length ks ≡ length ns = omega (arith, len) in
    ap (values_in [] (n ∷ ns)) (a.is ∙ line_is q (n ∷ ns) (k ∷ ks) h len ∙ joined_row (λ y. []) n ns k ks short)
    ∙ values_of_row [] n ns k ks short (All-head (λ i. i ≤ INFINITY) k ks a.within) (All-tail (λ i. i ≤ INFINITY) k ks a.within)

pub no_answer : (q : Query) (ns : List Name) (l : List ℕ) → IsShownAll q ns → answer_in ns l ≡ None → (ks : List ℕ) → IsAnswer INFINITY q l ks → ⊥
no_answer q ns l h e ks a = let f = answer_is q ns l ks h a in let g : Some ks ≡ None = sym f ∙ e in cc
