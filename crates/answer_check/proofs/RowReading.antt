-- The answers of an input, read line by line.
use Rattle.std.proofs.Common.{◌≡◌, ℕ, zero, suc, ◌+◌, ◌*◌, ◌<◌, ◌≤◌, Bool, true, false, cond, List, [], ◌∷◌, ◌++◌, map, length, drop, get_or, codes, Option}
use Rattle.std.proofs.Common.{Some, None, refl, sym, ap, ◌∙◌, subst, inl, inr, arith, add-one, append_assoc, append-nil}
use Rattle.std.specs.Prelude.{All, Result, Ok, Err, option_map, option_and_then}
use Rattle.std.specs.Str.{bytes_eq}
use Rattle.std.proofs.lemmas.List.{length-append, drop_all}
use Rattle.std.proofs.lemmas.List.Elements.{All-nil, All-cons, All-append}
use Rattle.std.proofs.lemmas.Option.{same_Some}
use Rattle.std.proofs.Math.Nat.{suc-mul}
use Rattle.fd_language.specs.declared.TheConstants.{INFINITY}
use Rattle.fd_language.specs.Term.{Name}
use Rattle.fd_model.specs.Goal.{Query}
use Rattle.answer_check.specs.declared.outcome.Reason.TheVariants.{BadAnswer}
use Rattle.answer_check.specs.declared.outcome.Stop.{Stop}
use Rattle.answer_check.specs.declared.outcome.Stop.TheVariants.{Refused, NoMemory}
use Rattle.answer_check.specs.AnswerLines.{is_last_line, behind_last, behind_row, AreAnswers}
use Rattle.byte_ports.specs.Lines.{first_line, lines_of}
use Rattle.answer_check.specs.Rows.{value_in, values_in, answer_in, IsRead, all_values, AreRows, StopsRows}
use Rattle.answer_check.proofs.AnswerWords.{answer_of, no_answer, IsShownAll}
use Rattle.answer_check.proofs.Lines.{lines_from}

-- ---- the values of one line

abbrev pub put_before : List ℕ → Option (List ℕ) → Option (List ℕ)
put_before ns None = None
put_before ns (Some ms) = Some (ns ++ ms)

pub none_before : (o : Option (List ℕ)) → o ≡ put_before [] o
none_before None = refl
none_before (Some ms) = refl

module _ {X : Type 0} (f : X → Name) where
  -- what is read of the names from a number on
  abbrev pub from_name : List ℕ → List X → ℕ → List ℕ → Option (List ℕ)
  from_name between xs i rest = values_in between (map f (drop i xs)) rest

  drop_one : (xs : List X) (i : ℕ) (d : X) → i < length xs → drop i xs ≡ get_or xs i d ∷ drop (i + 1) xs
  drop_one [] i d l = absurd (omega arith)
  drop_one (x ∷ xs) zero d l = refl
  drop_one (x ∷ xs) (suc i) d l =
      let n : suc i + 1 ≡ suc (i + 1) = omega arith in
      drop_one xs i d (omega (arith, l)) ∙ ap (λ k. get_or xs i d ∷ drop k (x ∷ xs)) (sym n)

  pub name_read : (between : List ℕ) (xs : List X) (i : ℕ) (d : X) (rest later : List ℕ) (n : ℕ) (front : List ℕ) → i < length xs → Some (n, later) ≡ value_in between (f (get_or xs i d)) rest
      → put_before front (from_name between xs i rest) ≡ put_before (front ++ n ∷ []) (from_name (codes ", ") xs (i + 1) later)
  name_read between xs i d rest later n front l e =
      ap (λ ys. put_before front (values_in between (map f ys) rest)) (drop_one xs i d l)
      ∙ ap (λ o. put_before front (option_and_then (λ (v : ℕ × List ℕ). option_map (λ vs. v.0 ∷ vs) (values_in (codes ", ") (map f (drop (i + 1) xs)) v.1)) o)) (sym e)
      ∙ more (from_name (codes ", ") xs (i + 1) later)
    where
      more : (o : Option (List ℕ)) → put_before front (option_map (λ vs. n ∷ vs) o) ≡ put_before (front ++ n ∷ []) o
      more None = refl
      more (Some ms) = ap Some (sym (append_assoc front (n ∷ []) ms))

  pub name_unread : (between : List ℕ) (xs : List X) (i : ℕ) (d : X) (rest : List ℕ) (front : List ℕ) → i < length xs
      → None ≡ value_in between (f (get_or xs i d)) rest → put_before front (from_name between xs i rest) ≡ None
  name_unread between xs i d rest front l e =
      ap (λ ys. put_before front (values_in between (map f ys) rest)) (drop_one xs i d l)
      ∙ ap (λ o. put_before front (option_and_then (λ (v : ℕ × List ℕ). option_map (λ vs. v.0 ∷ vs) (values_in (codes ", ") (map f (drop (i + 1) xs)) v.1)) o)) (sym e)

  pub all_read : (between : List ℕ) (xs : List X) (i : ℕ) (rest : List ℕ) (front : List ℕ) → length xs ≤ i
      → put_before front (from_name between xs i rest) ≡ cond (bytes_eq rest (codes "\n")) (Some front) None
  all_read between xs i rest front l =
      ap (λ ys. put_before front (values_in between (map f ys) rest)) (drop_all i xs l) ∙ by (bytes_eq rest (codes "\n"))
    where
      by : (b : Bool) → put_before front (cond b (Some []) None) ≡ cond b (Some front) None
      by true = ap Some (append-nil front)
      by false = refl

  pub some_names : (xs : List X) (line : List ℕ) → (xs ≡ [] → ⊥) → answer_in (map f xs) line ≡ from_name [] xs 0 line
  some_names [] line h = absurd (h refl)
  some_names (x ∷ xs) line h = refl

-- the line ends behind the last value, or it is no answer
pub row_end : (o : Option (List ℕ)) (front old new : List ℕ) (t b : Bool) → o ≡ cond t (Some front) None → b ≡ t → new ≡ old ++ front → IsRead o old new b
row_end o front old new true b e same n = subst (IsRead o old new) (sym same) (front, e, n)
row_end o front old new false b e same n = subst (IsRead o old new) (sym same) e

-- as many values as names
values_count : (between : List ℕ) (ns : List Name) (bytes ks : List ℕ) → values_in between ns bytes ≡ Some ks → length ks ≡ length ns
values_count between [] bytes ks e = by (bytes_eq bytes (codes "\n")) e where
  by : (b : Bool) → cond b (Some []) None ≡ Some ks → length ks ≡ 0
  by true e = ap (λ (ns : List ℕ). length ns) (sym (same_Some [] ks e))
  by false e = absurd (cc (e))
values_count between (n ∷ ns) bytes ks e = by (value_in between n bytes) e (λ v vs f. values_count (codes ", ") ns v.1 vs f) where
  last : (v : ℕ × List ℕ) (o : Option (List ℕ)) → values_in (codes ", ") ns v.1 ≡ o → option_map (λ vs. v.0 ∷ vs) o ≡ Some ks
      → ((vs : List ℕ) → values_in (codes ", ") ns v.1 ≡ Some vs → length vs ≡ length ns) → length ks ≡ suc (length ns)
  last v None f e i = absurd (cc (e))
  last v (Some vs) f e i = ap (λ (ms : List ℕ). length ms) (sym (same_Some (v.0 ∷ vs) ks e)) ∙ ap suc (i vs f)

  by : (o : Option (ℕ × List ℕ)) → option_and_then (λ (v : ℕ × List ℕ). option_map (λ vs. v.0 ∷ vs) (values_in (codes ", ") ns v.1)) o ≡ Some ks
      → ((v : ℕ × List ℕ) (vs : List ℕ) → values_in (codes ", ") ns v.1 ≡ Some vs → length vs ≡ length ns) → length ks ≡ suc (length ns)
  by None e i = absurd (cc (e))
  by (Some v) e i = last v (values_in (codes ", ") ns v.1) refl e (i v)

pub answer_count : (ns : List Name) (line ks : List ℕ) → answer_in ns line ≡ Some ks → length ks ≡ length ns
answer_count [] line ks e = by (bytes_eq line (codes "true\n")) e where
  by : (b : Bool) → cond b (Some []) None ≡ Some ks → length ks ≡ 0
  by true e = ap (λ (ns : List ℕ). length ns) (sym (same_Some [] ks e))
  by false e = absurd (cc (e))
answer_count (n ∷ ns) line ks e = values_count [] (n ∷ ns) line ks e

-- the values of one more row
pub row_more : (l count n k : ℕ) → l ≡ count * n → k ≡ n → l + k ≡ (count + 1) * n
row_more l count n k e f = ap (λ m. m + k) e ∙ ap (λ m. count * n + m) f ∙ sym (ap (λ c. c * n) (add-one count) ∙ suc-mul count n)

-- ---- all lines

abbrev pub behind_rows : List (List ℕ) → Result (List (List ℕ)) ℕ → Result (List (List ℕ)) ℕ
behind_rows [] r = r
behind_rows (ns ∷ nss) r = behind_row ns (behind_rows nss r)

rows_more : (nss : List (List ℕ)) (ns : List ℕ) (r : Result (List (List ℕ)) ℕ) → behind_rows nss (behind_row ns r) ≡ behind_rows (nss ++ ns ∷ []) r
rows_more [] ns r = refl
rows_more (ms ∷ nss) ns r = ap (behind_row ms) (rows_more nss ns r)

rows_ok : (nss : List (List ℕ)) → behind_rows nss (Ok []) ≡ Ok nss
rows_ok [] = refl
rows_ok (ns ∷ nss) = ap (behind_row ns) (rows_ok nss)

rows_err : (nss : List (List ℕ)) (p : ℕ) → behind_rows nss (Err p) ≡ Err p
rows_err [] p = refl
rows_err (ns ∷ nss) p = ap (behind_row ns) (rows_err nss p)

-- all lines are answers or not
pub each_judged : (q : Query) (ns : List Name) (at : ℕ) (ls : List (List ℕ)) → IsShownAll q ns → (r : Result (List (List ℕ)) ℕ) × AreAnswers INFINITY q at ls r
each_judged q ns at [] h = (Err at, refl)
each_judged q ns at (l ∷ ls) h = by (is_last_line l) refl (answer_in ns l) refl (each_judged q ns (at + length l) ls h) where
  by : (b : Bool) → is_last_line l ≡ b → (o : Option (List ℕ)) → answer_in ns l ≡ o
      → (r : Result (List (List ℕ)) ℕ) × AreAnswers INFINITY q (at + length l) ls r → (r : Result (List (List ℕ)) ℕ) × AreAnswers INFINITY q at (l ∷ ls) r
  by true e o f later = (behind_last (at + length l) ls, inl (e, refl))
  by false e None f later = (Err at, inr (inr (e, no_answer q ns l h f, refl)))
  by false e (Some ks) f later = (behind_row ks later.0, inr (inl (e, (ks, answer_of q ns l ks h f, (later.0, later.1, refl)))))

all_append : (xss yss : List (List ℕ)) → all_values (xss ++ yss) ≡ all_values xss ++ all_values yss
all_append [] yss = refl
all_append (xs ∷ xss) yss = ap (λ zs. xs ++ zs) (all_append xss yss) ∙ sym (append_assoc xs (all_values xss) (all_values yss))

-- what the lines up to a place are
pub record IsReadTo (q : Query) (from : ℕ) (input : List ℕ) (at : ℕ) (values : List ℕ) (count : ℕ) : Type 0 where
  pub rows : List (List ℕ)
  pub kept : AreRows q.variables rows values count
  pub later : (r : Result (List (List ℕ)) ℕ) → AreAnswers INFINITY q at (lines_of (drop at input)) r → AreAnswers INFINITY q from (lines_of (drop from input)) (behind_rows rows r)

pub none_read : (q : Query) (from : ℕ) (input : List ℕ) → IsReadTo q from input from [] 0
none_read q from input = record {
  rows = [];
  kept = record {
    values_are = refl;
    count_is = refl;
    lengths = All-nil (λ ns. length ns ≡ q.variables);
    within = All-nil (All (λ k. k ≤ INFINITY));
  };
  later = λ r h. h;
}

-- memory was wanting
pub no_memory_rows : (q : Query) (ns : List Name) (from : ℕ) (input : List ℕ) → IsShownAll q ns → StopsRows q from (lines_of (drop from input)) NoMemory
no_memory_rows q ns from input shown = let j = each_judged q ns from (lines_of (drop from input)) shown in (j.0, j.1, tt)

module _ (q : Query) (ns : List Name) (from : ℕ) (input : List ℕ) (at : ℕ) (values : List ℕ) (count : ℕ) (shown : IsShownAll q ns) (r : IsReadTo q from input at values count) where
  -- the end of the input
  pub ends_early : length input ≤ at → (s : Stop) → s ≡ Refused at BadAnswer → StopsRows q from (lines_of (drop from input)) s
  ends_early l s e = subst (StopsRows q from (lines_of (drop from input))) (sym e) (
    behind_rows r.rows (Err at),
    r.later (Err at) (subst (λ bs. AreAnswers INFINITY q at (lines_of bs) (Err at)) (sym (drop_all at input l)) refl),
    (rows_err r.rows at, refl),
  )

  module _ (l : at < length input) (line : List ℕ) (is : line ≡ first_line (drop at input)) where
    abbrev others : List (List ℕ)
    others = lines_of (drop (at + length line) input)

    lines_here : lines_of (drop at input) ≡ line ∷ others
    lines_here = lines_from input at l ∙ ap (λ w. w ∷ lines_of (drop (at + length w) input)) (sym is)

    by_lines : (e : Result (List (List ℕ)) ℕ) → AreAnswers INFINITY q at (line ∷ others) e → AreAnswers INFINITY q from (lines_of (drop from input)) (behind_rows r.rows e)
    by_lines e h = r.later e (subst (λ ls. AreAnswers INFINITY q at ls e) (sym lines_here) h)

    stops : (p : ℕ) (s : Stop) → AreAnswers INFINITY q at (line ∷ others) (Err p) → s ≡ Refused p BadAnswer → StopsRows q from (lines_of (drop from input)) s
    stops p s h e = subst (StopsRows q from (lines_of (drop from input))) (sym e) (behind_rows r.rows (Err p), by_lines (Err p) h, (rows_err r.rows p, refl))

    -- something behind the last line
    some_others : at + length line < length input → behind_last (at + length line) others ≡ Err (at + length line)
    some_others m = ap (behind_last (at + length line)) (lines_from input (at + length line) m)

    pub stands_behind : is_last_line line ≡ true → at + length line < length input → (s : Stop) → s ≡ Refused (at + length line) BadAnswer → StopsRows q from (lines_of (drop from input)) s
    stands_behind e m s h = stops (at + length line) s (inl (e, sym (some_others m))) h

    -- nothing behind it
    pub ends_well : is_last_line line ≡ true → length input ≤ at + length line → (variables : ℕ) → variables ≡ q.variables
        → (rows : List (List ℕ)) × AreAnswers INFINITY q from (lines_of (drop from input)) (Ok rows) × ((variables ≡ q.variables) × AreRows q.variables rows values count)
    ends_well e m variables same = (
      r.rows,
      subst (AreAnswers INFINITY q from (lines_of (drop from input))) (rows_ok r.rows)
          (by_lines (Ok []) (inl (e, sym (ap (λ bs. behind_last (at + length line) (lines_of bs)) (drop_all (at + length line) input m))))),
      (same, r.kept),
    )

    -- no answer
    pub no_row : is_last_line line ≡ false → answer_in ns line ≡ None → (s : Stop) → s ≡ Refused at BadAnswer → StopsRows q from (lines_of (drop from input)) s
    no_row e f s h = stops at s (inr (inr (e, no_answer q ns line shown f, refl))) h

    -- one more answer
    pub row_read : (ks new : List ℕ) → is_last_line line ≡ false → answer_in ns line ≡ Some ks → new ≡ values ++ ks → IsReadTo q from input (at + length line) new (count + 1)
    row_read ks new e f more =
        let a = answer_of q ns line ks shown f in
        record {
          rows = r.rows ++ ks ∷ [];
          kept = record {
            values_are = more ∙ ap (λ vs. vs ++ ks) r.kept.values_are ∙ ap (λ vs. all_values r.rows ++ vs) (sym (append-nil ks)) ∙ sym (all_append r.rows (ks ∷ []));
            count_is = (let c = r.kept.count_is in omega (arith, c, length-append r.rows (ks ∷ [])));
            lengths = All-append (λ ms. length ms ≡ q.variables) r.rows (ks ∷ []) r.kept.lengths (All-cons (λ ms. length ms ≡ q.variables) ks [] a.count (All-nil (λ ms. length ms ≡ q.variables)));
            within = All-append (All (λ k. k ≤ INFINITY)) r.rows (ks ∷ []) r.kept.within (All-cons (All (λ k. k ≤ INFINITY)) ks [] a.within (All-nil (All (λ k. k ≤ INFINITY))));
          };
          later = λ u h. subst (AreAnswers INFINITY q from (lines_of (drop from input))) (rows_more r.rows ks u) (by_lines (behind_row ks u) (inr (inl (e, (ks, a, (u, h, refl))))));
        }
