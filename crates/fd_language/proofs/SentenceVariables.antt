-- The variables of a sentence are those that its term has.
use Rattle.std.proofs.Common.{◌≡◌, ℕ, suc, ◌+◌, ◌<◌, inl, inr, List, [], ◌∷◌, ◌++◌, length, map, Bool, true, false, Some, cond, refl, sym, ap, subst, ◌∙◌}
use Rattle.std.proofs.Common.{arith, length-append, append_assoc, eq-eqb}
use Rattle.std.specs.Prelude.{reverse, ◌==◌, ◌||◌, not}
use Rattle.std.specs.List.{position_or_len, list_any, AllByRecursion}
use Rattle.std.specs.Str.{bytes_eq}
use Rattle.std.proofs.lemmas.Bool.{or_left, true≢false, cases_lt}
use Rattle.std.proofs.lemmas.List.{append-nil, map-append, reverse-append, reverse-reverse, length-map}
use Rattle.fd_language.specs.Term.{Name}
use Rattle.fd_language.specs.Family.{has}
use Rattle.fd_language.specs.Variables.{variables_of, variables_of_all}
use Rattle.fd_language.specs.PlacedTerm.{PlacedTerm, PlacedTerms, atom, no_parts, part, plain, all_plain}
use Rattle.fd_language.specs.Operators.{Operator, is_operator}
use Rattle.fd_language.specs.Tokens.{Kind, Word, Quoted, Variable, Integer, Punct, Stop, Lexeme}
use Rattle.fd_language.specs.Terminals.{Terminal, name, operator_word, variable, integer, opens, closes, open_list, close_list, open_curly, close_curly, comma}
use Rattle.fd_language.specs.Terminals.{bar, stop, infix_operator}
use Rattle.fd_language.specs.Grammar.{nil_name, list_of, Reads, an_integer, a_negative, a_variable, an_atom, empty_list, empty_curly, named_call, operator_call}
use Rattle.fd_language.specs.Grammar.{in_parens, operator_in_parens, a_list, a_list_tail, in_curly, a_prefix, an_infix, Arg, a_term, an_operator, Args, last}
use Rattle.fd_language.specs.Grammar.{more, Sentences, none, next, IsText}
use Rattle.fd_language.specs.Reading.{is_anonymous, variable_number, with_variable, punct_terminal, terminal_by, terminals, names_by, ended_by, sentence_names}
use Rattle.fd_language.specs.Reading.{Sentence, IsSentences}
use Rattle.fd_language.specs.Lists.{Each}
use Rattle.fd_language.proofs.Sets.{has_either, only_member}
use Rattle.fd_language.proofs.Monotone.{in_left, in_right}

-- ---- the variables of the tokens, sentence by sentence

-- the variables up to each stop, where the first sentence's so far are these
abbrev in_sentences : List ℕ → List Terminal → List (List ℕ)
in_sentences vs [] = []
in_sentences vs (name p a ∷ ts) = in_sentences vs ts
in_sentences vs (operator_word p o ∷ ts) = in_sentences vs ts
in_sentences vs (variable p n ∷ ts) = in_sentences (vs ++ n ∷ []) ts
in_sentences vs (integer p b z ∷ ts) = in_sentences vs ts
in_sentences vs (opens p b ∷ ts) = in_sentences vs ts
in_sentences vs (closes ∷ ts) = in_sentences vs ts
in_sentences vs (open_list p ∷ ts) = in_sentences vs ts
in_sentences vs (close_list ∷ ts) = in_sentences vs ts
in_sentences vs (open_curly p ∷ ts) = in_sentences vs ts
in_sentences vs (close_curly ∷ ts) = in_sentences vs ts
in_sentences vs (comma p ∷ ts) = in_sentences vs ts
in_sentences vs (bar ∷ ts) = in_sentences vs ts
in_sentences vs (stop ∷ ts) = vs ∷ in_sentences [] ts

abbrev shown : PlacedTerm → List ℕ
shown t = variables_of (plain t)

abbrev all_shown : PlacedTerms → List ℕ
all_shown xs = variables_of_all (all_plain xs)

-- ---- by the grammar

list_shown : (p : ℕ) (xs : PlacedTerms) (t : PlacedTerm) → shown (list_of p xs t) ≡ all_shown xs ++ shown t
list_shown p no_parts t = refl
list_shown p (part x xs) t =
    ap (λ (vs : List ℕ). shown x ++ vs) (append-nil (shown (list_of p xs t)) ∙ list_shown p xs t) ∙ sym (append_assoc (shown x) (all_shown xs) (shown t))

infix_shows_none : (x : Terminal) (f : Operator) → infix_operator x ≡ Some f → (vs : List ℕ) (ts : List Terminal) → in_sentences vs (x ∷ ts) ≡ in_sentences vs ts
infix_shows_none (operator_word p o) f e vs ts = refl
infix_shows_none (comma p) f e vs ts = refl
infix_shows_none _ f e vs ts = absurd cc

nothing_more : (vs : List ℕ) (rest : List Terminal) → in_sentences vs rest ≡ in_sentences (vs ++ []) rest
nothing_more vs rest = ap (λ (us : List ℕ). in_sentences us rest) (sym (append-nil vs))

-- the variables of what is read stand behind those before it
mutual
  Reads-shows : {ts rest : List Terminal} {q : ℕ} {t : PlacedTerm} → Reads ts rest q t → (vs : List ℕ) → in_sentences vs ts ≡ in_sentences (vs ++ shown t) rest
  Reads-shows (an_integer {rest = rest}) vs = nothing_more vs rest
  Reads-shows (a_negative {rest = rest} e) vs = nothing_more vs rest
  Reads-shows (a_variable {rest = rest}) vs = refl
  Reads-shows (an_atom {rest = rest}) vs = nothing_more vs rest
  Reads-shows (empty_list {rest = rest}) vs = nothing_more vs rest
  Reads-shows (empty_curly {rest = rest}) vs = nothing_more vs rest
  Reads-shows (named_call d) vs = Args-shows d vs
  Reads-shows (operator_call d) vs = Args-shows d vs
  Reads-shows (in_parens d le) vs = Reads-shows d vs
  Reads-shows (operator_in_parens {rest = rest}) vs = nothing_more vs rest
  Reads-shows (a_list {p = p} {rest = rest} {xs = xs} d) vs =
      Args-shows d vs ∙ ap (λ (us : List ℕ). in_sentences (vs ++ us) rest) (sym (list_shown p xs (atom nil_name p) ∙ append-nil (all_shown xs)))
  Reads-shows (a_list_tail {p = p} {rest = rest} {xs = xs} {t = t} d e) vs =
      Args-shows d vs ∙ Arg-shows e (vs ++ all_shown xs)
      ∙ ap (λ (us : List ℕ). in_sentences us rest) (append_assoc vs (all_shown xs) (shown t) ∙ ap (λ (us : List ℕ). vs ++ us) (sym (list_shown p xs t)))
  Reads-shows (in_curly {rest = rest} {t = t} d le) vs = Reads-shows d vs ∙ ap (λ (us : List ℕ). in_sentences (vs ++ us) rest) (sym (append-nil (shown t)))
  Reads-shows (a_prefix {rest = rest} {t = t} f e m d le) vs = Reads-shows d vs ∙ ap (λ (us : List ℕ). in_sentences (vs ++ us) rest) (sym (append-nil (shown t)))
  Reads-shows (an_infix {x = x} {us = us} {rest = rest} {a = a} {b = b} f e d le d2 le2) vs =
      Reads-shows d vs ∙ infix_shows_none x f e (vs ++ shown a) us ∙ Reads-shows d2 (vs ++ shown a)
      ∙ ap (λ (ws : List ℕ). in_sentences ws rest) (append_assoc vs (shown a) (shown b) ∙ ap (λ (ws : List ℕ). vs ++ (shown a ++ ws)) (sym (append-nil (shown b))))

  Arg-shows : {ts rest : List Terminal} {t : PlacedTerm} → Arg ts rest t → (vs : List ℕ) → in_sentences vs ts ≡ in_sentences (vs ++ shown t) rest
  Arg-shows (a_term d le) vs = Reads-shows d vs
  Arg-shows (an_operator {rest = rest}) vs = nothing_more vs rest

  Args-shows : {ts rest : List Terminal} {xs : PlacedTerms} → Args ts rest xs → (vs : List ℕ) → in_sentences vs ts ≡ in_sentences (vs ++ all_shown xs) rest
  Args-shows (last {rest = rest} {t = t} d) vs = Arg-shows d vs ∙ ap (λ (us : List ℕ). in_sentences (vs ++ us) rest) (sym (append-nil (shown t)))
  Args-shows (more {rest = rest} {t = t} {xs = xs} d e) vs =
      Arg-shows d vs ∙ Args-shows e (vs ++ shown t) ∙ ap (λ (us : List ℕ). in_sentences us rest) (append_assoc vs (shown t) (all_shown xs))

shown_next : (t : PlacedTerm) (terms : List PlacedTerm) → map shown (reverse (t ∷ terms)) ≡ map shown (reverse terms) ++ shown t ∷ []
shown_next t terms = ap (map shown) (reverse-append (t ∷ []) terms) ∙ map-append shown (reverse terms) (t ∷ [])

Sentences-show : {ts rest : List Terminal} {terms : List PlacedTerm} → Sentences ts terms rest → in_sentences [] ts ≡ map shown (reverse terms) ++ in_sentences [] rest
Sentences-show none = refl
Sentences-show (next {rest = rest} {t = t} {terms = terms} d r le) =
    Sentences-show d ∙ ap (λ (vs : List (List ℕ)). map shown (reverse terms) ++ vs) (Reads-shows r [])
    ∙ sym (append_assoc (map shown (reverse terms)) (shown t ∷ []) (in_sentences [] rest))
    ∙ ap (λ (vs : List (List ℕ)). vs ++ in_sentences [] rest) (sym (shown_next t terms))

text_shows : (ts : List Terminal) (terms : List PlacedTerm) → IsText ts terms → in_sentences [] ts ≡ map shown (reverse terms)
text_shows ts terms d = Sentences-show d ∙ append-nil (map shown (reverse terms))

-- ---- by the tokens of the text

-- the numbers are those below n
record AreBelow (n : ℕ) (vs : List ℕ) : Type 0 where
  each : (x : ℕ) → x < n → has vs x ≡ true
  only : (x : ℕ) → has vs x ≡ true → x < n

none_below : AreBelow 0 []
none_below = record { each = λ x lt. absurd (omega (arith, lt)); only = λ x h. absurd (true≢false (sym h)) }

-- a number that was there
again_below : (n k : ℕ) (vs : List ℕ) → AreBelow n vs → k < n → AreBelow n (vs ++ k ∷ [])
again_below n k vs b lt = record {
  each = λ x h. in_left vs (k ∷ []) x (b.each x h);
  only = λ x h. elim (has_either vs (k ∷ []) x h) [ inl old ↦ b.only x old | inr new ↦ omega (arith, lt, only_member k x new) ];
}

-- the next number
next_below : (n m : ℕ) (vs : List ℕ) → AreBelow n vs → m ≡ n + 1 → AreBelow m (vs ++ n ∷ [])
next_below n m vs b e = record {
  each = λ x h. elim (cases_lt x n) [ inl old ↦ in_left vs (n ∷ []) x (b.each x old) | inr new ↦ in_right vs (n ∷ []) x (or_left (n == x) false (eq-eqb n x (omega (arith, new, h, e)))) ];
  only = λ x h. elim (has_either vs (n ∷ []) x h) [ inl old ↦ omega (arith, e, b.only x old) | inr new ↦ omega (arith, e, only_member n x new) ];
}

pub position_within : (p : Name → Bool) (xs : List Name) → list_any p xs ≡ true → position_or_len p xs < length xs
position_within p [] e = absurd (true≢false (sym e))
position_within p (x ∷ xs) e = go (p x) e (λ k. position_within p xs k)
  where
    go : (b : Bool) → (b || list_any p xs) ≡ true → (list_any p xs ≡ true → position_or_len p xs < length xs) → cond (not b) (1 + position_or_len p xs) 0 < suc (length xs)
    go true k l = omega arith
    go false k l = omega (arith, l k)

position_past : (p : Name → Bool) (xs : List Name) → list_any p xs ≡ false → position_or_len p xs ≡ length xs
position_past p [] e = refl
position_past p (x ∷ xs) e = go (p x) e (λ k. position_past p xs k)
  where
    go : (b : Bool) → (b || list_any p xs) ≡ false → (list_any p xs ≡ false → position_or_len p xs ≡ length xs) → cond (not b) (1 + position_or_len p xs) 0 ≡ suc (length xs)
    go true k l = absurd (true≢false k)
    go false k l = omega (arith, l k)

number_by : (names : List Name) (v : Name) (vs : List ℕ) (a b : Bool) (k : ℕ) → AreBelow (length names) vs → (b ≡ true → k < length names) → (b ≡ false → k ≡ length names)
    → AreBelow (length (cond a (names ++ v ∷ []) (cond b names (names ++ v ∷ [])))) (vs ++ cond a (length names) k ∷ [])
number_by names v vs true b k h within past = next_below (length names) (length (names ++ v ∷ [])) vs h (length-append names (v ∷ []))
number_by names v vs false true k h within past = again_below (length names) k vs h (within refl)
number_by names v vs false false k h within past =
    subst (λ (n : ℕ). AreBelow (length (names ++ v ∷ [])) (vs ++ n ∷ [])) (sym (past refl)) (next_below (length names) (length (names ++ v ∷ [])) vs h (length-append names (v ∷ [])))

variable_below : (names : List Name) (v : Name) (vs : List ℕ) → AreBelow (length names) vs → AreBelow (length (with_variable names v)) (vs ++ variable_number names v ∷ [])
unfolding variable_number with_variable
variable_below names v vs h =
    number_by names v vs (is_anonymous v) (list_any (bytes_eq v) names) (position_or_len (bytes_eq v) names) h (position_within (bytes_eq v) names) (position_past (bytes_eq v) names)

-- a list for each list of names, with the numbers below its length
abbrev Fit : List (List ℕ) → List (List Name) → Type 0
Fit [] [] = Unit {0}
Fit [] (n ∷ ns) = ⊥
Fit (v ∷ vs) [] = ⊥
Fit (v ∷ vs) (n ∷ ns) = AreBelow (length n) v × Fit vs ns

either_shows_none : (b : Bool) (x y : Terminal) (vs : List ℕ) (ts : List Terminal) → in_sentences vs (x ∷ ts) ≡ in_sentences vs ts
    → in_sentences vs (y ∷ ts) ≡ in_sentences vs ts → in_sentences vs (cond b x y ∷ ts) ≡ in_sentences vs ts
either_shows_none true x y vs ts e f = e
either_shows_none false x y vs ts e f = f

punct_shows_none : (p : ℕ) (tight : Bool) (text : List ℕ) (vs : List ℕ) (ts : List Terminal) → in_sentences vs (punct_terminal p tight text ∷ ts) ≡ in_sentences vs ts
punct_shows_none p tight [] vs ts = refl
punct_shows_none p tight (c ∷ cs) vs ts =
    either_shows_none (c == 40) (opens p tight) _ vs ts refl (either_shows_none (c == 41) closes _ vs ts refl (either_shows_none (c == 91) (open_list p) _ vs ts refl
    (either_shows_none (c == 93) close_list _ vs ts refl
    (either_shows_none (c == 123) (open_curly p) _ vs ts refl
    (either_shows_none (c == 125) close_curly _ vs ts refl (either_shows_none (c == 44) (comma p) bar vs ts refl refl))))))

abbrev Fits : List Lexeme → Type 0
Fits ls = (names : List Name) (vs : List ℕ) → AreBelow (length names) vs → Fit (in_sentences vs (terminals names ls)) (sentence_names names ls)

token_fits : (k : Kind) (l : Lexeme) (ls : List Lexeme) → Fits ls → (names : List Name) (vs : List ℕ) → AreBelow (length names) vs
    → Fit (in_sentences vs (terminal_by k names l ∷ terminals (names_by k names l.text) ls)) (ended_by k names (sentence_names (names_by k names l.text) ls))
token_fits Word l ls later names vs h =
    subst (λ (us : List (List ℕ)). Fit us (sentence_names names ls))
    (sym (either_shows_none (is_operator l.text) (operator_word l.place l.text) (name l.place l.text) vs (terminals names ls) refl refl)) (later names vs h)
token_fits Quoted l ls later names vs h = later names vs h
token_fits Variable l ls later names vs h = later (with_variable names l.text) (vs ++ variable_number names l.text ∷ []) (variable_below names l.text vs h)
token_fits (Integer z) l ls later names vs h = later names vs h
token_fits Punct l ls later names vs h =
    subst (λ (us : List (List ℕ)). Fit us (sentence_names names ls)) (sym (punct_shows_none l.place l.tight l.text vs (terminals names ls))) (later names vs h)
token_fits Stop l ls later names vs h = (h, later [] [] none_below)

tokens_fit : (ls : List Lexeme) → Fits ls
tokens_fit [] names vs h = tt
tokens_fit (l ∷ ls) names vs h = token_fits l.kind l ls (tokens_fit ls) names vs h

terms_fit : (ls : List Lexeme) (terms : List PlacedTerm) → IsText (terminals [] ls) terms → Fit (map shown (reverse terms)) (sentence_names [] ls)
terms_fit ls terms d = subst (λ (vs : List (List ℕ)). Fit vs (sentence_names [] ls)) (text_shows (terminals [] ls) terms d) (tokens_fit ls [] [] none_below)

-- ---- the sentences of a text

fit_length : (vs : List (List ℕ)) (ns : List (List Name)) → Fit vs ns → length vs ≡ length ns
fit_length [] [] f = refl
fit_length [] (n ∷ ns) f = absurd f
fit_length (v ∷ vs) [] f = absurd f
fit_length (v ∷ vs) (n ∷ ns) f = ap suc (fit_length vs ns f.1)

-- there are names for each term
pub as_many : (ls : List Lexeme) (terms : List PlacedTerm) → IsText (terminals [] ls) terms → length (reverse terms) ≡ length (sentence_names [] ls)
as_many ls terms d = sym (length-map (reverse terms) shown) ∙ fit_length (map shown (reverse terms)) (sentence_names [] ls) (terms_fit ls terms d)

abbrev Named : Sentence → Type 0
Named s = AreBelow (length s.names) (shown s.term)

each_named : (ss : List Sentence) → Fit (map shown (map (λ s. s.term) ss)) (map (λ s. s.names) ss) → AllByRecursion Named ss
each_named [] f = tt
each_named (s ∷ ss) f = (f.0, each_named ss f.1)

named_by_recursion : (text : List ℕ) (ss : List Sentence) → IsSentences text ss → AllByRecursion Named ss
named_by_recursion text ss a =
    let terms = map (λ s. s.term) ss in
    let fit = terms_fit a.lexemes (reverse terms) a.terms.text in
    each_named ss
    (subst (λ (ns : List (List Name)). Fit (map shown terms) ns) (sym a.names) (subst (λ (ts : List PlacedTerm). Fit (map shown ts) (sentence_names [] a.lexemes)) (reverse-reverse terms) fit))

only_below : (ss : List Sentence) → AllByRecursion Named ss → Each (λ s. (x : ℕ) → has (variables_of (plain s.term)) x ≡ true → x < length s.names) ss
only_below [] h = tt
only_below (s ∷ ss) h = (h.0.only, only_below ss h.1)

pub each_below : (text : List ℕ) (ss : List Sentence) → IsSentences text ss → Each (λ s. (x : ℕ) → has (variables_of (plain s.term)) x ≡ true → x < length s.names) ss
each_below text ss a = only_below ss (named_by_recursion text ss a)
