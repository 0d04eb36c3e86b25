-- The numbers that the variables of a sentence have in the end.
use Rattle.std.proofs.Common.{◌≡◌, ◌∙◌, ℕ, suc, ◌+◌, List, [], ◌∷◌, ◌++◌, Bool, true, false, cond, Some, refl, sym, ap, subst, arith, length, append_assoc}
use Rattle.std.proofs.Common.{append-nil}
use Rattle.std.specs.Prelude.{◌||◌, slice_get}
use Rattle.std.specs.List.{position_or_len, list_any}
use Rattle.std.specs.Str.{bytes_eq}
use Rattle.std.proofs.lemmas.Bool.{true≢false}
use Rattle.std.proofs.lemmas.Slice.Eq.{bytes_eq-Decides}
use Rattle.fd_language.specs.Term.{Name}
use Rattle.fd_language.specs.Tokens.{Kind, Variable, Lexeme}
use Rattle.fd_language.specs.Terminals.{Terminal, variable, stop}
use Rattle.fd_language.specs.Reading.{is_anonymous, variable_number, with_variable, terminal_by, terminal_of, terminals, names_by, names_behind, ended_by}
use Rattle.fd_language.specs.Reading.{sentence_names}
use Rattle.term_writer.proofs.OtherPlaces.{IsNumbered, Alike, like_variable, like_stop, AllAlike, no_token, and}
use Rattle.term_writer.proofs.TextTokens.{Spelt, at_end, at_stop, at_variable, at_other}

-- v stands in xs ++ ms at its place in xs, or behind xs
record Found (v : Name) (xs all : List Name) : Type 0 where
  same : position_or_len (bytes_eq v) all ≡ position_or_len (bytes_eq v) xs
  here : slice_get all (position_or_len (bytes_eq v) xs) ≡ Some v

next_place : (x : Name) (xs : List Name) (n : ℕ) → slice_get (x ∷ xs) (1 + n) ≡ slice_get xs n
next_place x xs n = let e : 1 + n ≡ suc n = omega arith in ap (slice_get (x ∷ xs)) e

found_first : (v x : Name) (xs all : List Name) → bytes_eq v x ≡ true → Found v (x ∷ xs) (x ∷ all)
found_first v x xs all e = record {
  same = rw e refl;
  here = rw e (ap Some (sym ((bytes_eq-Decides v x).0 e)));
}

found_later : (v x : Name) (xs all : List Name) → bytes_eq v x ≡ false → Found v xs all → Found v (x ∷ xs) (x ∷ all)
found_later v x xs all e f = record {
  same = rw e (ap (λ (n : ℕ). 1 + n) f.same);
  here = rw e (next_place x all (position_or_len (bytes_eq v) xs) ∙ f.here);
}

known : (v : Name) (xs ms : List Name) → list_any (bytes_eq v) xs ≡ true → Found v xs (xs ++ ms)
known v [] ms h = absurd (true≢false (sym h))
known v (x ∷ xs) ms h = go (bytes_eq v x) refl h (λ k. known v xs ms k)
  where
    go : (b : Bool) → bytes_eq v x ≡ b → (b || list_any (bytes_eq v) xs) ≡ true → (list_any (bytes_eq v) xs ≡ true → Found v xs (xs ++ ms)) → Found v (x ∷ xs) (x ∷ (xs ++ ms))
    go true e k later = found_first v x xs (xs ++ ms) e
    go false e k later = found_later v x xs (xs ++ ms) e (later k)

itself : (v : Name) (ms : List Name) → Found v [] (v ∷ ms)
itself v ms =
    let e : bytes_eq v v ≡ true = (bytes_eq-Decides v v).1 refl in
    record { same = rw e refl; here = refl }

fresh : (v : Name) (xs ms : List Name) → list_any (bytes_eq v) xs ≡ false → Found v xs (xs ++ v ∷ ms)
fresh v [] ms h = itself v ms
fresh v (x ∷ xs) ms h = go (bytes_eq v x) refl h (λ k. fresh v xs ms k)
  where
    go : (b : Bool) → bytes_eq v x ≡ b → (b || list_any (bytes_eq v) xs) ≡ false → (list_any (bytes_eq v) xs ≡ false → Found v xs (xs ++ v ∷ ms)) → Found v (x ∷ xs) (x ∷ (xs ++ v ∷ ms))
    go true e k later = absurd (true≢false k)
    go false e k later = found_later v x xs (xs ++ v ∷ ms) e (later k)

-- the number that a variable is given is that among all names of the sentence
found_with : (v : Name) (xs ms all : List Name) → is_anonymous v ≡ false → all ≡ with_variable xs v ++ ms → Found v xs all
unfolding with_variable
found_with v xs ms all a e = go (list_any (bytes_eq v) xs) refl (e ∙ ap (λ (b : Bool). cond b (xs ++ v ∷ []) (cond (list_any (bytes_eq v) xs) xs (xs ++ v ∷ [])) ++ ms) a)
  where
    go : (b : Bool) → list_any (bytes_eq v) xs ≡ b → all ≡ cond b xs (xs ++ v ∷ []) ++ ms → Found v xs all
    go true h k = subst (Found v xs) (sym k) (known v xs ms h)
    go false h k = subst (Found v xs) (sym (k ∙ append_assoc xs (v ∷ []) ms)) (fresh v xs ms h)

plain_number : (v : Name) (xs : List Name) → is_anonymous v ≡ false → variable_number xs v ≡ position_or_len (bytes_eq v) xs
unfolding variable_number
plain_number v xs a = ap (λ (b : Bool). cond b (length xs) (position_or_len (bytes_eq v) xs)) a

numbered_with : (vars : ℕ → List ℕ) (x : ℕ) (xs ms all : List Name) → is_anonymous (vars x) ≡ false → all ≡ with_variable xs (vars x) ++ ms → IsNumbered vars all x (variable_number xs (vars x))
numbered_with vars x xs ms all a e =
    let f = found_with (vars x) xs ms all a e in
    let n = plain_number (vars x) xs a in
    record { number = n ∙ sym f.same; named = ap (slice_get all) n ∙ f.here }

-- names are only added
record Grown (xs all : List Name) : Type 0 where
  more : List Name
  whole : all ≡ xs ++ more

grown_with : (v : Name) (xs all : List Name) → Grown (with_variable xs v) all → Grown xs all
unfolding with_variable
grown_with v xs all g = go (is_anonymous v) (list_any (bytes_eq v) xs) g.whole
  where
    added : all ≡ (xs ++ v ∷ []) ++ g.more → Grown xs all
    added e = record { more = v ∷ g.more; whole = e ∙ append_assoc xs (v ∷ []) g.more }

    go : (a b : Bool) → all ≡ cond a (xs ++ v ∷ []) (cond b xs (xs ++ v ∷ [])) ++ g.more → Grown xs all
    go true b e = added e
    go false true e = record { more = g.more; whole = e }
    go false false e = added e

-- the names that the variables have in the end
pub final : {vars : ℕ → List ℕ} {stopped : Bool} {ls : List Lexeme} {ts : List Terminal} → Spelt vars stopped ls ts → List Name → List Name
final at_end names = names
final (at_stop k) names = names
final {vars = vars} (at_variable x k t a s) names = final s (with_variable names (vars x))
final (at_other o s) names = final s names

module _ (vars : ℕ → List ℕ) where
  variable_behind : (l : Lexeme) (names : List Name) (x : ℕ) → l.kind ≡ Variable → l.text ≡ vars x → names_behind names l ≡ with_variable names (vars x)
  variable_behind l names x k t = ap (λ (y : Kind). names_by y names l.text) k ∙ ap (with_variable names) t

  variable_token : (l : Lexeme) (names : List Name) (x : ℕ) → l.kind ≡ Variable → l.text ≡ vars x → terminal_of names l ≡ variable l.place (variable_number names (vars x))
  variable_token l names x k t = ap (λ (y : Kind). terminal_by y names l) k ∙ ap (λ (v : Name). variable l.place (variable_number names v)) t

  grows : {stopped : Bool} {ls : List Lexeme} {ts : List Terminal} (s : Spelt vars stopped ls ts) (names : List Name) → Grown names (final s names)
  unfolding final
  grows at_end names = record { more = []; whole = sym (append-nil names) }
  grows (at_stop k) names = record { more = []; whole = sym (append-nil names) }
  grows (at_variable x k t a s) names = grown_with (vars x) names (final s (with_variable names (vars x))) (grows s (with_variable names (vars x)))
  grows (at_other o s) names = grows s names

  pub numbered : {stopped : Bool} {ls : List Lexeme} {ts : List Terminal} (s : Spelt vars stopped ls ts) (names : List Name) → AllAlike vars (final s names) ts (terminals names ls)
  unfolding final
  numbered at_end names = no_token
  numbered (at_stop {l = l} k) names = and (subst (Alike vars names stop) (sym (ap (λ (x : Kind). terminal_by x names l) k)) like_stop) no_token
  numbered (at_variable {l = l} {ls = ls} {ts = us} x k t a s) names =
      let more : List Name = with_variable names (vars x) in
      let g = grows s more in
      and (subst (Alike vars (final s more) (variable 0 x)) (sym (variable_token l names x k t)) (like_variable (numbered_with vars x names g.more (final s more) a g.whole)))
      (subst (λ (ns : List Name). AllAlike vars (final s more) us (terminals ns ls)) (sym (variable_behind l names x k t)) (numbered s more))
  numbered (at_other {l = l} {ls = ls} {ts = us} o s) names =
      and (o.fits vars (final s names) names) (subst (λ (ns : List Name). AllAlike vars (final s names) us (terminals ns ls)) (sym (o.keeps names)) (numbered s names))

  -- the names of the one sentence that the tokens end
  pub one_sentence : {ls : List Lexeme} {ts : List Terminal} (s : Spelt vars true ls ts) (names : List Name) → sentence_names names ls ≡ final s names ∷ []
  unfolding final
  one_sentence (at_stop {l = l} k) names = ap (λ (x : Kind). ended_by x names []) k
  one_sentence (at_variable {l = l} {ls = ls} x k t a s) names =
      ap (λ (y : Kind). ended_by y names (sentence_names (names_behind names l) ls)) k
      ∙ ap (λ (ns : List Name). sentence_names ns ls) (variable_behind l names x k t) ∙ one_sentence s (with_variable names (vars x))
  one_sentence (at_other {l = l} {ls = ls} o s) names = o.still names (sentence_names (names_behind names l) ls) ∙ ap (λ (ns : List Name). sentence_names ns ls) (o.keeps names) ∙ one_sentence s names
