-- The texts of compounds, and of all terms, have their tokens.
use Rattle.std.proofs.Common.{◌≡◌, ◌∙◌, ℕ, suc, ℤ, pos, negsuc, ◌<◌, ◌≤◌, inl, List, [], ◌∷◌, ◌++◌, Bool, true, false, cond, Option, Some, None, refl, sym, ap}
use Rattle.std.proofs.Common.{subst, arith, length, append_assoc, append-nil}
use Rattle.std.specs.Prelude.{nat_le, nat_abs, IsUtf8, codes, decimal}
use Rattle.std.specs.Fmt.{signed_decimal}
use Rattle.std.specs.Str.{bytes_eq, chars}
use Rattle.std.proofs.lemmas.Bool.{false_from_ne_true}
use Rattle.std.proofs.lemmas.Str.{IsUtf8-from_ascii}
use Rattle.std.proofs.lemmas.Fmt.{IsAscii-decimal, decimal_nonempty}
use Rattle.term_writer.proofs.Steps.{plain_open, plain_close, plain_comma, plain_close_list, plain_bar, plain_close_curly}
use Rattle.fd_language.specs.Term.{Name, Term, Terms, Var, Int, Atom, Comp, no_terms, term}
use Rattle.fd_language.specs.Operators.{Operator, infix_of}
use Rattle.fd_language.specs.Tokens.{greatest_integer}
use Rattle.fd_language.specs.Terminals.{Terminal, variable, integer, opens, closes, open_list, close_list, open_curly, close_curly, comma, bar}
use Rattle.fd_language.specs.TermTexts.{Quoted, is_empty_name, in_parentheses, TermText, spelled_alone, spelled_atom, spelled_one, spelled_two, spelled_infix}
use Rattle.fd_language.specs.TermTexts.{infix_text, call_text, arguments_text, functor_text, atom_text, spelled, spelled_each}
use Rattle.term_writer.specs.SpelledTerms.{InTokens, called, after_bar, atom_tokens, atom_rest, one_tokens, operands, infix_tokens, two_tokens, two_rest}
use Rattle.term_writer.specs.SpelledTerms.{integer_tokens, tokens_of, further}
use Rattle.term_writer.specs.TextReadings.{IsVariable, IsFunctor, IsReadable, AllReadable}
use Rattle.term_writer.proofs.TextTokens.{Lexes, open_bracket, close_bracket, list_opens, list_closes, curly_opens, curly_closes, comma_first, before_close}
use Rattle.term_writer.proofs.TextTokens.{before_list_end, before_curly_end, before_comma, before_bar}
use Rattle.term_writer.proofs.Variables.{Parts, variable_parts}
use Rattle.term_writer.proofs.Leaves.{atom_lexes, functor_lexes, decimal_lexes, decimal_first, negative_lexes, variable_lexes}
use Rattle.term_writer.proofs.Beginnings.{Begins, begins_before, begins_ascii, begins_utf8, atom_begins, functor_begins}
use Rattle.term_writer.proofs.TermTokens.{Agrees, agrees_same, Apart, apart_from, no_symbol, Behind, Lexed, LexedAt, barred, relabel, joint, joint_begins}
use Rattle.term_writer.proofs.TermTokens.{joint_lexes}
use Rattle.term_writer.proofs.Derivations.{text_is}

-- the arguments behind the first
abbrev pub further_text : List TermText → List ℕ
further_text [] = []
further_text (x ∷ xs) = 44 ∷ (x.at 999 ++ further_text xs)

arguments_split : (x : TermText) (xs : List TermText) → arguments_text (x ∷ xs) ≡ x.at 999 ++ further_text xs
arguments_split x [] = sym (append-nil (x.at 999))
arguments_split x (y ∷ ys) = ap (λ (w : List ℕ). x.at 999 ++ (44 ∷ w)) (arguments_split y ys)

module _ (vars : ℕ → List ℕ) (stopped : Bool) where
  pub record Furthers (xs : List TermText) (tokens : List Terminal → List Terminal) : Type 0 where
    pub lexes : (r : List ℕ) (ts : List Terminal) → Lexes vars stopped true (41 ∷ r) ts → Lexes vars stopped true (further_text xs ++ 41 ∷ r) (tokens ts)
    pub behind : (r : List ℕ) → Behind (further_text xs ++ 41 ∷ r)

  no_further : Furthers [] (λ ts. ts)
  no_further = record { lexes = λ r ts h. h; behind = λ r. record { follows = before_close r; apart = plain_close } }

  -- an argument with those behind it
  first_of : (a : TermText) (ta : InTokens) (xs : List TermText) (tokens : List Terminal → List Terminal) → Lexed vars stopped a ta → Furthers xs tokens
      → (r : List ℕ) (ts : List Terminal) → Lexes vars stopped true (41 ∷ r) ts
      → Lexes vars stopped true ((a.at 999 ++ further_text xs) ++ 41 ∷ r) (ta.at true 999 (tokens ts))
  first_of a ta xs tokens l f r ts h =
      let b = f.behind r in
      subst (λ (w : List ℕ). Lexes vars stopped true w (ta.at true 999 (tokens ts))) (sym (append_assoc (a.at 999) (further_text xs) (41 ∷ r)))
      (l.at true true 999 (further_text xs ++ 41 ∷ r) (tokens ts) (inl refl) b.follows (apart_from (a.at 999) (further_text xs ++ 41 ∷ r) b.apart) (f.lexes r ts h))

  one_further : (a : TermText) (ta : InTokens) (xs : List TermText) (tokens : List Terminal → List Terminal) → Lexed vars stopped a ta → Furthers xs tokens
      → Furthers (a ∷ xs) (λ ts. comma 0 ∷ ta.at true 999 (tokens ts))
  one_further a ta xs tokens l f = record {
    lexes = λ r ts h. comma_first vars stopped true ((a.at 999 ++ further_text xs) ++ 41 ∷ r) (ta.at true 999 (tokens ts)) (first_of a ta xs tokens l f r ts h);
    behind = λ r. record { follows = before_comma ((a.at 999 ++ further_text xs) ++ 41 ∷ r); apart = plain_comma };
  }

  -- ---- calls

  pub record Callable (f : Name) : Type 0 where
    pub utf8 : IsUtf8 f
    pub no_list : bytes_eq f (codes "[]") ≡ false
    pub no_curly : bytes_eq f (codes "{}") ≡ false

  call_lexed : (f : Name) → Callable f → (a : TermText) (ta : InTokens) (xs : List TermText) (tokens : List Terminal → List Terminal) → Lexed vars stopped a ta → Furthers xs tokens
      → LexedAt vars stopped (λ limit. call_text Quoted f (a ∷ xs)) (λ tight limit ts. called f (ta.at true 999 (tokens (closes ∷ ts))))
  call_lexed f c a ta xs tokens l g tight flag limit r ts e f2 t h =
      let inner : List ℕ = arguments_text (a ∷ xs) in
      let args : Lexes vars stopped true (inner ++ 41 ∷ r) (ta.at true 999 (tokens (closes ∷ ts))) =
      subst (λ (w : List ℕ). Lexes vars stopped true (w ++ 41 ∷ r) (ta.at true 999 (tokens (closes ∷ ts)))) (sym (arguments_split a xs))
      (first_of a ta xs tokens l g r (closes ∷ ts) (close_bracket vars stopped true r ts h)) in
      let opened = open_bracket vars stopped true (inner ++ 41 ∷ r) (ta.at true 999 (tokens (closes ∷ ts))) args in
      let text : (functor_text Quoted f ++ (40 ∷ (inner ++ 41 ∷ []))) ++ r ≡ functor_text Quoted f ++ (40 ∷ (inner ++ 41 ∷ r)) =
      append_assoc (functor_text Quoted f) (40 ∷ (inner ++ 41 ∷ [])) r ∙ ap (λ (w : List ℕ). functor_text Quoted f ++ (40 ∷ w)) (append_assoc inner (41 ∷ []) r) in
      subst (λ (w : List ℕ). Lexes vars stopped tight w (called f (ta.at true 999 (tokens (closes ∷ ts))))) (sym text)
      (functor_lexes vars stopped tight f (inner ++ 41 ∷ r) (opens 0 true ∷ ta.at true 999 (tokens (closes ∷ ts))) c.utf8 c.no_list c.no_curly opened)

  call_begins : (f : Name) → IsUtf8 f → (xs : List TermText) → Begins (call_text Quoted f xs)
  call_begins f u xs = begins_before (functor_text Quoted f) (in_parentheses (arguments_text xs)) (functor_begins f u)

  call : (f : Name) → Callable f → (a : TermText) (ta : InTokens) (xs : List TermText) (tokens : List Terminal → List Terminal) → Lexed vars stopped a ta → Furthers xs tokens
      → Lexed vars stopped (spelled_alone (call_text Quoted f (a ∷ xs)))
      (record {
        at = λ tight limit ts. called f (ta.at true 999 (tokens (closes ∷ ts)));
        rest = after_bar (λ tight limit ts. called f (ta.at true 999 (tokens (closes ∷ ts))));
      })
  call f c a ta xs tokens l g =
      barred vars stopped (λ limit. call_text Quoted f (a ∷ xs)) (λ tight limit ts. called f (ta.at true 999 (tokens (closes ∷ ts))))
      (λ limit. call_begins f c.utf8 (a ∷ xs)) (call_lexed f c a ta xs tokens l g)

  -- ---- terms in braces

  braces_at : (a : TermText) (ta : InTokens) → Lexed vars stopped a ta
      → LexedAt vars stopped (λ limit. 123 ∷ (a.at 1200 ++ 125 ∷ [])) (λ tight limit ts. open_curly 0 ∷ ta.at true 1200 (close_curly ∷ ts))
  braces_at a ta l tight flag limit r ts e f t h =
      subst (λ (w : List ℕ). Lexes vars stopped tight (123 ∷ w) (open_curly 0 ∷ ta.at true 1200 (close_curly ∷ ts))) (sym (append_assoc (a.at 1200) (125 ∷ []) r))
      (curly_opens vars stopped tight (a.at 1200 ++ 125 ∷ r) (ta.at true 1200 (close_curly ∷ ts))
      (l.at true true 1200 (125 ∷ r) (close_curly ∷ ts) (inl refl) (before_curly_end r) (no_symbol 125 plain_close_curly (a.at 1200) r) (curly_closes vars stopped true r ts h)))

  braces : (a : TermText) (ta : InTokens) → Lexed vars stopped a ta
      → Lexed vars stopped (spelled_alone (123 ∷ (a.at 1200 ++ 125 ∷ [])))
      (record {
        at = λ tight limit ts. open_curly 0 ∷ ta.at true 1200 (close_curly ∷ ts);
        rest = after_bar (λ tight limit ts. open_curly 0 ∷ ta.at true 1200 (close_curly ∷ ts));
      })
  braces a ta l =
      barred vars stopped (λ limit. 123 ∷ (a.at 1200 ++ 125 ∷ [])) (λ tight limit ts. open_curly 0 ∷ ta.at true 1200 (close_curly ∷ ts))
      (λ limit. begins_ascii 123 (a.at 1200 ++ 125 ∷ []) (omega arith)) (braces_at a ta l)

  one_lexed : (f : Name) → (bytes_eq f (codes "{}") ≡ false → Callable f) → (a : TermText) (ta : InTokens) → Lexed vars stopped a ta
      → Lexed vars stopped (spelled_one Quoted f a) (record { at = λ tight limit. one_tokens f ta; rest = after_bar (λ tight limit. one_tokens f ta) })
  one_lexed f c a ta l = go (bytes_eq f (codes "{}")) refl
    where
      go : (b : Bool) → bytes_eq f (codes "{}") ≡ b
          → Lexed vars stopped (cond b (spelled_alone (123 ∷ (a.at 1200 ++ 125 ∷ []))) (spelled_alone (call_text Quoted f (a ∷ []))))
          (record {
            at = λ tight limit ts. cond b (open_curly 0 ∷ ta.at true 1200 (close_curly ∷ ts)) (called f (ta.at true 999 (closes ∷ ts)));
            rest = after_bar (λ tight limit ts. cond b (open_curly 0 ∷ ta.at true 1200 (close_curly ∷ ts)) (called f (ta.at true 999 (closes ∷ ts))));
          })
      go true e = braces a ta l
      go false e = call f (c e) a ta [] (λ ts. ts) l no_further

  -- ---- infix terms

  infix_at : (f : Name) (o : Operator) → infix_of f ≡ Some o → (a b : TermText) (ta tb : InTokens) → Lexed vars stopped a ta → Lexed vars stopped b tb
      → LexedAt vars stopped (infix_text o a b) (infix_tokens f (Some o) ta tb)
  infix_at f o e a b ta tb la lb tight flag limit r ts g f2 t h = go (nat_le o.priority limit) g t
    where
      go : (d : Bool) → Agrees (cond d (joint vars stopped a b ta tb la lb o) (in_parentheses (joint vars stopped a b ta tb la lb o))) tight flag
          → Apart (cond d (joint vars stopped a b ta tb la lb o) (in_parentheses (joint vars stopped a b ta tb la lb o))) r
          → Lexes vars stopped tight (cond d (joint vars stopped a b ta tb la lb o) (in_parentheses (joint vars stopped a b ta tb la lb o)) ++ r)
          (cond d (operands f o ta tb flag ts) (opens 0 flag ∷ operands f o ta tb true (closes ∷ ts)))
      go true g t = joint_lexes vars stopped a b ta tb la lb o f e tight flag r ts g f2 t h
      go false g t =
          let w : List ℕ = joint vars stopped a b ta tb la lb o in
          let inner = joint_lexes vars stopped a b ta tb la lb o f e true true (41 ∷ r) (closes ∷ ts) (inl refl) (before_close r) (no_symbol 41 plain_close w r)
          (close_bracket vars stopped true r ts h) in
          let same : tight ≡ flag = agrees_same (40 ∷ (w ++ 41 ∷ [])) tight flag plain_open g in
          subst (λ (x : Bool). Lexes vars stopped tight ((40 ∷ (w ++ 41 ∷ [])) ++ r) (opens 0 x ∷ operands f o ta tb true (closes ∷ ts))) same
          (subst (λ (x : List ℕ). Lexes vars stopped tight (40 ∷ x) (opens 0 tight ∷ operands f o ta tb true (closes ∷ ts))) (sym (append_assoc w (41 ∷ []) r))
          (open_bracket vars stopped tight (w ++ 41 ∷ r) (operands f o ta tb true (closes ∷ ts)) inner))

  infix_begins : (o : Operator) (a b : TermText) (ta tb : InTokens) → Lexed vars stopped a ta → Lexed vars stopped b tb → (limit : ℕ) → Begins (infix_text o a b limit)
  infix_begins o a b ta tb la lb limit = go (nat_le o.priority limit)
    where
      go : (d : Bool) → Begins (cond d (joint vars stopped a b ta tb la lb o) (in_parentheses (joint vars stopped a b ta tb la lb o)))
      go true = joint_begins vars stopped a b ta tb la lb o
      go false = begins_ascii 40 (joint vars stopped a b ta tb la lb o ++ 41 ∷ []) (omega arith)

  infix_lexed : (f : Name) → Callable f → (found : Option Operator) → infix_of f ≡ found → (a b : TermText) (ta tb : InTokens) → Lexed vars stopped a ta → Lexed vars stopped b tb
      → Lexed vars stopped (spelled_infix Quoted f found a b) (record { at = infix_tokens f found ta tb; rest = after_bar (infix_tokens f found ta tb) })
  infix_lexed f c None e a b ta tb la lb = call f c a ta (b ∷ []) (λ ts. comma 0 ∷ tb.at true 999 ts) la (one_further b tb [] (λ ts. ts) lb no_further)
  infix_lexed f c (Some o) e a b ta tb la lb = barred vars stopped (infix_text o a b) (infix_tokens f (Some o) ta tb) (infix_begins o a b ta tb la lb) (infix_at f o e a b ta tb la lb)

  -- ---- lists

  abbrev list_spelling : TermText → TermText → TermText
  list_spelling a b = record { at = λ limit. codes "[" ++ (a.at 999 ++ (b.rest ++ codes "]")); rest = codes "," ++ (a.at 999 ++ b.rest) }

  abbrev list_tokens : InTokens → InTokens → InTokens
  list_tokens ta tb = record { at = λ tight limit ts. open_list 0 ∷ ta.at true 999 (tb.rest ts); rest = λ ts. comma 0 ∷ ta.at true 999 (tb.rest ts) }

  element : (a b : TermText) (ta tb : InTokens) → Lexed vars stopped a ta → Lexed vars stopped b tb → (r : List ℕ) (ts : List Terminal)
      → Lexes vars stopped true r ts → Lexes vars stopped true (a.at 999 ++ (b.rest ++ 93 ∷ r)) (ta.at true 999 (tb.rest ts))
  element a b ta tb la lb r ts h =
      let k = lb.behind r in
      la.at true true 999 (b.rest ++ 93 ∷ r) (tb.rest ts) (inl refl) k.follows (apart_from (a.at 999) (b.rest ++ 93 ∷ r) k.apart) (lb.rest r ts h)

  list_lexed : (a b : TermText) (ta tb : InTokens) → Lexed vars stopped a ta → Lexed vars stopped b tb → Lexed vars stopped (list_spelling a b) (list_tokens ta tb)
  list_lexed a b ta tb la lb = record {
    begins = λ limit. begins_ascii 91 (a.at 999 ++ (b.rest ++ 93 ∷ [])) (omega arith);
    at = λ tight flag limit r ts e f t h.
        (let text : (a.at 999 ++ (b.rest ++ 93 ∷ [])) ++ r ≡ a.at 999 ++ (b.rest ++ 93 ∷ r) = append_assoc (a.at 999) (b.rest ++ 93 ∷ []) r
        ∙ ap (λ (w : List ℕ). a.at 999 ++ w) (append_assoc b.rest (93 ∷ []) r) in
        subst (λ (w : List ℕ). Lexes vars stopped tight (91 ∷ w) (open_list 0 ∷ ta.at true 999 (tb.rest ts))) (sym text)
        (list_opens vars stopped tight (a.at 999 ++ (b.rest ++ 93 ∷ r)) (ta.at true 999 (tb.rest ts)) (element a b ta tb la lb r ts h)));
    rest = λ r ts h.
        subst (λ (w : List ℕ). Lexes vars stopped true (44 ∷ w) (comma 0 ∷ ta.at true 999 (tb.rest ts))) (sym (append_assoc (a.at 999) b.rest (93 ∷ r)))
        (comma_first vars stopped true (a.at 999 ++ (b.rest ++ 93 ∷ r)) (ta.at true 999 (tb.rest ts)) (element a b ta tb la lb r ts h));
    behind = λ r. record { follows = before_comma ((a.at 999 ++ b.rest) ++ 93 ∷ r); apart = plain_comma };
  }

  two_lexed : (f : Name) → Callable f → (a b : TermText) (ta tb : InTokens) → Lexed vars stopped a ta → Lexed vars stopped b tb
      → Lexed vars stopped (spelled_two Quoted f a b) (record { at = two_tokens f ta tb; rest = two_rest f ta tb })
  two_lexed f c a b ta tb la lb = go (bytes_eq f (codes ".")) refl
    where
      go : (d : Bool) → bytes_eq f (codes ".") ≡ d → Lexed vars stopped (cond d (list_spelling a b) (spelled_infix Quoted f (infix_of f) a b))
          (record { at = two_tokens f ta tb; rest = two_rest f ta tb })
      go true e =
          relabel vars stopped (list_spelling a b) (list_tokens ta tb) (record { at = two_tokens f ta tb; rest = two_rest f ta tb })
          (λ tight limit ts. sym (ap (λ (x : Bool). cond x (open_list 0 ∷ ta.at true 999 (tb.rest ts)) (infix_tokens f (infix_of f) ta tb tight limit ts)) e))
          (λ ts. sym (ap (λ (x : Bool). cond x (comma 0 ∷ ta.at true 999 (tb.rest ts)) (after_bar (two_tokens f ta tb) ts)) e))
          (list_lexed a b ta tb la lb)
      go false e =
          relabel vars stopped (spelled_infix Quoted f (infix_of f) a b)
          (record { at = infix_tokens f (infix_of f) ta tb; rest = after_bar (infix_tokens f (infix_of f) ta tb) })
          (record { at = two_tokens f ta tb; rest = two_rest f ta tb })
          (λ tight limit ts. sym (ap (λ (x : Bool). cond x (open_list 0 ∷ ta.at true 999 (tb.rest ts)) (infix_tokens f (infix_of f) ta tb tight limit ts)) e))
          (λ ts. sym (ap (λ (x : Bool). cond x (comma 0 ∷ ta.at true 999 (tb.rest ts))
          (bar ∷ cond x (open_list 0 ∷ ta.at true 999 (tb.rest (close_list ∷ ts))) (infix_tokens f (infix_of f) ta tb true 999 (close_list ∷ ts)))) e))
          (infix_lexed f c (infix_of f) refl a b ta tb la lb)

  -- ---- leaves

  variable_some : (w : List ℕ) → Parts w → is_empty_name w ≡ false
  unfolding chars
  variable_some [] p = absurd (cc (p.split))
  variable_some (c ∷ cs) p = refl

  variable_lexed : (x : ℕ) → IsVariable (vars x) → Lexed vars stopped (spelled_alone (vars x))
      (record { at = λ tight limit ts. variable 0 x ∷ ts; rest = after_bar (λ tight limit ts. variable 0 x ∷ ts) })
  variable_lexed x v =
      barred vars stopped (λ limit. vars x) (λ tight limit ts. variable 0 x ∷ ts)
      (λ limit. begins_utf8 (vars x) v.utf8 (variable_some (vars x) (variable_parts (vars x) v)))
      (λ tight flag limit r ts e f t h. variable_lexes vars stopped tight x r ts v f h)

  some_decimal : (w : List ℕ) → 0 < length w → is_empty_name w ≡ false
  some_decimal [] h = absurd (omega arith)
  some_decimal (c ∷ cs) h = refl

  integer_begins : (z : ℤ) → nat_abs z ≤ greatest_integer → Begins (signed_decimal z)
  integer_begins (pos n) h = begins_utf8 (decimal n) (IsUtf8-from_ascii (decimal n) (IsAscii-decimal n (omega arith))) (some_decimal (decimal n) (decimal_nonempty n (omega arith)))
  integer_begins (negsuc n) h = begins_ascii 45 (decimal (suc n)) (omega arith)

  integer_at : (z : ℤ) → nat_abs z ≤ greatest_integer → LexedAt vars stopped (λ limit. signed_decimal z) (λ tight limit. integer_tokens z tight)
  integer_at (pos n) h tight flag limit r ts e f t l =
      subst (λ (x : Bool). Lexes vars stopped tight (decimal n ++ r) (integer 0 x (pos n) ∷ ts)) (agrees_same (decimal n) tight flag (decimal_first n h) e)
      (decimal_lexes vars stopped tight n r ts h f l)
  integer_at (negsuc n) h tight flag limit r ts e f t l = negative_lexes vars stopped tight (suc n) r ts h f l

  integer_lexed : (z : ℤ) → nat_abs z ≤ greatest_integer
      → Lexed vars stopped (spelled_alone (signed_decimal z))
      (record { at = λ tight limit. integer_tokens z tight; rest = after_bar (λ tight limit. integer_tokens z tight) })
  integer_lexed z h = barred vars stopped (λ limit. signed_decimal z) (λ tight limit. integer_tokens z tight) (λ limit. integer_begins z h) (integer_at z h)

  atom_at : (a : Name) → IsUtf8 a → LexedAt vars stopped (λ limit. atom_text Quoted a) (λ tight limit. atom_tokens a)
  atom_at a u tight flag limit r ts e f t h = atom_lexes vars stopped tight a r ts u f t h

  atom_lexed : (a : Name) → IsUtf8 a → Lexed vars stopped (spelled_atom Quoted a) (record { at = λ tight limit. atom_tokens a; rest = atom_rest a })
  atom_lexed a u = record { begins = λ limit. atom_begins a u; at = atom_at a u; rest = λ r ts h. rest r ts h (bytes_eq a (codes "[]")); behind = λ r. behind r (bytes_eq a (codes "[]")) }
    where
      rest : (r : List ℕ) (ts : List Terminal) → Lexes vars stopped true r ts → (b : Bool)
          → Lexes vars stopped true (cond b [] (124 ∷ atom_text Quoted a) ++ 93 ∷ r) (cond b (close_list ∷ ts) (after_bar (λ tight limit. atom_tokens a) ts))
      rest r ts h true = list_closes vars stopped true r ts h
      rest r ts h false = (barred vars stopped (λ limit. atom_text Quoted a) (λ tight limit. atom_tokens a) (λ limit. atom_begins a u) (atom_at a u)).rest r ts h

      behind : (r : List ℕ) (b : Bool) → Behind (cond b [] (124 ∷ atom_text Quoted a) ++ 93 ∷ r)
      behind r true = record { follows = before_list_end r; apart = plain_close_list }
      behind r false = record { follows = before_bar (atom_text Quoted a ++ 93 ∷ r); apart = plain_bar }

  -- ---- all terms

  not_list : (f : Name) (ts : Terms) → IsFunctor f ts → bytes_eq f (codes "[]") ≡ false
  not_list f ts h = false_from_ne_true (bytes_eq f (codes "[]")) (λ e. h.no_list (text_is f (codes "[]") e))

  callable_one : (f : Name) → IsFunctor f no_terms → bytes_eq f (codes "{}") ≡ false → Callable f
  callable_one f h e = record { utf8 = h.utf8; no_list = not_list f no_terms h; no_curly = e }

  callable : (f : Name) (t : Term) (ts : Terms) → IsFunctor f (term t ts) → Callable f
  callable f t ts h = record { utf8 = h.utf8; no_list = not_list f (term t ts) h; no_curly = false_from_ne_true (bytes_eq f (codes "{}")) (λ e. cc (h.curly (text_is f (codes "{}") e))) }

  mutual
    pub lexed : (t : Term) → IsReadable vars t → Lexed vars stopped (spelled Quoted vars t) (tokens_of t)
    lexed (Var x) h = variable_lexed x h
    lexed (Int z) h = integer_lexed z h
    lexed (Atom a) h = atom_lexed a h
    lexed (Comp f no_terms) h = absurd h
    lexed (Comp f (term a no_terms)) h = one_lexed f (callable_one f h.0) (spelled Quoted vars a) (tokens_of a) (lexed a h.1)
    lexed (Comp f (term a (term b no_terms))) h =
        two_lexed f (callable f b no_terms h.0) (spelled Quoted vars a) (spelled Quoted vars b) (tokens_of a) (tokens_of b) (lexed a h.1) (lexed b h.2.0)
    lexed (Comp f (term a (term b (term c ts)))) h =
        let lc = one_further (spelled Quoted vars c) (tokens_of c) (spelled_each Quoted vars ts) (further ts) (lexed c h.2.1.0) (lexed_each ts h.2.1.1) in
        call f (callable f b (term c ts) h.0) (spelled Quoted vars a) (tokens_of a) (spelled_each Quoted vars (term b (term c ts)))
        (λ r. comma 0 ∷ (tokens_of b).at true 999 (comma 0 ∷ (tokens_of c).at true 999 (further ts r))) (lexed a h.1)
        (one_further (spelled Quoted vars b) (tokens_of b) (spelled_each Quoted vars (term c ts)) (λ r. comma 0 ∷ (tokens_of c).at true 999 (further ts r)) (lexed b h.2.0) lc)

    pub lexed_each : (ts : Terms) → AllReadable vars ts → Furthers (spelled_each Quoted vars ts) (further ts)
    lexed_each no_terms h = no_further
    lexed_each (term t ts) h = one_further (spelled Quoted vars t) (tokens_of t) (spelled_each Quoted vars ts) (further ts) (lexed t h.0) (lexed_each ts h.1)
