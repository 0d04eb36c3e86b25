-- Grammar. What the front of a list of tokens spells, in the grammar of ISO/IEC 13211-1 with this project's operators.
use Rattle.std.specs.Prelude.{◌≡◌, ℕ, ℤ, ◌≤◌, neg_ℤ, List, [], ◌∷◌, ◌++◌, Bool, true, Some, codes}
use Rattle.fd_language.specs.Term.{Name}
use Rattle.fd_language.specs.PlacedTerm.{PlacedTerm, PlacedTerms, var, int, atom, comp, no_parts, part, one, two}
use Rattle.fd_language.specs.Operators.{Operator, left_limit, right_limit, prefix_of}
use Rattle.fd_language.specs.Terminals.{Terminal, name, operator_word, variable, integer, opens, closes, open_list, close_list, open_curly, close_curly, comma}
use Rattle.fd_language.specs.Terminals.{bar, stop, infix_operator, token_place, is_minus, may_follow}

abbrev pub nil_name : Name
nil_name = codes "[]"

abbrev pub curly_name : Name
curly_name = codes "{}"

abbrev pub cons_name : Name
cons_name = codes "."

-- the cells of a list before its tail; each has the place of the bracket
abbrev pub list_of : ℕ → PlacedTerms → PlacedTerm → PlacedTerm
list_of p no_parts tail = tail
list_of p (part x xs) tail = comp cons_name p (two x (list_of p xs tail))

mutual
  -- Reads ts rest q t: the tokens ts begin with a reading of t, a term of priority q, and rest follows it.
  pub data Reads : List Terminal → List Terminal → ℕ → PlacedTerm → Type 0 where
    an_integer : {p : ℕ} {n : ℤ} {b : Bool} {rest : List Terminal} → Reads (integer p b n ∷ rest) rest 0 (int n p)
    a_negative : {p p2 : ℕ} {n : ℤ} {o : Name} {rest : List Terminal} → is_minus o ≡ true → Reads (operator_word p o ∷ integer p2 true n ∷ rest) rest 0 (int (neg_ℤ n) p)
    a_variable : {p n : ℕ} {rest : List Terminal} → Reads (variable p n ∷ rest) rest 0 (var n p)
    an_atom : {p : ℕ} {a : Name} {rest : List Terminal} → Reads (name p a ∷ rest) rest 0 (atom a p)
    empty_list : {p : ℕ} {rest : List Terminal} → Reads (open_list p ∷ close_list ∷ rest) rest 0 (atom nil_name p)
    empty_curly : {p : ℕ} {rest : List Terminal} → Reads (open_curly p ∷ close_curly ∷ rest) rest 0 (atom curly_name p)
    named_call : {p p2 : ℕ} {a : Name} {ts rest : List Terminal} {xs : PlacedTerms} → Args ts (closes ∷ rest) xs → Reads (name p a ∷ opens p2 true ∷ ts) rest 0 (comp a p xs)
    operator_call : {p p2 : ℕ} {a : Name} {ts rest : List Terminal} {xs : PlacedTerms} → Args ts (closes ∷ rest) xs → Reads (operator_word p a ∷ opens p2 true ∷ ts) rest 0 (comp a p xs)
    in_parens : {p q : ℕ} {b : Bool} {ts rest : List Terminal} {t : PlacedTerm} → Reads ts (closes ∷ rest) q t → q ≤ 1200 → Reads (opens p b ∷ ts) rest 0 t
    operator_in_parens : {p p2 : ℕ} {b : Bool} {o : Name} {rest : List Terminal} → Reads (opens p b ∷ operator_word p2 o ∷ closes ∷ rest) rest 0 (atom o p2)
    a_list : {p : ℕ} {ts rest : List Terminal} {xs : PlacedTerms} → Args ts (close_list ∷ rest) xs → Reads (open_list p ∷ ts) rest 0 (list_of p xs (atom nil_name p))
    a_list_tail : {p : ℕ} {ts us rest : List Terminal} {xs : PlacedTerms} {t : PlacedTerm} → Args ts (bar ∷ us) xs → Arg us (close_list ∷ rest) t → Reads (open_list p ∷ ts) rest 0 (list_of p xs t)
    in_curly : {p q : ℕ} {ts rest : List Terminal} {t : PlacedTerm} → Reads ts (close_curly ∷ rest) q t → q ≤ 1200 → Reads (open_curly p ∷ ts) rest 0 (comp curly_name p (one t))
    a_prefix : {p q : ℕ} {o : Name} {ts rest : List Terminal} {t : PlacedTerm} → (f : Operator) → prefix_of o ≡ Some f → may_follow o ts ≡ true
        → Reads ts rest q t → q ≤ right_limit f → Reads (operator_word p o ∷ ts) rest f.priority (comp o p (one t))
    an_infix : {x : Terminal} {ts us rest : List Terminal} {q r : ℕ} {a b : PlacedTerm} → (f : Operator) → infix_operator x ≡ Some f → Reads ts (x ∷ us) q a
        → q ≤ left_limit f → Reads us rest r b → r ≤ right_limit f → Reads ts rest f.priority (comp f.name (token_place x) (two a b))

  -- an argument of a call, an element of a list, or its tail
  pub data Arg : List Terminal → List Terminal → PlacedTerm → Type 0 where
    a_term : {q : ℕ} {ts rest : List Terminal} {t : PlacedTerm} → Reads ts rest q t → q ≤ 999 → Arg ts rest t
    an_operator : {p : ℕ} {o : Name} {rest : List Terminal} → Arg (operator_word p o ∷ rest) rest (atom o p)

  pub data Args : List Terminal → List Terminal → PlacedTerms → Type 0 where
    last : {ts rest : List Terminal} {t : PlacedTerm} → Arg ts rest t → Args ts rest (one t)
    more : {p : ℕ} {ts us rest : List Terminal} {t : PlacedTerm} {xs : PlacedTerms} → Arg ts (comma p ∷ us) t → Args us rest xs → Args ts rest (part t xs)

-- sentences, the last one first, and what follows them
pub data Sentences : List Terminal → List PlacedTerm → List Terminal → Type 0 where
  none : {ts : List Terminal} → Sentences ts [] ts
  next : {ts us rest : List Terminal} {q : ℕ} {t : PlacedTerm} {terms : List PlacedTerm} → Sentences ts terms us → Reads us (stop ∷ rest) q t → q ≤ 1200 → Sentences ts (t ∷ terms) rest

-- the tokens are these sentences, the last one first
abbrev pub IsText : List Terminal → List PlacedTerm → Type 0
IsText ts terms = Sentences ts terms []

-- the tokens begin an accepted list
abbrev pub Begins : List Terminal → Type 0
Begins ts = (rest : List Terminal) × (terms : List PlacedTerm) × IsText (ts ++ rest) terms
