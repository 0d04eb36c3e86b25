-- What each form of a term is written as, and the pieces that are left.
use Rattle.std.proofs.Common.{◌≡◌, ◌∙◌, ℕ, ◌+◌, ◌<◌, List, [], ◌∷◌, ◌++◌, length, Bool, true, false, cond, Option, Some, None, refl, sym, ap, subst, arith}
use Rattle.std.proofs.Common.{append_assoc}
use Rattle.std.specs.Prelude.{All, codes, find, not, nat_le}
use Rattle.std.specs.Str.{bytes_eq}
use Rattle.std.specs.List.{list_all}
use Rattle.std.proofs.lemmas.List.{append-nil}
use Rattle.std.proofs.lemmas.List.Elements.{All-nil, All-cons, All-head, All-tail}
use Rattle.std.proofs.lemmas.Bool.{and_parts, not-true}
use Rattle.fd_language.specs.Characters.{is_symbol}
use Rattle.fd_language.specs.Term.{Name, Term, Var, Int, Atom, Comp}
use Rattle.fd_language.specs.Operators.{Operator, infix_operators, infix_of, left_limit, right_limit}
use Rattle.fd_language.specs.TermTexts.{Mode, TermText, spelled, spelled_each, spelled_alone, spelled_compound, spelled_two, spelled_infix, spelled_atom}
use Rattle.fd_language.specs.TermTexts.{infix_text, call_text, functor_text, arguments_text, starts_with_symbol, is_empty_name, between}
use Rattle.term_pool.specs.declared.TermId.{TermId}
use Rattle.term_pool.specs.Contents.{Contents}
use Rattle.term_pool.specs.Terms.{terms_by, term_of}
use Rattle.name_syntax.specs.declared.operators.Operator.{Operator as CodeOperator}
use Rattle.term_writer.specs.declared.pieces.Piece.{Piece}
use Rattle.term_writer.specs.declared.pieces.Piece.TheVariants as piece
use Rattle.name_syntax.specs.Operators.{operator_of}
use Rattle.term_writer.specs.Pieces.{joined, operator_text, piece_text, piece_weight, finished, load, weight, weights, IsOf, IsCell, Replaces}
use Rattle.term_writer.proofs.Joins.{joined-nil, joined-assoc, join_right, between_joined, bracketed, marked}

-- the piece is a text alone
pub record IsText (c : Contents) (mode : Mode) (vars : ℕ → List ℕ) (p : Piece) (t : List ℕ) : Type 0 where
  pub text : piece_text c mode vars p ≡ t
  pub light : piece_weight c p ≡ 1
  pub within : IsOf c p

pub plain_open : is_symbol 40 ≡ false
unfolding is_symbol
plain_open = refl

pub plain_close : is_symbol 41 ≡ false
unfolding is_symbol
plain_close = refl

pub plain_comma : is_symbol 44 ≡ false
unfolding is_symbol
plain_comma = refl

plain_open_list : is_symbol 91 ≡ false
unfolding is_symbol
plain_open_list = refl

pub plain_close_list : is_symbol 93 ≡ false
unfolding is_symbol
plain_close_list = refl

plain_open_curly : is_symbol 123 ≡ false
unfolding is_symbol
plain_open_curly = refl

pub plain_bar : is_symbol 124 ≡ false
unfolding is_symbol
plain_bar = refl

pub plain_close_curly : is_symbol 125 ≡ false
unfolding is_symbol
plain_close_curly = refl

-- no operator is without a name
has_name : Operator → Bool
has_name o = not (is_empty_name o.name)

found_has_name : (test : Operator → Bool) (os : List Operator) (o : Operator) → find test os ≡ Some o → list_all has_name os ≡ true → has_name o ≡ true
found_has_name test [] o h all = absurd cc
found_has_name test (x ∷ xs) o h all =
    let parts = and_parts (has_name x) (list_all has_name xs) all in
    go (test x) h parts.0 (λ e. found_has_name test xs o e parts.1)
  where
    go : (b : Bool) → cond b (Some x) (find test xs) ≡ Some o → has_name x ≡ true → (find test xs ≡ Some o → has_name o ≡ true) → has_name o ≡ true
    go true e mine rest = let same : x ≡ o = cc in ap has_name (sym same) ∙ mine
    go false e mine rest = rest e

all_have_names : list_all has_name infix_operators ≡ true
unfolding has_name
all_have_names = refl

infix_name : (f : Name) (o : Operator) → infix_of f ≡ Some o → is_empty_name o.name ≡ false
unfolding infix_of has_name
infix_name f o h = not-true (is_empty_name o.name) (found_has_name (λ g. bytes_eq g.name f) infix_operators o h all_have_names)

-- what follows an element of a list starts with no symbol character
compound_rest : (mode : Mode) (f : Name) (xs : List TermText) → starts_with_symbol (spelled_compound mode f xs).rest ≡ false
compound_rest mode f [] = plain_bar
compound_rest mode f (x ∷ []) = go (bytes_eq f (codes "{}"))
  where
    go : (b : Bool) → starts_with_symbol (cond b (spelled_alone (codes "{" ++ (x.at 1200 ++ codes "}"))) (spelled_alone (call_text mode f (x ∷ [])))).rest ≡ false
    go true = plain_bar
    go false = plain_bar
compound_rest mode f (x ∷ y ∷ []) = go (bytes_eq f (codes "."))
  where
    other : (o : Option Operator) → starts_with_symbol (spelled_infix mode f o x y).rest ≡ false
    other None = plain_bar
    other (Some o) = plain_bar

    go : (b : Bool) → starts_with_symbol (cond b (record {
      at = λ limit. codes "[" ++ (x.at 999 ++ (y.rest ++ codes "]"));
      rest = codes "," ++ (x.at 999 ++ y.rest);
    }) (spelled_infix mode f (infix_of f) x y)).rest ≡ false
    go true = plain_comma
    go false = other (infix_of f)
compound_rest mode f (x ∷ y ∷ z ∷ xs) = plain_bar

pub rest_plain : (mode : Mode) (vars : ℕ → List ℕ) (t : Term) → starts_with_symbol (spelled mode vars t).rest ≡ false
rest_plain mode vars (Var x) = plain_bar
rest_plain mode vars (Int z) = plain_bar
rest_plain mode vars (Atom a) = go (bytes_eq a (codes "[]")) (codes "|" ++ (spelled_atom mode a).at 0) plain_bar
  where
    go : (b : Bool) (w : List ℕ) → starts_with_symbol w ≡ false → starts_with_symbol (cond b [] w) ≡ false
    go true w h = refl
    go false w h = h
rest_plain mode vars (Comp f ts) = compound_rest mode f (spelled_each mode vars ts)

bracketed_if : (t a : List ℕ) (n : Bool) → joined (joined (joined t (cond n [] (codes "("))) a) (cond n [] (codes ")")) ≡ joined t (cond n a (codes "(" ++ (a ++ codes ")")))
bracketed_if t a true = joined-nil (joined (joined t []) a) ∙ ap (λ (w : List ℕ). joined w a) (joined-nil t)
bracketed_if t a false = bracketed t a 40 41 plain_open plain_close

within_one : (c : Contents) (p : Piece) → IsOf c p → All (IsOf c) (p ∷ [])
within_one c p hp = All-cons (IsOf c) p [] hp (All-nil (IsOf c))

within_two : (c : Contents) (p q : Piece) → IsOf c p → IsOf c q → All (IsOf c) (p ∷ q ∷ [])
within_two c p q hp hq = All-cons (IsOf c) p (q ∷ []) hp (within_one c q hq)

within_three : (c : Contents) (p q r : Piece) → IsOf c p → IsOf c q → IsOf c r → All (IsOf c) (p ∷ q ∷ r ∷ [])
within_three c p q r hp hq hr = All-cons (IsOf c) p (q ∷ r ∷ []) hp (within_two c q r hq hr)

within_four : (c : Contents) (p q r s : Piece) → IsOf c p → IsOf c q → IsOf c r → IsOf c s → All (IsOf c) (p ∷ q ∷ r ∷ s ∷ [])
within_four c p q r s hp hq hr hs = All-cons (IsOf c) p (q ∷ r ∷ s ∷ []) hp (within_three c q r s hq hr hs)

within_five : (c : Contents) (p q r s u : Piece) → IsOf c p → IsOf c q → IsOf c r → IsOf c s → IsOf c u → All (IsOf c) (p ∷ q ∷ r ∷ s ∷ u ∷ [])
within_five c p q r s u hp hq hr hs hu = All-cons (IsOf c) p (q ∷ r ∷ s ∷ u ∷ []) hp (within_four c q r s u hq hr hs hu)

pub first_within : (n : ℕ) (t : TermId) (ts : List TermId) → All (λ u. u.number < n) (t ∷ ts) → t.number < n
first_within n t ts h = All-head (λ u. u.number < n) t ts h

pub second_within : (n : ℕ) (t u : TermId) (ts : List TermId) → All (λ v. v.number < n) (t ∷ u ∷ ts) → u.number < n
second_within n t u ts h = All-head (λ v. v.number < n) u ts (All-tail (λ v. v.number < n) t (u ∷ ts) h)

module _ (c : Contents) (mode : Mode) (vars : ℕ → List ℕ) where
  -- a term in braces
  pub curly : (f : Name) (ts : List TermId) (t : TermId) (limit : ℕ) (text : List ℕ) (old new : List Piece) (closing opening : Piece)
      → new ≡ old ++ closing ∷ piece.Term t 1200 ∷ opening ∷ []
      → IsText c mode vars closing (codes "}") → IsText c mode vars opening (codes "{") → All (λ t. t.number < length c.entries) ts
      → ts ≡ t ∷ [] → bytes_eq f (codes "{}") ≡ true
      → Replaces c mode vars ((spelled_compound mode f (spelled_each mode vars (terms_by (term_of c) ts))).at limit) (8 + weights (terms_by (term_of c) ts)) text old text new
  unfolding finished piece_text load piece_weight
  curly f ts t limit text old new closing opening pushed k o all e is =
      let a : List ℕ = (spelled mode vars (term_of c t)).at 1200 in
      let one = subst (All (λ t. t.number < length c.entries)) e all in
      subst (λ (us : List TermId). Replaces c mode vars ((spelled_compound mode f (spelled_each mode vars (terms_by (term_of c) us))).at limit)
      (8 + weights (terms_by (term_of c) us)) text old text new) (sym e)
      (record {
        more = closing ∷ piece.Term t 1200 ∷ opening ∷ [];
        pushed = pushed;
        whole = ap (λ (w : List ℕ). joined (joined (joined text w) a) (piece_text c mode vars closing)) o.text ∙ ap (λ (w : List ℕ). joined (joined (joined text (codes "{")) a) w) k.text
            ∙ bracketed text a 123 125 plain_open_curly plain_close_curly
            ∙ ap (λ (b : Bool). joined text ((cond b (spelled_alone (codes "{" ++ (a ++ codes "}"))) (spelled_alone (call_text mode f (spelled mode vars (term_of c t) ∷ [])))).at limit)) (sym is);
        lighter = omega (arith, k.light, o.light);
        within = within_three c closing (piece.Term t 1200) opening k.within (first_within (length c.entries) t [] one) o.within;
      })

  -- a list
  pub cell : (f : Name) (ts : List TermId) (t u : TermId) (limit : ℕ) (text : List ℕ) (old new : List Piece) (closing opening : Piece)
      → new ≡ old ++ closing ∷ piece.Rest u ∷ piece.Term t 999 ∷ opening ∷ []
      → IsText c mode vars closing (codes "]") → IsText c mode vars opening (codes "[") → All (λ t. t.number < length c.entries) ts
      → ts ≡ t ∷ u ∷ [] → bytes_eq f (codes ".") ≡ true
      → Replaces c mode vars ((spelled_compound mode f (spelled_each mode vars (terms_by (term_of c) ts))).at limit) (8 + weights (terms_by (term_of c) ts)) text old text new
  unfolding finished piece_text load piece_weight
  cell f ts t u limit text old new closing opening pushed k o all e is =
      let x : TermText = spelled mode vars (term_of c t) in
      let y : TermText = spelled mode vars (term_of c u) in
      let both = subst (All (λ t. t.number < length c.entries)) e all in
      let front : joined (x.at 999) y.rest ≡ x.at 999 ++ y.rest = join_right (x.at 999) y.rest (rest_plain mode vars (term_of c u)) in
      subst (λ (us : List TermId). Replaces c mode vars ((spelled_compound mode f (spelled_each mode vars (terms_by (term_of c) us))).at limit)
      (8 + weights (terms_by (term_of c) us)) text old text new) (sym e)
      (record {
        more = closing ∷ piece.Rest u ∷ piece.Term t 999 ∷ opening ∷ [];
        pushed = pushed;
        whole = ap (λ (w : List ℕ). joined (joined (joined (joined text w) (x.at 999)) y.rest) (piece_text c mode vars closing)) o.text
            ∙ ap (λ (w : List ℕ). joined (joined (joined (joined text (codes "[")) (x.at 999)) y.rest) w) k.text
            ∙ ap (λ (w : List ℕ). joined w (codes "]")) (joined-assoc (joined text (codes "[")) (x.at 999) y.rest)
            ∙ ap (λ (w : List ℕ). joined (joined (joined text (codes "[")) w) (codes "]")) front
            ∙ bracketed text (x.at 999 ++ y.rest) 91 93 plain_open_list plain_close_list
            ∙ ap (λ (w : List ℕ). joined text (codes "[" ++ w)) (append_assoc (x.at 999) y.rest (codes "]"))
            ∙ ap (λ (b : Bool). joined text ((cond b (record {
              at = λ limit. codes "[" ++ (x.at 999 ++ (y.rest ++ codes "]"));
              rest = codes "," ++ (x.at 999 ++ y.rest);
            }) (spelled_infix mode f (infix_of f) x y)).at limit)) (sym is);
        lighter = omega (arith, k.light, o.light);
        within = within_four c closing (piece.Rest u) (piece.Term t 999) opening k.within (second_within (length c.entries) t u [] both) (first_within (length c.entries) t (u ∷ []) both) o.within;
      })

  -- an operator between its operands
  pub operation : (f : Name) (ts : List TermId) (r : CodeOperator) (t u : TermId) (limit low high : ℕ) (text before behind : List ℕ) (old new : List Piece) (closing op opening : Piece)
      → new ≡ old ++ closing ∷ piece.Term u high ∷ op ∷ piece.Term t low ∷ opening ∷ []
      → IsText c mode vars closing behind → IsText c mode vars op (operator_text f) → IsText c mode vars opening before
      → behind ≡ cond (nat_le r.priority limit) [] (codes ")") → before ≡ cond (nat_le r.priority limit) [] (codes "(")
      → low ≡ left_limit (operator_of f r) → high ≡ right_limit (operator_of f r) → All (λ t. t.number < length c.entries) ts
      → ts ≡ t ∷ u ∷ [] → bytes_eq f (codes ".") ≡ false → infix_of f ≡ Some (operator_of f r)
      → Replaces c mode vars ((spelled_compound mode f (spelled_each mode vars (terms_by (term_of c) ts))).at limit) (8 + weights (terms_by (term_of c) ts)) text old text new
  unfolding finished piece_text load piece_weight
  operation f ts r t u limit low high text before behind old new closing op opening pushed k p o behind_is before_is low_is high_is all e is found =
      let x : TermText = spelled mode vars (term_of c t) in
      let y : TermText = spelled mode vars (term_of c u) in
      let q : Operator = operator_of f r in
      let both = subst (All (λ t. t.number < length c.entries)) e all in
      let a : List ℕ = x.at low in
      let b : List ℕ = y.at high in
      let w : List ℕ = operator_text q.name in
      let middle : List ℕ = between (x.at (left_limit q)) q.name (y.at (right_limit q)) in
      let same : joined a (joined w b) ≡ middle =
      ap (λ (n : ℕ). joined (x.at n) (joined w b)) low_is ∙ ap (λ (n : ℕ). joined (x.at (left_limit q)) (joined w (y.at n))) high_is
      ∙ sym (between_joined (x.at (left_limit q)) q.name (y.at (right_limit q)) (infix_name f q found)) in
      let inner : (s : List ℕ) → joined (joined (joined s a) w) b ≡ joined s middle = λ s. joined-assoc (joined s a) w b ∙ joined-assoc s a (joined w b) ∙ ap (joined s) same in
      let closed : (n : Bool) → joined (joined (joined text (cond n [] (codes "("))) middle) (cond n [] (codes ")")) ≡ joined text
      (cond n middle (codes "(" ++ (middle ++ codes ")"))) = bracketed_if text middle in
      let form : (infix_text q x y limit) ≡ (spelled_two mode f x y).at limit =
      sym (ap (λ (b : Bool). (cond b (record { at = λ limit. codes "[" ++ (x.at 999 ++ (y.rest ++ codes "]")); rest = codes "," ++ (x.at 999 ++ y.rest) })
      (spelled_infix mode f (infix_of f) x y)).at limit) is ∙ ap (λ (o : Option Operator). (spelled_infix mode f o x y).at limit) found) in
      subst (λ (us : List TermId). Replaces c mode vars ((spelled_compound mode f (spelled_each mode vars (terms_by (term_of c) us))).at limit)
      (8 + weights (terms_by (term_of c) us)) text old text new) (sym e)
      (record {
        more = closing ∷ piece.Term u high ∷ op ∷ piece.Term t low ∷ opening ∷ [];
        pushed = pushed;
        whole = ap (λ (v : List ℕ). joined (joined (joined (joined (joined text v) a) (piece_text c mode vars op)) b) (piece_text c mode vars closing)) (o.text ∙ before_is)
            ∙ ap (λ (v : List ℕ). joined (joined (joined (joined (joined text (cond (nat_le r.priority limit) [] (codes "("))) a) v) b) (piece_text c mode vars closing)) p.text
            ∙ ap (λ (v : List ℕ). joined (joined (joined (joined (joined text (cond (nat_le r.priority limit) [] (codes "("))) a) w) b) v) (k.text ∙ behind_is)
            ∙ ap (λ (v : List ℕ). joined v (cond (nat_le r.priority limit) [] (codes ")"))) (inner (joined text (cond (nat_le r.priority limit) [] (codes "("))))
            ∙ closed (nat_le r.priority limit)
            ∙ ap (joined text) form;
        lighter = omega (arith, k.light, p.light, o.light);
        within = within_five c closing (piece.Term u high) op (piece.Term t low) opening k.within (second_within (length c.entries) t u [] both) p.within
            (first_within (length c.entries) t (u ∷ []) both) o.within;
      })

  -- a name with arguments
  pub call : (f : Name) (ts : List TermId) (limit : ℕ) (text front : List ℕ) (old new : List Piece) (closing arguments opening : Piece)
      → new ≡ old ++ closing ∷ arguments ∷ opening ∷ []
      → IsText c mode vars closing (codes ")") → IsText c mode vars opening (codes "(") → front ≡ joined text (functor_text mode f)
      → piece_text c mode vars arguments ≡ arguments_text (spelled_each mode vars (terms_by (term_of c) ts)) → piece_weight c arguments ≡ weights (terms_by (term_of c) ts) + 1 → IsOf c arguments
      → spelled_compound mode f (spelled_each mode vars (terms_by (term_of c) ts)) ≡ spelled_alone (call_text mode f (spelled_each mode vars (terms_by (term_of c) ts)))
      → Replaces c mode vars ((spelled_compound mode f (spelled_each mode vars (terms_by (term_of c) ts))).at limit) (8 + weights (terms_by (term_of c) ts)) text old front new
  unfolding finished load
  call f ts limit text front old new closing arguments opening pushed k o front_is arguments_are heavy within form =
      let a : List ℕ = arguments_text (spelled_each mode vars (terms_by (term_of c) ts)) in
      let name : List ℕ = functor_text mode f in
      record {
        more = closing ∷ arguments ∷ opening ∷ [];
        pushed = pushed;
        whole = ap (λ (w : List ℕ). joined (joined (joined w (piece_text c mode vars opening)) (piece_text c mode vars arguments)) (piece_text c mode vars closing)) front_is
            ∙ ap (λ (w : List ℕ). joined (joined (joined (joined text name) w) (piece_text c mode vars arguments)) (piece_text c mode vars closing)) o.text
            ∙ ap (λ (w : List ℕ). joined (joined (joined (joined text name) (codes "(")) w) (piece_text c mode vars closing)) arguments_are
            ∙ ap (λ (w : List ℕ). joined (joined (joined (joined text name) (codes "(")) a) w) k.text
            ∙ bracketed (joined text name) a 40 41 plain_open plain_close
            ∙ joined-assoc text name (codes "(" ++ (a ++ codes ")"))
            ∙ ap (joined text) (join_right name (codes "(" ++ (a ++ codes ")")) plain_open)
            ∙ ap (λ (s : TermText). joined text (s.at limit)) (sym form);
        lighter = omega (arith, k.light, o.light, heavy);
        within = within_three c closing arguments opening k.within within o.within;
      }

  -- what is written at once
  pub done : (wanted : List ℕ) (heavy : ℕ) (text front : List ℕ) (old : List Piece) → 0 < heavy → front ≡ joined text wanted → Replaces c mode vars wanted heavy text old front old
  unfolding finished load
  done wanted heavy text front old h e = record {
    more = [];
    pushed = sym (append-nil old);
    whole = e;
    lighter = omega arith;
    within = All-nil (IsOf c);
  }

  -- a list ends
  pub rest_ends : (t : TermId) (text : List ℕ) (old : List Piece) → (spelled mode vars (term_of c t)).rest ≡ []
      → Replaces c mode vars (spelled mode vars (term_of c t)).rest (weight (term_of c t) + 2) text old text old
  rest_ends t text old e = done (spelled mode vars (term_of c t)).rest (weight (term_of c t) + 2) text text old (omega arith) (sym (ap (joined text) e ∙ joined-nil text))

  -- a further element
  pub rest_cell : (t first more : TermId) (text : List ℕ) (old new : List Piece) (comma : Piece)
      → new ≡ old ++ piece.Rest more ∷ piece.Term first 999 ∷ comma ∷ [] → IsText c mode vars comma (codes ",") → IsCell c t first more
      → Replaces c mode vars (spelled mode vars (term_of c t)).rest (weight (term_of c t) + 2) text old text new
  unfolding finished piece_text load piece_weight
  rest_cell t first more text old new comma pushed k is =
      let x : TermText = spelled mode vars (term_of c first) in
      let y : TermText = spelled mode vars (term_of c more) in
      record {
        more = piece.Rest more ∷ piece.Term first 999 ∷ comma ∷ [];
        pushed = pushed;
        whole = ap (λ (w : List ℕ). joined (joined (joined text w) (x.at 999)) y.rest) k.text
            ∙ joined-assoc (joined text (codes ",")) (x.at 999) y.rest
            ∙ ap (joined (joined text (codes ","))) (join_right (x.at 999) y.rest (rest_plain mode vars (term_of c more)))
            ∙ marked text (x.at 999 ++ y.rest) 44 plain_comma
            ∙ ap (joined text) (sym (is.text mode vars));
        lighter = omega (arith, k.light, is.lighter);
        within = within_three c (piece.Rest more) (piece.Term first 999) comma is.more_within is.first_within k.within;
      }

  -- a tail behind a bar
  pub rest_tail : (t : TermId) (text : List ℕ) (old new : List Piece) (bar : Piece)
      → new ≡ old ++ piece.Term t 999 ∷ bar ∷ []
      → IsText c mode vars bar (codes "|") → t.number < length c.entries → (spelled mode vars (term_of c t)).rest ≡ codes "|" ++ (spelled mode vars (term_of c t)).at 999
      → Replaces c mode vars (spelled mode vars (term_of c t)).rest (weight (term_of c t) + 2) text old text new
  unfolding finished piece_text load piece_weight
  rest_tail t text old new bar pushed k h form = record {
    more = piece.Term t 999 ∷ bar ∷ [];
    pushed = pushed;
    whole = ap (λ (w : List ℕ). joined (joined text w) ((spelled mode vars (term_of c t)).at 999)) k.text
        ∙ marked text ((spelled mode vars (term_of c t)).at 999) 124 plain_bar ∙ ap (joined text) (sym form);
    lighter = omega (arith, k.light);
    within = within_two c (piece.Term t 999) bar h k.within;
  }

  pub no_arguments : (ts : List TermId) (text : List ℕ) (old : List Piece) → ts ≡ []
      → Replaces c mode vars (arguments_text (spelled_each mode vars (terms_by (term_of c) ts))) (weights (terms_by (term_of c) ts) + 1) text old text old
  no_arguments ts text old e =
      subst (λ (us : List TermId). Replaces c mode vars (arguments_text (spelled_each mode vars (terms_by (term_of c) us))) (weights (terms_by (term_of c) us) + 1) text old text old) (sym e)
      (done [] 1 text text old (omega arith) (sym (joined-nil text)))

  pub one_argument : (ts : List TermId) (t : TermId) (text : List ℕ) (old new : List Piece) → All (λ t. t.number < length c.entries) ts → ts ≡ t ∷ [] → new ≡ old ++ piece.Term t 999 ∷ []
      → Replaces c mode vars (arguments_text (spelled_each mode vars (terms_by (term_of c) ts))) (weights (terms_by (term_of c) ts) + 1) text old text new
  unfolding finished piece_text load piece_weight
  one_argument ts t text old new all e pushed =
      let one = subst (All (λ t. t.number < length c.entries)) e all in
      subst (λ (us : List TermId). Replaces c mode vars (arguments_text (spelled_each mode vars (terms_by (term_of c) us))) (weights (terms_by (term_of c) us) + 1) text old text new) (sym e)
      (record {
        more = piece.Term t 999 ∷ [];
        pushed = pushed;
        whole = refl;
        lighter = omega arith;
        within = within_one c (piece.Term t 999) (first_within (length c.entries) t [] one);
      })

  pub more_arguments : (ts us : List TermId) (t u : TermId) (text : List ℕ) (old new : List Piece) (arguments comma : Piece) → new ≡ old ++ arguments ∷ comma ∷ piece.Term t 999 ∷ []
      → IsText c mode vars comma (codes ",")
      → piece_text c mode vars arguments ≡ arguments_text (spelled_each mode vars (terms_by (term_of c) (u ∷ us))) → piece_weight c arguments ≡ weights (terms_by (term_of c) (u ∷ us)) + 1
      → IsOf c arguments → All (λ t. t.number < length c.entries) ts → ts ≡ t ∷ u ∷ us
      → Replaces c mode vars (arguments_text (spelled_each mode vars (terms_by (term_of c) ts))) (weights (terms_by (term_of c) ts) + 1) text old text new
  unfolding finished piece_text load piece_weight
  more_arguments ts us t u text old new arguments comma pushed k arguments_are heavy within all e =
      let each = subst (All (λ t. t.number < length c.entries)) e all in
      let a : List ℕ = (spelled mode vars (term_of c t)).at 999 in
      let b : List ℕ = arguments_text (spelled_each mode vars (terms_by (term_of c) (u ∷ us))) in
      subst (λ (vs : List TermId). Replaces c mode vars (arguments_text (spelled_each mode vars (terms_by (term_of c) vs))) (weights (terms_by (term_of c) vs) + 1) text old text new) (sym e)
      (record {
        more = arguments ∷ comma ∷ piece.Term t 999 ∷ [];
        pushed = pushed;
        whole = ap (λ (w : List ℕ). joined (joined (joined text a) (piece_text c mode vars comma)) w) arguments_are
            ∙ ap (λ (w : List ℕ). joined (joined (joined text a) w) b) k.text
            ∙ marked (joined text a) b 44 plain_comma ∙ joined-assoc text a (codes "," ++ b) ∙ ap (joined text) (join_right a (codes "," ++ b) plain_comma);
        lighter = omega (arith, k.light, heavy);
        within = within_three c arguments comma (piece.Term t 999) within k.within (first_within (length c.entries) t (u ∷ us) each);
      })

  -- a term that is written at once
  pub leaf : (t : TermId) (x : Term) (limit : ℕ) (w text front : List ℕ) (old : List Piece) → term_of c t ≡ x → w ≡ (spelled mode vars x).at limit → 0 < weight x → front ≡ joined text w
      → Replaces c mode vars ((spelled mode vars (term_of c t)).at limit) (weight (term_of c t)) text old front old
  leaf t x limit w text front old e is h f =
      subst (λ (z : Term). Replaces c mode vars ((spelled mode vars z).at limit) (weight z) text old front old) (sym e)
      (done ((spelled mode vars x).at limit) (weight x) text front old h (f ∙ ap (joined text) is))
