-- The tokens that spell a term derive it, at the limit.
use Rattle.std.proofs.Common.{◌≡◌, ℕ, ℤ, pos, negsuc, ◌⊎◌, inl, inr, List, [], ◌∷◌, Option, Some, None, Bool, true, false, cond, refl, sym, ap, subst, ◌∙◌}
use Rattle.std.proofs.Common.{arith}
use Rattle.std.specs.Prelude.{nat_le, ◌&&◌, not, find, codes}
use Rattle.std.specs.Str.{bytes_eq}
use Rattle.std.proofs.lemmas.Bool.{leb-true}
use Rattle.std.proofs.lemmas.Slice.Eq.{bytes_eq-Decides}
use Rattle.fd_language.specs.Term.{Name, Term, Terms, Var, Int, Atom, Comp, no_terms, term}
use Rattle.fd_language.specs.PlacedTerm.{PlacedTerm, PlacedTerms, var, int, atom, comp, part, one, two}
use Rattle.fd_language.specs.Operators.{Operator, infix_operators, infix_of, is_operator, left_limit, right_limit}
use Rattle.fd_language.specs.Terminals.{Terminal, name, operator_word, variable, opens, closes, open_list, close_list, open_curly, close_curly, comma, bar}
use Rattle.fd_language.specs.Terminals.{comma_operator, infix_operator, is_minus, token_place}
use Rattle.fd_language.specs.TermTexts.{is_letter_word}
use Rattle.fd_language.specs.Grammar.{Reads, an_integer, a_negative, a_variable, an_atom, empty_list, empty_curly, named_call, operator_call, in_parens, a_list}
use Rattle.fd_language.specs.Grammar.{a_list_tail, in_curly, an_infix, Arg, a_term, Args, last, more, list_of}
use Rattle.fd_language.proofs.Lemmas.{within_infix}
use Rattle.term_writer.specs.SpelledTerms.{placed, all_placed, operator_terminal, call_terminal, InTokens, called, after_bar, atom_tokens, one_tokens, operands}
use Rattle.term_writer.specs.SpelledTerms.{infix_tokens, two_tokens, two_rest, atom_rest, integer_tokens, tokens_of, further, HasArguments, AllHaveArguments}
use Rattle.term_writer.specs.SpelledTerms.{Within, SpelledIsRead}

pub text_is : (a b : Name) → bytes_eq a b ≡ true → a ≡ b
text_is a b e = (bytes_eq-Decides a b).0 e

at_zero : {ts rest : List Terminal} {t : PlacedTerm} (limit : ℕ) → Reads ts rest 0 t → Within ts rest limit t
at_zero limit d = record { priority = 0; fits = omega arith; reads = d }

as_arg : {ts rest : List Terminal} {t : PlacedTerm} → Within ts rest 999 t → Arg ts rest t
as_arg w = a_term w.reads w.fits

-- ---- calls

call_reads : (f : Name) (ts r : List Terminal) (xs : PlacedTerms) → Args ts (closes ∷ r) xs → Reads (called f ts) r 0 (comp f 0 xs)
unfolding call_terminal
call_reads f ts r xs d = go (is_operator f && not (bytes_eq f (codes ",")))
  where
    go : (b : Bool) → Reads (cond b (operator_word 0 f) (name 0 f) ∷ opens 0 true ∷ ts) r 0 (comp f 0 xs)
    go true = operator_call d
    go false = named_call d

-- ---- operators

pub record Stands (f : Name) (op : Operator) : Type 0 where
  pub token : infix_operator (operator_terminal f) ≡ Some op
  pub named : op.name ≡ f
  pub place : token_place (operator_terminal f) ≡ 0

pub row_named : (rows : List Operator) (f : Name) (op : Operator) → find (λ g. bytes_eq g.name f) rows ≡ Some op → op.name ≡ f
row_named [] f op e = absurd cc
row_named (g ∷ gs) f op e = go (bytes_eq g.name f) refl e (λ e2. row_named gs f op e2)
  where
    go : (b : Bool) → bytes_eq g.name f ≡ b → cond b (Some g) (find (λ h. bytes_eq h.name f) gs) ≡ Some op → (find (λ h. bytes_eq h.name f) gs ≡ Some op → op.name ≡ f) → op.name ≡ f
    go true t e2 later = let same : g ≡ op = cc in subst (λ (o : Operator). o.name ≡ f) same (text_is g.name f t)
    go false t e2 later = later e2

comma_is : infix_of (codes ",") ≡ Some comma_operator
unfolding infix_of
comma_is = refl

pub infix_stands : (f : Name) (op : Operator) → infix_of f ≡ Some op → Stands f op
unfolding operator_terminal infix_of
infix_stands f op e = go (bytes_eq f (codes ",")) refl
  where
    go : (b : Bool) → bytes_eq f (codes ",") ≡ b → Stands f op
    go true t = record {
      token = ap (λ (b : Bool). infix_operator (cond b (comma 0) (operator_word 0 f))) t ∙ sym comma_is ∙ ap infix_of (sym (text_is f (codes ",") t)) ∙ e;
      named = row_named infix_operators f op e;
      place = ap (λ (b : Bool). token_place (cond b (comma 0) (operator_word 0 f))) t;
    }
    go false t = record {
      token = ap (λ (b : Bool). infix_operator (cond b (comma 0) (operator_word 0 f))) t ∙ e;
      named = row_named infix_operators f op e;
      place = ap (λ (b : Bool). token_place (cond b (comma 0) (operator_word 0 f))) t;
    }

-- ---- the rest of a list

pub data TailOf (r : List Terminal) : List Terminal → PlacedTerm → Type 0 where
  ends_here : TailOf r (close_list ∷ r) (atom (codes "[]") 0)
  behind_bar : {us : List Terminal} {t : PlacedTerm} → Arg us (close_list ∷ r) t → TailOf r (bar ∷ us) t
  element : {vs ws : List Terminal} {x t : PlacedTerm} → Arg vs ws x → TailOf r ws t → TailOf r (comma 0 ∷ vs) (comp (codes ".") 0 (two x t))

pub record ListFrom (ts r : List Terminal) (u : PlacedTerm) : Type 0 where
  pub elements : PlacedTerms
  pub reads : (Args ts (close_list ∷ r) elements × (list_of 0 elements (atom (codes "[]") 0) ≡ u))
      ⊎ ((us : List Terminal) × (t : PlacedTerm) × Args ts (bar ∷ us) elements × Arg us (close_list ∷ r) t × (list_of 0 elements t ≡ u))

list_from : {r ws : List Terminal} {t : PlacedTerm} → TailOf r ws t → (ts : List Terminal) (x : PlacedTerm) → Arg ts ws x → ListFrom ts r (comp (codes ".") 0 (two x t))
list_from ends_here ts x d = record { elements = one x; reads = inl (last d, refl) }
list_from (behind_bar {us = us} {t = t} e) ts x d = record { elements = one x; reads = inr (us, t, last d, e, refl) }
list_from {r = r} (element {vs = vs} {x = y} {t = t} e k) ts x d =
    let others = list_from k vs y e in go others.elements others.reads
  where
    go : (ys : PlacedTerms) → (Args vs (close_list ∷ r) ys × (list_of 0 ys (atom (codes "[]") 0) ≡ comp (codes ".") 0 (two y t)))
        ⊎ ((us : List Terminal) × (u : PlacedTerm) × Args vs (bar ∷ us) ys × Arg us (close_list ∷ r) u × (list_of 0 ys u ≡ comp (codes ".") 0 (two y t)))
        → ListFrom ts r (comp (codes ".") 0 (two x (comp (codes ".") 0 (two y t))))
    go ys (inl p) = record { elements = part x ys; reads = inl (more d p.0, ap (λ (l : PlacedTerm). comp (codes ".") 0 (two x l)) p.1) }
    go ys (inr p) = record { elements = part x ys; reads = inr (p.0, p.1, more d p.2, p.3, ap (λ (l : PlacedTerm). comp (codes ".") 0 (two x l)) p.4) }

list_reads : {ts r : List Terminal} {u : PlacedTerm} → ListFrom ts r u → Reads (open_list 0 ∷ ts) r 0 u
list_reads {ts = ts} {r = r} {u = u} l = go l.elements l.reads
  where
    go : (ys : PlacedTerms) → (Args ts (close_list ∷ r) ys × (list_of 0 ys (atom (codes "[]") 0) ≡ u))
        ⊎ ((us : List Terminal) × (t : PlacedTerm) × Args ts (bar ∷ us) ys × Arg us (close_list ∷ r) t × (list_of 0 ys t ≡ u)) → Reads (open_list 0 ∷ ts) r 0 u
    go ys (inl p) = subst (Reads (open_list 0 ∷ ts) r 0) p.1 (a_list p.0)
    go ys (inr p) = subst (Reads (open_list 0 ∷ ts) r 0) p.4 (a_list_tail p.2 p.3)

minus_is : is_minus (codes "-") ≡ true
unfolding is_minus
minus_is = refl

integer_reads : (z : ℤ) (tight : Bool) (r : List Terminal) → Reads (integer_tokens z tight r) r 0 (int z 0)
integer_reads (pos n) tight r = an_integer
integer_reads (negsuc n) tight r = a_negative minus_is

-- ---- a spelling is right

pub record Right (sp : InTokens) (t : PlacedTerm) : Type 0 where
  pub at : (tight : Bool) (limit : ℕ) (r : List Terminal) → Within (sp.at tight limit r) r limit t
  pub rest : (r : List Terminal) → TailOf r (sp.rest r) t

barred : (sp : Bool → ℕ → List Terminal → List Terminal) (t : PlacedTerm)
    → ((tight : Bool) (limit : ℕ) (r : List Terminal) → Within (sp tight limit r) r limit t) → Right (record { at = sp; rest = after_bar sp }) t
barred sp t h = record { at = h; rest = λ r. behind_bar (as_arg (h true 999 (close_list ∷ r))) }

atom_reads : (a : Name) (r : List Terminal) → Reads (atom_tokens a r) r 0 (atom a 0)
atom_reads a r = go (bytes_eq a (codes "[]")) refl (bytes_eq a (codes "{}")) refl
  where
    go : (b : Bool) → bytes_eq a (codes "[]") ≡ b → (c : Bool) → bytes_eq a (codes "{}") ≡ c
        → Reads (cond b (open_list 0 ∷ close_list ∷ r) (cond c (open_curly 0 ∷ close_curly ∷ r) (name 0 a ∷ r))) r 0 (atom a 0)
    go true e c k = subst (λ (x : Name). Reads (open_list 0 ∷ close_list ∷ r) r 0 (atom x 0)) (sym (text_is a (codes "[]") e)) empty_list
    go false e true k = subst (λ (x : Name). Reads (open_curly 0 ∷ close_curly ∷ r) r 0 (atom x 0)) (sym (text_is a (codes "{}") k)) empty_curly
    go false e false k = an_atom

atom_right : (a : Name) → Right (record { at = λ tight limit. atom_tokens a; rest = atom_rest a }) (atom a 0)
atom_right a = record { at = λ tight limit r. at_zero limit (atom_reads a r); rest = λ r. go r (bytes_eq a (codes "[]")) refl }
  where
    go : (r : List Terminal) (b : Bool) → bytes_eq a (codes "[]") ≡ b → TailOf r (cond b (close_list ∷ r) (after_bar (λ tight limit. atom_tokens a) r)) (atom a 0)
    go r true e = subst (λ (x : Name). TailOf r (close_list ∷ r) (atom x 0)) (sym (text_is a (codes "[]") e)) ends_here
    go r false e = behind_bar (a_term (atom_reads a (close_list ∷ r)) (omega arith))

one_reads : (f : Name) (sp : InTokens) (t : PlacedTerm) → Right sp t → (limit : ℕ) (r : List Terminal) → Within (one_tokens f sp r) r limit (comp f 0 (one t))
one_reads f sp t h limit r = at_zero limit (go (bytes_eq f (codes "{}")) refl)
  where
    go : (b : Bool) → bytes_eq f (codes "{}") ≡ b → Reads (cond b (open_curly 0 ∷ sp.at true 1200 (close_curly ∷ r)) (called f (sp.at true 999 (closes ∷ r)))) r 0 (comp f 0 (one t))
    go true e = let w = h.at true 1200 (close_curly ∷ r) in
        subst (λ (x : Name). Reads (open_curly 0 ∷ sp.at true 1200 (close_curly ∷ r)) r 0 (comp x 0 (one t))) (sym (text_is f (codes "{}") e))
        (in_curly w.reads w.fits)
    go false e = call_reads f (sp.at true 999 (closes ∷ r)) r (one t) (last (as_arg (h.at true 999 (closes ∷ r))))

operands_read : (f : Name) (op : Operator) (a b : InTokens) (t u : PlacedTerm) → Right a t → Right b u → Stands f op → (tight : Bool) (r : List Terminal)
    → Reads (operands f op a b tight r) r op.priority (comp f 0 (two t u))
operands_read f op a b t u h k s tight r =
    let behind : Bool = not (is_letter_word op.name) in
    let left = h.at tight (left_limit op) (operator_terminal f ∷ b.at behind (right_limit op) r) in
    let right = k.at behind (right_limit op) r in
    let read = an_infix op s.token left.reads left.fits right.reads right.fits in
    subst (λ (p : ℕ). Reads (operands f op a b tight r) r op.priority (comp f p (two t u))) s.place
    (subst (λ (x : Name). Reads (operands f op a b tight r) r op.priority (comp x (token_place (operator_terminal f)) (two t u))) s.named read)

infix_reads : (f : Name) (found : Option Operator) → infix_of f ≡ found → (a b : InTokens) (t u : PlacedTerm) → Right a t → Right b u
    → (tight : Bool) (limit : ℕ) (r : List Terminal) → Within (infix_tokens f found a b tight limit r) r limit (comp f 0 (two t u))
infix_reads f None e a b t u h k tight limit r =
    at_zero limit (call_reads f (a.at true 999 (comma 0 ∷ b.at true 999 (closes ∷ r))) r (two t u)
    (more (as_arg (h.at true 999 (comma 0 ∷ b.at true 999 (closes ∷ r)))) (last (as_arg (k.at true 999 (closes ∷ r))))))
infix_reads f (Some op) e a b t u h k tight limit r = go (nat_le op.priority limit) refl
  where
    go : (c : Bool) → nat_le op.priority limit ≡ c → Within (cond c (operands f op a b tight r) (opens 0 tight ∷ operands f op a b true (closes ∷ r))) r limit (comp f 0 (two t u))
    go true le = record { priority = op.priority; fits = leb-true op.priority limit le; reads = operands_read f op a b t u h k (infix_stands f op e) tight r }
    go false le = at_zero limit (in_parens (operands_read f op a b t u h k (infix_stands f op e) true (closes ∷ r)) (within_infix (operator_terminal f) op (infix_stands f op e).token))

two_right : (f : Name) (a b : InTokens) (t u : PlacedTerm) → Right a t → Right b u → Right (record { at = two_tokens f a b; rest = two_rest f a b }) (comp f 0 (two t u))
two_right f a b t u h k = record { at = λ tight limit r. at_limit tight limit r (bytes_eq f (codes ".")) refl; rest = λ r. rest r (bytes_eq f (codes ".")) refl }
  where
    at_limit : (tight : Bool) (limit : ℕ) (r : List Terminal) (c : Bool) → bytes_eq f (codes ".") ≡ c
        → Within (cond c (open_list 0 ∷ a.at true 999 (b.rest r)) (infix_tokens f (infix_of f) a b tight limit r)) r limit (comp f 0 (two t u))
    at_limit tight limit r true e =
        let list = list_reads (list_from (k.rest r) (a.at true 999 (b.rest r)) t (as_arg (h.at true 999 (b.rest r)))) in
        at_zero limit (subst (λ (x : Name). Reads (open_list 0 ∷ a.at true 999 (b.rest r)) r 0 (comp x 0 (two t u))) (sym (text_is f (codes ".") e)) list)
    at_limit tight limit r false e = infix_reads f (infix_of f) refl a b t u h k tight limit r

    rest : (r : List Terminal) (c : Bool) → bytes_eq f (codes ".") ≡ c → TailOf r (cond c (comma 0 ∷ a.at true 999 (b.rest r)) (after_bar (two_tokens f a b) r)) (comp f 0 (two t u))
    rest r true e = subst (λ (x : Name). TailOf r (comma 0 ∷ a.at true 999 (b.rest r)) (comp x 0 (two t u))) (sym (text_is f (codes ".") e)) (element (as_arg (h.at true 999 (b.rest r))) (k.rest r))
    rest r false e = behind_bar (as_arg (at_limit true 999 (close_list ∷ r) (bytes_eq f (codes ".")) refl))

-- further arguments, with the bracket behind them
pub record Closes (ts : List Terminal) (r : List Terminal) (xs : PlacedTerms) : Type 0 where
  pub all : (vs : List Terminal) (x : PlacedTerm) → Arg vs ts x → Args vs (closes ∷ r) (part x xs)

mutual
  pub reads_term : (t : Term) → HasArguments t → Right (tokens_of t) (placed t)
  reads_term (Var x) h = barred (λ tight limit r. variable 0 x ∷ r) (var x 0) (λ tight limit r. at_zero limit a_variable)
  reads_term (Int z) h = barred (λ tight limit. integer_tokens z tight) (int z 0) (λ tight limit r. at_zero limit (integer_reads z tight r))
  reads_term (Atom a) h = atom_right a
  reads_term (Comp f no_terms) h = absurd h
  reads_term (Comp f (term a no_terms)) h = barred (λ tight limit. one_tokens f (tokens_of a)) (comp f 0 (one (placed a))) (λ tight. one_reads f (tokens_of a) (placed a) (reads_term a h.0))
  reads_term (Comp f (term a (term b no_terms))) h = two_right f (tokens_of a) (tokens_of b) (placed a) (placed b) (reads_term a h.0) (reads_term b h.1.0)
  reads_term (Comp f (term a (term b (term c ts)))) h =
      let sa = reads_term a h.0 in
      let sb = reads_term b h.1.0 in
      let sc = reads_term c h.1.1.0 in
      let sx = reads_all ts h.1.1.1 in
      barred (λ tight limit r. called f ((tokens_of a).at true 999
      (comma 0 ∷ (tokens_of b).at true 999 (comma 0 ∷ (tokens_of c).at true 999 (further ts (closes ∷ r))))))
      (comp f 0 (part (placed a) (part (placed b) (part (placed c) (all_placed ts)))))
      (λ tight limit r.
      let tc = (tokens_of c).at true 999 (further ts (closes ∷ r)) in
      let tb = (tokens_of b).at true 999 (comma 0 ∷ tc) in
      at_zero limit (call_reads f ((tokens_of a).at true 999 (comma 0 ∷ tb)) r _
      (more (as_arg (sa.at true 999 (comma 0 ∷ tb))) (more (as_arg (sb.at true 999 (comma 0 ∷ tc))) ((sx r).all tc (placed c) (as_arg (sc.at true 999 (further ts (closes ∷ r)))))))))

  pub reads_all : (ts : Terms) → AllHaveArguments ts → (r : List Terminal) → Closes (further ts (closes ∷ r)) r (all_placed ts)
  reads_all no_terms h r = record { all = λ vs x d. last d }
  reads_all (term y ys) h r =
      let sy = reads_term y h.0 in
      let sx = reads_all ys h.1 r in
      record { all = λ vs x d. more d (sx.all ((tokens_of y).at true 999 (further ys (closes ∷ r))) (placed y) (as_arg (sy.at true 999 (further ys (closes ∷ r))))) }

pub spelled_is_read : SpelledIsRead
spelled_is_read t h tight limit r = (reads_term t h).at tight limit r
