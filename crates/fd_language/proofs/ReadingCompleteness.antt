-- What the grammar derives, the machine accepts.
use Rattle.std.proofs.Common.{◌≡◌, ℕ, ◌<◌, ◌≤◌, ◌⊎◌, inl, inr, List, [], ◌∷◌, Option, Some, None, Bool, true, false, cond, refl, sym, ap, ◌∙◌, arith}
use Rattle.std.specs.Prelude.{neg_ℤ, nat_le, option_and_then, ◌&&◌, not}
use Rattle.std.proofs.lemmas.Bool.{le-leb, lt-leb, le-ltb, lt-ltb, not-true, and_parts}
use Rattle.fd_language.specs.Term.{Name}
use Rattle.fd_language.specs.PlacedTerm.{PlacedTerm, PlacedTerms, var, int, atom, comp, no_parts, part, one, two, with_last, append}
use Rattle.fd_language.specs.Operators.{Operator, left_limit, right_limit, prefix_of}
use Rattle.fd_language.specs.Terminals.{Terminal, name, operator_word, variable, integer, opens, closes, open_list, close_list, open_curly, close_curly, comma}
use Rattle.fd_language.specs.Terminals.{bar, stop, comma_operator, infix_operator, token_place, is_tight_open, is_negated, may_follow}
use Rattle.fd_language.specs.Grammar.{nil_name, curly_name, list_of, Reads, an_integer, a_negative, a_variable, an_atom, empty_list, empty_curly, named_call}
use Rattle.fd_language.specs.Grammar.{operator_call, in_parens, operator_in_parens, a_list, a_list_tail, in_curly, a_prefix, an_infix, Arg, a_term, an_operator}
use Rattle.fd_language.specs.Grammar.{Args, last, more, Sentences, none, next, IsText}
use Rattle.fd_language.specs.ReadingSteps.{Stack, top, paren, args, items, tail, curly, before, between, State, want, at_list, at_curly_bracket, at_operator}
use Rattle.fd_language.specs.ReadingSteps.{after, limit, reduce, Reduced, closed, lone, placed, attach, or_else, ended, behind_operand, called, wanted, begun}
use Rattle.fd_language.specs.ReadingSteps.{step, run, is_close_list, is_close_curly}
use Rattle.fd_language.proofs.OperatorLaws.{bounds_infix, bounds_prefix, apart_infix, apart_prefix}

-- Spine s s2 x t q: the stack s2 over s, with the operand x, stands over s for the term t of priority q.
pub data Spine : Stack → Stack → PlacedTerm → PlacedTerm → ℕ → Type 0 where
  bare : {s : Stack} {t : PlacedTerm} → Spine s s t t 0
  under_prefix : {p : ℕ} {o : Name} {s s2 : Stack} {x t : PlacedTerm} {q : ℕ} (f : Operator) → prefix_of o ≡ Some f → q ≤ (right_limit f)
      → Spine (before p o f s) s2 x t q → Spine s s2 x (comp o p (one t)) f.priority
  under_infix : {s s2 : Stack} {a x t : PlacedTerm} {q : ℕ} (y : Terminal) (f : Operator) → infix_operator y ≡ Some f → q ≤ (right_limit f)
      → Spine (between (token_place y) f a s) s2 x t q → Spine s s2 x (comp f.name (token_place y) (two a t)) f.priority

abbrev pub reduced : Stack → ℕ → PlacedTerm → Reduced
reduced s q t = record { stack = s; priority = q; term = t }

reduce_all-Spine : {s s2 : Stack} {x t : PlacedTerm} {q : ℕ} → Spine s s2 x t q → reduce None s2 0 x ≡ reduce None s q t
reduce_all-Spine bare = refl
reduce_all-Spine (under_prefix f e h d) = reduce_all-Spine d
reduce_all-Spine (under_infix y f e h d) = reduce_all-Spine d

reduce-Spine : (y : Terminal) (f : Operator) → infix_operator y ≡ Some f → {s s2 : Stack} {x t : PlacedTerm} {q : ℕ} → Spine s s2 x t q → q ≤ (left_limit f)
    → reduce (Some f.priority) s2 0 x ≡ reduce (Some f.priority) s q t
reduce-Spine y f e bare k = refl
reduce-Spine y f e (under_prefix {o = o} {q = q} g e2 h d) k =
    let small : (right_limit g) < f.priority = apart_prefix y f e o g e2 k in
    let inner : q ≤ (left_limit f) = omega (arith, (bounds_prefix o g e2).1) in
    reduce-Spine y f e d inner ∙ rw (lt-ltb (right_limit g) f.priority small) refl
reduce-Spine y f e (under_infix {q = q} z g e2 h d) k =
    let small : (right_limit g) < f.priority = apart_infix y f e z g e2 k in
    let inner : q ≤ (left_limit f) = omega (arith, (bounds_infix z g e2).1) in
    reduce-Spine y f e d inner ∙ rw (lt-ltb (right_limit g) f.priority small) refl

reduce_stays : (n : ℕ) (s : Stack) (q : ℕ) (t : PlacedTerm) → n ≤ limit s → reduce (Some n) s q t ≡ reduced s q t
reduce_stays n (before p o f s) q t h = rw (le-ltb (right_limit f) n h) refl
reduce_stays n (between p f a s) q t h = rw (le-ltb (right_limit f) n h) refl
reduce_stays n _ q t h = refl

attach_fits : (y : Terminal) (f : Operator) → infix_operator y ≡ Some f → {s s2 : Stack} {x t : PlacedTerm} {q : ℕ} → Spine s s2 x t q → q ≤ (left_limit f)
    → f.priority ≤ limit s → attach (token_place y) (infix_operator y) s2 x ≡ Some (want (between (token_place y) f t s))
attach_fits y f e {s = s} {t = t} {q = q} d k h =
    rw (e, reduce-Spine y f e d k, reduce_stays f.priority s q t h, le-leb f.priority (limit s) h, le-leb q (left_limit f) k) refl

-- ---- what an operand may begin with

abbrev pub is_starter : Terminal → Bool
is_starter closes = false
is_starter close_list = false
is_starter close_curly = false
is_starter (comma p) = false
is_starter bar = false
is_starter stop = false
is_starter _ = true

pub record Head (ts : List Terminal) : Type 0 where
  pub first : Terminal
  pub others : List Terminal
  pub split : ts ≡ first ∷ others
  pub starts : is_starter first ≡ true

head_of : (x : Terminal) (ts : List Terminal) → is_starter x ≡ true → Head (x ∷ ts)
head_of x ts h = record { first = x; others = ts; split = refl; starts = h }

pub Reads-head : {ts rest : List Terminal} {q : ℕ} {t : PlacedTerm} → Reads ts rest q t → Head ts
Reads-head (an_integer {p = p} {n = n} {b = b} {rest = rest}) = head_of (integer p b n) rest refl
Reads-head (a_negative {p = p} {p2 = p2} {n = n} {o = o} {rest = rest} e) = head_of (operator_word p o) (integer p2 true n ∷ rest) refl
Reads-head (a_variable {p = p} {n = n} {rest = rest}) = head_of (variable p n) rest refl
Reads-head (an_atom {p = p} {a = a} {rest = rest}) = head_of (name p a) rest refl
Reads-head (empty_list {p = p} {rest = rest}) = head_of (open_list p) (close_list ∷ rest) refl
Reads-head (empty_curly {p = p} {rest = rest}) = head_of (open_curly p) (close_curly ∷ rest) refl
Reads-head (named_call {p = p} {p2 = p2} {a = a} {ts = ts} d) = head_of (name p a) (opens p2 true ∷ ts) refl
Reads-head (operator_call {p = p} {p2 = p2} {a = a} {ts = ts} d) = head_of (operator_word p a) (opens p2 true ∷ ts) refl
Reads-head (in_parens {p = p} {b = b} {ts = ts} d le) = head_of (opens p b) ts refl
Reads-head (operator_in_parens {p = p} {p2 = p2} {b = b} {o = o} {rest = rest}) = head_of (opens p b) (operator_word p2 o ∷ closes ∷ rest) refl
Reads-head (a_list {p = p} {ts = ts} d) = head_of (open_list p) ts refl
Reads-head (a_list_tail {p = p} {ts = ts} d e) = head_of (open_list p) ts refl
Reads-head (in_curly {p = p} {ts = ts} d le) = head_of (open_curly p) ts refl
Reads-head (a_prefix {p = p} {o = o} {ts = ts} f e m d le) = head_of (operator_word p o) ts refl
Reads-head (an_infix f e d le d2 le2) = Reads-head d

pub Arg-head : {ts rest : List Terminal} {t : PlacedTerm} → Arg ts rest t → Head ts
Arg-head (a_term d le) = Reads-head d
Arg-head (an_operator {p = p} {o = o} {rest = rest}) = head_of (operator_word p o) rest refl

pub Args-head : {ts rest : List Terminal} {xs : PlacedTerms} → Args ts rest xs → Head ts
Args-head (last d) = Arg-head d
Args-head (more d e) = Arg-head d

-- what begins an operand ends none
starter_lone : (s : Stack) (x : Terminal) → is_starter x ≡ true → lone s x ≡ false
starter_lone s closes h = absurd cc
starter_lone s close_list h = absurd cc
starter_lone s close_curly h = absurd cc
starter_lone s (comma p) h = absurd cc
starter_lone s bar h = absurd cc
starter_lone s stop h = absurd cc
starter_lone (top ts) _ h = refl
starter_lone (paren s) _ h = refl
starter_lone (args p a xs s) _ h = refl
starter_lone (items p xs s) _ h = refl
starter_lone (tail p xs s) _ h = refl
starter_lone (curly p s) _ h = refl
starter_lone (before p o f s) _ h = refl
starter_lone (between p f a s) _ h = refl

starter_close_list : (x : Terminal) → is_starter x ≡ true → is_close_list x ≡ false
starter_close_list close_list h = absurd cc
starter_close_list _ h = refl

starter_close_curly : (x : Terminal) → is_starter x ≡ true → is_close_curly x ≡ false
starter_close_curly close_curly h = absurd cc
starter_close_curly _ h = refl

-- directly behind a bracket an operand is read as anywhere
behind_bracket : (p : ℕ) (s : Stack) (ts : List Terminal) → Head ts → run ts (at_list p s) ≡ run ts (want (items p no_parts s))
behind_bracket p s ts h =
    let one : run (h.first ∷ h.others) (at_list p s) ≡ run (h.first ∷ h.others) (want (items p no_parts s)) =
    ap (λ (b : Bool). option_and_then (λ st. run h.others st) (cond b (Some (after None s (atom nil_name p))) (wanted (items p no_parts s) h.first))) (starter_close_list h.first h.starts) in
    ap (λ (l : List Terminal). run l (at_list p s)) h.split ∙ one ∙ ap (λ (l : List Terminal). run l (want (items p no_parts s))) (sym h.split)

behind_curly : (p : ℕ) (s : Stack) (ts : List Terminal) → Head ts → run ts (at_curly_bracket p s) ≡ run ts (want (curly p s))
behind_curly p s ts h =
    let one : run (h.first ∷ h.others) (at_curly_bracket p s) ≡ run (h.first ∷ h.others) (want (curly p s)) =
    ap (λ (b : Bool). option_and_then (λ st. run h.others st) (cond b (Some (after None s (atom curly_name p))) (wanted (curly p s) h.first))) (starter_close_curly h.first h.starts) in
    ap (λ (l : List Terminal). run l (at_curly_bracket p s)) h.split ∙ one ∙ ap (λ (l : List Terminal). run l (want (curly p s))) (sym h.split)

-- and behind a prefix operator
behind_prefix : (p : ℕ) (o : Name) (f : Operator) (s : Stack) (ts : List Terminal) → prefix_of o ≡ Some f → f.priority ≤ limit s → may_follow o ts ≡ true
    → Head ts → run ts (at_operator p o s) ≡ run ts (want (before p o f s))
behind_prefix p o f s ts e le m h =
    let x = h.first in
    let us = h.others in
    let m2 : (not (is_tight_open x) && not (is_negated o x)) ≡ true = ap (λ (l : List Terminal). may_follow o l) (sym h.split) ∙ m in
    let parts = and_parts (not (is_tight_open x)) (not (is_negated o x)) m2 in
    let one : step (at_operator p o s) x ≡ wanted (before p o f s) x =
    rw (not-true (is_tight_open x) parts.0, not-true (is_negated o x) parts.1, starter_lone s x h.starts, e, le-leb f.priority (limit s) le) refl in
    ap (λ (l : List Terminal). run l (at_operator p o s)) h.split ∙ ap (option_and_then (λ st. run us st)) one ∙ ap (λ (l : List Terminal). run l (want (before p o f s))) (sym h.split)

-- ---- a term is read onto any stack that has room for it

pub record Takes (s : Stack) (ts rest : List Terminal) (t : PlacedTerm) (q : ℕ) : Type 0 where
  pub flag : Option (ℕ × Name)
  pub stack : Stack
  pub operand : PlacedTerm
  pub runs : run ts (want s) ≡ run rest (after flag stack operand)
  pub spine : Spine s stack operand t q

-- the brackets of arguments: they build a stack of what is read so far; x ends them, and makes of all of them what result says
pub record Brackets (build : PlacedTerms → Stack) (x : Terminal) (result : PlacedTerms → Option State) : Type 0 where
  pub narrow : (xs : PlacedTerms) → limit (build xs) ≡ 999
  pub bracket : (n : Option ℕ) (xs : PlacedTerms) (q : ℕ) (t : PlacedTerm) → reduce n (build xs) q t ≡ reduced (build xs) q t
  pub goes_on : (xs : PlacedTerms) (t : PlacedTerm) (p : ℕ) → closed (build xs) t (comma p) ≡ Some (want (build (with_last xs t)))
  pub ends : (xs : PlacedTerms) (t : PlacedTerm) → closed (build xs) t x ≡ result (with_last xs t)
  pub lone_comma : (xs : PlacedTerms) (p : ℕ) → lone (build xs) (comma p) ≡ true
  pub lone_end : (xs : PlacedTerms) → lone (build xs) x ≡ true
  pub is_end : infix_operator x ≡ None
  pub is_not_open : is_tight_open x ≡ false
  pub is_no_number : (o : Name) → is_negated o x ≡ false

-- where an argument may end
pub record EndsArg (s : Stack) (x : Terminal) : Type 0 where
  pub narrow : limit s ≡ 999
  pub bracket : (n : Option ℕ) (q : ℕ) (t : PlacedTerm) → reduce n s q t ≡ reduced s q t
  pub alone : lone s x ≡ true
  pub is_end : (infix_operator x ≡ None) ⊎ (infix_operator x ≡ Some comma_operator)
  pub is_not_open : is_tight_open x ≡ false
  pub is_no_number : (o : Name) → is_negated o x ≡ false

at_comma : {build : PlacedTerms → Stack} {x : Terminal} {result : PlacedTerms → Option State} → Brackets build x result → (xs : PlacedTerms) (p : ℕ) → EndsArg (build xs) (comma p)
at_comma f xs p = record { narrow = f.narrow xs; bracket = λ n. f.bracket n xs; alone = f.lone_comma xs p; is_end = inr refl; is_not_open = refl; is_no_number = λ o. refl }

at_end : {build : PlacedTerms → Stack} {x : Terminal} {result : PlacedTerms → Option State} → Brackets build x result → (xs : PlacedTerms) → EndsArg (build xs) x
at_end f xs = record { narrow = f.narrow xs; bracket = λ n. f.bracket n xs; alone = f.lone_end xs; is_end = inl f.is_end; is_not_open = f.is_not_open; is_no_number = f.is_no_number }

args_frame : (p : ℕ) (a : Name) (s : Stack) → Brackets (λ xs. args p a xs s) closes (λ xs. Some (after None s (comp a p xs)))
args_frame p a s = record {
  narrow = λ xs. refl;
  bracket = λ n xs q t. refl;
  goes_on = λ xs t p. refl;
  ends = λ xs t. refl;
  lone_comma = λ xs p. refl;
  lone_end = λ xs. refl;
  is_end = refl;
  is_not_open = refl;
  is_no_number = λ o. refl;
}

list_frame : (p : ℕ) (s : Stack) → Brackets (λ xs. items p xs s) close_list (λ xs. Some (after None s (list_of p xs (atom nil_name p))))
list_frame p s = record {
  narrow = λ xs. refl;
  bracket = λ n xs q t. refl;
  goes_on = λ xs t p. refl;
  ends = λ xs t. refl;
  lone_comma = λ xs p. refl;
  lone_end = λ xs. refl;
  is_end = refl;
  is_not_open = refl;
  is_no_number = λ o. refl;
}

bar_frame : (p : ℕ) (s : Stack) → Brackets (λ xs. items p xs s) bar (λ xs. Some (want (tail p xs s)))
bar_frame p s = record {
  narrow = λ xs. refl;
  bracket = λ n xs q t. refl;
  goes_on = λ xs t p. refl;
  ends = λ xs t. refl;
  lone_comma = λ xs p. refl;
  lone_end = λ xs. refl;
  is_end = refl;
  is_not_open = refl;
  is_no_number = λ o. refl;
}

tail_ends : (p : ℕ) (xs : PlacedTerms) (s : Stack) → EndsArg (tail p xs s) close_list
tail_ends p xs s = record { narrow = refl; bracket = λ n q t. refl; alone = refl; is_end = inl refl; is_not_open = refl; is_no_number = λ o. refl }

infix_not_open : (x : Terminal) (f : Operator) → infix_operator x ≡ Some f → is_tight_open x ≡ false
infix_not_open (opens p b) f e = absurd cc
infix_not_open _ f e = refl

-- no operator takes what stands in an argument's place as its left operand behind the bracket
no_attach : (s s2 : Stack) (x : Terminal) (y t : PlacedTerm) (q : ℕ) → EndsArg s x → Spine s s2 y t q → q ≤ 999 → attach (token_place x) (infix_operator x) s2 y ≡ None
no_attach s s2 x y t q e d le = go e.is_end
  where
    go : (infix_operator x ≡ None) ⊎ (infix_operator x ≡ Some comma_operator) → attach (token_place x) (infix_operator x) s2 y ≡ None
    go (inl h) = ap (λ (o : Option Operator). attach (token_place x) o s2 y) h
    go (inr h) =
        let wide : nat_le 1000 (limit s) ≡ false = lt-leb 1000 (limit s) (omega (arith, e.narrow)) in
        ap (λ (o : Option Operator). attach (token_place x) o s2 y) h
        ∙ ap (placed (token_place x) comma_operator) (reduce-Spine (comma 0) comma_operator refl d le ∙ e.bracket (Some 1000) q t)
        ∙ ap (λ (b : Bool). cond b (cond (nat_le q 999) (Some (want (between (token_place x) comma_operator t s))) None) None) wide

behind_argument : (s s2 : Stack) (x : Terminal) (y t : PlacedTerm) (q : ℕ) (c : Option (ℕ × Name)) → EndsArg s x → Spine s s2 y t q → q ≤ 999 → step (after c s2 y) x ≡ closed s t x
behind_argument s s2 x y t q c e d le =
    ap (λ (b : Bool). cond b (called c s2) (behind_operand s2 y x)) e.is_not_open
    ∙ ap (λ (o : Option State). or_else o (ended (reduce None s2 0 y) x)) (no_attach s s2 x y t q e d le)
    ∙ ap (λ (r : Reduced). ended r x) (reduce_all-Spine d ∙ e.bracket None q t)

pub append-with_last : (xs ys : PlacedTerms) (t : PlacedTerm) → append (with_last xs t) ys ≡ append xs (part t ys)
append-with_last no_parts ys t = refl
append-with_last (part x xs) ys t = ap (part x) (append-with_last xs ys t)

mutual
  pub Reads-takes : {ts rest : List Terminal} {q : ℕ} {t : PlacedTerm} → Reads ts rest q t → (s : Stack) → q ≤ limit s → Takes s ts rest t q
  Reads-takes (an_integer {p = p} {n = n}) s h = record { flag = None; stack = s; operand = int n p; runs = refl; spine = bare }
  Reads-takes (a_negative {p = p} {p2 = p2} {n = n} {o = o} {rest = rest} e) s h = record {
    flag = None;
    stack = s;
    operand = int (neg_ℤ n) p;
    runs = ap (λ (b : Bool). option_and_then (λ st. run rest st)
        (cond b (Some (after None s (int (neg_ℤ n) p))) (cond (lone s (integer p2 true n)) (closed s (atom o p) (integer p2 true n))
        (begun p o (prefix_of o) s (integer p2 true n))))) e;
    spine = bare;
  }
  Reads-takes (a_variable {p = p} {n = n}) s h = record { flag = None; stack = s; operand = var n p; runs = refl; spine = bare }
  Reads-takes (an_atom {p = p} {a = a}) s h = record { flag = Some (p, a); stack = s; operand = atom a p; runs = refl; spine = bare }
  Reads-takes (empty_list {p = p}) s h = record { flag = None; stack = s; operand = atom nil_name p; runs = refl; spine = bare }
  Reads-takes (empty_curly {p = p}) s h = record { flag = None; stack = s; operand = atom curly_name p; runs = refl; spine = bare }
  Reads-takes (named_call {p = p} {a = a} {rest = rest} {xs = xs} d) s h = record {
    flag = None;
    stack = s;
    operand = comp a p xs;
    runs = Args-takes d (λ ys. args p a ys s) closes (λ ys. Some (after None s (comp a p ys))) (args_frame p a s) rest refl no_parts;
    spine = bare;
  }
  Reads-takes (operator_call {p = p} {a = a} {rest = rest} {xs = xs} d) s h = record {
    flag = None;
    stack = s;
    operand = comp a p xs;
    runs = Args-takes d (λ ys. args p a ys s) closes (λ ys. Some (after None s (comp a p ys))) (args_frame p a s) rest refl no_parts;
    spine = bare;
  }
  Reads-takes (in_parens {rest = rest} {t = t} d le) s h =
      let inner = Reads-takes d (paren s) le in
      record { flag = None; stack = s; operand = t; runs = inner.runs ∙ ap (λ (r : Reduced). option_and_then (λ st. run rest st) (ended r closes)) (reduce_all-Spine inner.spine); spine = bare }
  Reads-takes (operator_in_parens {p2 = p2} {o = o}) s h = record { flag = None; stack = s; operand = atom o p2; runs = refl; spine = bare }
  Reads-takes (a_list {p = p} {ts = ts} {rest = rest} {xs = xs} d) s h = record {
    flag = None;
    stack = s;
    operand = list_of p xs (atom nil_name p);
    runs = behind_bracket p s ts (Args-head d) ∙ Args-takes d (λ ys. items p ys s) close_list (λ ys. Some (after None s (list_of p ys (atom nil_name p)))) (list_frame p s) rest refl no_parts;
    spine = bare;
  }
  Reads-takes (a_list_tail {p = p} {ts = ts} {us = us} {rest = rest} {xs = xs} {t = t} d d2) s h = record {
    flag = None;
    stack = s;
    operand = list_of p xs t;
    runs = behind_bracket p s ts (Args-head d) ∙ Args-takes d (λ ys. items p ys s) bar (λ ys. Some (want (tail p ys s))) (bar_frame p s) us refl no_parts
        ∙ Arg-takes d2 (tail p xs s) close_list (tail_ends p xs s) rest refl;
    spine = bare;
  }
  Reads-takes (in_curly {p = p} {ts = ts} {rest = rest} {t = t} d le) s h =
      let inner = Reads-takes d (curly p s) le in
      record {
        flag = None;
        stack = s;
        operand = comp curly_name p (one t);
        runs = behind_curly p s ts (Reads-head d) ∙ inner.runs
            ∙ ap (λ (r : Reduced). option_and_then (λ st. run rest st) (ended r close_curly)) (reduce_all-Spine inner.spine);
        spine = bare;
      }
  Reads-takes (a_prefix {p = p} {o = o} {ts = ts} f e m d le) s h =
      let inner = Reads-takes d (before p o f s) le in
      record { flag = inner.flag; stack = inner.stack; operand = inner.operand; runs = behind_prefix p o f s ts e h m (Reads-head d) ∙ inner.runs; spine = under_prefix f e le inner.spine }
  Reads-takes (an_infix {x = x} {us = us} {a = a} f e d1 le1 d2 le2) s h =
      let room = (bounds_infix x f e).0 in
      let first = Reads-takes d1 s (omega arith) in
      let turn : step (after first.flag first.stack first.operand) x ≡ Some (want (between (token_place x) f a s)) =
      ap (λ (b : Bool). cond b (called first.flag first.stack) (behind_operand first.stack first.operand x)) (infix_not_open x f e)
      ∙ ap (λ (o : Option State). or_else o (ended (reduce None first.stack 0 first.operand) x)) (attach_fits x f e first.spine le1 h) in
      let second = Reads-takes d2 (between (token_place x) f a s) le2 in
      record {
        flag = second.flag;
        stack = second.stack;
        operand = second.operand;
        runs = first.runs ∙ ap (option_and_then (λ st. run us st)) turn
            ∙ second.runs;
        spine = under_infix x f e le2 second.spine;
      }

  pub Arg-takes : {ts rest : List Terminal} {t : PlacedTerm} → Arg ts rest t → (s : Stack) (x : Terminal) → EndsArg s x → (us : List Terminal) → rest ≡ x ∷ us
      → run ts (want s) ≡ option_and_then (λ st. run us st) (closed s t x)
  Arg-takes (a_term {q = q} {t = t} d le) s x e us split =
      let inner = Reads-takes d s (omega (arith, e.narrow)) in
      inner.runs ∙ ap (λ (l : List Terminal). run l (after inner.flag inner.stack inner.operand)) split
      ∙ ap (option_and_then (λ st. run us st)) (behind_argument s inner.stack x inner.operand t q inner.flag e inner.spine le)
  Arg-takes (an_operator {p = p} {o = o}) s x e us split =
      ap (λ (l : List Terminal). run l (at_operator p o s)) split
      ∙ ap (option_and_then (λ st. run us st)) (rw (e.is_not_open, e.is_no_number o, e.alone) refl)

  pub Args-takes : {ts rest : List Terminal} {xs : PlacedTerms} → Args ts rest xs
      → (build : PlacedTerms → Stack) (x : Terminal) (result : PlacedTerms → Option State) → Brackets build x result → (us : List Terminal) → rest ≡ x ∷ us
      → (done : PlacedTerms)
      → run ts (want (build done)) ≡ option_and_then (λ st. run us st) (result (append done xs))
  Args-takes (last {t = t} d) build x result f us split done =
      Arg-takes d (build done) x (at_end f done) us split ∙ ap (option_and_then (λ st. run us st)) (f.ends done t)
  Args-takes (more {p = p} {us = vs} {t = t} {xs = xs} d e) build x result f us split done =
      Arg-takes d (build done) (comma p) (at_comma f done p) vs refl
      ∙ ap (option_and_then (λ st. run vs st)) (f.goes_on done t p)
      ∙ Args-takes e build x result f us split (with_last done t)
      ∙ ap (λ (ys : PlacedTerms). option_and_then (λ st. run us st) (result ys)) (append-with_last done xs t)

run-Sentences : {ts rest : List Terminal} {terms : List PlacedTerm} → Sentences ts terms rest → run ts (want (top [])) ≡ run rest (want (top terms))
run-Sentences none = refl
run-Sentences (next {us = us} {rest = rest} {terms = terms} d r le) =
    let one = Reads-takes r (top terms) le in
    run-Sentences d ∙ one.runs ∙ ap (λ (x : Reduced). option_and_then (λ st. run rest st) (ended x stop)) (reduce_all-Spine one.spine)

pub accepts : (ts : List Terminal) (terms : List PlacedTerm) → IsText ts terms → run ts (want (top [])) ≡ Some (want (top terms))
accepts ts terms d = run-Sentences d

-- the grammar gives a list of tokens at most one reading
pub one_reading : (ts : List Terminal) (xs ys : List PlacedTerm) → IsText ts xs → IsText ts ys → xs ≡ ys
one_reading ts xs ys d e =
    let both : Some (want (top xs)) ≡ Some (want (top ys)) = sym (accepts ts xs d) ∙ accepts ts ys e in cc
