-- What the machine accepts, the grammar derives; what it has read can be completed, and what it refuses can't.
use Rattle.std.proofs.Common.{◌≡◌, ℕ, ◌≤◌, List, [], ◌∷◌, Option, Some, None, Bool, true, false, cond, refl, sym, ap, subst, ◌∙◌, arith}
use Rattle.std.specs.Prelude.{neg_ℤ, nat_le, option_and_then}
use Rattle.std.proofs.lemmas.Bool.{leb-true, and_parts}
use Rattle.fd_language.proofs.Lemmas.{append-with_last}
use Rattle.fd_language.specs.Term.{Name}
use Rattle.fd_language.specs.PlacedTerm.{PlacedTerm, PlacedTerms, int, atom, comp, no_parts, one, two, with_last, append}
use Rattle.fd_language.specs.Operators.{Operator, left_limit, right_limit, prefix_of}
use Rattle.fd_language.specs.Terminals.{Terminal, name, operator_word, variable, integer, opens, closes, open_list, close_list, open_curly, close_curly, comma}
use Rattle.fd_language.specs.Terminals.{bar, stop, infix_operator, token_place, is_minus, is_tight_open, is_negated, may_follow}
use Rattle.fd_language.specs.Grammar.{nil_name, curly_name, list_of, Reads, an_integer, a_negative, a_variable, an_atom, empty_list, empty_curly, named_call}
use Rattle.fd_language.specs.Grammar.{operator_call, in_parens, operator_in_parens, a_list, a_list_tail, in_curly, a_prefix, an_infix, Arg, a_term, an_operator}
use Rattle.fd_language.specs.Grammar.{Args, last, more, Sentences, none, next, IsText}
use Rattle.fd_language.specs.ReadingSteps.{Stack, top, paren, args, items, tail, curly, before, between, State, want, at_list, at_curly_bracket, at_operator}
use Rattle.fd_language.specs.ReadingSteps.{after, limit, reduce, Reduced, gives_way, closed, lone, placed, attach, or_else, ended, behind_operand, called}
use Rattle.fd_language.specs.ReadingSteps.{wanted, begun, number_of, step, run, is_close, is_close_list, is_close_curly, is_comma, is_bar, is_stop}

-- arguments read so far, each with the comma behind it
pub data SoFar (ts : List Terminal) : PlacedTerms → List Terminal → Type 0 where
  nothing : SoFar ts no_parts ts
  another : {p : ℕ} {us rest : List Terminal} {xs : PlacedTerms} {t : PlacedTerm} → SoFar ts xs us → Arg us (comma p ∷ rest) t → SoFar ts (with_last xs t) rest

all_args : {ts us rest : List Terminal} {xs ys : PlacedTerms} → SoFar ts xs us → Args us rest ys → Args ts rest (append xs ys)
all_args nothing d = d
all_args {ts = ts} {rest = rest} {ys = ys} (another {xs = xs} {t = t} so a) d = subst (λ (zs : PlacedTerms). Args ts rest zs) (sym (append-with_last xs ys t)) (all_args so (more a d))

-- the name or operator word of a call stands here
pub data Calls : List Terminal → ℕ → Name → List Terminal → Type 0 where
  by_name : {p p2 : ℕ} {a : Name} {rest : List Terminal} → Calls (name p a ∷ opens p2 true ∷ rest) p a rest
  by_operator : {p p2 : ℕ} {a : Name} {rest : List Terminal} → Calls (operator_word p a ∷ opens p2 true ∷ rest) p a rest

call_of : {us vs rest : List Terminal} {p : ℕ} {a : Name} {xs : PlacedTerms} → Calls us p a vs → Args vs (closes ∷ rest) xs → Reads us rest 0 (comp a p xs)
call_of by_name d = named_call d
call_of by_operator d = operator_call d

-- Begun ts s rest: reading ts, the stack s is begun, and rest follows
pub data Begun (ts : List Terminal) : Stack → List Terminal → Type 0 where
  at_top : {terms : List PlacedTerm} {rest : List Terminal} → Sentences ts terms rest → Begun ts (top terms) rest
  at_paren : {s : Stack} {rest : List Terminal} {p : ℕ} {b : Bool} → Begun ts s (opens p b ∷ rest) → Begun ts (paren s) rest
  at_args : {s : Stack} {us vs rest : List Terminal} {p : ℕ} {a : Name} {xs : PlacedTerms} → Begun ts s us → Calls us p a vs → SoFar vs xs rest → Begun ts (args p a xs s) rest
  at_items : {s : Stack} {vs rest : List Terminal} {p : ℕ} {xs : PlacedTerms} → Begun ts s (open_list p ∷ vs) → SoFar vs xs rest → Begun ts (items p xs s) rest
  at_tail : {s : Stack} {vs rest : List Terminal} {p : ℕ} {xs : PlacedTerms} → Begun ts s (open_list p ∷ vs) → Args vs (bar ∷ rest) xs → Begun ts (tail p xs s) rest
  at_curly : {s : Stack} {rest : List Terminal} {p : ℕ} → Begun ts s (open_curly p ∷ rest) → Begun ts (curly p s) rest
  at_prefix : {s : Stack} {rest : List Terminal} {p : ℕ} {o : Name} (f : Operator) → prefix_of o ≡ Some f → may_follow o rest ≡ true → f.priority ≤ limit s
      → Begun ts s (operator_word p o ∷ rest) → Begun ts (before p o f s) rest
  at_infix : {s : Stack} {us rest : List Terminal} {q : ℕ} {a : PlacedTerm} (x : Terminal) (f : Operator) → infix_operator x ≡ Some f → f.priority ≤ limit s
      → Begun ts s us → Reads us (x ∷ rest) q a → q ≤ (left_limit f) → Begun ts (between (token_place x) f a s) rest

-- the operand is the name that stands directly before
abbrev pub CallFrom : Option (ℕ × Name) → List Terminal → List Terminal → Type 0
CallFrom None us rest = Unit {0}
CallFrom (Some c) us rest = us ≡ name c.0 c.1 ∷ rest

pub record Operand (ts : List Terminal) (c : Option (ℕ × Name)) (s : Stack) (t : PlacedTerm) (rest : List Terminal) : Type 0 where
  pub from : List Terminal
  pub stack : Begun ts s from
  pub reads : Reads from rest 0 t
  pub call : CallFrom c from rest

abbrev pub Holds : List Terminal → State → List Terminal → Type 0
Holds ts (want s) rest = Begun ts s rest
Holds ts (at_list p s) rest = Begun ts s (open_list p ∷ rest)
Holds ts (at_curly_bracket p s) rest = Begun ts s (open_curly p ∷ rest)
Holds ts (at_operator p o s) rest = Begun ts s (operator_word p o ∷ rest)
Holds ts (after c s t) rest = Operand ts c s t rest

abbrev pub IfHolds : List Terminal → List Terminal → Option State → Type 0
IfHolds ts rest None = Unit {0}
IfHolds ts rest (Some st) = Holds ts st rest

-- ---- tests

by_test : (ts rest : List Terminal) (b : Bool) (x y : Option State) → (b ≡ true → IfHolds ts rest x) → (b ≡ false → IfHolds ts rest y) → IfHolds ts rest (cond b x y)
by_test ts rest true x y k l = k refl
by_test ts rest false x y k l = l refl

close_is : (x : Terminal) → is_close x ≡ true → x ≡ closes
close_is closes e = refl
close_is _ e = absurd cc

close_list_is : (x : Terminal) → is_close_list x ≡ true → x ≡ close_list
close_list_is close_list e = refl
close_list_is _ e = absurd cc

close_curly_is : (x : Terminal) → is_close_curly x ≡ true → x ≡ close_curly
close_curly_is close_curly e = refl
close_curly_is _ e = absurd cc

bar_is : (x : Terminal) → is_bar x ≡ true → x ≡ bar
bar_is bar e = refl
bar_is _ e = absurd cc

stop_is : (x : Terminal) → is_stop x ≡ true → x ≡ stop
stop_is stop e = refl
stop_is _ e = absurd cc

comma_is : (x : Terminal) → is_comma x ≡ true → x ≡ comma (token_place x)
comma_is (comma p) e = refl
comma_is _ e = absurd cc

open_is : (x : Terminal) → is_tight_open x ≡ true → x ≡ opens (token_place x) true
open_is (opens p b) e = ap (opens p) e
open_is _ e = absurd cc

negated_is : (o : Name) (x : Terminal) → is_negated o x ≡ true → (x ≡ integer (token_place x) true (number_of x)) × (is_minus o ≡ true)
negated_is o (integer p b n) e = let parts = and_parts b (is_minus o) e in (ap (λ (c : Bool). integer p c n) parts.0, parts.1)
negated_is o _ e = absurd cc

-- ---- an argument's end

operand_of : (ts : List Terminal) {s : Stack} {us rest : List Terminal} {t : PlacedTerm} → Begun ts s us → Reads us rest 0 t → Operand ts None s t rest
operand_of ts {us = us} b r = record { from = us; stack = b; reads = r; call = tt }

-- in the place of an argument
args_sound : (ts : List Terminal) (x : Terminal) (rest : List Terminal) {s : Stack} {us vs ws : List Terminal} {p : ℕ} {a : Name} {xs : PlacedTerms}
    {t : PlacedTerm} → Begun ts s us → Calls us p a vs → SoFar vs xs ws → Arg ws (x ∷ rest) t → IfHolds ts rest (closed (args p a xs s) t x)
args_sound ts x rest {s = s} {ws = ws} {p = p} {a = a} {xs = xs} {t = t} b c so d =
    by_test ts rest (is_close x) (Some (after None s (comp a p (with_last xs t)))) (cond (is_comma x) (Some (want (args p a (with_last xs t) s))) None)
    (λ e. operand_of ts b (call_of c (all_args so (last (subst (λ (y : Terminal). Arg ws (y ∷ rest) t) (close_is x e) d)))))
    (λ n. by_test ts rest (is_comma x) (Some (want (args p a (with_last xs t) s))) None
    (λ e. at_args b c (another so (subst (λ (y : Terminal). Arg ws (y ∷ rest) t) (comma_is x e) d)))
    (λ m. tt))

items_sound : (ts : List Terminal) (x : Terminal) (rest : List Terminal) {s : Stack} {vs ws : List Terminal} {p : ℕ} {xs : PlacedTerms} {t : PlacedTerm}
    → Begun ts s (open_list p ∷ vs) → SoFar vs xs ws → Arg ws (x ∷ rest) t → IfHolds ts rest (closed (items p xs s) t x)
items_sound ts x rest {s = s} {ws = ws} {p = p} {xs = xs} {t = t} b so d =
    let on_bar = cond (is_bar x) (Some (want (tail p (with_last xs t) s))) None in
    let on_comma = cond (is_comma x) (Some (want (items p (with_last xs t) s))) on_bar in
    by_test ts rest (is_close_list x) (Some (after None s (list_of p (with_last xs t) (atom nil_name p)))) on_comma
    (λ e. operand_of ts b (a_list (all_args so (last (subst (λ (y : Terminal). Arg ws (y ∷ rest) t) (close_list_is x e) d)))))
    (λ n. by_test ts rest (is_comma x) (Some (want (items p (with_last xs t) s))) on_bar
    (λ e. at_items b (another so (subst (λ (y : Terminal). Arg ws (y ∷ rest) t) (comma_is x e) d)))
    (λ m. by_test ts rest (is_bar x) (Some (want (tail p (with_last xs t) s))) None
    (λ e. at_tail b (all_args so (last (subst (λ (y : Terminal). Arg ws (y ∷ rest) t) (bar_is x e) d))))
    (λ k. tt)))

tail_sound : (ts : List Terminal) (x : Terminal) (rest : List Terminal) {s : Stack} {vs ws : List Terminal} {p : ℕ} {xs : PlacedTerms} {t : PlacedTerm}
    → Begun ts s (open_list p ∷ vs) → Args vs (bar ∷ ws) xs → Arg ws (x ∷ rest) t → IfHolds ts rest (closed (tail p xs s) t x)
tail_sound ts x rest {s = s} {ws = ws} {p = p} {xs = xs} {t = t} b so d =
    by_test ts rest (is_close_list x) (Some (after None s (list_of p xs t))) None
    (λ e. operand_of ts b (a_list_tail so (subst (λ (y : Terminal). Arg ws (y ∷ rest) t) (close_list_is x e) d)))
    (λ n. tt)

-- in any place
closed_sound : (ts : List Terminal) (x : Terminal) (rest : List Terminal) {s : Stack} {us : List Terminal} {q : ℕ} {t : PlacedTerm} → Begun ts s us
    → Reads us (x ∷ rest) q t → q ≤ limit s → IfHolds ts rest (closed s t x)
closed_sound ts x rest {us = us} {q = q} {t = t} (at_top {terms = terms} d) r h =
    by_test ts rest (is_stop x) (Some (want (top (t ∷ terms)))) None (λ e. at_top (next d (subst (λ (y : Terminal). Reads us (y ∷ rest) q t) (stop_is x e) r) h)) (λ n. tt)
closed_sound ts x rest {us = us} {q = q} {t = t} (at_paren {s = s} b) r h =
    by_test ts rest (is_close x) (Some (after None s t)) None (λ e. operand_of ts b (in_parens (subst (λ (y : Terminal). Reads us (y ∷ rest) q t) (close_is x e) r) h)) (λ n. tt)
closed_sound ts x rest (at_args b c so) r h = args_sound ts x rest b c so (a_term r h)
closed_sound ts x rest (at_items b so) r h = items_sound ts x rest b so (a_term r h)
closed_sound ts x rest (at_tail b so) r h = tail_sound ts x rest b so (a_term r h)
closed_sound ts x rest {us = us} {q = q} {t = t} (at_curly {s = s} {p = p} b) r h =
    by_test ts rest (is_close_curly x) (Some (after None s (comp curly_name p (one t)))) None
    (λ e. operand_of ts b (in_curly (subst (λ (y : Terminal). Reads us (y ∷ rest) q t) (close_curly_is x e) r) h)) (λ n. tt)
closed_sound ts x rest (at_prefix f e m le b) r h = tt
closed_sound ts x rest (at_infix y f e le b r1 h1) r h = tt

-- an operator word alone
lone_sound : (ts : List Terminal) (p : ℕ) (o : Name) (x : Terminal) (rest : List Terminal) {s : Stack} {us : List Terminal} → Begun ts s us
    → us ≡ operator_word p o ∷ x ∷ rest → lone s x ≡ true → IfHolds ts rest (closed s (atom o p) x)
lone_sound ts p o x rest (at_top d) e h = absurd cc
lone_sound ts p o x rest {us = us} (at_paren {s = s} {p = p2} {b = b2} b) e h =
    by_test ts rest (is_close x) (Some (after None s (atom o p))) None
    (λ c. let whole : us ≡ operator_word p o ∷ closes ∷ rest = e ∙ ap (λ (y : Terminal). operator_word p o ∷ y ∷ rest) (close_is x c) in
    operand_of ts b (subst (λ (l : List Terminal). Reads (opens p2 b2 ∷ l) rest 0 (atom o p)) (sym whole) operator_in_parens))
    (λ n. tt)
lone_sound ts p o x rest (at_args b c so) e h = args_sound ts x rest b c so (subst (λ (l : List Terminal). Arg l (x ∷ rest) (atom o p)) (sym e) an_operator)
lone_sound ts p o x rest (at_items b so) e h = items_sound ts x rest b so (subst (λ (l : List Terminal). Arg l (x ∷ rest) (atom o p)) (sym e) an_operator)
lone_sound ts p o x rest (at_tail b so) e h = tail_sound ts x rest b so (subst (λ (l : List Terminal). Arg l (x ∷ rest) (atom o p)) (sym e) an_operator)
lone_sound ts p o x rest (at_curly b) e h = absurd cc
lone_sound ts p o x rest (at_prefix f e2 m le b) e h = absurd cc
lone_sound ts p o x rest (at_infix y f e2 le b r1 h1) e h = absurd cc

-- ---- reducing

pub record Fits (ts : List Terminal) (rest : List Terminal) (r : Reduced) : Type 0 where
  pub from : List Terminal
  pub stack : Begun ts r.stack from
  pub reads : Reads from rest r.priority r.term
  pub fits : r.priority ≤ limit r.stack

either : (ts rest : List Terminal) (b : Bool) (x y : Reduced) → Fits ts rest x → Fits ts rest y → Fits ts rest (cond b x y)
either ts rest true x y h k = h
either ts rest false x y h k = k

fits_as : (ts : List Terminal) {s : Stack} {us rest : List Terminal} {q : ℕ} {t : PlacedTerm} → Begun ts s us → Reads us rest q t → q ≤ limit s
    → Fits ts rest (record { stack = s; priority = q; term = t })
fits_as ts {us = us} b r h = record { from = us; stack = b; reads = r; fits = h }

reduce_sound : (ts : List Terminal) (n : Option ℕ) {s : Stack} {us rest : List Terminal} {q : ℕ} {t : PlacedTerm} → Begun ts s us → Reads us rest q t → q ≤ limit s → Fits ts rest (reduce n s q t)
reduce_sound ts n (at_top d) r h = fits_as ts (at_top d) r h
reduce_sound ts n (at_paren b) r h = fits_as ts (at_paren b) r h
reduce_sound ts n (at_args b c so) r h = fits_as ts (at_args b c so) r h
reduce_sound ts n (at_items b so) r h = fits_as ts (at_items b so) r h
reduce_sound ts n (at_tail b so) r h = fits_as ts (at_tail b so) r h
reduce_sound ts n (at_curly b) r h = fits_as ts (at_curly b) r h
reduce_sound ts n {rest = rest} {q = q} {t = t} (at_prefix {s = s} {p = p} {o = o} f e m le b) r h =
    either ts rest (gives_way n (right_limit f)) (reduce n s f.priority (comp o p (one t))) (record { stack = before p o f s; priority = q; term = t })
    (reduce_sound ts n b (a_prefix f e m r h) le) (fits_as ts (at_prefix f e m le b) r h)
reduce_sound ts n {rest = rest} {q = q} {t = t} (at_infix {s = s} {a = a} x f e le b r1 h1) r h =
    either ts rest (gives_way n (right_limit f)) (reduce n s f.priority (comp f.name (token_place x) (two a t))) (record { stack = between (token_place x) f a s; priority = q; term = t })
    (reduce_sound ts n b (an_infix f e r1 h1 r h) le) (fits_as ts (at_infix x f e le b r1 h1) r h)

placed_sound : (ts : List Terminal) (x : Terminal) (f : Operator) → infix_operator x ≡ Some f → (r : Reduced) (rest : List Terminal) → Fits ts (x ∷ rest) r
    → IfHolds ts rest (placed (token_place x) f r)
placed_sound ts x f e r rest k =
    by_test ts rest (nat_le f.priority (limit r.stack)) (cond (nat_le r.priority (left_limit f)) (Some (want (between (token_place x) f r.term r.stack))) None) None (λ h.
    by_test ts rest (nat_le r.priority (left_limit f)) (Some (want (between (token_place x) f r.term r.stack))) None
    (λ l. at_infix x f e (leb-true f.priority (limit r.stack) h) k.stack k.reads (leb-true r.priority (left_limit f) l)) (λ n. tt)) (λ n. tt)

attach_sound : (ts : List Terminal) (x : Terminal) (found : Option Operator) → infix_operator x ≡ found → {s : Stack} {us rest : List Terminal} {t : PlacedTerm}
    → Begun ts s us → Reads us (x ∷ rest) 0 t → IfHolds ts rest (attach (token_place x) found s t)
attach_sound ts x None e b r = tt
attach_sound ts x (Some f) e {s = s} {rest = rest} {t = t} b r = placed_sound ts x f e (reduce (Some f.priority) s 0 t) rest (reduce_sound ts (Some f.priority) b r (omega arith))

or_sound : (ts rest : List Terminal) (x y : Option State) → IfHolds ts rest x → IfHolds ts rest y → IfHolds ts rest (or_else x y)
or_sound ts rest None y h k = k
or_sound ts rest (Some st) y h k = h

behind_sound : (ts : List Terminal) (x : Terminal) (rest : List Terminal) {s : Stack} {us : List Terminal} {t : PlacedTerm} → Begun ts s us
    → Reads us (x ∷ rest) 0 t → IfHolds ts rest (behind_operand s t x)
behind_sound ts x rest {s = s} {t = t} b r =
    let all = reduce_sound ts None b r (omega arith) in
    or_sound ts rest (attach (token_place x) (infix_operator x) s t) (ended (reduce None s 0 t) x) (attach_sound ts x (infix_operator x) refl b r) (closed_sound ts x rest all.stack all.reads all.fits)

-- ---- where an operand is wanted

wanted_sound : (ts : List Terminal) (s : Stack) (x : Terminal) (rest : List Terminal) → Begun ts s (x ∷ rest) → IfHolds ts rest (wanted s x)
wanted_sound ts s (name p a) rest b = record { from = name p a ∷ rest; stack = b; reads = an_atom; call = refl }
wanted_sound ts s (operator_word p o) rest b = b
wanted_sound ts s (variable p n) rest b = operand_of ts b a_variable
wanted_sound ts s (integer p t n) rest b = operand_of ts b an_integer
wanted_sound ts s (opens p t) rest b = at_paren b
wanted_sound ts s closes rest b = tt
wanted_sound ts s (open_list p) rest b = b
wanted_sound ts s close_list rest b = tt
wanted_sound ts s (open_curly p) rest b = b
wanted_sound ts s close_curly rest b = tt
wanted_sound ts s (comma p) rest b = tt
wanted_sound ts s bar rest b = tt
wanted_sound ts s stop rest b = tt

begun_sound : (ts : List Terminal) (p : ℕ) (o : Name) (found : Option Operator) → prefix_of o ≡ found → (s : Stack) (x : Terminal) (rest : List Terminal)
    → is_tight_open x ≡ false → is_negated o x ≡ false → Begun ts s (operator_word p o ∷ x ∷ rest) → IfHolds ts rest (begun p o found s x)
begun_sound ts p o None e s x rest n m b = tt
begun_sound ts p o (Some f) e s x rest n m b =
    by_test ts rest (nat_le f.priority (limit s)) (wanted (before p o f s) x) None
    (λ h. wanted_sound ts (before p o f s) x rest (at_prefix f e (rw (n, m) refl) (leb-true f.priority (limit s) h) b))
    (λ k. tt)

called_sound : (ts : List Terminal) (c : Option (ℕ × Name)) (s : Stack) (t : PlacedTerm) (x : Terminal) (rest : List Terminal) → Operand ts c s t (x ∷ rest)
    → x ≡ opens (token_place x) true → IfHolds ts rest (called c s)
called_sound ts None s t x rest h e = tt
called_sound ts (Some c) s t x rest h e =
    let whole : h.from ≡ name c.0 c.1 ∷ opens (token_place x) true ∷ rest = h.call ∙ ap (λ (y : Terminal). name c.0 c.1 ∷ y ∷ rest) e in
    at_args (subst (Begun ts s) whole h.stack) by_name nothing

operator_sound : (ts : List Terminal) (p : ℕ) (o : Name) (s : Stack) (x : Terminal) (rest : List Terminal) → Begun ts s (operator_word p o ∷ x ∷ rest) → IfHolds ts rest (step (at_operator p o s) x)
operator_sound ts p o s x rest b =
    let by_lone = cond (lone s x) (closed s (atom o p) x) (begun p o (prefix_of o) s x) in
    let by_number = cond (is_negated o x) (Some (after None s (int (neg_ℤ (number_of x)) p))) by_lone in
    by_test ts rest (is_tight_open x) (Some (want (args p o no_parts s))) by_number
    (λ e. at_args (subst (λ (y : Terminal). Begun ts s (operator_word p o ∷ y ∷ rest)) (open_is x e) b) by_operator nothing)
    (λ n. by_test ts rest (is_negated o x) (Some (after None s (int (neg_ℤ (number_of x)) p))) by_lone
    (λ e. let k = negated_is o x e in operand_of ts (subst (λ (y : Terminal). Begun ts s (operator_word p o ∷ y ∷ rest)) k.0 b) (a_negative k.1))
    (λ m. by_test ts rest (lone s x) (closed s (atom o p) x) (begun p o (prefix_of o) s x)
    (λ e. lone_sound ts p o x rest b refl e)
    (λ k. begun_sound ts p o (prefix_of o) refl s x rest n m b)))

step_sound : (ts : List Terminal) (st : State) (x : Terminal) (rest : List Terminal) → Holds ts st (x ∷ rest) → IfHolds ts rest (step st x)
step_sound ts (want s) x rest b = wanted_sound ts s x rest b
step_sound ts (at_list p s) x rest b =
    by_test ts rest (is_close_list x) (Some (after None s (atom nil_name p))) (wanted (items p no_parts s) x)
    (λ e. operand_of ts (subst (λ (y : Terminal). Begun ts s (open_list p ∷ y ∷ rest)) (close_list_is x e) b) empty_list)
    (λ n. wanted_sound ts (items p no_parts s) x rest (at_items b nothing))
step_sound ts (at_curly_bracket p s) x rest b =
    by_test ts rest (is_close_curly x) (Some (after None s (atom curly_name p))) (wanted (curly p s) x)
    (λ e. operand_of ts (subst (λ (y : Terminal). Begun ts s (open_curly p ∷ y ∷ rest)) (close_curly_is x e) b) empty_curly)
    (λ n. wanted_sound ts (curly p s) x rest (at_curly b))
step_sound ts (at_operator p o s) x rest b = operator_sound ts p o s x rest b
step_sound ts (after c s t) x rest h =
    by_test ts rest (is_tight_open x) (called c s) (behind_operand s t x)
    (λ e. called_sound ts c s t x rest h (open_is x e))
    (λ n. behind_sound ts x rest h.stack h.reads)

then_holds : (ts rest : List Terminal) (f : State → Option State) → ((s : State) → Holds ts s rest → IfHolds ts [] (f s)) → (o : Option State) → IfHolds ts rest o → IfHolds ts [] (option_and_then f o)
then_holds ts rest f h None k = tt
then_holds ts rest f h (Some s) k = h s k

pub run_sound : (ts rest : List Terminal) (st : State) → Holds ts st rest → IfHolds ts [] (run rest st)
run_sound ts [] st h = h
run_sound ts (x ∷ rest) st h = then_holds ts rest (λ s. run rest s) (λ s k. run_sound ts rest s k) (step st x) (step_sound ts st x rest h)

text_of : {ts rest : List Terminal} {terms : List PlacedTerm} → Begun ts (top terms) rest → Sentences ts terms rest
text_of (at_top d) = d

pub sound : (ts : List Terminal) (terms : List PlacedTerm) → run ts (want (top [])) ≡ Some (want (top terms)) → IsText ts terms
sound ts terms e = text_of (subst (IfHolds ts []) e (run_sound ts ts (want (top [])) (at_top none)))
