-- The variables of a sentence have names.
use Rattle.std.proofs.Common.{◌≡◌, ℕ, ℤ, suc, ◌+◌, ◌<◌, ◌≤◌, List, [], ◌∷◌, ◌++◌, length, map, Option, Some, None, Bool, true, false, cond, refl, sym, ap}
use Rattle.std.proofs.Common.{subst, ◌∙◌, arith, length-append}
use Rattle.std.specs.Prelude.{Result, Ok, Err, IfOk, reverse, option_and_then, nat_le, ◌==◌, not}
use Rattle.std.specs.List.{position_or_len, list_any, AllByRecursion}
use Rattle.std.specs.Str.{bytes_eq}
use Rattle.std.proofs.lemmas.List.{append-nil, append_assoc, reverse-append, reverse-reverse, length-map}
use Rattle.std.proofs.lemmas.List.Elements.{All-from_recursion}
use Rattle.fd_language.specs.Term.{Name}
use Rattle.fd_language.specs.PlacedTerm.{PlacedTerm, PlacedTerms, var, int, atom, comp, no_parts, part, one, two, with_last, plain, all_plain}
use Rattle.fd_language.specs.Operators.{Operator, right_limit, left_limit, prefix_of, is_operator}
use Rattle.fd_language.specs.Terminals.{Terminal, name, operator_word, variable, integer, opens, closes, open_list, close_list, open_curly, close_curly, comma}
use Rattle.fd_language.specs.Terminals.{bar, stop, infix_operator, token_place, is_tight_open, is_negated}
use Rattle.fd_language.specs.Grammar.{list_of}
use Rattle.fd_language.specs.Tokens.{Kind, Word, Quoted, Variable, Integer, Punct, Stop, Lexeme}
use Rattle.fd_language.specs.Reading as model
use Rattle.fd_language.specs.Reading.{is_anonymous, variable_number, with_variable, terminals, terminal_of, terminal_by, punct_terminal, names_behind, names_by}
use Rattle.fd_language.specs.Reading.{sentence_names, ended_by, IsSentences}
use Rattle.fd_language.specs.ReadingSteps.{Stack, top, paren, args, items, tail, curly, before, between, State, want, at_list, at_curly_bracket, at_operator}
use Rattle.fd_language.specs.ReadingSteps.{after, Reduced, reduce, gives_way, limit, is_close, is_close_list, is_close_curly, is_comma, is_bar, is_stop, closed}
use Rattle.fd_language.specs.ReadingSteps.{lone, placed, attach, or_else, ended, behind_operand, called, wanted, begun, step, run}
use Rattle.fd_language.proofs.Lemmas.{accepts, position_within}
use Rattle.term_pool.specs.Contents.{Contents, atom_name}
use Rattle.term_reader.specs.declared.reader.Sentence.{Sentence}
use Rattle.term_reader.specs.declared.reader.Sentences.{Sentences}
use Rattle.term_reader.specs.declared.reader.ReaderFault.{ReaderFault}
use Rattle.term_pool.specs.PlacedTerms.{placed_of}
use Rattle.term_reader.specs.Sentences.{sentence_of, sentences_of}
use Rattle.term_reader.specs.VariableNames.{VariablesBelow, AllVariablesBelow, HasNames, HaveNames}
use Rattle.term_reader.proofs.PlainTerms.{plain_placed}

abbrev mutual
  Below : ℕ → PlacedTerm → Type 0
  Below n (var k p) = k < n
  Below n (int z p) = Unit {0}
  Below n (atom a p) = Unit {0}
  Below n (comp f p xs) = AllBelow n xs

  AllBelow : ℕ → PlacedTerms → Type 0
  AllBelow n no_parts = Unit {0}
  AllBelow n (part t ts) = Below n t × AllBelow n ts

mutual
  below_more : (n m : ℕ) → n ≤ m → (t : PlacedTerm) → Below n t → Below m t
  below_more n m le (var k p) h = omega (arith, le, h)
  below_more n m le (int z p) h = tt
  below_more n m le (atom a p) h = tt
  below_more n m le (comp f p xs) h = all_more n m le xs h

  all_more : (n m : ℕ) → n ≤ m → (xs : PlacedTerms) → AllBelow n xs → AllBelow m xs
  all_more n m le no_parts h = tt
  all_more n m le (part t ts) h = (below_more n m le t h.0, all_more n m le ts h.1)

mutual
  below_plain : (n : ℕ) (t : PlacedTerm) → Below n t → VariablesBelow n (plain t)
  below_plain n (var k p) h = h
  below_plain n (int z p) h = tt
  below_plain n (atom a p) h = tt
  below_plain n (comp f p xs) h = all_below_plain n xs h

  all_below_plain : (n : ℕ) (xs : PlacedTerms) → AllBelow n xs → AllVariablesBelow n (all_plain xs)
  all_below_plain n no_parts h = tt
  all_below_plain n (part t ts) h = (below_plain n t h.0, all_below_plain n ts h.1)

all_last : (n : ℕ) (xs : PlacedTerms) (t : PlacedTerm) → AllBelow n xs → Below n t → AllBelow n (with_last xs t)
all_last n no_parts t h k = (k, tt)
all_last n (part x xs) t h k = (h.0, all_last n xs t h.1 k)

list_below : (n p : ℕ) (xs : PlacedTerms) (t : PlacedTerm) → AllBelow n xs → Below n t → Below n (list_of p xs t)
list_below n p no_parts t h k = k
list_below n p (part x xs) t h k = (h.0, (list_below n p xs t h.1 k, tt))

-- ---- states

abbrev StackBelow : ℕ → Stack → Type 0
StackBelow n (top ts) = Unit {0}
StackBelow n (paren s) = StackBelow n s
StackBelow n (args p a xs s) = AllBelow n xs × StackBelow n s
StackBelow n (items p xs s) = AllBelow n xs × StackBelow n s
StackBelow n (tail p xs s) = AllBelow n xs × StackBelow n s
StackBelow n (curly p s) = StackBelow n s
StackBelow n (before p o f s) = StackBelow n s
StackBelow n (between p f a s) = Below n a × StackBelow n s

stack_more : (n m : ℕ) → n ≤ m → (s : Stack) → StackBelow n s → StackBelow m s
stack_more n m le (top ts) h = tt
stack_more n m le (paren s) h = stack_more n m le s h
stack_more n m le (args p a xs s) h = (all_more n m le xs h.0, stack_more n m le s h.1)
stack_more n m le (items p xs s) h = (all_more n m le xs h.0, stack_more n m le s h.1)
stack_more n m le (tail p xs s) h = (all_more n m le xs h.0, stack_more n m le s h.1)
stack_more n m le (curly p s) h = stack_more n m le s h
stack_more n m le (before p o f s) h = stack_more n m le s h
stack_more n m le (between p f a s) h = (below_more n m le a h.0, stack_more n m le s h.1)

-- the sentences read below the stack
abbrev base : Stack → List PlacedTerm
base (top ts) = ts
base (paren s) = base s
base (args p a xs s) = base s
base (items p xs s) = base s
base (tail p xs s) = base s
base (curly p s) = base s
base (before p o f s) = base s
base (between p f a s) = base s

abbrev StateBelow : ℕ → State → Type 0
StateBelow n (want s) = StackBelow n s
StateBelow n (at_list p s) = StackBelow n s
StateBelow n (at_curly_bracket p s) = StackBelow n s
StateBelow n (at_operator p o s) = StackBelow n s
StateBelow n (after c s t) = StackBelow n s × Below n t

state_more : (n m : ℕ) → n ≤ m → (st : State) → StateBelow n st → StateBelow m st
state_more n m le (want s) h = stack_more n m le s h
state_more n m le (at_list p s) h = stack_more n m le s h
state_more n m le (at_curly_bracket p s) h = stack_more n m le s h
state_more n m le (at_operator p o s) h = stack_more n m le s h
state_more n m le (after c s t) h = (stack_more n m le s h.0, below_more n m le t h.1)

abbrev state_base : State → List PlacedTerm
state_base (want s) = base s
state_base (at_list p s) = base s
state_base (at_curly_bracket p s) = base s
state_base (at_operator p o s) = base s
state_base (after c s t) = base s

-- a step within a sentence, or to its end
record Goes (n : ℕ) (old : List PlacedTerm) (st : State) : Type 0 where
  state : StateBelow n st
  kept : state_base st ≡ old

record Finishes (n : ℕ) (old : List PlacedTerm) (st : State) : Type 0 where
  term : PlacedTerm
  within : Below n term
  is : st ≡ want (top (term ∷ old))

abbrev By : Bool → ℕ → List PlacedTerm → State → Type 0
By true n old st = Finishes n old st
By false n old st = Goes n old st

abbrev IfBy : Bool → ℕ → List PlacedTerm → Option State → Type 0
IfBy b n old None = Unit {0}
IfBy b n old (Some st) = By b n old st

by_test : (n : ℕ) (old : List PlacedTerm) (d b : Bool) (x y : Option State) → (b ≡ true → IfBy d n old x) → (b ≡ false → IfBy d n old y) → IfBy d n old (cond b x y)
by_test n old d true x y k l = k refl
by_test n old d false x y k l = l refl

goes_in : (n : ℕ) (old : List PlacedTerm) (x : Terminal) (st : State) → is_stop x ≡ false → StateBelow n st → state_base st ≡ old → By (is_stop x) n old st
goes_in n old x st e h k = subst (λ (b : Bool). By b n old st) (sym e) (record { state = h; kept = k })

close_no : (x : Terminal) → is_close x ≡ true → is_stop x ≡ false
close_no closes e = refl
close_no _ e = absurd cc

close_list_no : (x : Terminal) → is_close_list x ≡ true → is_stop x ≡ false
close_list_no close_list e = refl
close_list_no _ e = absurd cc

close_curly_no : (x : Terminal) → is_close_curly x ≡ true → is_stop x ≡ false
close_curly_no close_curly e = refl
close_curly_no _ e = absurd cc

comma_no : (x : Terminal) → is_comma x ≡ true → is_stop x ≡ false
comma_no (comma p) e = refl
comma_no _ e = absurd cc

bar_no : (x : Terminal) → is_bar x ≡ true → is_stop x ≡ false
bar_no bar e = refl
bar_no _ e = absurd cc

closed_by : (n : ℕ) (s : Stack) (t : PlacedTerm) (x : Terminal) → StackBelow n s → Below n t → IfBy (is_stop x) n (base s) (closed s t x)
closed_by n (top ts) t x h k = by_test n ts (is_stop x) (is_stop x) (Some (want (top (t ∷ ts)))) None
    (λ e. subst (λ (b : Bool). By b n ts (want (top (t ∷ ts)))) (sym e) (record { term = t; within = k; is = refl })) (λ e. tt)
closed_by n (paren s) t x h k = by_test n (base s) (is_stop x) (is_close x) (Some (after None s t)) None (λ e. goes_in n (base s) x (after None s t) (close_no x e) (h, k) refl) (λ e. tt)
closed_by n (args p a xs s) t x h k =
    by_test n (base s) (is_stop x) (is_close x) (Some (after None s (comp a p (with_last xs t)))) _
    (λ e. goes_in n (base s) x (after None s (comp a p (with_last xs t))) (close_no x e) (h.1, all_last n xs t h.0 k) refl)
    (λ e. by_test n (base s) (is_stop x) (is_comma x) (Some (want (args p a (with_last xs t) s))) None
    (λ e. goes_in n (base s) x (want (args p a (with_last xs t) s)) (comma_no x e) (all_last n xs t h.0 k, h.1) refl) (λ e. tt))
closed_by n (items p xs s) t x h k =
    let all = all_last n xs t h.0 k in
    by_test n (base s) (is_stop x) (is_close_list x) (Some (after None s (list_of p (with_last xs t) (atom _ p)))) _
    (λ e. goes_in n (base s) x (after None s (list_of p (with_last xs t) (atom _ p))) (close_list_no x e) (
      h.1,
      list_below n p (with_last xs t) (atom _ p) all tt,
    ) refl)
    (λ e. by_test n (base s) (is_stop x) (is_comma x) (Some (want (items p (with_last xs t) s))) _ (λ e. goes_in n (base s) x (want (items p (with_last xs t) s)) (comma_no x e) (all, h.1) refl)
    (λ e. by_test n (base s) (is_stop x) (is_bar x) (Some (want (tail p (with_last xs t) s))) None
    (λ e. goes_in n (base s) x (want (tail p (with_last xs t) s)) (bar_no x e) (all, h.1) refl) (λ e. tt)))
closed_by n (tail p xs s) t x h k = by_test n (base s) (is_stop x) (is_close_list x) (Some (after None s (list_of p xs t))) None
    (λ e. goes_in n (base s) x (after None s (list_of p xs t)) (close_list_no x e) (h.1, list_below n p xs t h.0 k) refl) (λ e. tt)
closed_by n (curly p s) t x h k = by_test n (base s) (is_stop x) (is_close_curly x) (Some (after None s (comp _ p (one t)))) None
    (λ e. goes_in n (base s) x (after None s (comp _ p (one t))) (close_curly_no x e) (h, (k, tt)) refl) (λ e. tt)
closed_by n (before p o f s) t x h k = tt
closed_by n (between p f a s) t x h k = tt

record ReducedBelow (n : ℕ) (old : List PlacedTerm) (r : Reduced) : Type 0 where
  stack : StackBelow n r.stack
  term : Below n r.term
  kept : base r.stack ≡ old

either : (n : ℕ) (old : List PlacedTerm) (b : Bool) (x y : Reduced) → ReducedBelow n old x → ReducedBelow n old y → ReducedBelow n old (cond b x y)
either n old true x y h k = h
either n old false x y h k = k

stays : (n : ℕ) (s : Stack) (q : ℕ) (t : PlacedTerm) → StackBelow n s → Below n t → ReducedBelow n (base s) (record { stack = s; priority = q; term = t })
stays n s q t h k = record { stack = h; term = k; kept = refl }

reduce_below : (n : ℕ) (m : Option ℕ) (s : Stack) (q : ℕ) (t : PlacedTerm) → StackBelow n s → Below n t → ReducedBelow n (base s) (reduce m s q t)
reduce_below n m (top ts) q t h k = stays n (top ts) q t h k
reduce_below n m (paren s) q t h k = stays n (paren s) q t h k
reduce_below n m (args p a xs s) q t h k = stays n (args p a xs s) q t h k
reduce_below n m (items p xs s) q t h k = stays n (items p xs s) q t h k
reduce_below n m (tail p xs s) q t h k = stays n (tail p xs s) q t h k
reduce_below n m (curly p s) q t h k = stays n (curly p s) q t h k
reduce_below n m (before p o f s) q t h k =
    either n (base s) (gives_way m (right_limit f)) (reduce m s f.priority (comp o p (one t))) (record { stack = before p o f s; priority = q; term = t })
    (reduce_below n m s f.priority (comp o p (one t)) h (k, tt)) (stays n (before p o f s) q t h k)
reduce_below n m (between p f a s) q t h k =
    either n (base s) (gives_way m (right_limit f)) (reduce m s f.priority (comp f.name p (two a t)))
    (record { stack = between p f a s; priority = q; term = t }) (reduce_below n m s f.priority (comp f.name p (two a t)) h.1 (h.0, (k, tt)))
    (stays n (between p f a s) q t h k)

infix_no : (x : Terminal) (f : Operator) → infix_operator x ≡ Some f → is_stop x ≡ false
infix_no stop f e = absurd cc
infix_no _ f e = refl

placed_by : (n : ℕ) (old : List PlacedTerm) (x : Terminal) (f : Operator) (r : Reduced) → is_stop x ≡ false → ReducedBelow n old r → IfBy (is_stop x) n old (placed (token_place x) f r)
placed_by n old x f r e h =
    by_test n old (is_stop x) (nat_le f.priority (limit r.stack)) _ None
    (λ _. by_test n old (is_stop x) (nat_le r.priority (left_limit f)) (Some (want (between (token_place x) f r.term r.stack))) None
    (λ _. goes_in n old x (want (between (token_place x) f r.term r.stack)) e (h.term, h.stack) h.kept) (λ _. tt))
    (λ _. tt)

attach_by : (n : ℕ) (s : Stack) (t : PlacedTerm) (x : Terminal) (o : Option Operator) → infix_operator x ≡ o → StackBelow n s → Below n t → IfBy (is_stop x) n (base s) (attach (token_place x) o s t)
attach_by n s t x None e h k = tt
attach_by n s t x (Some f) e h k = placed_by n (base s) x f (reduce (Some f.priority) s 0 t) (infix_no x f e) (reduce_below n (Some f.priority) s 0 t h k)

or_by : (n : ℕ) (old : List PlacedTerm) (d : Bool) (x y : Option State) → IfBy d n old x → IfBy d n old y → IfBy d n old (or_else x y)
or_by n old d None y h k = k
or_by n old d (Some st) y h k = h

ended_by_ : (n : ℕ) (old : List PlacedTerm) (r : Reduced) (x : Terminal) → ReducedBelow n old r → IfBy (is_stop x) n old (ended r x)
ended_by_ n old r x h = subst (λ (o : List PlacedTerm). IfBy (is_stop x) n o (ended r x)) h.kept (closed_by n r.stack r.term x h.stack h.term)

behind_by : (n : ℕ) (s : Stack) (t : PlacedTerm) (x : Terminal) → StackBelow n s → Below n t → IfBy (is_stop x) n (base s) (behind_operand s t x)
behind_by n s t x h k = or_by n (base s) (is_stop x) (attach (token_place x) (infix_operator x) s t) (ended (reduce None s 0 t) x)
    (attach_by n s t x (infix_operator x) refl h k) (ended_by_ n (base s) (reduce None s 0 t) x (reduce_below n None s 0 t h k))

abbrev TokenBelow : ℕ → Terminal → Type 0
TokenBelow n (variable p k) = k < n
TokenBelow n _ = Unit {0}

wanted_by : (n : ℕ) (s : Stack) (x : Terminal) → StackBelow n s → TokenBelow n x → IfBy (is_stop x) n (base s) (wanted s x)
wanted_by n s (name p a) h k = record { state = (h, tt); kept = refl }
wanted_by n s (operator_word p o) h k = record { state = h; kept = refl }
wanted_by n s (variable p m) h k = record { state = (h, k); kept = refl }
wanted_by n s (integer p b m) h k = record { state = (h, tt); kept = refl }
wanted_by n s (opens p b) h k = record { state = h; kept = refl }
wanted_by n s closes h k = tt
wanted_by n s (open_list p) h k = record { state = h; kept = refl }
wanted_by n s close_list h k = tt
wanted_by n s (open_curly p) h k = record { state = h; kept = refl }
wanted_by n s close_curly h k = tt
wanted_by n s (comma p) h k = tt
wanted_by n s bar h k = tt
wanted_by n s stop h k = tt

begun_by : (n p : ℕ) (o : Name) (f : Option Operator) (s : Stack) (x : Terminal) → StackBelow n s → TokenBelow n x → IfBy (is_stop x) n (base s) (begun p o f s x)
begun_by n p o None s x h k = tt
begun_by n p o (Some f) s x h k = by_test n (base s) (is_stop x) (nat_le f.priority (limit s)) (wanted (before p o f s) x) None (λ _. wanted_by n (before p o f s) x h k) (λ _. tt)

open_no : (x : Terminal) → is_tight_open x ≡ true → is_stop x ≡ false
open_no (opens p b) e = refl
open_no _ e = absurd cc

negated_no : (o : Name) (x : Terminal) → is_negated o x ≡ true → is_stop x ≡ false
negated_no o (integer p b z) e = refl
negated_no o _ e = absurd cc

called_by : (n : ℕ) (c : Option (ℕ × Name)) (s : Stack) (x : Terminal) → is_stop x ≡ false → StackBelow n s → IfBy (is_stop x) n (base s) (called c s)
called_by n None s x e h = tt
called_by n (Some c) s x e h = goes_in n (base s) x (want (args c.0 c.1 no_parts s)) e (tt, h) refl

step_by : (n : ℕ) (st : State) (x : Terminal) → StateBelow n st → TokenBelow n x → IfBy (is_stop x) n (state_base st) (step st x)
step_by n (want s) x h k = wanted_by n s x h k
step_by n (at_list p s) x h k =
    by_test n (base s) (is_stop x) (is_close_list x) (Some (after None s (atom _ p))) (wanted (items p no_parts s) x)
    (λ e. goes_in n (base s) x (after None s (atom _ p)) (close_list_no x e) (h, tt) refl) (λ _. wanted_by n (items p no_parts s) x (tt, h) k)
step_by n (at_curly_bracket p s) x h k =
    by_test n (base s) (is_stop x) (is_close_curly x) (Some (after None s (atom _ p))) (wanted (curly p s) x)
    (λ e. goes_in n (base s) x (after None s (atom _ p)) (close_curly_no x e) (h, tt) refl) (λ _. wanted_by n (curly p s) x h k)
step_by n (at_operator p o s) x h k =
    by_test n (base s) (is_stop x) (is_tight_open x) (Some (want (args p o no_parts s))) _ (λ e. goes_in n (base s) x (want (args p o no_parts s)) (open_no x e) (tt, h) refl)
    (λ _. by_test n (base s) (is_stop x) (is_negated o x) (Some (after None s (int _ p))) _ (λ e. goes_in n (base s) x (after None s (int _ p)) (negated_no o x e) (h, tt) refl)
    (λ _. by_test n (base s) (is_stop x) (lone s x) (closed s (atom o p) x) (begun p o (prefix_of o) s x) (λ _. closed_by n s (atom o p) x h tt) (λ _. begun_by n p o (prefix_of o) s x h k)))
step_by n (after c s t) x h k =
    by_test n (base s) (is_stop x) (is_tight_open x) (called c s) (behind_operand s t x) (λ e. called_by n c s x (open_no x e) h.0) (λ _. behind_by n s t x h.0 h.1)

-- ---- the numbers of variables

position_bounded : (p : Name → Bool) (xs : List Name) → position_or_len p xs ≤ length xs
position_bounded p [] = omega arith
position_bounded p (x ∷ xs) = go (p x) (position_bounded p xs)
  where
    go : (b : Bool) → position_or_len p xs ≤ length xs → cond (not b) (1 + position_or_len p xs) 0 ≤ suc (length xs)
    go true k = omega arith
    go false k = omega (arith, k)

pick_number : (names : List Name) (v : Name) (a b : Bool) (k : ℕ) → k ≤ length names → (b ≡ true → k < length names)
    → cond a (length names) k < length (cond a (names ++ v ∷ []) (cond b names (names ++ v ∷ [])))
pick_number names v true b k le lt = omega (arith, length-append names (v ∷ []))
pick_number names v false true k le lt = lt refl
pick_number names v false false k le lt = omega (arith, le, length-append names (v ∷ []))

number_below : (names : List Name) (v : Name) → variable_number names v < length (with_variable names v)
unfolding variable_number with_variable
number_below names v = pick_number names v (is_anonymous v) (list_any (bytes_eq v) names) (position_or_len (bytes_eq v) names)
    (position_bounded (bytes_eq v) names) (position_within (bytes_eq v) names)

pick_more : (names : List Name) (v : Name) (a b : Bool) → length names ≤ length (cond a (names ++ v ∷ []) (cond b names (names ++ v ∷ [])))
pick_more names v true b = omega (arith, length-append names (v ∷ []))
pick_more names v false true = omega arith
pick_more names v false false = omega (arith, length-append names (v ∷ []))

names_more : (names : List Name) (v : Name) → length names ≤ length (with_variable names v)
unfolding with_variable
names_more names v = pick_more names v (is_anonymous v) (list_any (bytes_eq v) names)

word_below : (n p : ℕ) (o : Name) (b : Bool) → TokenBelow n (cond b (operator_word p o) (name p o))
word_below n p o true = tt
word_below n p o false = tt

token_pick : (n : ℕ) (b : Bool) (x y : Terminal) → TokenBelow n x → TokenBelow n y → TokenBelow n (cond b x y)
token_pick n true x y h k = h
token_pick n false x y h k = k

punct_below : (n p : ℕ) (tight : Bool) (text : List ℕ) → TokenBelow n (punct_terminal p tight text)
punct_below n p tight [] = tt
punct_below n p tight (c ∷ cs) =
    token_pick n (c == 40) (opens p tight) _ tt (token_pick n (c == 41) closes _ tt
    (token_pick n (c == 91) (open_list p) _ tt (token_pick n (c == 93) close_list _ tt
    (token_pick n (c == 123) (open_curly p) _ tt (token_pick n (c == 125) close_curly _ tt (token_pick n (c == 44) (comma p) bar tt tt))))))

punct_no : (p : ℕ) (tight : Bool) (text : List ℕ) → is_stop (punct_terminal p tight text) ≡ false
punct_no p tight [] = refl
punct_no p tight (c ∷ cs) = pick (c == 40) (opens p tight) _ refl
    (pick (c == 41) closes _ refl (pick (c == 91) (open_list p) _ refl
    (pick (c == 93) close_list _ refl (pick (c == 123) (open_curly p) _ refl (pick (c == 125) close_curly _ refl (pick (c == 44) (comma p) bar refl refl))))))
  where
    pick : (b : Bool) (x y : Terminal) → is_stop x ≡ false → is_stop y ≡ false → is_stop (cond b x y) ≡ false
    pick true x y h k = h
    pick false x y h k = k

word_no : (p : ℕ) (o : Name) (b : Bool) → is_stop (cond b (operator_word p o) (name p o)) ≡ false
word_no p o true = refl
word_no p o false = refl

-- what a token does to the names
record Numbers (names : List Name) (k : Kind) (l : Lexeme) : Type 0 where
  token : TokenBelow (length (names_by k names l.text)) (terminal_by k names l)
  more : length names ≤ length (names_by k names l.text)
  going : is_stop (terminal_by k names l) ≡ false
  later : (rest : List (List Name)) → ended_by k names rest ≡ rest

-- ---- all tokens

abbrev Named : List PlacedTerm → List (List Name) → Type 0
Named [] [] = Unit {0}
Named [] (n ∷ ns) = ⊥
Named (t ∷ ts) [] = ⊥
Named (t ∷ ts) (n ∷ ns) = Below (length n) t × Named ts ns

named_last : (ts : List PlacedTerm) (ns : List (List Name)) (t : PlacedTerm) (n : List Name) → Named ts ns → Below (length n) t → Named (ts ++ t ∷ []) (ns ++ n ∷ [])
named_last [] [] t n h k = (k, tt)
named_last [] (m ∷ ns) t n h k = absurd h
named_last (u ∷ ts) [] t n h k = absurd h
named_last (u ∷ ts) (m ∷ ns) t n h k = (h.0, named_last ts ns t n h.1 k)

then_named : (f : State → Option State) (P : Type 0) (done : List PlacedTerm) (b : Bool) (n : ℕ) (old : List PlacedTerm) (o : Option State) → IfBy b n old o
    → ((st : State) → By b n old st → f st ≡ Some (want (top done)) → P) → option_and_then f o ≡ Some (want (top done)) → P
then_named f P done b n old None h k e = absurd cc
then_named f P done b n old (Some st) h k e = k st h e

abbrev Rest : List Lexeme → Type 0
Rest ls = (names : List Name) (st : State) (ns : List (List Name)) (done : List PlacedTerm) → StateBelow (length names) st → Named (reverse (state_base st)) ns
    → run (terminals names ls) st ≡ Some (want (top done)) → Named (reverse done) (ns ++ sentence_names names ls)

at_end : Rest []
at_end names st ns done h k e =
    let same : st ≡ want (top done) = cc in
    subst (λ (x : State). Named (reverse (state_base x)) (ns ++ [])) same (subst (λ (m : List (List Name)). Named (reverse (state_base st)) m) (sym (append-nil ns)) k)

at_stop : (l : Lexeme) (ls : List Lexeme) → l.kind ≡ Stop → Rest ls → Rest (l ∷ ls)
at_stop l ls is rest names st ns done h k e =
    let x = terminal_of names l in
    let stops : x ≡ stop = ap (λ (kd : Kind). terminal_by kd names l) is in
    let taken : IfBy true (length names) (state_base st) (step st x) = subst (λ (y : Terminal). IfBy (is_stop y) (length names) (state_base st) (step st x))
    stops (step_by (length names) st x h (subst (TokenBelow (length names)) (sym stops) tt)) in
    let all : sentence_names names (l ∷ ls) ≡ names ∷ sentence_names [] ls =
    ap (λ (kd : Kind). ended_by kd names (sentence_names (names_behind names l) ls)) is ∙ ap (λ (kd : Kind). names ∷ sentence_names (names_by kd names l.text) ls) is in
    let behind : names_behind names l ≡ [] = ap (λ (kd : Kind). names_by kd names l.text) is in
    subst (λ (m : List (List Name)). Named (reverse done) (ns ++ m)) (sym all)
    (subst (λ (m : List (List Name)). Named (reverse done) m) (append_assoc ns (names ∷ []) (sentence_names [] ls))
    (then_named (λ s. run (terminals (names_behind names l) ls) s) (Named (reverse done) ((ns ++ names ∷ []) ++ sentence_names [] ls)) done true (length names) (state_base st) (step st x) taken
    (λ s2 f e2. rest [] s2 (ns ++ names ∷ []) done
    (subst (StateBelow 0) (sym f.is) tt)
    (subst (λ (y : State). Named (reverse (state_base y)) (ns ++ names ∷ [])) (sym f.is)
    (subst (λ (ts : List PlacedTerm). Named ts (ns ++ names ∷ [])) (sym (reverse-append (f.term ∷ []) (state_base st)))
    (named_last (reverse (state_base st)) ns f.term names k f.within)))
    (subst (λ (m : List Name). run (terminals m ls) s2 ≡ Some (want (top done))) behind e2))
    e))

going : (l : Lexeme) (ls : List Lexeme) → ((names : List Name) → Numbers names l.kind l) → Rest ls → Rest (l ∷ ls)
going l ls numbers rest names st ns done h k e =
    let x = terminal_of names l in
    let q = numbers names in
    let n = length (names_behind names l) in
    let taken : IfBy false n (state_base st) (step st x) = subst (λ (b : Bool). IfBy b n (state_base st) (step st x)) q.going (step_by n st x (state_more (length names) n q.more st h) q.token) in
    subst (λ (m : List (List Name)). Named (reverse done) (ns ++ m)) (sym (q.later (sentence_names (names_behind names l) ls)))
    (then_named (λ s. run (terminals (names_behind names l) ls) s) (Named (reverse done) (ns ++ sentence_names (names_behind names l) ls)) done false n (state_base st) (step st x) taken
    (λ s2 g e2. rest (names_behind names l) s2 ns done g.state (subst (λ (ts : List PlacedTerm). Named (reverse ts) ns) (sym g.kept) k) e2)
    e)

word_numbers : (l : Lexeme) (names : List Name) → Numbers names Word l
word_numbers l names = record { token = word_below (length names) l.place l.text (is_operator l.text); more = omega arith; going = word_no l.place l.text (is_operator l.text); later = λ r. refl }

variable_numbers : (l : Lexeme) (names : List Name) → Numbers names Variable l
variable_numbers l names = record { token = number_below names l.text; more = names_more names l.text; going = refl; later = λ r. refl }

punct_numbers : (l : Lexeme) (names : List Name) → Numbers names Punct l
punct_numbers l names = record { token = punct_below (length names) l.place l.tight l.text; more = omega arith; going = punct_no l.place l.tight l.text; later = λ r. refl }

quoted_numbers : (l : Lexeme) (names : List Name) → Numbers names Quoted l
quoted_numbers l names = record { token = tt; more = omega arith; going = refl; later = λ r. refl }

integer_numbers : (z : ℤ) (l : Lexeme) (names : List Name) → Numbers names (Integer z) l
integer_numbers z l names = record { token = tt; more = omega arith; going = refl; later = λ r. refl }

pick_kind : (l : Lexeme) (ls : List Lexeme) (k : Kind) → l.kind ≡ k → Rest ls → Rest (l ∷ ls)
pick_kind l ls Stop e r = at_stop l ls e r
pick_kind l ls Word e r = going l ls (λ names. subst (λ (k : Kind). Numbers names k l) (sym e) (word_numbers l names)) r
pick_kind l ls Quoted e r = going l ls (λ names. subst (λ (k : Kind). Numbers names k l) (sym e) (quoted_numbers l names)) r
pick_kind l ls Variable e r = going l ls (λ names. subst (λ (k : Kind). Numbers names k l) (sym e) (variable_numbers l names)) r
pick_kind l ls (Integer z) e r = going l ls (λ names. subst (λ (k : Kind). Numbers names k l) (sym e) (integer_numbers z l names)) r
pick_kind l ls Punct e r = going l ls (λ names. subst (λ (k : Kind). Numbers names k l) (sym e) (punct_numbers l names)) r

run_named : (ls : List Lexeme) → Rest ls
run_named [] = at_end
run_named (l ∷ ls) = pick_kind l ls l.kind refl (run_named ls)

text_named : (text : List ℕ) (ss : List model.Sentence) → IsSentences text ss → Named (map (λ s. s.term) ss) (map (λ s. s.names) ss)
text_named text ss a =
    let terms = map (λ s. s.term) ss in
    let all = run_named a.lexemes [] (want (top [])) [] (reverse terms) tt tt (accepts (terminals [] a.lexemes) (reverse terms) a.terms.text) in
    subst (λ (ns : List (List Name)). Named terms ns) (sym a.names) (subst (λ (ts : List PlacedTerm). Named ts (sentence_names [] a.lexemes)) (reverse-reverse terms) all)

sentences_named : (c : Contents) (list : List Sentence) → Named (map (λ s. s.term) (map (sentence_of c) list)) (map (λ s. s.names) (map (sentence_of c) list)) → AllByRecursion (HasNames c) list
sentences_named c [] h = tt
sentences_named c (s ∷ list) h =
    let ids = s.names.items in
    let count : length (map (atom_name c) ids) ≡ length ids = length-map ids (atom_name c) in (
      record {
        below = subst (VariablesBelow (length ids)) (plain_placed c s.term)
            (below_plain (length ids) (placed_of c s.term) (subst (λ (n : ℕ). Below n (placed_of c s.term)) count h.0));
      },
      sentences_named c list h.1,
    )

-- each variable of a sentence that is read has a name
pub have_names : (text : List ℕ) (s : Sentences) → IsSentences text (sentences_of s) → HaveNames s
have_names text s a = All-from_recursion (HasNames s.pool) s.list.items (sentences_named s.pool s.list.items (text_named text (sentences_of s) a))

pub if_named : (r : Result Sentences ReaderFault) (text : List ℕ) → IfOk r (λ s. IsSentences text (sentences_of s)) → IfOk r HaveNames
if_named (Ok s) text h = have_names text s h
if_named (Err e) text h = tt
