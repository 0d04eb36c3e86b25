-- What the machine has read can be completed, and what it refuses can't.
use Rattle.std.proofs.Common.{◌≡◌, ℕ, List, [], ◌∷◌, ◌++◌, Option, Some, None, refl, sym, ap, ◌∙◌}
use Rattle.std.specs.Prelude.{option_and_then}
use Rattle.fd_language.specs.Term.{Name}
use Rattle.fd_language.specs.PlacedTerm.{PlacedTerm, atom, comp, one, two, with_last}
use Rattle.fd_language.specs.Terminals.{Terminal, closes, close_list, close_curly, stop}
use Rattle.fd_language.specs.Grammar.{nil_name, curly_name, list_of, Begins}
use Rattle.fd_language.specs.ReadingSteps.{Stack, top, paren, args, items, tail, curly, before, between, State, want, at_list, at_curly_bracket, at_operator}
use Rattle.fd_language.specs.ReadingSteps.{after, reduce, ended, step, run, closing, completion, filler}
use Rattle.fd_language.proofs.Lemmas.{accepts}
use Rattle.term_reader.proofs.Soundness.{sound}

then_same : (f g h : State → Option State) → ((s : State) → f s ≡ option_and_then h (g s)) → (o : Option State) → option_and_then f o ≡ option_and_then h (option_and_then g o)
then_same f g h e None = refl
then_same f g h e (Some s) = e s

pub run-append : (ts us : List Terminal) (st : State) → run (ts ++ us) st ≡ option_and_then (λ s. run us s) (run ts st)
run-append [] us st = refl
run-append (x ∷ ts) us st = then_same (λ s. run (ts ++ us) s) (λ s. run ts s) (λ s. run us s) (λ s. run-append ts us s) (step st x)

-- a closing token asks for no priority
ended_any : (s : Stack) (p q : ℕ) (t : PlacedTerm) (x : Terminal) → ended (reduce None s p t) x ≡ ended (reduce None s q t) x
ended_any (top ts) p q t x = refl
ended_any (paren s) p q t x = refl
ended_any (args k a xs s) p q t x = refl
ended_any (items k xs s) p q t x = refl
ended_any (tail k xs s) p q t x = refl
ended_any (curly k s) p q t x = refl
ended_any (before k o f s) p q t x = refl
ended_any (between k f a s) p q t x = refl

-- the token that closes the innermost bracket
abbrev closer : Stack → Terminal
closer (top ts) = stop
closer (paren s) = closes
closer (args p a xs s) = closes
closer (items p xs s) = close_list
closer (tail p xs s) = close_list
closer (curly p s) = close_curly
closer (before p o f s) = closer s
closer (between p f a s) = closer s

-- what is closed behind it
abbrev outer : Stack → List Terminal
outer (top ts) = []
outer (paren s) = closing s
outer (args p a xs s) = closing s
outer (items p xs s) = closing s
outer (tail p xs s) = closing s
outer (curly p s) = closing s
outer (before p o f s) = outer s
outer (between p f a s) = outer s

closing_is : (s : Stack) → closing s ≡ closer s ∷ outer s
closing_is (before p o f s) = closing_is s
closing_is (between p f a s) = closing_is s
closing_is _ = refl

-- a closing token behind an operand
closer_step : (s : Stack) (c : Option (ℕ × Name)) (s2 : Stack) (t : PlacedTerm) → step (after c s2 t) (closer s) ≡ ended (reduce None s2 0 t) (closer s)
closer_step (before p o f s) c s2 t = closer_step s c s2 t
closer_step (between p f a s) c s2 t = closer_step s c s2 t
closer_step _ c s2 t = refl

pub record Ended (st : State) (ts : List Terminal) : Type 0 where
  pub terms : List PlacedTerm
  pub runs : run ts st ≡ Some (want (top terms))

ended_by : {st st2 : State} {ts us : List Terminal} → run ts st ≡ run us st2 → Ended st2 us → Ended st ts
ended_by e h = record { terms = h.terms; runs = e ∙ h.runs }

-- the innermost bracket closes, and then the others
ends : (s : Stack) (c : Option (ℕ × Name)) (t : PlacedTerm) → Ended (after c s t) (closing s)
ends (top ts) c t = record { terms = t ∷ ts; runs = refl }
ends (paren s) c t = ended_by refl (ends s None t)
ends (args p a xs s) c t = ended_by refl (ends s None (comp a p (with_last xs t)))
ends (items p xs s) c t = ended_by refl (ends s None (list_of p (with_last xs t) (atom nil_name p)))
ends (tail p xs s) c t = ended_by refl (ends s None (list_of p xs t))
ends (curly p s) c t = ended_by refl (ends s None (comp curly_name p (one t)))
ends (before p o f s) c t = ended_by (passes s (after c (before p o f s) t) (comp o p (one t))
    (closer_step s c (before p o f s) t ∙ ended_any s f.priority 0 (comp o p (one t)) (closer s))) (ends s None (comp o p (one t)))
  where
    passes : (s2 : Stack) (st : State) (u : PlacedTerm) → step st (closer s2) ≡ ended (reduce None s2 0 u) (closer s2) → run (closing s2) st ≡ run (closing s2) (after None s2 u)
    passes s2 st u e =
        ap (λ (l : List Terminal). run l st) (closing_is s2) ∙ ap (option_and_then (λ x. run (outer s2) x)) (e ∙ sym (closer_step s2 None s2 u))
        ∙ ap (λ (l : List Terminal). run l (after None s2 u)) (sym (closing_is s2))
ends (between p f a s) c t = ended_by (passes s (after c (between p f a s) t) (comp f.name p (two a t))
    (closer_step s c (between p f a s) t ∙ ended_any s f.priority 0 (comp f.name p (two a t)) (closer s))) (ends s None (comp f.name p (two a t)))
  where
    passes : (s2 : Stack) (st : State) (u : PlacedTerm) → step st (closer s2) ≡ ended (reduce None s2 0 u) (closer s2) → run (closing s2) st ≡ run (closing s2) (after None s2 u)
    passes s2 st u e =
        ap (λ (l : List Terminal). run l st) (closing_is s2) ∙ ap (option_and_then (λ x. run (outer s2) x)) (e ∙ sym (closer_step s2 None s2 u))
        ∙ ap (λ (l : List Terminal). run l (after None s2 u)) (sym (closing_is s2))

wants : (s : Stack) → Ended (want s) (filler ∷ closing s)
wants s = ended_by refl (ends s (Some (0, [])) (atom [] 0))

completes : (st : State) → Ended st (completion st)
completes (want (top ts)) = record { terms = ts; runs = refl }
completes (want (paren s)) = wants (paren s)
completes (want (args p a xs s)) = wants (args p a xs s)
completes (want (items p xs s)) = wants (items p xs s)
completes (want (tail p xs s)) = wants (tail p xs s)
completes (want (curly p s)) = wants (curly p s)
completes (want (before p o f s)) = wants (before p o f s)
completes (want (between p f a s)) = wants (between p f a s)
completes (at_list p s) = ended_by refl (ends s None (atom nil_name p))
completes (at_curly_bracket p s) = ended_by refl (ends s None (atom curly_name p))
completes (at_operator p o s) = ended_by refl (ends s None (comp o p (one (atom [] 0))))
completes (after c s t) = ends s c t

abbrev start : State
start = want (top [])

-- what the machine has read begins a text
pub begins : (ts : List Terminal) (st : State) → run ts start ≡ Some st → Begins ts
begins ts st e =
    let c = completes st in
    let whole : run (ts ++ completion st) start ≡ Some (want (top c.terms)) =
    run-append ts (completion st) start ∙ ap (option_and_then (λ s. run (completion st) s)) e ∙ c.runs in
    (completion st, c.terms, sound (ts ++ completion st) c.terms whole)

-- what the machine refuses begins none
pub begins_none : (ts : List Terminal) → run ts start ≡ None → Begins ts → ⊥
begins_none ts e b =
    let whole = accepts (ts ++ b.0) b.1 b.2 in
    let none : run (ts ++ b.0) start ≡ None = run-append ts b.0 start ∙ ap (option_and_then (λ s. run b.0 s)) e in cc
