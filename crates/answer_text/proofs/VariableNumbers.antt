-- The numbers of open variables: each has the place at which it was first met.
use Rattle.std.proofs.Common.{◌≡◌, ℕ, suc, ◌+◌, Bool, true, false, cond, ◌==◌, ◌||◌, List, [], ◌∷◌, ◌++◌, filter, take, drop, refl, ap, sym, ◌∙◌, arith}
use Rattle.std.proofs.Common.{append_assoc, eq-eqb, inl, inr, ◌⊎◌}
use Rattle.std.specs.Prelude.{not, ◌≢◌}
use Rattle.std.specs.List.{list_any, position_or_len}
use Rattle.std.proofs.lemmas.Bool.Decides.{eqb_tells}
use Rattle.std.proofs.lemmas.List.{append-nil, take-append-drop}
use Rattle.fd_language.specs.Term.{Term, as_terms}
use Rattle.fd_language.specs.Variables.{variables_of, variables_of_all, distinct}
use Rattle.fd_model.specs.Lines.{place_in}
use Rattle.fd_language.specs.Family.{has}
use Rattle.answer_text.specs.Pieces.{with_number, inserted}

same_number : (m n : ℕ) → (m == n) ≡ (n == m)
same_number m n = pick (eqb_tells m n) (eqb_tells n m)
  where
    pick : ((m == n) ≡ true × (m ≡ n)) ⊎ ((m == n) ≡ false × (m ≢ n)) → ((n == m) ≡ true × (n ≡ m)) ⊎ ((n == m) ≡ false × (n ≢ m)) → (m == n) ≡ (n == m)
    pick (inl w) (inl z) = w.0 ∙ sym z.0
    pick (inl w) (inr z) = absurd (z.1 (sym w.1))
    pick (inr w) (inl z) = absurd (w.1 (sym z.1))
    pick (inr w) (inr z) = w.0 ∙ sym z.0

-- whether v is among the numbers
abbrev met : ℕ → List ℕ → Bool
met v ks = list_any (λ k. v == k) ks

-- all but x
abbrev but : ℕ → List ℕ → List ℕ
but x ks = filter (λ y. not (x == y)) ks

but_append : (x : ℕ) (ks js : List ℕ) → but x (ks ++ js) ≡ but x ks ++ but x js
but_append x [] js = refl
but_append x (k ∷ ks) js = pick (not (x == k)) (but_append x ks js)
  where
    pick : (b : Bool) → but x (ks ++ js) ≡ but x ks ++ but x js → cond b (k ∷ but x (ks ++ js)) (but x (ks ++ js)) ≡ cond b (k ∷ but x ks) (but x ks) ++ but x js
    pick true h = ap (λ (l : List ℕ). k ∷ l) h
    pick false h = h

-- another number is met in a list where it is met without x
met_but : (x v : ℕ) (ks : List ℕ) → (x == v) ≡ false → met v (but x ks) ≡ met v ks
met_but x v [] e = refl
met_but x v (k ∷ ks) e = pick (x == k) refl (met_but x v ks e)
  where
    pick : (b : Bool) → (x == k) ≡ b → met v (but x ks) ≡ met v ks → met v (cond (not b) (k ∷ but x ks) (but x ks)) ≡ ((v == k) || met v ks)
    pick false f h = ap (λ (c : Bool). (v == k) || c) h
    pick true f h = h ∙ apart (eqb_tells x k)
      where
        apart : ((x == k) ≡ true × (x ≡ k)) ⊎ ((x == k) ≡ false × (x ≢ k)) → met v ks ≡ ((v == k) || met v ks)
        apart (inl w) = ap (λ (c : Bool). c || met v ks) (sym (ap (λ (n : ℕ). v == n) (sym w.1) ∙ same_number v x ∙ e))
        apart (inr w) = absurd (let both : true ≡ false = sym f ∙ w.0 in cc)

step_same : (x v : ℕ) (ds : List ℕ) (b : Bool) → met v ds ≡ b → (x == v) ≡ true → but x (cond b ds (ds ++ v ∷ [])) ≡ but x ds
step_same x v ds true m e = refl
step_same x v ds false m e = but_append x ds (v ∷ []) ∙ ap (λ (c : Bool). but x ds ++ cond (not c) (v ∷ []) []) e ∙ append-nil (but x ds)

step_other : (x v : ℕ) (ds : List ℕ) (b : Bool) → met v ds ≡ b → (x == v) ≡ false → but x (cond b ds (ds ++ v ∷ [])) ≡ cond b (but x ds) (but x ds ++ v ∷ [])
step_other x v ds true m e = refl
step_other x v ds false m e = but_append x ds (v ∷ []) ∙ ap (λ (c : Bool). but x ds ++ cond (not c) (v ∷ []) []) e

first_step : (x v : ℕ) (ds : List ℕ) (t : Bool) → (x == v) ≡ t → x ∷ but x (with_number ds v) ≡ with_number (x ∷ but x ds) v
first_step x v ds true e =
    ap (λ (l : List ℕ). x ∷ l) (step_same x v ds (met v ds) refl e)
    ∙ ap (λ (c : Bool). cond (c || met v (but x ds)) (x ∷ but x ds) (x ∷ (but x ds ++ v ∷ []))) (sym (same_number v x ∙ e))
first_step x v ds false e =
    ap (λ (l : List ℕ). x ∷ l) (step_other x v ds (met v ds) refl e)
    ∙ pushed (met v ds)
    ∙ ap (λ (c : Bool). cond c (x ∷ but x ds) (x ∷ (but x ds ++ v ∷ []))) (sym (met_but x v ds e))
    ∙ ap (λ (c : Bool). cond (c || met v (but x ds)) (x ∷ but x ds) (x ∷ (but x ds ++ v ∷ []))) (sym (same_number v x ∙ e))
  where
    pushed : (b : Bool) → x ∷ cond b (but x ds) (but x ds ++ v ∷ []) ≡ cond b (x ∷ but x ds) (x ∷ (but x ds ++ v ∷ []))
    pushed true = refl
    pushed false = refl

distinct_push : (vs : List ℕ) (v : ℕ) → distinct (vs ++ v ∷ []) ≡ with_number (distinct vs) v
distinct_push [] v = refl
distinct_push (x ∷ xs) v = ap (λ (l : List ℕ). x ∷ but x l) (distinct_push xs v) ∙ first_step x v (distinct xs) (x == v) refl

-- the distinct ones of two lists, one behind the other
pub distinct_append : (vs us : List ℕ) → distinct (vs ++ us) ≡ inserted (distinct vs) us
distinct_append vs [] = ap distinct (append-nil vs)
distinct_append vs (u ∷ us) =
    ap distinct (sym (append_assoc vs (u ∷ []) us)) ∙ distinct_append (vs ++ u ∷ []) us ∙ ap (λ (l : List ℕ). inserted l us) (distinct_push vs u)

-- those before stay in front
pub inserted_front : (ks us : List ℕ) → (more : List ℕ) × (inserted ks us ≡ ks ++ more)
inserted_front ks [] = ([], sym (append-nil ks))
inserted_front ks (u ∷ us) =
    let later = inserted_front (with_number ks u) us in
    let front = pushed (met u ks) in
    (front.0 ++ later.0, later.1 ∙ ap (λ (l : List ℕ). l ++ later.0) front.1 ∙ append_assoc ks front.0 later.0)
  where
    pushed : (b : Bool) → (more : List ℕ) × (cond b ks (ks ++ u ∷ []) ≡ ks ++ more)
    pushed true = ([], sym (append-nil ks))
    pushed false = (u ∷ [], refl)

-- a number's place, whatever follows
pub place_of : (ks more : List ℕ) (v : ℕ) → place_in (with_number ks v ++ more) v ≡ position_or_len (λ k. v == k) ks + 1
place_of [] more v = ap (λ (c : Bool). cond c 1 (suc (place_in more v))) (eq-eqb v v refl)
place_of (k ∷ ks) more v = pick (v == k) refl (place_of ks more v)
  where
    pick : (b : Bool) → (v == k) ≡ b → place_in (with_number ks v ++ more) v ≡ position_or_len (λ k. v == k) ks + 1
        → place_in (cond (b || met v ks) (k ∷ ks) (k ∷ (ks ++ v ∷ [])) ++ more) v ≡ cond (not b) (1 + position_or_len (λ k. v == k) ks) 0 + 1
    pick true e h = ap (λ (c : Bool). cond c 1 (suc (place_in (ks ++ more) v))) (same_number k v ∙ e)
    pick false e h =
        pushed (met v ks)
        ∙ ap (λ (c : Bool). cond c 1 (suc (place_in (with_number ks v ++ more) v))) (same_number k v ∙ e)
        ∙ ap suc h
        ∙ (let n : suc (position_or_len (λ k. v == k) ks + 1) ≡ (1 + position_or_len (λ k. v == k) ks) + 1 = omega arith in n)
      where
        pushed : (b : Bool) → place_in (cond b (k ∷ ks) (k ∷ (ks ++ v ∷ [])) ++ more) v ≡ cond (k == v) 1 (suc (place_in (cond b ks (ks ++ v ∷ []) ++ more) v))
        pushed true = refl
        pushed false = refl

-- two lists, one behind the other
pub inserted_append : (ks us vs : List ℕ) → inserted ks (us ++ vs) ≡ inserted (inserted ks us) vs
inserted_append ks [] vs = refl
inserted_append ks (u ∷ us) vs = inserted_append (with_number ks u) us vs

-- ---- numbers that are met

met_left : (v : ℕ) (ks more : List ℕ) → met v ks ≡ true → met v (ks ++ more) ≡ true
met_left v [] more e = absurd (let d : false ≡ true = e in cc)
met_left v (k ∷ ks) more e = pick (v == k) refl (met_left v ks more)
  where
    pick : (b : Bool) → (v == k) ≡ b → (met v ks ≡ true → met v (ks ++ more) ≡ true) → ((v == k) || met v (ks ++ more)) ≡ true
    pick true f later = ap (λ (c : Bool). c || met v (ks ++ more)) f
    pick false f later = ap (λ (c : Bool). c || met v (ks ++ more)) f ∙ later (sym (ap (λ (c : Bool). c || met v ks) f) ∙ e)

met_pushed : (v : ℕ) (ks : List ℕ) → met v (ks ++ v ∷ []) ≡ true
met_pushed v [] = ap (λ (c : Bool). c || false) (eq-eqb v v refl)
met_pushed v (k ∷ ks) = pick (v == k) (met_pushed v ks)
  where
    pick : (b : Bool) → met v (ks ++ v ∷ []) ≡ true → (b || met v (ks ++ v ∷ [])) ≡ true
    pick true h = refl
    pick false h = h

met_with : (v : ℕ) (ks : List ℕ) → met v (with_number ks v) ≡ true
met_with v ks = pick (met v ks) refl
  where
    pick : (b : Bool) → met v ks ≡ b → met v (cond b ks (ks ++ v ∷ [])) ≡ true
    pick true e = e
    pick false e = met_pushed v ks

met_inserted : (v : ℕ) (ks us : List ℕ) → met v ks ≡ true → met v (inserted ks us) ≡ true
met_inserted v ks us e = let front = inserted_front ks us in ap (met v) front.1 ∙ met_left v ks front.0 e

inserted_has : (v : ℕ) (ks us : List ℕ) → met v us ≡ true → met v (inserted ks us) ≡ true
inserted_has v ks [] e = absurd (let d : false ≡ true = e in cc)
inserted_has v ks (u ∷ us) e = pick (eqb_tells v u) (inserted_has v (with_number ks u) us)
  where
    pick : ((v == u) ≡ true × (v ≡ u)) ⊎ ((v == u) ≡ false × (v ≢ u)) → (met v us ≡ true → met v (inserted (with_number ks u) us) ≡ true) → met v (inserted (with_number ks u) us) ≡ true
    pick (inl w) later = met_inserted v (with_number ks u) us (ap (λ (n : ℕ). met v (with_number ks n)) (sym w.1) ∙ met_with v ks)
    pick (inr w) later = later (sym (ap (λ (c : Bool). c || met v us) w.0) ∙ e)

known : (ks : List ℕ) (v : ℕ) → met v ks ≡ true → with_number ks v ≡ ks
known ks v e = ap (λ (c : Bool). cond c ks (ks ++ v ∷ [])) e

inserted_with : (ks js : List ℕ) (v : ℕ) → inserted ks (with_number js v) ≡ with_number (inserted ks js) v
inserted_with ks js v = pick (met v js) refl
  where
    pick : (b : Bool) → met v js ≡ b → inserted ks (cond b js (js ++ v ∷ [])) ≡ with_number (inserted ks js) v
    pick true e = sym (known (inserted ks js) v (inserted_has v ks js e))
    pick false e = inserted_append ks js (v ∷ [])

inserted_twice : (ks js vs : List ℕ) → inserted ks (inserted js vs) ≡ inserted (inserted ks js) vs
inserted_twice ks js [] = refl
inserted_twice ks js (v ∷ vs) = inserted_twice ks (with_number js v) vs ∙ ap (λ (l : List ℕ). inserted l vs) (inserted_with ks js v)

-- the distinct ones of a list bring no others than the list, in the same order
pub inserted_distinct : (ks vs : List ℕ) → inserted ks (distinct vs) ≡ inserted ks vs
inserted_distinct ks vs = ap (inserted ks) (distinct_append [] vs) ∙ inserted_twice ks [] vs

-- ---- the variables of a line

abbrev pub variables_in : List Term → List ℕ
variables_in ts = variables_of_all (as_terms ts)

variables_append : (ts us : List Term) → variables_in (ts ++ us) ≡ variables_in ts ++ variables_in us
variables_append [] us = refl
variables_append (t ∷ ts) us =
    ap (λ (l : List ℕ). variables_of t ++ l) (variables_append ts us) ∙ sym (append_assoc (variables_of t) (variables_in ts) (variables_in us))

-- the numbers that a term's variables get where none was met before
pub numbers_of : (t : Term) → inserted [] (variables_of t) ≡ distinct (variables_of t)
numbers_of t = sym (distinct_append [] (variables_of t))

-- one term
pub numbers_one : (t : Term) → inserted [] (variables_of t) ≡ distinct (variables_in (t ∷ []))
numbers_one t = sym (ap distinct (append-nil (variables_of t)) ∙ distinct_append [] (variables_of t))

-- one term more
pub numbers_more : (ts us : List Term) (t : Term) → us ≡ ts ++ t ∷ [] → distinct (variables_in us) ≡ inserted (distinct (variables_in ts)) (variables_of t)
numbers_more ts us t e =
    ap (λ (l : List Term). distinct (variables_in l)) e
    ∙ ap distinct (variables_append ts (t ∷ []) ∙ ap (λ (l : List ℕ). variables_in ts ++ l) (append-nil (variables_of t)))
    ∙ distinct_append (variables_in ts) (variables_of t)

-- the numbers of the first terms are the first of all
pub numbers_front : (ts : List Term) (n : ℕ) → (more : List ℕ) × (distinct (variables_in ts) ≡ distinct (variables_in (take n ts)) ++ more)
numbers_front ts n =
    let split : variables_in ts ≡ variables_in (take n ts) ++ variables_in (drop n ts) = ap variables_in (sym (take-append-drop n ts)) ∙ variables_append (take n ts) (drop n ts) in
    let front = inserted_front (distinct (variables_in (take n ts))) (variables_in (drop n ts)) in
    (front.0, ap distinct split ∙ distinct_append (variables_in (take n ts)) (variables_in (drop n ts)) ∙ front.1)
