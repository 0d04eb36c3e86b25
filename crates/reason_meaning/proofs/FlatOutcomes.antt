-- The outcomes of a flat query without some of its goals, and its reasons.
use Rattle.std.proofs.Common.{◌≡◌, ℕ, zero, suc, length, Bool, true, false, List, [], ◌∷◌, ◌++◌, map, Some, refl, ap, sym, ◌∙◌, subst, inl, inr}
use Rattle.std.proofs.lemmas.Bool.{true≢false}
use Rattle.fd_language.specs.Lists.{Each}
use Rattle.fd_model.specs.declared.kinds.Order.{Order}
use Rattle.fd_model.specs.Goal.{Goal, Label, Query, Event, Answer, End}
use Rattle.fd_model.specs.RunnablePrograms.{EachBelow}
use Rattle.fd_model.specs.Labelling.{open_ones}
use Rattle.fd_model.specs.Answers.{Somewhere}
use Rattle.fd_model.specs.Satisfaction.{Assignment}
use Rattle.fd_model.specs.FlatQueries.{IsFlat, IsFlatGoal, IsSatisfied}
use Rattle.fd_model.specs.Laws.{OneRun}
use Rattle.fd_model.specs.FlatLines.{assigned_line, IsSatisfying, IsLast, AreFlatEvents, FlatEvents}
use Rattle.reason_meaning.specs.FewerGoals.{kept, without, is_kept, with_goals, IsWithin}
use Rattle.reason_meaning.specs.Outcomes.{Outcome, answered, unanswered, stopped, outcome, HasOutcome}
use Rattle.reason_meaning.specs.Laws.{Says, FlatOutcomes, FlatReasons, OneOutcome}

-- what holds of each goal holds of each that is kept
each_kept : (H : Goal → Type 0) (ks : List Bool) (gs : List Goal) → Each H gs → Each H (kept ks gs)
each_kept H [] gs h = tt
each_kept H (k ∷ ks) [] h = tt
each_kept H (true ∷ ks) (g ∷ gs) h = (h.0, each_kept H ks gs h.1)
each_kept H (false ∷ ks) (g ∷ gs) h = each_kept H ks gs h.1

below_kept : (n : ℕ) (ks : List Bool) (gs hs : List Goal) → EachBelow n (gs ++ hs) → EachBelow n (kept ks gs ++ hs)
below_kept n [] [] hs h = h
below_kept n [] (g ∷ gs) hs h = below_kept n [] gs hs h.1
below_kept n (k ∷ ks) [] hs h = h
below_kept n (true ∷ ks) (g ∷ gs) hs h = (h.0, below_kept n ks gs hs h.1)
below_kept n (false ∷ ks) (g ∷ gs) hs h = below_kept n ks gs hs h.1

module _ (M N : ℕ) (q : Query) (gs : List Goal) where
  -- what the last event says, where there is no answer
  said_last : (found : List Assignment) (last : Event) → IsLast last → (found ≡ [])
      → (last ≡ End → (a : Assignment) → IsSatisfying M N gs a → ⊥) → Says M N q gs (outcome (last ∷ []))
  said_last found last (inl e) n h = subst (λ l. Says M N q gs (outcome (l ∷ []))) (sym e) (h e)
  said_last found last (inr (inl e)) n h = subst (λ l. Says M N q gs (outcome (l ∷ []))) (sym e) (inr (inl refl))
  said_last found last (inr (inr e)) n h = subst (λ l. Says M N q gs (outcome (l ∷ []))) (sym e) (inr (inr refl))

  said : (o : Order) (vs : List ℕ) (found : List Assignment) (last : Event) → IsLast last → Each (IsSatisfying M N gs) found
      → (last ≡ End → (a : Assignment) → IsSatisfying M N gs a → Somewhere (λ c. map c vs ≡ map a vs) found)
      → Says M N q gs (outcome (map (λ a. Answer (assigned_line q a)) found ++ last ∷ []))
  said o vs [] last e s c = said_last [] last e refl c
  said o vs (a ∷ found) last e s c = (a, s.0, refl)

  said_events : (o : Order) (vs : List ℕ) (es : List Event) → AreFlatEvents M N q gs o vs es → Says M N q gs (outcome es)
  said_events o vs es f = subst (λ l. Says M N q gs (outcome l)) (sym f.events) (said o vs f.found f.last f.ends f.satisfy f.complete)

pub flat_outcomes : FlatEvents → FlatOutcomes
flat_outcomes events M N n prog q gs o ms f ks x positive within below shown (es, r, run, e) =
    let hs = kept ks gs in
    let fewer = with_goals q (hs ++ Label o f.list ∷ []) in
    let flat : IsFlat M N fewer hs o ms = record { list = f.list; goals = refl; read = f.read; flat = each_kept (IsFlatGoal M N) ks gs f.flat; every = f.every } in
    let scoped : EachBelow q.variables (hs ++ Label o f.list ∷ []) = below_kept q.variables ks gs (Label o f.list ∷ []) (subst (EachBelow q.variables) f.goals below) in
    let a = events M N prog fewer n (Some 1) es r hs o ms positive within scoped shown flat run in
    let s : Says M N fewer hs (outcome es) = said_events M N fewer hs o (open_ones ms) es a in
    let t : (y : Outcome) → Says M N fewer hs y → Says M N q hs y = λ y. elim y [ answered l ↦ λ h. h | unanswered ↦ λ h. h | stopped d ↦ λ h. h ] in
    subst (Says M N q hs) e (t (outcome es) s)

-- the goal behind the others, where it is kept
kept_last : (l : Goal) (ks : List Bool) (gs : List Goal) → is_kept ks (length gs) ≡ true → kept ks (gs ++ l ∷ []) ≡ kept ks gs ++ l ∷ []
kept_last l [] gs h = absurd (true≢false (sym h))
kept_last l (true ∷ []) [] h = refl
kept_last l (true ∷ k ∷ ks) [] h = refl
kept_last l (false ∷ ks) [] h = absurd (true≢false (sym h))
kept_last l (true ∷ ks) (g ∷ gs) h = ap (λ hs. g ∷ hs) (kept_last l ks gs h)
kept_last l (false ∷ ks) (g ∷ gs) h = kept_last l ks gs h

-- the others are kept
kept_beside : (i j : ℕ) (ks : List Bool) → (i ≡ j → ⊥) → is_kept ks j ≡ true → is_kept (without i ks) j ≡ true
kept_beside i j [] h k = k
kept_beside zero zero (b ∷ ks) h k = absurd (h refl)
kept_beside zero (suc j) (b ∷ ks) h k = k
kept_beside (suc i) zero (b ∷ ks) h k = k
kept_beside (suc i) (suc j) (b ∷ ks) h k = kept_beside i j ks (λ e. h (ap suc e)) k

-- what holds of each that is kept holds of each of fewer
each_fewer : (H : Goal → Type 0) (js ks : List Bool) (gs : List Goal) → IsWithin js ks → Each H (kept ks gs) → Each H (kept js gs)
each_fewer H [] ks gs w h = tt
each_fewer H (j ∷ js) ks [] w h = tt
each_fewer H (true ∷ js) [] (g ∷ gs) w h = absurd (true≢false (sym (w 0 refl)))
each_fewer H (false ∷ js) [] (g ∷ gs) w h = each_fewer H js [] gs (λ i. w (suc i)) h
each_fewer H (true ∷ js) (true ∷ ks) (g ∷ gs) w h = (h.0, each_fewer H js ks gs (λ i. w (suc i)) h.1)
each_fewer H (true ∷ js) (false ∷ ks) (g ∷ gs) w h = absurd (true≢false (sym (w 0 refl)))
each_fewer H (false ∷ js) (true ∷ ks) (g ∷ gs) w h = each_fewer H js ks gs (λ i. w (suc i)) h.1
each_fewer H (false ∷ js) (false ∷ ks) (g ∷ gs) w h = each_fewer H js ks gs (λ i. w (suc i)) h

pub flat_reasons : FlatOutcomes → FlatReasons
flat_reasons outcomes M N n prog q gs o ms f stays ks positive within below shown label h =
    let l = Label o f.list in
    let split : (js : List Bool) → is_kept js (length gs) ≡ true → kept js q.goals ≡ kept js gs ++ l ∷ [] = λ js k. ap (kept js) f.goals ∙ kept_last l js gs k in
    let says : (m : ℕ) (js : List Bool) (x : Outcome) → is_kept js (length gs) ≡ true → HasOutcome M N m prog q (kept js q.goals) x → Says M N q (kept js gs) x =
    λ m js x k r. outcomes M N m prog q gs o ms f js x positive within below shown (subst (λ hs. HasOutcome M N m prog q hs x) (split js k) r) in
    let here = h.stay (length gs) label in
    record {
      none = says h.none.0 ks unanswered here h.none.1;
      needed = λ i k s.
          let w = h.needed i k s in
          let other : i ≡ length gs → ⊥ = λ e. true≢false (sym label ∙ ap (is_kept stays) (sym e) ∙ s) in
          (w.0, says n (without i ks) w.0 (kept_beside i (length gs) ks other here) w.1, w.2);
      fewer = λ js a hs w s. record { bounded = s.bounded; each = each_fewer (IsSatisfied M N a) js hs gs w s.each };
    }

pub one_outcome : OneRun → OneOutcome
one_outcome runs M N n prog q gs runnable goals =
    let r = runs M N prog (with_goals q gs) n (Some 1) runnable goals tt in
    (outcome r.0, (r.0, r.1, r.2, refl), λ x h. sym h.3 ∙ ap outcome (r.3 h.0 h.1 h.2).0)
