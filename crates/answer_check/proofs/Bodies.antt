-- The goals of a body, kept one after the other.
use Rattle.std.proofs.Common.{◌≡◌, ℕ, ◌<◌, Bool, true, false, cond, List, [], ◌∷◌, ◌++◌, length, Some, refl, sym, ap, ◌∙◌, subst, arith, append_assoc}
use Rattle.std.proofs.Common.{append-nil}
use Rattle.std.specs.Prelude.{All, Result, Ok, Err, codes}
use Rattle.std.specs.Str.{bytes_eq}
use Rattle.std.proofs.lemmas.List.Elements.{All-nil, All-cons, All-append, All-pop}
use Rattle.fd_language.specs.declared.TheConstants.{INFINITY}
use Rattle.fd_language.specs.PlacedTerm.{PlacedTerm, var, int, atom, comp, no_parts, part, place}
use Rattle.fd_language.proofs.Lemmas.{first_nil, second_nil}
use Rattle.fd_model.specs.FlatQueries.{IsSatisfied}
use Rattle.fd_model.specs.Goal.{Goal}
use Rattle.fd_model.specs.Queries.{goal_of}
use Rattle.term_pool.specs.declared.TermId.{TermId}
use Rattle.term_pool.specs.Contents.{Contents}
use Rattle.term_pool.specs.PlacedTerms.{placed_of}
use Rattle.term_pool.specs.Terms.{total_size}
use Rattle.term_pool.proofs.Lemmas.{total_size-nil, total_size-cons, total_size-append}
use Rattle.answer_check.specs.declared.goals.Constraint.{Constraint}
use Rattle.answer_check.specs.declared.goals.Goals.{Goals}
use Rattle.answer_check.specs.declared.goals.Labelling.{Labelling}
use Rattle.answer_check.specs.declared.outcome.Reason.{Reason}
use Rattle.answer_check.specs.declared.outcome.Stop.{Stop}
use Rattle.answer_check.specs.declared.outcome.Stop.TheVariants.{Refused}
use Rattle.answer_check.specs.FlatForm.{FlatGoals, behind_goal, conjuncts, flat_goals, is_flat_goal, labelling_of}
use Rattle.answer_check.specs.Goals.{Says, EachSays, SaysGoal, FindsGoals, IsLabelling, StopsAt}
use Rattle.answer_check.specs.TermShapes.{IsAlone, AreSides}

-- a refusal at the place where the form is broken
pub stops_here : {A : Type 0} (r : Result A ℕ) (p : ℕ) (w : Reason) (st : Stop) → r ≡ Err p → st ≡ Refused p w → StopsAt r w st
stops_here r p w st e s = subst (StopsAt r w) (sym s) (e, refl)

abbrev pub behind_goals : List Goal → Result FlatGoals ℕ → Result FlatGoals ℕ
behind_goals [] r = r
behind_goals (g ∷ gs) r = behind_goal g (behind_goals gs r)

abbrev pub with_front : List Goal → FlatGoals → FlatGoals
with_front gs f = record { constraints = gs ++ f.constraints; order = f.order; members = f.members }

pub behind_err : (gs : List Goal) (p : ℕ) → behind_goals gs (Err p) ≡ Err p
behind_err [] p = refl
behind_err (g ∷ gs) p = ap (behind_goal g) (behind_err gs p)

pub behind_ok : (gs : List Goal) (f : FlatGoals) → behind_goals gs (Ok f) ≡ Ok (with_front gs f)
behind_ok [] f = refl
behind_ok (g ∷ gs) f = ap (behind_goal g) (behind_ok gs f)

pub behind_more : (gs : List Goal) (g : Goal) (r : Result FlatGoals ℕ) → behind_goals (gs ++ g ∷ []) r ≡ behind_goals gs (behind_goal g r)
behind_more [] g r = refl
behind_more (h ∷ gs) g r = ap (behind_goal h) (behind_more gs g r)

pub each_more : (gs : List Goal) (ks : List Constraint) (g : Goal) (k : Constraint) → EachSays gs ks → SaysGoal g k → EachSays (gs ++ g ∷ []) (ks ++ k ∷ [])
each_more [] [] g k h s = (s, tt)
each_more [] (l ∷ ks) g k h s = absurd h
each_more (x ∷ gs) [] g k h s = absurd h
each_more (x ∷ gs) (l ∷ ks) g k h s = (h.0, each_more gs ks g k h.1 s)

-- the goals of what is ahead, the last one first
abbrev pub ahead_goals : Contents → List TermId → List PlacedTerm
ahead_goals c [] = []
ahead_goals c (t ∷ ts) = ahead_goals c ts ++ conjuncts (placed_of c t)

pub ahead_last : (c : Contents) (ts : List TermId) (t : TermId) → ahead_goals c (ts ++ t ∷ []) ≡ conjuncts (placed_of c t) ++ ahead_goals c ts
ahead_last c [] t = sym (append-nil (conjuncts (placed_of c t)))
ahead_last c (u ∷ ts) t = ap (λ xs. xs ++ conjuncts (placed_of c u)) (ahead_last c ts t) ∙ append_assoc (conjuncts (placed_of c t)) (ahead_goals c ts) (conjuncts (placed_of c u))

pub sides_ahead : (c : Contents) (ts : List TermId) (t a b : TermId) → AreSides c t a b → ahead_goals c ((ts ++ b ∷ []) ++ a ∷ []) ≡ ahead_goals c (ts ++ t ∷ [])
sides_ahead c ts t a b s =
    ahead_last c (ts ++ b ∷ []) a ∙ ap (λ xs. conjuncts (placed_of c a) ++ xs) (ahead_last c ts b)
    ∙ sym (append_assoc (conjuncts (placed_of c a)) (conjuncts (placed_of c b)) (ahead_goals c ts))
    ∙ ap (λ xs. xs ++ ahead_goals c ts) (sym s.goals) ∙ sym (ahead_last c ts t)

pub sides_smaller : (c : Contents) (ts : List TermId) (t a b : TermId) → AreSides c t a b → total_size c ((ts ++ b ∷ []) ++ a ∷ []) < total_size c (ts ++ t ∷ [])
sides_smaller c ts t a b s =
    let k = s.smaller in
    omega (
      arith,
      k,
      total_size-append c (ts ++ b ∷ []) (a ∷ []),
      total_size-append c ts (b ∷ []),
      total_size-append c ts (t ∷ []),
      total_size-cons c a [],
      total_size-cons c b [],
      total_size-cons c t [],
      total_size-nil c,
    )

-- some goal is ahead
some_conjunct : (t : PlacedTerm) → conjuncts t ≡ [] → ⊥
some_conjunct (var x p) e = cc (e)
some_conjunct (int z p) e = cc (e)
some_conjunct (atom a p) e = cc (e)
some_conjunct (comp f p no_parts) e = cc (e)
some_conjunct (comp f p (part a no_parts)) e = cc (e)
some_conjunct (comp f p (part a (part b no_parts))) e = by (bytes_eq f (codes ",")) e (some_conjunct a) where
  by : (r : Bool) → cond r (conjuncts a ++ conjuncts b) (comp f p (part a (part b no_parts)) ∷ []) ≡ [] → (conjuncts a ≡ [] → ⊥) → ⊥
  by true e i = i (first_nil (conjuncts a) (conjuncts b) e)
  by false e i = cc (e)
some_conjunct (comp f p (part a (part b (part d ts)))) e = cc (e)

pub some_ahead : (c : Contents) (ts : List TermId) → (ts ≡ [] → ⊥) → ahead_goals c ts ≡ [] → ⊥
some_ahead c [] h e = h refl
some_ahead c (t ∷ ts) h e = some_conjunct (placed_of c t) (second_nil (ahead_goals c ts) (conjuncts (placed_of c t)) e)

-- the goals so far, and what is ahead
pub record IsGoingOn (c : Contents) (n : ℕ) (found : Result FlatGoals ℕ) (constraints : List Constraint) (ahead : List TermId) : Type 0 where
  pub goals : List Goal
  pub says : EachSays goals constraints
  pub same : found ≡ behind_goals goals (flat_goals INFINITY n (ahead_goals c ahead))
  pub within : All (λ t. t.number < length c.entries) ahead

pub goals_start : (c : Contents) (n : ℕ) (t : TermId) → t.number < length c.entries → IsGoingOn c n (flat_goals INFINITY n (conjuncts (placed_of c t))) [] (t ∷ [])
goals_start c n t l = record { goals = []; says = tt; same = refl; within = All-cons (λ u. u.number < length c.entries) t [] l (All-nil (λ u. u.number < length c.entries)) }

module _ (c : Contents) (n : ℕ) (found : Result FlatGoals ℕ) (ks : List Constraint) (ahead rest : List TermId) (t : TermId) (e : ahead ≡ rest ++ t ∷ []) (h : IsGoingOn c n found ks ahead) where
  abbrev IsIn : TermId → Type 0
  IsIn u = u.number < length c.entries

  popped : All IsIn rest × IsIn t
  popped = All-pop IsIn ahead rest (Some t) e h.within

  pub term_in : t.number < length c.entries
  term_in = popped.1

  pub goals_split : (a b : TermId) (new : List TermId) → AreSides c t a b → new ≡ (rest ++ b ∷ []) ++ a ∷ [] → IsGoingOn c n found ks new
  goals_split a b new s is = record {
    goals = h.goals;
    says = h.says;
    same = h.same ∙ ap (λ xs. behind_goals h.goals (flat_goals INFINITY n xs)) (ap (ahead_goals c) e ∙ sym (sides_ahead c rest t a b s) ∙ ap (ahead_goals c) (sym is));
    within = subst (All IsIn) (sym is) (All-append IsIn (rest ++ b ∷ []) (a ∷ [])
        (All-append IsIn rest (b ∷ []) popped.0 (All-cons IsIn b [] s.right (All-nil IsIn))) (All-cons IsIn a [] s.left (All-nil IsIn)));
  }

  -- one goal more
  alone_ahead : IsAlone c t → ahead_goals c ahead ≡ placed_of c t ∷ ahead_goals c rest
  alone_ahead s = ap (ahead_goals c) e ∙ ahead_last c rest t ∙ ap (λ xs. xs ++ ahead_goals c rest) s

  abbrev x : PlacedTerm
  x = placed_of c t

  front_goal : (xs : List PlacedTerm) → (xs ≡ [] → ⊥)
      → flat_goals INFINITY n (x ∷ xs) ≡ cond (is_flat_goal INFINITY x (goal_of INFINITY x)) (behind_goal (goal_of INFINITY x) (flat_goals INFINITY n xs))
      (Err (place x))
  front_goal [] h = absurd (h refl)
  front_goal (y ∷ ys) h = refl

  pub goals_more : (k : Constraint) → IsAlone c t → (ahead_goals c rest ≡ [] → ⊥) → is_flat_goal INFINITY x (goal_of INFINITY x) ≡ true
      → Says (λ a. IsSatisfied INFINITY INFINITY a (goal_of INFINITY x)) k → IsGoingOn c n found (ks ++ k ∷ []) rest
  goals_more k s some test says = record {
    goals = h.goals ++ goal_of INFINITY x ∷ [];
    says = each_more h.goals ks (goal_of INFINITY x) k h.says says;
    same = h.same ∙ ap (λ xs. behind_goals h.goals (flat_goals INFINITY n xs)) (alone_ahead s)
        ∙ ap (behind_goals h.goals) (front_goal (ahead_goals c rest) some ∙ ap (λ b. cond b (behind_goal (goal_of INFINITY x) (flat_goals INFINITY n (ahead_goals c rest))) (Err (place x))) test)
        ∙ sym (behind_more h.goals (goal_of INFINITY x) (flat_goals INFINITY n (ahead_goals c rest)));
    within = popped.0;
  }

  -- or one that breaks the form
  pub goals_broken : IsAlone c t → (ahead_goals c rest ≡ [] → ⊥) → is_flat_goal INFINITY x (goal_of INFINITY x) ≡ false → found ≡ Err (place x)
  goals_broken s some test =
      h.same ∙ ap (λ xs. behind_goals h.goals (flat_goals INFINITY n xs)) (alone_ahead s)
      ∙ ap (behind_goals h.goals) (front_goal (ahead_goals c rest) some ∙ ap (λ b. cond b (behind_goal (goal_of INFINITY x) (flat_goals INFINITY n (ahead_goals c rest))) (Err (place x))) test)
      ∙ behind_err h.goals (place x)

  last_goal : IsAlone c t → rest ≡ [] → found ≡ behind_goals h.goals (labelling_of n (place x) (goal_of INFINITY x))
  last_goal s none = h.same ∙ ap (λ xs. behind_goals h.goals (flat_goals INFINITY n xs)) (alone_ahead s ∙ ap (λ ts. x ∷ ahead_goals c ts) none)

  pub goals_unlabelled : IsAlone c t → rest ≡ [] → labelling_of n (place x) (goal_of INFINITY x) ≡ Err (place x) → found ≡ Err (place x)
  goals_unlabelled s none f = last_goal s none ∙ ap (behind_goals h.goals) f ∙ behind_err h.goals (place x)

  pub goals_labelled : (l : Labelling) (g : Goals) → IsAlone c t → rest ≡ [] → IsLabelling (labelling_of n (place x) (goal_of INFINITY x)) l
      → g.constraints.items ≡ ks → g.order ≡ l.order → g.labelled.items ≡ l.labelled.items → FindsGoals found g
  goals_labelled l g s none f kept order labelled = (
    with_front h.goals f.goals,
    last_goal s none ∙ ap (behind_goals h.goals) f.found ∙ behind_ok h.goals f.goals,
    record {
      constraints = subst (λ xs. EachSays xs g.constraints.items) (sym (ap (λ gs. h.goals ++ gs) f.bare ∙ append-nil h.goals)) (subst (EachSays h.goals) (sym kept) h.says);
      order = order ∙ f.order;
      labelled = labelled ∙ f.labelled;
    },
  )

pub goals_end : (c : Contents) (n : ℕ) (found : Result FlatGoals ℕ) (ks : List Constraint) (ahead : List TermId) → ahead ≡ [] → IsGoingOn c n found ks ahead → found ≡ Err 0
goals_end c n found ks ahead e h = h.same ∙ ap (λ ts. behind_goals h.goals (flat_goals INFINITY n (ahead_goals c ts))) e ∙ behind_err h.goals 0
