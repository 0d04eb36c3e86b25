-- The constraints of a program have no more occurrences of variables than the sentences that it was made from.
use Rattle.std.proofs.Common.{◌≡◌, ℕ, ◌≤◌, Bool, List, [], ◌∷◌, length, map, Option, Some, None, subst, inl, inr}
use Rattle.std.proofs.Common.{arith}
use Rattle.std.specs.Str.{bytes_eq}
use Rattle.std.specs.Prelude.{codes}
use Rattle.fd_language.specs.Term.{Name}
use Rattle.fd_language.specs.PlacedTerm.{PlacedTerm, var, int, atom, comp, no_parts, part}
use Rattle.fd_language.specs.Reading.{Sentence, sentences}
use Rattle.fd_language.specs.Reading as reading
use Rattle.fd_language.specs.Lists.{Each}
use Rattle.fd_model.specs.Forms.{GoalForm, truth, failure, unification, posting, cutting, constraint, labelling, optimum, builtin}
use Rattle.fd_model.specs.Refusals.{SentenceKind, query, clause, directive, fact, form_of, functor_of, second_part, Refusal, first_refusal}
use Rattle.fd_model.specs.Queries.{either_way, best_of, first_part, goal_by_form, goal_named, form_of_functor, goal_of, followed, body_goals, body_of}
use Rattle.fd_model.specs.Queries.{queries_by, queries_of, clauses_by, clauses_of, program_of}
use Rattle.fd_model.specs.Goal.{Goals, no_goals, goal, listed, True, Fail, Unify, Post, Constrain, Label, Call, Either, Builtin, Cut, If, IfElse, Not}
use Rattle.fd_model.specs.Goal.{Best}
use Rattle.fd_model.specs.Goal.{Clause, Query, Program}
use Rattle.fd_model.specs.Verdict.{accepted, sentences_verdict, reading_verdict}
use Rattle.fd_model.proofs.Lemmas.{either}
use Rattle.run_laws.specs.ConstraintSizes.{IsSmall, AreSmall, HasSmallConstraints}
use Rattle.run_laws.specs.Laws.{SmallConstraints}
use Rattle.run_laws.proofs.TermSizes.{size, one_size, two_size, sentence_sizes}
use Rattle.fd_model.proofs.Lemmas.{not_accepted}

module _ (n : ℕ) where
  abbrev IsWithin : PlacedTerm → Type 0
  IsWithin t = size t ≤ n

  first_within : (f : Name) (p : ℕ) (a b : PlacedTerm) → IsWithin (comp f p (part a (part b no_parts))) → IsWithin a
  first_within f p a b h = let e = two_size a b in omega (arith, h, e)

  second_within : (f : Name) (p : ℕ) (a b : PlacedTerm) → IsWithin (comp f p (part a (part b no_parts))) → IsWithin b
  second_within f p a b h = let e = two_size a b in omega (arith, h, e)

  only_within : (f : Name) (p : ℕ) (a : PlacedTerm) → IsWithin (comp f p (part a no_parts)) → IsWithin a
  only_within f p a h = let e = one_size a in omega (arith, h, e)

  -- ---- goals

  best_small : (least : Bool) (o : Option GoalForm) (g c : PlacedTerm) → IsSmall n (best_of least o g c)
  best_small least None g c = tt
  best_small least (Some truth) g c = tt
  best_small least (Some failure) g c = tt
  best_small least (Some cutting) g c = tt
  best_small least (Some unification) g c = tt
  best_small least (Some posting) g c = tt
  best_small least (Some (constraint i)) g c = tt
  best_small least (Some (labelling o)) g c = tt
  best_small least (Some (optimum l)) g c = tt
  best_small least (Some (builtin i)) g c = tt

  form_small : (N : ℕ) (form : GoalForm) (t : PlacedTerm) → IsWithin t → IsSmall n (goal_by_form N form t)
  form_small N truth t h = tt
  form_small N failure t h = tt
  form_small N unification t h = tt
  form_small N posting t h = tt
  form_small N cutting t h = tt
  form_small N (optimum least) t h = best_small least (form_of_functor (functor_of (first_part t))) (first_part t) (second_part t)
  form_small N (constraint k) t h = h
  form_small N (labelling o) t h = tt
  form_small N (builtin k) t h = tt

  named_small : (N : ℕ) (o : Option GoalForm) (t : PlacedTerm) → IsWithin t → IsSmall n (goal_named N o t)
  named_small N (Some form) t h = form_small N form t h
  named_small N None t h = tt

  goal_small : (N : ℕ) (t : PlacedTerm) → IsWithin t → IsSmall n (goal_of N t)
  goal_small N t h = named_small N (form_of_functor (functor_of t)) t h

  followed_small : (gs hs : Goals) → AreSmall n gs → AreSmall n hs → AreSmall n (followed gs hs)
  followed_small no_goals hs h k = k
  followed_small (goal g gs) hs h k = (h.0, followed_small gs hs h.1 k)

  either_small : (gs hs : Goals) → AreSmall n gs → AreSmall n hs → IsSmall n (either_way gs hs)
  either_small no_goals hs h k = (h, k)
  either_small (goal (If test holds) no_goals) hs h k = (h.0.0, h.0.1, k)
  either_small (goal True no_goals) hs h k = (h, k)
  either_small (goal Fail no_goals) hs h k = (h, k)
  either_small (goal (Unify s t) no_goals) hs h k = (h, k)
  either_small (goal (Post t r) no_goals) hs h k = (h, k)
  either_small (goal (Constrain c t) no_goals) hs h k = (h, k)
  either_small (goal (Label o t) no_goals) hs h k = (h, k)
  either_small (goal (Call t) no_goals) hs h k = (h, k)
  either_small (goal (Either a b) no_goals) hs h k = (h, k)
  either_small (goal (Builtin i t) no_goals) hs h k = (h, k)
  either_small (goal (Cut c) no_goals) hs h k = (h, k)
  either_small (goal (IfElse a b c) no_goals) hs h k = (h, k)
  either_small (goal (Not gs) no_goals) hs h k = (h, k)
  either_small (goal (Best o least t c) no_goals) hs h k = (h, k)
  either_small (goal True (goal g gs)) hs h k = (h, k)
  either_small (goal Fail (goal g gs)) hs h k = (h, k)
  either_small (goal (Unify s t) (goal g gs)) hs h k = (h, k)
  either_small (goal (Post t r) (goal g gs)) hs h k = (h, k)
  either_small (goal (Constrain c t) (goal g gs)) hs h k = (h, k)
  either_small (goal (Label o t) (goal g gs)) hs h k = (h, k)
  either_small (goal (Call t) (goal g gs)) hs h k = (h, k)
  either_small (goal (Either a b) (goal g gs)) hs h k = (h, k)
  either_small (goal (Builtin i t) (goal g gs)) hs h k = (h, k)
  either_small (goal (Cut c) (goal g gs)) hs h k = (h, k)
  either_small (goal (If a b) (goal g gs)) hs h k = (h, k)
  either_small (goal (IfElse a b c) (goal g gs)) hs h k = (h, k)
  either_small (goal (Not ks) (goal g gs)) hs h k = (h, k)
  either_small (goal (Best o least t c) (goal g gs)) hs h k = (h, k)

  body_small : (N : ℕ) (t : PlacedTerm) → IsWithin t → AreSmall n (body_goals N t)
  body_small N (comp f p (part a (part b no_parts))) h =
      let left = body_small N a (first_within f p a b h) in
      let right = body_small N b (second_within f p a b h) in
      either (AreSmall n) (bytes_eq f (codes ",")) (followed (body_goals N a) (body_goals N b)) _ (followed_small (body_goals N a) (body_goals N b) left right)
      (either (AreSmall n) (bytes_eq f (codes ";")) (goal (either_way (body_goals N a) (body_goals N b)) no_goals) _ (either_small (body_goals N a) (body_goals N b) left right, tt)
      (either (AreSmall n) (bytes_eq f (codes "->")) (goal (If (body_goals N a) (body_goals N b)) no_goals) _ ((left, right), tt) (goal_small N (comp f p (part a (part b no_parts))) h, tt)))
  body_small N (comp f p (part a (part b (part c ts)))) h = (goal_small N (comp f p (part a (part b (part c ts)))) h, tt)
  body_small N (comp f p (part a no_parts)) h =
      either (AreSmall n) (bytes_eq f (codes "\\+")) (goal (Not (body_goals N a)) no_goals) _ (body_small N a (only_within f p a h), tt)
      (goal_small N (comp f p (part a no_parts)) h, tt)
  body_small N (comp f p no_parts) h = (goal_small N (comp f p no_parts) h, tt)
  body_small N (var x p) h = (goal_small N (var x p) h, tt)
  body_small N (int z p) h = (goal_small N (int z p) h, tt)
  body_small N (atom a p) h = (goal_small N (atom a p) h, tt)

  listed_small : (gs : Goals) → AreSmall n gs → Each (IsSmall n) (listed gs)
  listed_small no_goals h = tt
  listed_small (goal g gs) h = (h.0, listed_small gs h.1)

  -- ---- sentences

  abbrev IsFormWithin : SentenceKind → Type 0
  IsFormWithin (query b) = IsWithin b
  IsFormWithin (clause h b) = IsWithin b
  IsFormWithin directive = Unit {0}
  IsFormWithin (fact t) = Unit {0}

  form_within : (t : PlacedTerm) → IsWithin t → IsFormWithin (form_of t)
  form_within (comp f p (part b no_parts)) h =
      either IsFormWithin (bytes_eq f (codes "?-")) (query b) _ (only_within f p b h)
      (either IsFormWithin (bytes_eq f (codes ":-")) directive (fact (comp f p (part b no_parts))) tt tt)
  form_within (comp f p (part a (part b no_parts))) h =
      either IsFormWithin (bytes_eq f (codes ":-")) (clause a b) (fact (comp f p (part a (part b no_parts)))) (second_within f p a b h) tt
  form_within _ h = tt

  abbrev AreQueries : List Query → Type 0
  AreQueries qs = Each (λ q. Each (IsSmall n) q.goals) qs

  abbrev AreClauses : List Clause → Type 0
  AreClauses cs = Each (λ c. Each (IsSmall n) c.body) cs

  body_each : (N : ℕ) (b : PlacedTerm) → IsWithin b → Each (IsSmall n) (body_of N b)
  body_each N b h = listed_small (body_goals N b) (body_small N b h)

  query_small : (N : ℕ) (names : List Name) (form : SentenceKind) (later : List Query) → IsFormWithin form → AreQueries later → AreQueries (queries_by N names form later)
  query_small N names (query b) later h g = (body_each N b h, g)
  query_small N names _ later h g = g

  queries_small : (N : ℕ) (ss : List Sentence) → Each (λ s. size s.term ≤ n) ss → AreQueries (queries_of N ss)
  queries_small N [] h = tt
  queries_small N (s ∷ ss) h = query_small N s.names (form_of s.term) (queries_of N ss) (form_within s.term h.0) (queries_small N ss h.1)

  clause_small : (N : ℕ) (names : List Name) (form : SentenceKind) (later : List Clause) → IsFormWithin form → AreClauses later → AreClauses (clauses_by N names form later)
  clause_small N names (query b) later h g = g
  clause_small N names (clause t b) later h g = (body_each N b h, g)
  clause_small N names directive later h g = g
  clause_small N names (fact t) later h g = (tt, g)

  clauses_small : (N : ℕ) (ss : List Sentence) → Each (λ s. size s.term ≤ n) ss → AreClauses (clauses_of N ss)
  clauses_small N [] h = tt
  clauses_small N (s ∷ ss) h = clause_small N s.names (form_of s.term) (clauses_of N ss) (form_within s.term h.0) (clauses_small N ss h.1)

-- ---- texts

accepted_small : (n N : ℕ) (ss : List Sentence) (o : Option Refusal) (prog : Program) → accepted prog ≡ sentences_verdict N ss o → HasSmallConstraints n (program_of N ss)
    → HasSmallConstraints n prog
accepted_small n N ss None prog e h = let k : program_of N ss ≡ prog = cc in subst (HasSmallConstraints n) k h
accepted_small n N ss (Some r) prog e h = absurd (cc)

read_small : (M N : ℕ) (text : List ℕ) (prog : Program) (r : reading.Reading) → reading.IsReading text r → accepted prog ≡ reading_verdict M N r → HasSmallConstraints (length text) prog
read_small M N text prog (sentences ss) h e =
    accepted_small (length text) N ss (first_refusal M N (map (λ s. s.term) ss) (map (λ s. s.term) ss)) prog e
    (record { clauses = clauses_small (length text) N ss (sentence_sizes text ss h); queries = queries_small (length text) N ss (sentence_sizes text ss h) })
read_small _ _ text prog _ h e = absurd (cc)

pub small_constraints : SmallConstraints
small_constraints M N text prog (inl h) = absurd (not_accepted _ _ prog h.1)
small_constraints M N text prog (inr (inl h)) = absurd (not_accepted _ _ prog h.2)
small_constraints M N text prog (inr (inr h)) = read_small M N text prog h.2.0 h.2.1 h.2.2
