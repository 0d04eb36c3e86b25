-- The program of accepted sentences names no variable beyond those of each sentence.
use Rattle.std.proofs.Common.{◌≡◌, ℕ, suc, ◌+◌, ◌<◌, ◌≤◌, Bool, true, false, cond, ◌==◌, List, [], ◌∷◌, ◌++◌, map, length, Option, Some, None, pos, refl, sym}
use Rattle.std.proofs.Common.{subst, inl, inr, arith, eq-eqb}
use Rattle.std.proofs.lemmas.Bool.{or_left}
use Rattle.std.specs.Str.{bytes_eq}
use Rattle.std.specs.Prelude.{codes}
use Rattle.fd_language.specs.Term.{Name, Term, Terms, Var, Int, Atom, Comp, no_terms, term}
use Rattle.fd_language.specs.PlacedTerm.{PlacedTerm, var, int, atom, comp, no_parts, part, plain}
use Rattle.fd_language.specs.Family.{has}
use Rattle.fd_language.specs.Range.{Range, One, Outside, Over, Expr, Number, Infinity, Val, DivUp}
use Rattle.fd_language.specs.Occurrences.{expr_occurrences, range_occurrences}
use Rattle.fd_language.specs.Spelling.{Parsed, read, offends, expr_operator, expr_feature, read_feature, read_operator, read_expr, RangeForm, of_terms}
use Rattle.fd_language.specs.Spelling.{of_ranges, pointwise, no_form, range_form, empty_range, read_form, read_dom, read_one, read_range}
use Rattle.fd_language.specs.Variables.{variables_of, variables_of_all}
use Rattle.fd_language.specs.Reading.{Sentence, sentences}
use Rattle.fd_language.specs.Reading as reading
use Rattle.fd_model.specs.Forms.{GoalForm, truth, failure, unification, posting, cutting, constraint, labelling, optimum, builtin}
use Rattle.fd_model.specs.Refusals.{SentenceKind, query, clause, directive, fact, form_of, functor_of, second_part, Refusal, first_refusal}
use Rattle.fd_model.specs.Queries.{either_way, best_of, first_part, goal_by_form, goal_named, form_of_functor, goal_of, followed, body_goals, is_shown}
use Rattle.fd_model.specs.Queries.{shown_from, queries_by, queries_of, clauses_by, clauses_of, program_of}
use Rattle.fd_model.specs.Goal.{Goals, no_goals, goal, listed, If, Not, Clause, Query, Program}
use Rattle.fd_language.specs.Variables.{TermBelow, TermsBelow}
use Rattle.fd_model.specs.RunnablePrograms.{OccurrencesBelow, RangeBelow, GoalBelow, GoalsBelow, EachBelow, NumbersBelow, ClausesScoped, QueriesScoped}
use Rattle.fd_model.specs.RunnablePrograms.{IsScoped}
use Rattle.fd_model.specs.Verdict.{accepted, refused, sentences_verdict, reading_verdict}
use Rattle.fd_model.specs.ProgramLaws.{ScopedProgram}
use Rattle.fd_language.specs.Lists.{Each}
use Rattle.fd_language.proofs.Lemmas.{in_left, in_right, each_below}
use Rattle.fd_model.proofs.Bodies.{either_is}
use Rattle.fd_model.proofs.Lists.{each_both}

-- a property of both ways
pub either : {A : Type 0} (P : A → Type 0) (b : Bool) (x y : A) → P x → P y → P (cond b x y)
either P true x y h g = h
either P false x y h g = g

mutual
  term_below : (n : ℕ) (t : Term) → ((x : ℕ) → has (variables_of t) x ≡ true → x < n) → TermBelow n t
  term_below n (Var x) h = h x (or_left (x == x) false (eq-eqb x x refl))
  term_below n (Int z) h = tt
  term_below n (Atom a) h = tt
  term_below n (Comp f ts) h = terms_below n ts h

  terms_below : (n : ℕ) (ts : Terms) → ((x : ℕ) → has (variables_of_all ts) x ≡ true → x < n) → TermsBelow n ts
  terms_below n no_terms h = tt
  terms_below n (term t ts) h = (term_below n t (λ x i. h x (in_left (variables_of t) (variables_of_all ts) x i)), terms_below n ts (λ x i. h x (in_right (variables_of t) (variables_of_all ts) x i)))

-- ---- ranges

module _ (n : ℕ) where
  abbrev Scoped : Expr → Type 0
  Scoped e = OccurrencesBelow n (expr_occurrences e)

  abbrev ScopedRead : Parsed Expr → Type 0
  ScopedRead e = OccurrencesBelow n (expr_occurrences e.tree)

  abbrev RangeRead : Parsed Range → Type 0
  RangeRead r = RangeBelow n r.tree

  abbrev Feature : Option (ℕ → Expr) → Type 0
  Feature None = Unit {0}
  Feature (Some make) = (y : ℕ) → y < n → Scoped (make y)

  abbrev Operator : Option (Expr → Expr → Expr) → Type 0
  Operator None = Unit {0}
  Operator (Some make) = (a b : Expr) → Scoped a → Scoped b → Scoped (make a b)

  both_scoped : (a b : Expr) → Scoped a → Scoped b → OccurrencesBelow n (expr_occurrences a ++ expr_occurrences b)
  both_scoped a b h g = each_both (λ p. p.variable < n) (expr_occurrences a) (expr_occurrences b) h g

  feature_is : (f : Name) → Feature (expr_feature f)
  feature_is f =
      either Feature (bytes_eq f (codes "min")) _ _ (λ y h. (h, tt))
      (either Feature (bytes_eq f (codes "max")) _ _ (λ y h. (h, tt)) (either Feature (bytes_eq f (codes "val")) (Some Val) None (λ y h. (h, tt)) tt))

  operator_is : (f : Name) → Operator (expr_operator f)
  operator_is f =
      either Operator (bytes_eq f (codes "+")) _ _ both_scoped
      (either Operator (bytes_eq f (codes "-")) _ _ both_scoped
      (either Operator (bytes_eq f (codes "*")) _ _ both_scoped
      (either Operator (bytes_eq f (codes "/<")) _ _ both_scoped (either Operator (bytes_eq f (codes "/>")) (Some DivUp) None both_scoped tt))))

  read_feature_scoped : (o : Option (ℕ → Expr)) (features : Bool) (p y : ℕ) → Feature o → y < n → ScopedRead (read_feature o features p y)
  read_feature_scoped None features p y h l = tt
  read_feature_scoped (Some make) true p y h l = h y l
  read_feature_scoped (Some make) false p y h l = tt

  read_operator_scoped : (o : Option (Expr → Expr → Expr)) (p : ℕ) (a b : Parsed Expr) → Operator o → ScopedRead a → ScopedRead b → ScopedRead (read_operator o p a b)
  read_operator_scoped None p a b h i j = tt
  read_operator_scoped (Some make) p a b h i j = h a.tree b.tree i j

  expr_scoped : (N : ℕ) (features : Bool) (t : PlacedTerm) → TermBelow n (plain t) → ScopedRead (read_expr N features t)
  expr_scoped N features (var x p) h = (h, tt)
  expr_scoped N features (atom a p) h = either ScopedRead (bytes_eq a (codes "infinity")) (read (Number (pos N)) p) (offends Infinity p) tt tt
  expr_scoped N features (comp f p (part (var y q) no_parts)) h = read_feature_scoped (expr_feature f) features p y (feature_is f) h.0
  expr_scoped N features (comp f p (part a (part b no_parts))) h = read_operator_scoped (expr_operator f) p (read_expr N features a) (read_expr N features b)
      (operator_is f) (expr_scoped N features a h.0) (expr_scoped N features b h.1.0)
  expr_scoped N features _ h = tt

  abbrev IsForm : RangeForm → Type 0
  IsForm (of_terms make) = (a b : Expr) → Scoped a → Scoped b → RangeBelow n (make a b)
  IsForm (of_ranges make) = (r q : Range) → RangeBelow n r → RangeBelow n q → RangeBelow n (make r q)
  IsForm (pointwise make) = (r : Range) (c : Expr) → RangeBelow n r → Scoped c → RangeBelow n (make r c)
  IsForm no_form = Unit {0}

  ranges_scoped : (r q : Range) → RangeBelow n r → RangeBelow n q → OccurrencesBelow n (range_occurrences r ++ range_occurrences q)
  ranges_scoped r q h g = each_both (λ p. p.variable < n) (range_occurrences r) (range_occurrences q) h g

  point_scoped : (r : Range) (c : Expr) → RangeBelow n r → Scoped c → OccurrencesBelow n (range_occurrences r ++ expr_occurrences c)
  point_scoped r c h g = each_both (λ p. p.variable < n) (range_occurrences r) (expr_occurrences c) h g

  form_is : (f : Name) → IsForm (range_form f)
  form_is f =
      either IsForm (bytes_eq f (codes "..")) _ _ both_scoped
      (either IsForm (bytes_eq f (codes ":")) _ _ ranges_scoped
      (either IsForm (bytes_eq f (codes "&")) _ _ ranges_scoped
      (either IsForm (bytes_eq f (codes "+")) _ _ point_scoped
      (either IsForm (bytes_eq f (codes "-")) _ _ point_scoped
      (either IsForm (bytes_eq f (codes "*")) _ _ point_scoped (either IsForm (bytes_eq f (codes "/")) (pointwise Over) no_form point_scoped tt))))))

  read_form_scoped : (o : RangeForm) (p : ℕ) (r q : Parsed Range) (a b c : Parsed Expr) → IsForm o → RangeRead r → RangeRead q → ScopedRead a → ScopedRead b
      → ScopedRead c → RangeRead (read_form o p r q a b c)
  read_form_scoped (of_terms make) p r q a b c h i j k l m = h a.tree b.tree k l
  read_form_scoped (of_ranges make) p r q a b c h i j k l m = h r.tree q.tree i j
  read_form_scoped (pointwise make) p r q a b c h i j k l m = h r.tree c.tree i m
  read_form_scoped no_form p r q a b c h i j k l m = tt

  dom_scoped : (t : PlacedTerm) (p : ℕ) → TermBelow n (plain t) → RangeRead (read_dom t p)
  dom_scoped (var y q) p h = (h, tt)
  dom_scoped _ p h = tt

  range_scoped : (N : ℕ) (t : PlacedTerm) → TermBelow n (plain t) → RangeRead (read_range N t)
  range_scoped N (comp f p (part t no_parts)) h =
      either RangeRead (bytes_eq f (codes "{}")) (read_one One p (read_expr N true t)) _ (expr_scoped N true t h.0)
      (either RangeRead (bytes_eq f (codes "-")) (read_one Outside p (read_range N t)) _ (range_scoped N t h.0)
      (either RangeRead (bytes_eq f (codes "dom")) (read_dom t p) (offends empty_range p) (dom_scoped t p h.0) tt))
  range_scoped N (comp f p (part a (part b no_parts))) h =
      read_form_scoped (range_form f) p (read_range N a) (read_range N b) (read_expr N true a) (read_expr N true b) (read_expr N false b) (form_is f)
      (range_scoped N a h.0) (range_scoped N b h.1.0) (expr_scoped N true a h.0) (expr_scoped N true b h.1.0) (expr_scoped N false b h.1.0)
  range_scoped _ _ h = tt

  -- ---- goals

  abbrev IsBelow : PlacedTerm → Type 0
  IsBelow t = TermBelow n (plain t)

  second_below : (t : PlacedTerm) → IsBelow t → IsBelow (second_part t)
  second_below (comp f p (part a (part b ts))) h = h.1.0
  second_below (comp f p (part a no_parts)) h = h
  second_below (comp f p no_parts) h = h
  second_below (var x p) h = h
  second_below (int z p) h = h
  second_below (atom a p) h = h

  first_below : (t : PlacedTerm) → IsBelow t → IsBelow (first_part t)
  first_below (comp f p (part a ts)) h = h.0
  first_below (comp f p no_parts) h = h
  first_below (var x p) h = h
  first_below (int z p) h = h
  first_below (atom a p) h = h

  best_scoped : (least : Bool) (o : Option GoalForm) (g c : PlacedTerm) → IsBelow g → IsBelow c → GoalBelow n (best_of least o g c)
  best_scoped least None g c h k = tt
  best_scoped least (Some truth) g c h k = tt
  best_scoped least (Some failure) g c h k = tt
  best_scoped least (Some cutting) g c h k = tt
  best_scoped least (Some unification) g c h k = tt
  best_scoped least (Some posting) g c h k = tt
  best_scoped least (Some (constraint i)) g c h k = tt
  best_scoped least (Some (labelling o)) g c h k = (first_below g h, k)
  best_scoped least (Some (optimum l)) g c h k = tt
  best_scoped least (Some (builtin i)) g c h k = tt

  form_scoped : (N : ℕ) (form : GoalForm) (t : PlacedTerm) → IsBelow t → GoalBelow n (goal_by_form N form t)
  form_scoped N truth t h = tt
  form_scoped N failure t h = tt
  form_scoped N unification t h = (first_below t h, second_below t h)
  form_scoped N posting t h = (first_below t h, range_scoped N (second_part t) (second_below t h))
  form_scoped N cutting t h = tt
  form_scoped N (optimum least) t h = best_scoped least (form_of_functor (functor_of (first_part t))) (first_part t) (second_part t) (first_below t h) (second_below t h)
  form_scoped N (constraint k) t h = h
  form_scoped N (labelling o) t h = first_below t h
  form_scoped N (builtin k) t h = h

  named_scoped : (N : ℕ) (o : Option GoalForm) (t : PlacedTerm) → IsBelow t → GoalBelow n (goal_named N o t)
  named_scoped N (Some form) t h = form_scoped N form t h
  named_scoped N None t h = h

  goal_scoped : (N : ℕ) (t : PlacedTerm) → IsBelow t → GoalBelow n (goal_of N t)
  goal_scoped N t h = named_scoped N (form_of_functor (functor_of t)) t h

  followed_scoped : (gs hs : Goals) → GoalsBelow n gs → GoalsBelow n hs → GoalsBelow n (followed gs hs)
  followed_scoped no_goals hs h k = k
  followed_scoped (goal g gs) hs h k = (h.0, followed_scoped gs hs h.1 k)

  either_scoped : (gs hs : Goals) → GoalsBelow n gs → GoalsBelow n hs → GoalBelow n (either_way gs hs)
  either_scoped gs hs h k = elim (either_is gs hs) [
    | inl e ↦ subst (GoalBelow n) (sym e.3) (let own = (subst (GoalsBelow n) e.2 h).0 in (own.0, own.1, k))
    | inr e ↦ subst (GoalBelow n) (sym e) (h, k)
  ]

  body_scoped : (N : ℕ) (t : PlacedTerm) → IsBelow t → GoalsBelow n (body_goals N t)
  body_scoped N (comp f p (part a (part b no_parts))) h =
      let left = body_scoped N a h.0 in
      let right = body_scoped N b h.1.0 in
      either (GoalsBelow n) (bytes_eq f (codes ",")) (followed (body_goals N a) (body_goals N b)) _ (followed_scoped (body_goals N a) (body_goals N b) left right)
      (either (GoalsBelow n) (bytes_eq f (codes ";")) (goal (either_way (body_goals N a) (body_goals N b)) no_goals) _ (either_scoped (body_goals N a) (body_goals N b) left right, tt)
      (either (GoalsBelow n) (bytes_eq f (codes "->")) (goal (If (body_goals N a) (body_goals N b)) no_goals) _ ((left, right), tt) (goal_scoped N (comp f p (part a (part b no_parts))) h, tt)))
  body_scoped N (comp f p (part a (part b (part c ts)))) h = (goal_scoped N (comp f p (part a (part b (part c ts)))) h, tt)
  body_scoped N (comp f p (part a no_parts)) h =
      either (GoalsBelow n) (bytes_eq f (codes "\\+")) (goal (Not (body_goals N a)) no_goals) _ (body_scoped N a h.0, tt) (goal_scoped N (comp f p (part a no_parts)) h, tt)
  body_scoped N (comp f p no_parts) h = (goal_scoped N (comp f p no_parts) h, tt)
  body_scoped N (var x p) h = (goal_scoped N (var x p) h, tt)
  body_scoped N (int z p) h = (goal_scoped N (int z p) h, tt)
  body_scoped N (atom a p) h = (goal_scoped N (atom a p) h, tt)

  listed_scoped : (gs : Goals) → GoalsBelow n gs → EachBelow n (listed gs)
  listed_scoped no_goals h = tt
  listed_scoped (goal g gs) h = (h.0, listed_scoped gs h.1)

  -- ---- sentences

  abbrev IsFormBelow : SentenceKind → Type 0
  IsFormBelow (query b) = IsBelow b
  IsFormBelow (clause h b) = IsBelow h × IsBelow b
  IsFormBelow directive = Unit {0}
  IsFormBelow (fact t) = IsBelow t

  form_below : (t : PlacedTerm) → IsBelow t → IsFormBelow (form_of t)
  form_below (comp f p (part b no_parts)) h =
      either IsFormBelow (bytes_eq f (codes "?-")) (query b) _ h.0 (either IsFormBelow (bytes_eq f (codes ":-")) directive (fact (comp f p (part b no_parts))) tt h)
  form_below (comp f p (part a (part b no_parts))) h = either IsFormBelow (bytes_eq f (codes ":-")) (clause a b) (fact (comp f p (part a (part b no_parts)))) (h.0, h.1.0) h
  form_below _ h = h

  shown_below : (k : ℕ) (names : List Name) → k + length names ≤ n → NumbersBelow n (shown_from k names)
  shown_below k [] l = tt
  shown_below k (name ∷ names) l =
      let later = shown_below (suc k) names (omega arith) in
      either (NumbersBelow n) (is_shown name) (k ∷ shown_from (suc k) names) (shown_from (suc k) names) (omega arith, later) later

query_scoped : (N : ℕ) (names : List Name) (form : SentenceKind) (later : List Query) → IsFormBelow (length names) form → QueriesScoped later → QueriesScoped (queries_by N names form later)
query_scoped N names (query b) later h g = ((shown_below (length names) 0 names (omega arith), listed_scoped (length names) (body_goals N b) (body_scoped (length names) N b h)), g)
query_scoped N names _ later h g = g

-- each query names no variable beyond those of its sentence
pub queries_scoped : (N : ℕ) (ss : List Sentence) → Each (λ s. TermBelow (length s.names) (plain s.term)) ss → QueriesScoped (queries_of N ss)
queries_scoped N [] h = tt
queries_scoped N (s ∷ ss) h = query_scoped N s.names (form_of s.term) (queries_of N ss) (form_below (length s.names) s.term h.0) (queries_scoped N ss h.1)

clause_scoped : (N : ℕ) (names : List Name) (form : SentenceKind) (later : List Clause) → IsFormBelow (length names) form → ClausesScoped later → ClausesScoped (clauses_by N names form later)
clause_scoped N names (query b) later h g = g
clause_scoped N names (clause t b) later h g = ((h.0, listed_scoped (length names) (body_goals N b) (body_scoped (length names) N b h.1)), g)
clause_scoped N names directive later h g = g
clause_scoped N names (fact t) later h g = ((h, tt), g)

-- each clause names no variable beyond those of its sentence
pub clauses_scoped : (N : ℕ) (ss : List Sentence) → Each (λ s. TermBelow (length s.names) (plain s.term)) ss → ClausesScoped (clauses_of N ss)
clauses_scoped N [] h = tt
clauses_scoped N (s ∷ ss) h = clause_scoped N s.names (form_of s.term) (clauses_of N ss) (form_below (length s.names) s.term h.0) (clauses_scoped N ss h.1)

terms_below_names : (ss : List Sentence) → Each (λ s. (x : ℕ) → has (variables_of (plain s.term)) x ≡ true → x < length s.names) ss → Each (λ s. TermBelow (length s.names) (plain s.term)) ss
terms_below_names [] h = tt
terms_below_names (s ∷ ss) h = (term_below (length s.names) (plain s.term) h.0, terms_below_names ss h.1)

accepted_scoped : (N : ℕ) (ss : List Sentence) (o : Option Refusal) (prog : Program) → accepted prog ≡ sentences_verdict N ss o → IsScoped (program_of N ss) → IsScoped prog
accepted_scoped N ss None prog e h = let k : program_of N ss ≡ prog = cc in subst IsScoped k h
accepted_scoped N ss (Some r) prog e h = absurd (cc)

read_scoped : (M N : ℕ) (text : List ℕ) (prog : Program) (r : reading.Reading) → reading.IsReading text r → accepted prog ≡ reading_verdict M N r → IsScoped prog
read_scoped M N text prog (sentences ss) h e =
    accepted_scoped N ss (first_refusal M N (map (λ s. s.term) ss) (map (λ s. s.term) ss)) prog e
    (record {
      clauses = clauses_scoped N ss (terms_below_names ss (each_below text ss h));
      queries = queries_scoped N ss (terms_below_names ss (each_below text ss h));
    })
read_scoped _ _ text prog _ h e = absurd (cc)

pub not_accepted : (p : ℕ) (reason : List ℕ) (prog : Program) → accepted prog ≡ refused p reason → ⊥
not_accepted p reason prog e = cc

pub scoped_program : ScopedProgram
scoped_program M N text prog (inl h) = absurd (not_accepted _ _ prog h.1)
scoped_program M N text prog (inr (inl h)) = absurd (not_accepted _ _ prog h.2)
scoped_program M N text prog (inr (inr h)) = read_scoped M N text prog h.2.0 h.2.1 h.2.2
