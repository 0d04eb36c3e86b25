-- The code of a goal that is no A ; B takes that goal.
use Rattle.std.proofs.Common.{◌≡◌, ℕ, zero, suc, ◌<◌, ◌==◌, not, Bool, true, false, if◌then◌else◌, List, [], ◌∷◌, map, filter, All, length, get_or, refl, sym}
use Rattle.std.proofs.Common.{subst, arith}
use Rattle.std.proofs.lemmas.Option.{slice_get_within}
use Rattle.fd_language.specs.Lists.{Each}
use Rattle.fd_language.specs.Occurrences.{Occurrence, range_occurrences}
use Rattle.fd_language.specs.Needs.{once}
use Rattle.fd_language.specs.Range.{Range}
use Rattle.fd_language.specs.Term.{Name, Term, Terms, Var, Int, Atom, Comp, no_terms, term, term_count}
use Rattle.fd_model.specs.Goal as goal
use Rattle.fd_model.specs.ConstraintExpansion.{arguments}
use Rattle.fd_model.specs.RunnablePrograms.{GoalBelow, RangeBelow}
use Rattle.range_code.specs.Slots.{slots_of}
use Rattle.term_pool.specs.Contents.{Contents}
use Rattle.term_pool.specs.Terms.{term_of}
use Rattle.term_pool.specs.PoolInvariant.{IsPool}
use Rattle.clause_check.specs.declared.program.FlatGoal.{FlatGoal}
use Rattle.clause_check.specs.declared.program.FlatGoal.TheVariants as flat
use Rattle.clause_check.specs.Programs.{FlatProgram, range_at, goal_in, HasArguments, IsGoal}
use Rattle.wam_code.specs.declared.instruction.Register.{Register}
use Rattle.wam_code.specs.declared.instruction.Code.{Code}
use Rattle.wam_code.specs.declared.instruction.Code.TheVariants.{Call, Builtin, Constrain}
use Rattle.fd_model.specs.Arities.{constraint_arity, builtin_arity}
use Rattle.wam_code.specs.Places.{made}
use Rattle.clause_code.specs.Pieces.{Base, Predicate}
use Rattle.clause_code.specs.CodablePrograms.{IsNarrow, IsCodableGoal}
use Rattle.clause_code.specs.Predicates.{base_in}
use Rattle.clause_code.specs.Steps.{Suits, AllSuit}
use Rattle.clause_code.specs.Bodies.{Levels, AreFree, IsGoalsCode}
use Rattle.clause_code.specs.SimpleGoals.{variables, AreMade, loads, posted_terms, IsSimpleCode, IsWritable}
use Rattle.clause_code.proofs.FreshVariables.{AreApart}
use Rattle.clause_code.proofs.Bodies.{Fine}
use Rattle.clause_code.proofs.GoalKinds.{OnlySlots, goal_true, goal_fail, goal_unify, goal_builtin, goal_constrain, goal_label, goal_post, goal_call, goal_best}
use Rattle.clause_code.proofs.PreservedRegisters.{slots_land}
use Rattle.clause_code.proofs.CodableTerms.{term_suits}

-- ---- the variables of a range

each_filter : (P : ℕ → Type 0) (p : ℕ → Bool) (xs : List ℕ) → Each P xs → Each P (filter p xs)
each_filter P p [] h = tt
each_filter P p (x ∷ xs) h = by (p x) (each_filter P p xs h.1)
  where
    by : (c : Bool) → Each P (filter p xs) → Each P (if c then x ∷ filter p xs else filter p xs)
    by true g = (h.0, g)
    by false g = g

each_once : (P : ℕ → Type 0) (xs : List ℕ) → Each P xs → Each P (once xs)
each_once P [] h = tt
each_once P (x ∷ xs) h = (h.0, each_filter P (λ y. not (y == x)) (once xs) (each_once P xs h.1))

each_occurrence : (v : ℕ) (ps : List Occurrence) → Each (λ p. p.variable < v) ps → Each (λ y. y < v) (map (λ p. p.variable) ps)
each_occurrence v [] h = tt
each_occurrence v (p ∷ ps) h = (h.0, each_occurrence v ps h.1)

all_each : (v : ℕ) (xs : List ℕ) → Each (λ y. y < v) xs → (k : ℕ) (d : ℕ) → k < length xs → get_or xs k d < v
all_each v [] h k d l = absurd (omega (arith, l))
all_each v (x ∷ xs) h zero d l = h.0
all_each v (x ∷ xs) h (suc k) d l = all_each v xs h.1 k d (omega (arith, l))

slots_below : (v : ℕ) (r : Range) → RangeBelow v r → All (λ y. y < v) (slots_of r)
slots_below v r h = all_each v (slots_of r) (each_once (λ y. y < v) (map (λ p. p.variable) (range_occurrences r)) (each_occurrence v (range_occurrences r) h))

-- A goal of the program can be written.
pub is_writable : (p : FlatProgram) → IsPool p.pool → (v n : ℕ) (g : FlatGoal) → IsGoal p.pool (length p.ranges) n g → GoalBelow v (goal_in p g) → IsCodableGoal (goal_in p g) → IsWritable p v g
is_writable p valid v n flat.True o b c = tt
is_writable p valid v n flat.Fail o b c = tt
is_writable p valid v n (flat.Unify s t) o b c = ((o.0, term_suits p.pool valid v s o.0 b.0 c.0), (o.1, term_suits p.pool valid v t o.1 b.1 c.1))
is_writable p valid v n (flat.Post t r) o b c = ((o.0, term_suits p.pool valid v t o.0 b.0 c), o.1, slots_below v (range_at p r) b.1)
is_writable p valid v n (flat.Constrain k t) o b c = (o.0, term_suits p.pool valid v t o.0 b c)
is_writable p valid v n (flat.Label k t) o b c = (o, term_suits p.pool valid v t o b c)
is_writable p valid v n (flat.Call t) o b c = (o.0, term_suits p.pool valid v t o.0 b c)
is_writable p valid v n (flat.Builtin k t) o b c = (o.0, term_suits p.pool valid v t o.0 b c.1)
is_writable p valid v n (flat.Best k least t u) o b c = ((o.0, term_suits p.pool valid v t o.0 b.0 c.0), (o.1, term_suits p.pool valid v u o.1 b.1 c.1))
is_writable p valid v n _ o b c = tt

-- ---- what it does

-- a goal with so many arguments
record Named (k : ℕ) (t : Term) : Type 0 where
  name : Name
  is : made name (arguments t) ≡ t
  many : term_count (arguments t) ≡ k

named : (k : ℕ) (t : Term) → HasArguments k t → IsNarrow t → Named k t
named k (Var x) h w = absurd h
named k (Int z) h w = absurd h
named k (Atom a) h w = record { name = a; is = refl; many = sym h }
named k (Comp f no_terms) h w = let l = w.0 in absurd (omega (arith, l))
named k (Comp f (term t ts)) h w = record { name = f; is = refl; many = h }

pub arguments_suit : (c : Contents) (v : ℕ) (t : Term) → Suits c v t → AllSuit c v (arguments t)
arguments_suit c v (Var x) s = tt
arguments_suit c v (Int z) s = tt
arguments_suit c v (Atom a) s = tt
arguments_suit c v (Comp f ts) s = s.3

variables_suit : (c : Contents) (v : ℕ) (ys : List ℕ) → ((k d : ℕ) → k < length ys → get_or ys k d < v) → AllSuit c v (variables ys)
variables_suit c v [] h = tt
variables_suit c v (y ∷ ys) h = (h 0 0 (omega arith), variables_suit c v ys (λ k d l. h (suc k) d (omega (arith, l))))

module _ (p : FlatProgram) (ps : List Predicate) (homes : List Register) (apart : AreApart homes) (l : Levels) (fits : AreFree homes l) (only : OnlySlots homes)
    (made_now : List Bool) (all : AreMade made_now) (long : length made_now ≡ length homes) (at : ℕ) where
  abbrev b : Base
  b = base_in p ps

  fine : (ts : Terms) → AllSuit p.pool (length homes) ts → Fine b homes (suc (term_count ts)) ts
  fine ts s = record { suit = s; below = omega arith; lands = slots_land homes only 1 ts; clear = λ j l x k e. only x k j e }

  pub simple_goal : (n : ℕ) (g : FlatGoal) (is : List Code) → IsGoal p.pool (length p.ranges) n g → IsWritable p (length homes) g → IsCodableGoal (goal_in p g)
      → IsSimpleCode p ps homes made_now g is → IsGoalsCode b homes true l at is (goal_in p g ∷ [])
  simple_goal n flat.True is o w c e = subst (λ j. IsGoalsCode b homes true l at j (goal.True ∷ [])) (sym e) (goal_true b homes apart l fits true made_now 1 at (λ x l. all x) long (fine no_terms tt))
  simple_goal n flat.Fail is o w c e = subst (λ j. IsGoalsCode b homes true l at j (goal.Fail ∷ [])) (sym e) (goal_fail b homes apart l fits true made_now 1 at (λ x l. all x) long (fine no_terms tt))
  simple_goal n (flat.Unify s t) is o w c e =
      let x : Term = term_of p.pool s in
      let y : Term = term_of p.pool t in
      let ts : Terms = term x (term y no_terms) in
      subst (λ j. IsGoalsCode b homes true l at j (goal.Unify x y ∷ [])) (sym e)
      (goal_unify b homes apart l fits true made_now (suc (term_count ts)) at (λ x l. all x) long x y (fine ts (w.0.1, (w.1.1, tt))))
  simple_goal n (flat.Post t r) is o w c e =
      let ts : Terms = posted_terms p t r in
      subst (λ j. IsGoalsCode b homes true l at j (goal.Post (term_of p.pool t) (range_at p r) ∷ [])) (sym e)
      (goal_post b homes apart l fits true made_now (suc (term_count ts)) at (λ x l. all x) long (term_of p.pool t) r w.1
      (fine ts (w.0.1, variables_suit p.pool (length homes) (slots_of (range_at p r)) w.2)))
  simple_goal n (flat.Constrain k t) is o w c e =
      let u : Term = term_of p.pool t in
      let d = named (constraint_arity k) u o.1 c in
      subst (λ j. IsGoalsCode b homes true l at j (goal.Constrain k u ∷ [])) (sym e)
      (subst (λ v. IsGoalsCode b homes true l at (loads p.pool homes made_now (arguments u) (Constrain k)) (goal.Constrain k v ∷ [])) d.is
      (goal_constrain b homes apart l fits true made_now (suc (term_count (arguments u))) at (λ x l. all x) long k d.name (arguments u) d.many
      (fine (arguments u) (arguments_suit p.pool (length homes) u w.1))))
  simple_goal n (flat.Label k t) is o w c e =
      let u : Term = term_of p.pool t in
      subst (λ j. IsGoalsCode b homes true l at j (goal.Label k u ∷ [])) (sym e) (goal_label b homes apart l fits true made_now 2 at (λ x l. all x) long k u (fine (term u no_terms) (w.1, tt)))
  simple_goal n (flat.Call t) is o w c e =
      let u : Term = term_of p.pool t in
      let s : Predicate = e.1 in
      subst (λ j. IsGoalsCode b homes true l at j (goal.Call u ∷ [])) (sym e.4)
      (subst (λ v. IsGoalsCode b homes true l at (loads p.pool homes made_now (arguments u) (Call e.0)) (goal.Call v ∷ [])) (sym e.3.name)
      (goal_call b homes apart l fits made_now (suc (term_count (arguments u))) at (λ x l. all x) long only e.0 s (arguments u) e.2 e.3.arity
      (slice_get_within ps e.0 s e.2) (fine (arguments u) (arguments_suit p.pool (length homes) u w.1))))
  simple_goal n (flat.Builtin k t) is o w c e =
      let u : Term = term_of p.pool t in
      let d = named (builtin_arity k) u o.1 c.1 in
      subst (λ j. IsGoalsCode b homes true l at j (goal.Builtin k u ∷ [])) (sym e)
      (subst (λ v. IsGoalsCode b homes true l at (loads p.pool homes made_now (arguments u) (Builtin k)) (goal.Builtin k v ∷ [])) d.is
      (goal_builtin b homes apart l fits true made_now (suc (term_count (arguments u))) at (λ x l. all x) long k d.name (arguments u) c.0 d.many
      (fine (arguments u) (arguments_suit p.pool (length homes) u w.1))))
  simple_goal n (flat.Best k least t u) is o w c e =
      let x : Term = term_of p.pool t in
      let y : Term = term_of p.pool u in
      let ts : Terms = term x (term y no_terms) in
      subst (λ j. IsGoalsCode b homes true l at j (goal.Best k least x y ∷ [])) (sym e)
      (goal_best b homes apart l fits true made_now (suc (term_count ts)) at (λ x l. all x) long k least x y (fine ts (w.0.1, (w.1.1, tt))))
  simple_goal n _ is o w c e = absurd e
