-- The functors of a program, as they are gathered.
use Rattle.std.proofs.Common.{◌≡◌, ℕ, zero, suc, ◌+◌, ◌<◌, ◌≤◌, Bool, true, false, if◌then◌else◌, ◌||◌, List, [], ◌∷◌, ◌++◌, map, Option, Some, None, ℤ, is_some, IfNone}
use Rattle.std.proofs.Common.{option_map, length, slice_get, refl, ap, ap₂, sym, ◌∙◌, subst, arith, inl, inr}
use Rattle.std.specs.List.{list_any}
use Rattle.std.proofs.lemmas.Bool.{true≢false, cases_eq}
use Rattle.std.proofs.lemmas.Option.{slice_get-map}
use Rattle.fd_language.specs.Term.{Name, Term, Terms, Var, Int, Atom, Comp, no_terms, term, term_count}
use Rattle.fd_model.specs.ConstraintExpansion.{arguments}
use Rattle.term_pool.specs.declared.AtomId.{AtomId}
use Rattle.term_pool.specs.declared.TermId.{TermId}
use Rattle.term_pool.specs.Contents.{Contents, atom_name}
use Rattle.term_pool.specs.PoolInvariant.{IsPool}
use Rattle.term_pool.specs.Terms.{term_of, terms_by}
use Rattle.indexmap.specs.IndexSet.{insert_key}
use Rattle.clause_check.specs.declared.program.FlatGoal.{FlatGoal}
use Rattle.clause_check.specs.declared.program.FlatGoal.TheVariants.{Call}
use Rattle.clause_check.specs.Programs.{FlatProgram, clause_at, goal_at, no_clause, IsNamed, IsProgram}
use Rattle.wam_code.specs.Places.{made}
use Rattle.clause_code.specs.Pieces.{Predicate}
use Rattle.clause_code.specs.Predicates.{predicate_in, IsOfOne, IsCallOfOne, ArePredicates, HasFunctor, HasOne, AreFunctors, Gathers, Gathered}
use Rattle.clause_code.specs.SimpleGoals.{IsCalled}
use Rattle.clause_code.specs.Steps.{atom_of, Suits}
use Rattle.clause_code.specs.declared.predicates.Functor.{Functor}
use Rattle.clause_code.proofs.Numbers.{same_functor, same_means, functor_itself}
use Rattle.clause_code.proofs.StateFlow.{get_last, get_only, get_both, into_left}
use Rattle.clause_code.proofs.Rests.{count_terms}
use Rattle.clause_code.proofs.FramedClauses.{known_of}

-- ---- the functor of a term

compound_made : (f : Name) (ts : Terms) → 1 ≤ term_count ts → Comp f ts ≡ made f ts
compound_made f no_terms l = absurd (omega (arith, l))
compound_made f (term t ts) l = refl

pub compound_functor : (c : Contents) (t : Term) (a : AtomId) (ids : List TermId) (n : ℕ) → t ≡ Comp (atom_name c a) (terms_by (term_of c) ids)
    → a.number < length c.names → n ≡ length ids → 1 ≤ n → n ≤ 255 → HasFunctor c t (record { name = a; arity = n })
compound_functor c t a ids n e l k low high =
    let ts : Terms = terms_by (term_of c) ids in
    let m = count_terms (term_of c) ids in record {
      of = record {
        name = e ∙ compound_made (atom_name c a) ts (omega (arith, m, k, low)) ∙ ap (made (atom_name c a)) (sym (ap arguments e));
        arity = ap (λ u. term_count (arguments u)) e ∙ m ∙ sym k;
      };
      own = l;
      few = high;
    }

-- Neither a variable nor an integer has one, nor has a compound term without arguments or with too many.
made_other : (f : Name) (ts : Terms) (x : ℕ) → Var x ≡ made f ts → ⊥
made_other f no_terms x e = cc
made_other f (term t ts) x e = cc

made_integer : (f : Name) (ts : Terms) (z : ℤ) → Int z ≡ made f ts → ⊥
made_integer f no_terms z e = cc
made_integer f (term t ts) z e = cc

pub variable_functor : (c : Contents) (t : Term) (x : ℕ) → t ≡ Var x → (f : Functor) → HasFunctor c t f → ⊥
variable_functor c t x e f h = let o = h.of in made_other (atom_name c f.name) (arguments t) x (sym e ∙ o.name)

pub integer_functor : (c : Contents) (t : Term) (z : ℤ) → t ≡ Int z → (f : Functor) → HasFunctor c t f → ⊥
integer_functor c t z e f h = let o = h.of in made_integer (atom_name c f.name) (arguments t) z (sym e ∙ o.name)

empty_made : (a f : Name) (ts : Terms) → term_count ts ≡ 0 → Comp a ts ≡ made f ts → ⊥
empty_made a f no_terms k e = cc
empty_made a f (term t ts) k e = omega (arith, k)

pub compound_without : (c : Contents) (t : Term) (a : AtomId) (ids : List TermId) → t ≡ Comp (atom_name c a) (terms_by (term_of c) ids)
    → ((1 ≤ length ids) × (length ids ≤ 255) → ⊥) → (f : Functor) → HasFunctor c t f → ⊥
compound_without c t a ids e outside f h =
    let ts : Terms = terms_by (term_of c) ids in
    let o = h.of in
    let few = h.few in
    let m : term_count ts ≡ length ids = count_terms (term_of c) ids in
    let k : term_count ts ≡ f.arity = ap (λ u. term_count (arguments u)) (sym e) ∙ o.arity in
    by (term_count ts) refl
    (λ z. empty_made (atom_name c a) (atom_name c f.name) ts z (sym e ∙ o.name ∙ ap (λ u. made (atom_name c f.name) (arguments u)) e))
    (λ z. outside (omega (arith, z, m), omega (arith, k, m, few)))
  where
    by : (n : ℕ) → term_count (terms_by (term_of c) ids) ≡ n → (term_count (terms_by (term_of c) ids) ≡ 0 → ⊥) → (1 ≤ term_count (terms_by (term_of c) ids) → ⊥) → ⊥
    by zero z none some = none z
    by (suc n) z none some = some (omega (arith, z))

-- A term has one alone.
same_name : (f g : Name) (ts : Terms) → made f ts ≡ made g ts → f ≡ g
same_name f g no_terms e = cc
same_name f g (term t ts) e = cc

abbrev functor_named : AtomId → ℕ → Functor
functor_named n m = record { name = n; arity = m }

one_functor : (c : Contents) (t : Term) (f g : Functor) → IsPool c → HasFunctor c t f → HasFunctor c t g → f ≡ g
one_functor c t f g valid h k =
    let a = h.of in
    let b = k.of in
    let names : f.name ≡ g.name =
    valid.distinct f.name g.name h.own k.own (same_name (atom_name c f.name) (atom_name c g.name) (arguments t) (sym a.name ∙ b.name)) in
    ap₂ functor_named names (sym a.arity ∙ b.arity)

pub some_functor : (c : Contents) (t : Term) (r : Option Functor) → (f : Functor) × HasFunctor c t f → IfNone r ((f : Functor) → HasFunctor c t f → ⊥) → is_some r ≡ true
some_functor c t None w none = absurd (none w.0 w.1)
some_functor c t (Some f) w none = refl

-- Heads have one.
suiting_functor : (c : Contents) (v : ℕ) (t : Term) → IsNamed t → Suits c v t → (f : Functor) × HasFunctor c t f
suiting_functor c v (Var x) n s = absurd n.1
suiting_functor c v (Int z) n s = absurd n.1
suiting_functor c v (Atom a) n s = (functor_named (atom_of c a) 0, record { of = record { name = ap Atom (sym s.name); arity = refl }; own = s.within; few = omega arith })
suiting_functor c v (Comp a no_terms) n s = let l = s.1 in absurd (omega (arith, l))
suiting_functor c v (Comp a (term t ts)) n s =
    let k = s.0 in
    (functor_named (atom_of c a) (suc (term_count ts)), record { of = record { name = ap (λ b. Comp b (term t ts)) (sym k.name); arity = refl }; own = k.within; few = s.2 })

pub head_functor : (p : FlatProgram) → IsProgram p → (c : ℕ) → c < length p.clauses → (f : Functor) × HasFunctor p.pool (term_of p.pool (clause_at p c).head) f
head_functor p valid c low =
    let k = valid.clauses c no_clause low in
    suiting_functor p.pool (clause_at p c).variables (term_of p.pool (clause_at p c).head) k.named (known_of p valid c low).suits

-- ---- the number of a user goal's predicate

pub call_functor : (c : Contents) (ps : List Predicate) (t : Term) → IsCallOfOne c ps t → (f : Functor) × HasFunctor c t f × (n : ℕ) × (slice_get ps n ≡ Some (predicate_in f))
call_functor c ps t one = let (n, s, g, o, own, few) = one in (functor_named s.name s.arity, record { of = o; own = own; few = few }, n, g)

pub some_number : (c : Contents) (ps : List Predicate) (t : Term) (f : Functor) (r : Option ℕ) → IsPool c → IsCallOfOne c ps t → HasFunctor c t f
    → IfNone r ((n : ℕ) → slice_get ps n ≡ Some (predicate_in f) → ⊥) → is_some r ≡ true
some_number c ps t f None valid one h none =
    let w = call_functor c ps t one in
    absurd (none w.2 (w.3 ∙ ap (λ (g : Functor). Some (predicate_in g)) (one_functor c t w.0 f valid w.1 h)))
some_number c ps t f (Some n) valid one h none = refl

-- The goals of a program are of one of its predicates.
pub call_of_one : (p : FlatProgram) (ps : List Predicate) → ArePredicates p ps → (i : ℕ) (t : TermId) → i < length p.goals → goal_at p i ≡ Call t
    → IsCallOfOne p.pool ps (term_of p.pool t)
call_of_one p ps all i t l e = let (n, s, g, o) = all.calls i t l e in (n, s, g, o, all.atoms n s g, all.narrow n s g)

pub is_called : (p : FlatProgram) (ps : List Predicate) → ArePredicates p ps → (i : ℕ) (g : FlatGoal) → i < length p.goals → goal_at p i ≡ g → IsCalled p ps g
is_called p ps all i (Call t) l e = call_of_one p ps all i t l e
is_called p ps all i _ l e = tt

-- ---- one more functor

none_same : (f : Functor) (fs : List Functor) → list_any (same_functor f) fs ≡ false → (n : ℕ) → slice_get fs n ≡ Some f → ⊥
none_same f [] e n h = cc
none_same f (g ∷ fs) e zero h =
    let same : g ≡ f = cc in
    let t : same_functor f g ≡ true = ap (same_functor f) same ∙ functor_itself f in
    hit (same_functor f g) t e
  where
    hit : (c : Bool) → c ≡ true → (c || list_any (same_functor f) fs) ≡ false → ⊥
    hit true k h = true≢false h
    hit false k h = true≢false (sym k)
none_same f (g ∷ fs) e (suc n) h = none_same f fs (rest (same_functor f g) e) n h
  where
    rest : (c : Bool) → (c || list_any (same_functor f) fs) ≡ false → list_any (same_functor f) fs ≡ false
    rest true k = absurd (true≢false k)
    rest false k = k

there_same : (f : Functor) (fs : List Functor) → list_any (same_functor f) fs ≡ true → (n : ℕ) × (slice_get fs n ≡ Some f)
there_same f [] e = absurd (true≢false (sym e))
there_same f (g ∷ fs) e = by (there_same f fs) (same_functor f g) refl e
  where
    by : (list_any (same_functor f) fs ≡ true → (n : ℕ) × (slice_get fs n ≡ Some f)) → (c : Bool) → same_functor f g ≡ c
        → (c || list_any (same_functor f) fs) ≡ true → (n : ℕ) × (slice_get (g ∷ fs) n ≡ Some f)
    by rest true h k = (0, ap Some (sym (same_means f g h)))
    by rest false h k = let w = rest k in (suc w.0, w.1)

with_last : (c : Contents) (t : Term) (f : Functor) (fs : List Functor) → HasFunctor c t f → list_any (same_functor f) fs ≡ false → AreFunctors c fs → AreFunctors c (fs ++ (f ∷ []))
with_last c t f fs h e w = record {
  apart = λ n m g a b. elim (get_both fs (f ∷ []) n g a) [
    | inl x ↦ elim (get_both fs (f ∷ []) m g b) [
      | inl y ↦ w.apart n m g x y
      | inr y ↦ absurd (none_same f fs e n (x ∙ ap Some (sym (get_only y.0 f g y.2).1)))
    ]
    | inr x ↦ elim (get_both fs (f ∷ []) m g b) [
      | inl y ↦ absurd (none_same f fs e m (y ∙ ap Some (sym (get_only x.0 f g x.2).1)))
      | inr y ↦ let j = x.1 in let k = y.1 in let p = (get_only x.0 f g x.2).0 in let q = (get_only y.0 f g y.2).0 in omega (arith, j, k, p, q)
    ]
  ];
  own = λ n g a. elim (get_both fs (f ∷ []) n g a) [
    | inl x ↦ w.own n g x
    | inr x ↦ subst (λ (k : Functor). k.name.number < length c.names) (get_only x.0 f g x.2).1 h.own
  ];
  few = λ n g a. elim (get_both fs (f ∷ []) n g a) [
    | inl x ↦ w.few n g x
    | inr x ↦ subst (λ (k : Functor). k.arity ≤ 255) (get_only x.0 f g x.2).1 h.few
  ];
}

pub gathers : (c : Contents) (t : Term) (f : Functor) (old new : List Functor) → HasFunctor c t f → new ≡ insert_key same_functor old f → Gathers c t old new
gathers c t f old new h e = by (list_any (same_functor f) old) refl e
  where
    by : (b : Bool) → list_any (same_functor f) old ≡ b → new ≡ (if b then old else old ++ (f ∷ [])) → Gathers c t old new
    by true k g =
        let w = there_same f old k in
        subst (Gathers c t old) (sym g) (record { kept = λ n x y. y; one = (w.0, f, w.1, h); functors = λ x. x })
    by false k g = subst (Gathers c t old) (sym g) (record {
      kept = λ n x y. into_left old (f ∷ []) n x y;
      one = (length old, f, get_last old f, h);
      functors = λ x. with_last c t f old h k x;
    })

-- ---- all of them

still : (c : Contents) (t u : Term) (old new : List Functor) → Gathers c t old new → HasOne c old u → HasOne c new u
still c t u old new g h = (h.0, h.1, g.kept h.0 h.1 h.2, h.3)

pub one_head : (p : FlatProgram) (c : ℕ) (old new : List Functor) → Gathers p.pool (term_of p.pool (clause_at p c).head) old new → Gathered p c 0 old → Gathered p (c + 1) 0 new
one_head p c old new g w = record {
  functors = g.functors w.functors;
  of_heads = λ k l. elim (cases_eq k c) [
    | inl e ↦ subst (λ j. HasOne p.pool new (term_of p.pool (clause_at p j).head)) (sym e) g.one
    | inr d ↦ still p.pool (term_of p.pool (clause_at p c).head) (term_of p.pool (clause_at p k).head) old new g (w.of_heads k (omega (arith, l, d)))
  ];
  of_calls = λ i t l e. absurd (omega (arith, l));
}

pub one_call : (p : FlatProgram) (heads i : ℕ) (t : TermId) (old new : List Functor) → goal_at p i ≡ Call t → Gathers p.pool (term_of p.pool t) old new
    → Gathered p heads i old → Gathered p heads (i + 1) new
one_call p heads i t old new is g w = record {
  functors = g.functors w.functors;
  of_heads = λ k l. still p.pool (term_of p.pool t) (term_of p.pool (clause_at p k).head) old new g (w.of_heads k l);
  of_calls = λ k u l e. elim (cases_eq k i) [
    | inl s ↦ let same : Call t ≡ Call u = sym is ∙ ap (goal_at p) (sym s) ∙ e in let one : t ≡ u = cc in subst (λ x. HasOne p.pool new (term_of p.pool x)) one g.one
    | inr d ↦ still p.pool (term_of p.pool t) (term_of p.pool u) old new g (w.of_calls k u (omega (arith, l, d)) e)
  ];
}

-- ---- as predicates

abbrev functor_by : ℕ → ℕ → Functor
functor_by n k = record { name = record { number = n }; arity = k }

back : (fs : List Functor) (n : ℕ) (s : Predicate) → slice_get (map predicate_in fs) n ≡ Some s → (f : Functor) × (slice_get fs n ≡ Some f) × (predicate_in f ≡ s)
back fs n s e = by (slice_get fs n) refl (sym (slice_get-map predicate_in fs n) ∙ e)
  where
    by : (o : Option Functor) → slice_get fs n ≡ o → option_map predicate_in o ≡ Some s → (f : Functor) × (slice_get fs n ≡ Some f) × (predicate_in f ≡ s)
    by None g h = absurd (cc)
    by (Some f) g h = let k : predicate_in f ≡ s = cc in (f, g, k)

same_back : (f g : Functor) (s : Predicate) → predicate_in f ≡ s → predicate_in g ≡ s → f ≡ g
same_back f g s a b =
    let e : predicate_in f ≡ predicate_in g = a ∙ sym b in
    ap₂ functor_by (ap (λ (x : Predicate). x.name.number) e) (ap (λ (x : Predicate). x.arity) e)

one_of : (c : Contents) (fs : List Functor) (t : Term) → HasOne c fs t → IsOfOne c (map predicate_in fs) t
one_of c fs t h = (h.0, predicate_in h.1, slice_get-map predicate_in fs h.0 ∙ ap (option_map predicate_in) h.2, h.3.of)

pub predicates_gathered : (p : FlatProgram) (fs : List Functor) (ps : List Predicate) → ps ≡ map predicate_in fs → Gathered p (length p.clauses) (length p.goals) fs → ArePredicates p ps
predicates_gathered p fs ps e w = subst (ArePredicates p) (sym e) (record {
  heads = λ c l. one_of p.pool fs (term_of p.pool (clause_at p c).head) (w.of_heads c l);
  calls = λ i t l g. one_of p.pool fs (term_of p.pool t) (w.of_calls i t l g);
  apart = λ n m s a b.
      let x = back fs n s a in
      let y = back fs m s b in
      let same : x.0 ≡ y.0 = same_back x.0 y.0 s x.2 y.2 in
      w.functors.apart n m x.0 x.1 (y.1 ∙ ap Some (sym same));
  atoms = λ n s a. let x = back fs n s a in subst (λ (k : Predicate). k.name.number < length p.pool.names) x.2 (w.functors.own n x.0 x.1);
  narrow = λ n s a. let x = back fs n s a in subst (λ (k : Predicate). k.arity ≤ 255) x.2 (w.functors.few n x.0 x.1);
})
