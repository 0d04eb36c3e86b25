-- The goals in front of one, and what is warned of behind them, with one more goal.
use Rattle.std.proofs.Common.{◌⊎◌, inl, inr, ℤ}
use Rattle.std.proofs.Common.{◌≡◌, ℕ, ◌+◌, ◌<◌, Bool, true, false, List, [], ◌∷◌, ◌++◌, Option, length, map, take, get_or, refl, sym, ap, ap₂, ◌∙◌, subst, append_assoc, append-nil}
use Rattle.std.specs.Prelude.{◌||◌, nat_eq, IfSome}
use Rattle.std.specs.List.{list_any, flat_map}
use Rattle.std.specs.Option.{option_to_list}
use Rattle.std.proofs.lemmas.List.{take_more, map-append}
use Rattle.std.proofs.lemmas.List.Folds.{list_any-append}
use Rattle.std.proofs.lemmas.Bool.{eqb-true}
use Rattle.fd_language.specs.Term.{Name}
use Rattle.fd_language.specs.PlacedTerm.{PlacedTerm}
use Rattle.term_pool.specs.declared.AtomId.{AtomId}
use Rattle.term_pool.specs.declared.TermId.{TermId}
use Rattle.term_pool.specs.Contents.{Contents, atom_name}
use Rattle.term_pool.specs.PlacedTerms.{placed_of, parts_by}
use Rattle.term_pool.specs.declared.Node.{Node}
use Rattle.term_pool.specs.declared.Node.TheVariants as nodes
use Rattle.term_pool.specs.PoolInvariant.{shape_of}
use Rattle.text_warnings.specs.Terms.{IsSeen}
use Rattle.text_warnings.specs.Numbers.{is_in}
use Rattle.text_warnings.specs.Warnings as warnings
use Rattle.text_warnings.specs.OpenVariables as model
use Rattle.text_warnings.specs.OpenVariables.{occurrences, occurrences_in, numbers_of, is_mixed, is_open, open_named, open_concern, with_tied, with_given, with_goal, role_of, goal_warnings, warnings_behind, nothing_passed}
use Rattle.text_warnings.specs.OpenViews.{open_all, IsOpenWarning, IsPassed, PassesGoal}
use Rattle.text_warnings.specs.WarningViews.{Adds, IsWarningWithin}
use Rattle.text_warnings.specs.declared.Warning.{Warning}
use Rattle.text_warnings.specs.declared.occurrences.Occurrence.{Occurrence}
use Rattle.text_warnings.specs.declared.open_variables.Passed.{Passed}
use Rattle.text_warnings.proofs.AddedWarnings.{adds_then, adds_some, flat_map_push}
use Rattle.text_warnings.proofs.Walks.{ahead_of}

-- the variables of a term's parts
pub variables_of_parts : (c : Contents) (ids : List TermId) → occurrences_in (parts_by (placed_of c) ids) ≡ ahead_of c occurrences ids
variables_of_parts c [] = refl
variables_of_parts c (t ∷ ts) = ap (λ (l : List Occurrence). l ++ occurrences (placed_of c t)) (variables_of_parts c ts)

-- integers and atoms have none
pub no_variables : (c : Contents) (t : TermId) (m : Node) → IsSeen c t (shape_of m) → ((z : ℤ) × (m ≡ nodes.Int z)) ⊎ ((a : AtomId) × (m ≡ nodes.Atom a)) → occurrences (placed_of c t) ≡ []
no_variables c t m s (inl k) = ap occurrences (subst (λ (w : Node). IsSeen c t (shape_of w)) k.1 s)
no_variables c t m s (inr k) = ap occurrences (subst (λ (w : Node). IsSeen c t (shape_of w)) k.1 s)

-- ---- numbers in two lists

any_same : (p q : ℕ → Bool) → ((n : ℕ) → p n ≡ q n) → (ns : List ℕ) → list_any p ns ≡ list_any q ns
any_same p q h [] = refl
any_same p q h (n ∷ ns) = ap₂ (λ (a b : Bool). a || b) (h n) (any_same p q h ns)

swapped : (a b c d : Bool) → ((a || b) || (c || d)) ≡ ((a || c) || (b || d))
swapped true b c d = refl
swapped false true true d = refl
swapped false true false d = refl
swapped false false c d = refl

any_either : (p q : ℕ → Bool) (ns : List ℕ) → list_any (λ n. p n || q n) ns ≡ (list_any p ns || list_any q ns)
any_either p q [] = refl
any_either p q (n ∷ ns) = ap (λ (b : Bool). (p n || q n) || b) (any_either p q ns) ∙ swapped (p n) (q n) (list_any p ns) (list_any q ns)

none_in : (ns : List ℕ) → list_any (is_in []) ns ≡ false
none_in [] = refl
none_in (n ∷ ns) = none_in ns

eq_turned : (m n : ℕ) → nat_eq m n ≡ nat_eq n m
eq_turned m n = by (nat_eq m n) (nat_eq n m) refl refl
  where
    by : (a b : Bool) → nat_eq m n ≡ a → nat_eq n m ≡ b → nat_eq m n ≡ nat_eq n m
    by true b e k = let same = eqb-true m n e in ap₂ nat_eq same (sym same)
    by false true e k = let same = eqb-true n m k in ap₂ nat_eq (sym same) same
    by false false e k = e ∙ sym k

-- some number of the one is in the other
any_turned : (ms ns : List ℕ) → list_any (is_in ms) ns ≡ list_any (is_in ns) ms
any_turned [] ns = none_in ns
any_turned (m ∷ ms) ns =
    any_either (λ n. nat_eq n m) (is_in ms) ns
    ∙ ap₂ (λ (a b : Bool). a || b) (any_same (λ n. nat_eq n m) (nat_eq m) (λ n. eq_turned n m) ns) (any_turned ms ns)

in_append : (ms ns : List ℕ) (n : ℕ) → is_in (ms ++ ns) n ≡ (is_in ms n || is_in ns n)
in_append ms ns n = list_any-append (nat_eq n) ms ns

-- ---- what is passed

-- a constraint's variables
pub tied_passed : (s : model.Passed) (p q : Passed) (os : List Occurrence) (t : PlacedTerm) → os ≡ occurrences t
    → ((n : ℕ) → is_in q.tied.keys n ≡ (is_in p.tied.keys n || is_in (numbers_of os) n)) → q.given.keys ≡ p.given.keys
    → q.mixed ≡ (p.mixed || list_any (is_in p.given.keys) (numbers_of os)) → IsPassed s p → IsPassed (with_tied s t) q
tied_passed s p q os t e more kept mix h =
    let ns = numbers_of (occurrences t) in
    let is : numbers_of os ≡ ns = ap numbers_of e in
    record {
      tied = λ n. more n ∙ ap₂ (λ (a : Bool) (l : List ℕ). a || is_in l n) (h.tied n) is ∙ sym (in_append s.tied ns n);
      given = λ n. ap (λ (l : List ℕ). is_in l n) kept ∙ h.given n;
      mixed = mix ∙ ap₂ (λ (a : Bool) (l : List ℕ). a || list_any (is_in p.given.keys) l) h.mixed is
          ∙ ap (λ (b : Bool). is_mixed s || b) (any_same (is_in p.given.keys) (is_in s.given) h.given ns) ∙ sym (list_any-append (is_in s.given) s.tied ns);
    }

-- those that may get values
pub given_passed : (s : model.Passed) (p q : Passed) (os : List Occurrence) (t : PlacedTerm) → os ≡ occurrences t
    → ((n : ℕ) → is_in q.given.keys n ≡ (is_in p.given.keys n || is_in (numbers_of os) n)) → q.tied.keys ≡ p.tied.keys
    → q.mixed ≡ (p.mixed || list_any (is_in p.tied.keys) (numbers_of os)) → IsPassed s p → IsPassed (with_given s t) q
given_passed s p q os t e more kept mix h =
    let ns = numbers_of (occurrences t) in
    let is : numbers_of os ≡ ns = ap numbers_of e in
    record {
      tied = λ n. ap (λ (l : List ℕ). is_in l n) kept ∙ h.tied n;
      given = λ n. more n ∙ ap₂ (λ (a : Bool) (l : List ℕ). a || is_in l n) (h.given n) is ∙ sym (in_append s.given ns n);
      mixed = mix ∙ ap₂ (λ (a : Bool) (l : List ℕ). a || list_any (is_in p.tied.keys) l) h.mixed is
          ∙ ap (λ (b : Bool). is_mixed s || b) (any_same (is_in p.tied.keys) (is_in s.tied) h.tied ns ∙ any_turned s.tied ns)
          ∙ sym (any_either (is_in s.given) (is_in ns) s.tied)
          ∙ any_same (λ n. is_in s.given n || is_in ns n) (is_in (s.given ++ ns)) (λ n. sym (in_append s.given ns n)) s.tied;
    }

-- ---- goals

-- all these goals are passed
abbrev pub passed_all : model.Passed → List PlacedTerm → model.Passed
passed_all s [] = s
passed_all s (g ∷ gs) = passed_all (with_goal s g (role_of g)) gs

passed_push : (s : model.Passed) (gs : List PlacedTerm) (g : PlacedTerm) → passed_all s (gs ++ g ∷ []) ≡ with_goal (passed_all s gs) g (role_of g)
passed_push s [] g = refl
passed_push s (x ∷ gs) g = passed_push (with_goal s x (role_of x)) gs g

warnings_push : (names : List Name) (s : model.Passed) (gs : List PlacedTerm) (g : PlacedTerm)
    → warnings_behind names s (gs ++ g ∷ []) ≡ warnings_behind names s gs ++ goal_warnings names (passed_all s gs) g (role_of g)
warnings_push names s [] g = append-nil (goal_warnings names s g (role_of g))
warnings_push names s (x ∷ gs) g =
    ap (λ (l : List warnings.Warning). goal_warnings names s x (role_of x) ++ l) (warnings_push names (with_goal s x (role_of x)) gs g)
    ∙ sym (append_assoc (goal_warnings names s x (role_of x)) (warnings_behind names (with_goal s x (role_of x)) gs)
    (goal_warnings names (passed_all (with_goal s x (role_of x)) gs) g (role_of g)))

-- what holds behind goals
abbrev pub ArePassed : Contents → List AtomId → Passed → List PlacedTerm → Passed → List Warning → List Warning → Type 0
ArePassed c names p gs q old new =
    (s : model.Passed) → IsPassed s p → IsPassed (passed_all s gs) q × Adds c (warnings_behind (map (atom_name c) names) s gs) old new

-- one more goal
pub passed_more : (c : Contents) (names : List AtomId) (p q r : Passed) (ids : List TermId) (i : ℕ) (g d : TermId) (old mid new : List Warning) → i < length ids → g ≡ get_or ids i d
    → ArePassed c names p (map (placed_of c) (take i ids)) q old mid → PassesGoal c names g q r mid new
    → ArePassed c names p (map (placed_of c) (take (i + 1) ids)) r old new
passed_more c names p q r ids i g d old mid new inside is h k = λ s e.
    let gs = map (placed_of c) (take i ids) in
    let more : map (placed_of c) (take (i + 1) ids) ≡ gs ++ placed_of c g ∷ [] =
    ap (map (placed_of c)) (take_more ids i d inside) ∙ map-append (placed_of c) (take i ids) (get_or ids i d ∷ []) ∙ ap (λ (x : TermId). gs ++ placed_of c x ∷ []) (sym is) in
    let before = h s e in
    let now = k (passed_all s gs) before.0 in (
      subst (λ (l : List PlacedTerm). IsPassed (passed_all s l) r) (sym more) (subst (λ (x : model.Passed). IsPassed x r) (sym (passed_push s gs (placed_of c g))) now.0),
      subst (λ (l : List PlacedTerm). Adds c (warnings_behind (map (atom_name c) names) s l) old new) (sym more)
          (subst (λ (l : List warnings.Warning). Adds c l old new) (sym (warnings_push (map (atom_name c) names) s gs (placed_of c g)))
          (adds_then c (warnings_behind (map (atom_name c) names) s gs) (goal_warnings (map (atom_name c) names) (passed_all s gs) (placed_of c g) (role_of (placed_of c g))) old mid new before.1 now.1)),
    )

-- ---- variables, with one more

abbrev pub AreOpen : Contents → List AtomId → Passed → Bool → List Occurrence → List Warning → List Warning → Type 0
AreOpen c names p negated os old new = (s : model.Passed) → IsPassed s p → Adds c (open_all c names negated s os) old new

pub open_more : (c : Contents) (names : List AtomId) (p : Passed) (negated : Bool) (os : List Occurrence) (i : ℕ) (o d : Occurrence) (w : Option Warning) (old mid new : List Warning)
    → i < length os → o ≡ get_or os i d → AreOpen c names p negated (take i os) old mid → IsOpenWarning names p negated o w → IfSome w (IsWarningWithin c)
    → new ≡ mid ++ option_to_list w → AreOpen c names p negated (take (i + 1) os) old new
open_more c names p negated os i o d w old mid new inside is h k own e = λ s t.
    let f = model.open_at (map (atom_name c) names) negated s in
    let more : flat_map f (take (i + 1) os) ≡ flat_map f (take i os) ++ f o =
    ap (flat_map f) (take_more os i d inside) ∙ flat_map_push f (take i os) (get_or os i d) ∙ ap (λ (x : Occurrence). flat_map f (take i os) ++ f x) (sym is) in
    subst (λ (l : List warnings.Warning). Adds c l old new) (sym more)
    (adds_then c (flat_map f (take i os)) (f o) old mid new (h s t) (adds_some c (f o) mid new w (k c s t) own e))
