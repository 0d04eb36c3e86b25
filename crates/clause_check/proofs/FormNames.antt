-- The names of forms, and how many arguments their goals have.
use Rattle.std.proofs.Common.{◌≡◌, ℕ, zero, suc, Bool, true, false, cond, ◌==◌, List, [], ◌∷◌, map, Option, Some, None, refl, sym, ap, ◌∙◌, subst, arith}
use Rattle.std.specs.Prelude.{◌||◌, is_some, option_map}
use Rattle.std.specs.List.{list_all}
use Rattle.std.specs.Str.{bytes_eq}
use Rattle.std.proofs.lemmas.List.Folds.{list_any-append}
use Rattle.std.proofs.lemmas.Bool.{and_parts}
use Rattle.std.proofs.lemmas.Bool.Decides.{nat_tests}
use Rattle.fd_language.specs.Term.{Name, Term}
use Rattle.fd_language.specs.PlacedTerm.{PlacedTerm, PlacedTerms, var, int, atom, comp, no_parts, part, plain, all_plain}
use Rattle.fd_model.specs.Forms.{GoalForm, constraint, builtin, forms, form_in, form_named, joining_names, built_in_names, is_named}
use Rattle.fd_model.specs.Refusals as refusals
use Rattle.fd_model.specs.Refusals.{functor, functor_of}
use Rattle.clause_check.specs.declared.forms.GoalKind.{GoalKind}
use Rattle.clause_check.specs.declared.forms.GoalKind.TheVariants.{Truth, Failure, Cut, Unification, Posting, Constraint, Labelling, Optimum, Builtin}
use Rattle.fd_model.specs.Arities.{constraint_arity, builtin_arity}
use Rattle.fd_language.specs.Term.{term_count}
use Rattle.clause_check.specs.Programs.{HasArguments}
use Rattle.clause_check.specs.Forms.{form_seen, HasFormArity}

-- ---- the names of a table

named_rows : (rows : List (Name × GoalForm)) (a : Name) → is_named (map (λ row. row.0) rows) a ≡ is_some (form_in rows a)
named_rows [] a = refl
named_rows (row ∷ rows) a = pick (bytes_eq a row.0) (named_rows rows a)
  where
    pick : (b : Bool) → is_named (map (λ row. row.0) rows) a ≡ is_some (form_in rows a) → (b || is_named (map (λ row. row.0) rows) a) ≡ is_some (cond b (Some row.1) (form_in rows a))
    pick true e = refl
    pick false e = e

seen_some : (o : Option GoalKind) → is_some o ≡ is_some (option_map form_seen o)
seen_some None = refl
seen_some (Some f) = refl

-- a name that joins no bodies is built in where it is that of a form
pub built_in_by : (name : Name) (arity : ℕ) (o : Option GoalKind) → is_named (joining_names arity) name ≡ false → option_map form_seen o ≡ form_named name arity
    → is_some o ≡ is_named (built_in_names arity) name
built_in_by name arity o e f =
    seen_some o ∙ ap (λ (x : Option GoalForm). is_some x) f ∙ sym (named_rows (forms arity) name)
    ∙ sym (list_any-append (bytes_eq name) (joining_names arity) (map (λ row. row.0) (forms arity)) ∙ ap (λ (b : Bool). b || is_named (map (λ row. row.0) (forms arity)) name) e)

-- ---- how many arguments

-- a constraint or a built-in predicate has so many arguments
abbrev has_arity : ℕ → GoalForm → Bool
has_arity n (constraint k) = n == constraint_arity k
has_arity n (builtin k) = n == builtin_arity k
has_arity n _ = true

table : (n : ℕ) → list_all (λ row. has_arity n row.1) (forms n) ≡ true
table zero = refl
table (suc zero) = refl
table (suc (suc zero)) = refl
table (suc (suc (suc zero))) = refl
table (suc (suc (suc (suc n)))) = refl

found : (n : ℕ) (rows : List (Name × GoalForm)) (a : Name) (form : GoalForm) → list_all (λ row. has_arity n row.1) rows ≡ true → form_in rows a ≡ Some form → has_arity n form ≡ true
found n [] a form h e = absurd (cc)
found n (row ∷ rows) a form h e = pick (bytes_eq a row.0) (found n rows a form (and_parts (has_arity n row.1) (list_all (λ row. has_arity n row.1) rows) h).1) e
  where
    pick : (b : Bool) → (form_in rows a ≡ Some form → has_arity n form ≡ true) → cond b (Some row.1) (form_in rows a) ≡ Some form → has_arity n form ≡ true
    pick true later k = let same : row.1 ≡ form = cc in ap (has_arity n) (sym same) ∙ (and_parts (has_arity n row.1) (list_all (λ row. has_arity n row.1) rows) h).0
    pick false later k = later k

-- a plain term has as many arguments
pub counted : (ts : PlacedTerms) → term_count (all_plain ts) ≡ refusals.part_count ts
counted no_parts = refl
counted (part t ts) = ap suc (counted ts)

-- an atom or a compound term has as many arguments as its functor
pub functor_arguments : (x : PlacedTerm) (f : refusals.Functor) → functor_of x ≡ Some f → HasArguments f.arity (plain x)
functor_arguments (var x p) f e = absurd (cc)
functor_arguments (int z p) f e = absurd (cc)
functor_arguments (atom a p) f e = let same : functor a 0 ≡ f = cc in sym (ap (λ (g : refusals.Functor). g.arity) same)
functor_arguments (comp a p ts) f e = let same : functor a (refusals.part_count ts) ≡ f = cc in counted ts ∙ ap (λ (g : refusals.Functor). g.arity) same

arity_by : (n : ℕ) (form : GoalKind) (t : Term) → has_arity n (form_seen form) ≡ true → HasArguments n t → HasFormArity form t
arity_by n Truth t e h = tt
arity_by n Failure t e h = tt
arity_by n Cut t e h = tt
arity_by n Unification t e h = tt
arity_by n Posting t e h = tt
arity_by n (Constraint k) t e h = let same : n ≡ constraint_arity k = grind (arith, nat_tests) in subst (λ (m : ℕ). HasArguments m t) same h
arity_by n (Labelling o) t e h = tt
arity_by n (Optimum least) t e h = tt
arity_by n (Builtin k) t e h = let same : n ≡ builtin_arity k = grind (arith, nat_tests) in subst (λ (m : ℕ). HasArguments m t) same h

-- a goal of the language has as many arguments as its form
pub form_arguments : (x : PlacedTerm) (f : refusals.Functor) (form : GoalKind) → functor_of x ≡ Some f → form_named f.name f.arity ≡ Some (form_seen form) → HasFormArity form (plain x)
form_arguments x f form e k = arity_by f.arity form (plain x) (found f.arity (forms f.arity) f.name (form_seen form) (table f.arity) k) (functor_arguments x f e)
