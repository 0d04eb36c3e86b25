-- Which registers a head's steps and a goal's steps leave as they are.
use Rattle.std.proofs.Common.{◌≡◌, ℕ, suc, ◌+◌, ◌<◌, ◌≤◌, Bool, true, false, if◌then◌else◌, List, ◌∷◌, ◌++◌, length, slice_set, sym, ◌∙◌, subst, arith, inl}
use Rattle.std.proofs.Common.{inr}
use Rattle.std.proofs.lemmas.Bool.{cases_eq}
use Rattle.fd_language.specs.Term.{Term, Terms, Var, Int, Atom, Comp, no_terms, term, term_count}
use Rattle.branch_meaning.specs.Heap.{Of, AllOf}
use Rattle.branch_meaning.proofs.Lemmas.{more_all}
use Rattle.term_pool.specs.Contents.{Contents}
use Rattle.wam_code.specs.declared.instruction.Register.{Register}
use Rattle.wam_code.specs.declared.instruction.Register.TheVariants.{X}
use Rattle.clause_code.specs.Steps.{Step, get_structure, home, is_made, marked, marked_by_all, atom_of, compounds, parts, reading, readings, get}
use Rattle.clause_code.specs.ArgumentHomes.{IsOutside, Waits, AllWait, AllLand}
use Rattle.clause_code.proofs.FreshVariables.{Spared, spared_both, made_else}
use Rattle.clause_code.proofs.StepEffects.{marked_both}

-- what each variable has, those of terms have
mutual
  every_of : (P : ℕ → Type 0) → ((x : ℕ) → P x) → (t : Term) → Of P t
  every_of P f (Var x) = f x
  every_of P f (Int z) = tt
  every_of P f (Atom a) = tt
  every_of P f (Comp g us) = every_all P f us

  pub every_all : (P : ℕ → Type 0) → ((x : ℕ) → P x) → (ts : Terms) → AllOf P ts
  every_all P f no_terms = tt
  every_all P f (term t ts) = (every_of P f t, every_all P f ts)

module _ (homes : List Register) (c : Contents) (i : ℕ) where
  -- the variable's home is another register
  abbrev pub Elsewhere : ℕ → Type 0
  Elsewhere x = x < length homes → home homes x ≡ X i → ⊥

  mark_spared : (made : List Bool) (x : ℕ) → Elsewhere x → Spared homes made (marked made x) i
  mark_spared made x h y l g e = elim (cases_eq y x) [
    | inl same ↦ absurd (h (subst (λ z. z < length homes) same l) (subst (λ z. home homes z ≡ X i) same g))
    | inr other ↦ by (is_made made x) other e
  ]
    where
      by : (d : Bool) → (y ≡ x → ⊥) → is_made (if d then made else slice_set made x true) y ≡ true → is_made made y ≡ true
      by true other e = e
      by false other e = sym (made_else made x y other) ∙ e

  both_spared : (made : List Bool) (ss ts : List Step) → Spared homes made (marked_by_all made ss) i
      → Spared homes (marked_by_all made ss) (marked_by_all (marked_by_all made ss) ts) i → Spared homes made (marked_by_all made (ss ++ ts)) i
  both_spared made ss ts f g = subst (λ m. Spared homes made m i) (sym (marked_both made ss ts)) (spared_both homes made (marked_by_all made ss) (marked_by_all (marked_by_all made ss) ts) i f g)

  parts_spared : (made : List Bool) (j : ℕ) (ts : Terms) → AllOf Elsewhere ts → Spared homes made (marked_by_all made (parts c true j ts)) i
  parts_spared made j no_terms h = λ x l g e. e
  parts_spared made j (term (Var x) ts) h = spared_both homes made (marked made x) (marked_by_all (marked made x) (parts c true j ts)) i
      (mark_spared made x h.0) (parts_spared (marked made x) j ts h.1)
  parts_spared made j (term (Int z) ts) h = parts_spared made j ts h.1
  parts_spared made j (term (Atom a) ts) h = parts_spared made j ts h.1
  parts_spared made j (term (Comp f us) ts) h = parts_spared made (suc j) ts h.1

  readings_spared : (made : List Bool) (next free : ℕ) (ts : Terms) → AllOf Elsewhere ts → Spared homes made (marked_by_all made (readings c next free ts)) i
  readings_spared made next free no_terms h = λ x l g e. e
  readings_spared made next free (term (Var x) ts) h = readings_spared made next free ts h.1
  readings_spared made next free (term (Int z) ts) h = readings_spared made next free ts h.1
  readings_spared made next free (term (Atom a) ts) h = readings_spared made next free ts h.1
  readings_spared made next free (term (Comp f us) ts) h =
      let others : List Step = readings c (suc next) free ts in
      let first : List Step = get_structure (atom_of c f) (term_count us) next ∷ parts c true free us in
      let mid : List Bool = marked_by_all made others in
      both_spared made others (reading c next free (Comp f us)) (readings_spared made (suc next) free ts h.1)
      (both_spared mid first (readings c free (free + compounds us) us) (parts_spared mid free us h.0) (readings_spared (marked_by_all mid first) free (free + compounds us) us h.0))

  -- An argument of a head leaves the registers of those behind it as they are.
  pub get_spared : (made : List Bool) (j k free : ℕ) (t : Term) → j < i → i ≤ k → Waits homes j k t → Spared homes made (marked_by_all made (get c j free t)) i
  get_spared made j k free (Var x) l m h = mark_spared made x (λ n e. h i n (omega (arith, l)) m e)
  get_spared made j k free (Int z) l m h = λ x l g e. e
  get_spared made j k free (Atom a) l m h = λ x l g e. e
  get_spared made j k free (Comp f us) l m h =
      let first : List Step = get_structure (atom_of c f) (term_count us) j ∷ parts c true free us in
      let o : AllOf Elsewhere us = more_all (IsOutside homes (suc j) k) Elsewhere (λ x o n e. o i n (omega (arith, l)) m e) us h in
      both_spared made first (readings c free (free + compounds us) us) (parts_spared made free us o) (readings_spared (marked_by_all made first) free (free + compounds us) us o)

-- ---- where no home is an argument register

abbrev pub NoRegister : List Register → Type 0
NoRegister homes = (x : ℕ) → x < length homes → (i : ℕ) → home homes x ≡ X i → ⊥

-- Slots suit every head.
pub slots_wait : (homes : List Register) → NoRegister homes → (j k : ℕ) (ts : Terms) → AllWait homes j k ts
slots_wait homes only j k no_terms = tt
slots_wait homes only j k (term t ts) = (every_of (IsOutside homes (suc j) k) (λ x i n l m e. only x n i e) t, slots_wait homes only (suc j) k ts)

-- And every goal.
pub slots_land : (homes : List Register) → NoRegister homes → (r : ℕ) (ts : Terms) → AllLand homes r ts
slots_land homes only r no_terms = tt
slots_land homes only r (term t ts) = (λ x l e. absurd (only x l r e), slots_land homes only (suc r) ts)
