-- What a term is, by how many parts it has.
use Rattle.std.proofs.Common.{◌≡◌, ℕ, suc, ◌<◌, ◌≤◌, false, List, [], ◌∷◌, refl, sym, ap, subst, arith, length}
use Rattle.std.specs.Prelude.{codes}
use Rattle.std.specs.Str.{bytes_eq}
use Rattle.fd_language.specs.Term.{Name}
use Rattle.fd_language.specs.PlacedTerm.{PlacedTerm, comp}
use Rattle.fd_model.specs.Goal.{no_goals, goal}
use Rattle.fd_model.specs.Queries.{goal_of, body_goals}
use Rattle.fd_model.specs.Refusals.{fact, form_of, goals_of, part_count}
use Rattle.term_pool.specs.declared.TermId.{TermId}
use Rattle.term_pool.specs.PlacedTerms.{parts_by}
use Rattle.term_pool.proofs.Lemmas.{other_name}

pub count_parts : (by : TermId → PlacedTerm) (ts : List TermId) → part_count (parts_by by ts) ≡ length ts
count_parts by [] = refl
count_parts by (t ∷ ts) = ap suc (count_parts by ts)

-- ---- terms of three parts and more

-- are one goal
abbrev pub IsOneGoal : PlacedTerm → Type 0
IsOneGoal x = (goals_of x ≡ x ∷ []) × ((N : ℕ) → body_goals N x ≡ goal (goal_of N x) no_goals)

one_of_three : (f : Name) (p : ℕ) (by : TermId → PlacedTerm) (ts : List TermId) → 3 ≤ length ts → IsOneGoal (comp f p (parts_by by ts))
one_of_three f p by [] h = absurd (omega arith)
one_of_three f p by (a ∷ []) h = absurd (omega arith)
one_of_three f p by (a ∷ b ∷ []) h = absurd (omega arith)
one_of_three f p by (a ∷ b ∷ d ∷ ts) h = (refl, λ N. refl)

pub many_joined : (x : PlacedTerm) (f : Name) (p : ℕ) (by : TermId → PlacedTerm) (ts : List TermId) → x ≡ comp f p (parts_by by ts) → 3 ≤ length ts → IsOneGoal x
many_joined x f p by ts e h = subst IsOneGoal (sym e) (one_of_three f p by ts h)

-- as are those of two parts with another name than `,`, `;` and `->`
one_of_two : (f : Name) (p : ℕ) (by : TermId → PlacedTerm) (ts : List TermId) → 2 ≤ length ts → length ts < 3 → bytes_eq f (codes ",") ≡ false
    → bytes_eq f (codes ";") ≡ false → bytes_eq f (codes "->") ≡ false → IsOneGoal (comp f p (parts_by by ts))
one_of_two f p by [] h k e g m = absurd (omega arith)
one_of_two f p by (a ∷ []) h k e g m = absurd (omega arith)
one_of_two f p by (a ∷ b ∷ []) h k e g m = (rw (e, g, m), λ N. rw (e, g, m))
one_of_two f p by (a ∷ b ∷ d ∷ ts) h k e g m = absurd (omega arith)

pub two_joined : (x : PlacedTerm) (f : Name) (p : ℕ) (by : TermId → PlacedTerm) (ts : List TermId) → x ≡ comp f p (parts_by by ts) → 2 ≤ length ts → length ts < 3
    → (f ≡ codes "," → ⊥) → (f ≡ codes ";" → ⊥) → (f ≡ codes "->" → ⊥) → IsOneGoal x
two_joined x f p by ts e h k m n o = subst IsOneGoal (sym e) (one_of_two f p by ts h k (other_name f (codes ",") m) (other_name f (codes ";") n) (other_name f (codes "->") o))

-- and those of one part with another name than `\+`
one_of_one : (f : Name) (p : ℕ) (by : TermId → PlacedTerm) (ts : List TermId) → 1 ≤ length ts → length ts < 2 → bytes_eq f (codes "\\+") ≡ false → IsOneGoal (comp f p (parts_by by ts))
one_of_one f p by [] h k e = absurd (omega arith)
one_of_one f p by (a ∷ []) h k e = (rw e, λ N. rw e)
one_of_one f p by (a ∷ b ∷ ts) h k e = absurd (omega arith)

pub one_joined : (x : PlacedTerm) (f : Name) (p : ℕ) (by : TermId → PlacedTerm) (ts : List TermId) → x ≡ comp f p (parts_by by ts) → 1 ≤ length ts → length ts < 2 → (f ≡ codes "\\+" → ⊥) → IsOneGoal x
one_joined x f p by ts e h k m = subst IsOneGoal (sym e) (one_of_one f p by ts h k (other_name f (codes "\\+") m))

-- and those of none
one_of_none : (f : Name) (p : ℕ) (by : TermId → PlacedTerm) (ts : List TermId) → length ts < 1 → IsOneGoal (comp f p (parts_by by ts))
one_of_none f p by [] h = (refl, λ N. refl)
one_of_none f p by (a ∷ ts) h = absurd (omega arith)

pub bare_joined : (x : PlacedTerm) (f : Name) (p : ℕ) (by : TermId → PlacedTerm) (ts : List TermId) → x ≡ comp f p (parts_by by ts) → length ts < 1 → IsOneGoal x
bare_joined x f p by ts e h = subst IsOneGoal (sym e) (one_of_none f p by ts h)

-- those of three parts and more are facts
fact_of_three : (f : Name) (p : ℕ) (by : TermId → PlacedTerm) (ts : List TermId) → 3 ≤ length ts → form_of (comp f p (parts_by by ts)) ≡ fact (comp f p (parts_by by ts))
fact_of_three f p by [] h = absurd (omega arith)
fact_of_three f p by (a ∷ []) h = absurd (omega arith)
fact_of_three f p by (a ∷ b ∷ []) h = absurd (omega arith)
fact_of_three f p by (a ∷ b ∷ d ∷ ts) h = refl

pub many_formed : (x : PlacedTerm) (f : Name) (p : ℕ) (by : TermId → PlacedTerm) (ts : List TermId) → x ≡ comp f p (parts_by by ts) → 3 ≤ length ts → form_of x ≡ fact x
many_formed x f p by ts e h = subst (λ (y : PlacedTerm). form_of y ≡ fact y) (sym e) (fact_of_three f p by ts h)

-- as are those of two parts with another name than `:-`
fact_of_two : (f : Name) (p : ℕ) (by : TermId → PlacedTerm) (ts : List TermId) → 2 ≤ length ts → length ts < 3 → bytes_eq f (codes ":-") ≡ false
    → form_of (comp f p (parts_by by ts)) ≡ fact (comp f p (parts_by by ts))
fact_of_two f p by [] h k e = absurd (omega arith)
fact_of_two f p by (a ∷ []) h k e = absurd (omega arith)
fact_of_two f p by (a ∷ b ∷ []) h k e = rw e
fact_of_two f p by (a ∷ b ∷ d ∷ ts) h k e = absurd (omega arith)

pub two_formed : (x : PlacedTerm) (f : Name) (p : ℕ) (by : TermId → PlacedTerm) (ts : List TermId) → x ≡ comp f p (parts_by by ts) → 2 ≤ length ts
    → length ts < 3 → (f ≡ codes ":-" → ⊥) → form_of x ≡ fact x
two_formed x f p by ts e h k n = subst (λ (y : PlacedTerm). form_of y ≡ fact y) (sym e) (fact_of_two f p by ts h k (other_name f (codes ":-") n))

-- and those of one part, with another name than `?-` and `:-`
fact_of_one : (f : Name) (p : ℕ) (by : TermId → PlacedTerm) (ts : List TermId) → 1 ≤ length ts → length ts < 2 → bytes_eq f (codes "?-") ≡ false → bytes_eq f (codes ":-") ≡ false
    → form_of (comp f p (parts_by by ts)) ≡ fact (comp f p (parts_by by ts))
fact_of_one f p by [] h k e g = absurd (omega arith)
fact_of_one f p by (a ∷ []) h k e g = rw (e, g)
fact_of_one f p by (a ∷ b ∷ ts) h k e g = absurd (omega arith)

pub one_formed : (x : PlacedTerm) (f : Name) (p : ℕ) (by : TermId → PlacedTerm) (ts : List TermId) → x ≡ comp f p (parts_by by ts) → 1 ≤ length ts
    → length ts < 2 → (f ≡ codes "?-" → ⊥) → (f ≡ codes ":-" → ⊥) → form_of x ≡ fact x
one_formed x f p by ts e h k m n = subst (λ (y : PlacedTerm). form_of y ≡ fact y) (sym e) (fact_of_one f p by ts h k (other_name f (codes "?-") m) (other_name f (codes ":-") n))

-- and those of none
fact_of_none : (f : Name) (p : ℕ) (by : TermId → PlacedTerm) (ts : List TermId) → length ts < 1 → form_of (comp f p (parts_by by ts)) ≡ fact (comp f p (parts_by by ts))
fact_of_none f p by [] h = refl
fact_of_none f p by (a ∷ ts) h = absurd (omega arith)

pub bare_formed : (x : PlacedTerm) (f : Name) (p : ℕ) (by : TermId → PlacedTerm) (ts : List TermId) → x ≡ comp f p (parts_by by ts) → length ts < 1 → form_of x ≡ fact x
bare_formed x f p by ts e h = subst (λ (y : PlacedTerm). form_of y ≡ fact y) (sym e) (fact_of_none f p by ts h)
