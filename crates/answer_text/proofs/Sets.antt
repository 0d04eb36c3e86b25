-- The first set of each variable.
use Rattle.std.proofs.Common.{◌≡◌, ℕ, Bool, true, false, cond, ◌==◌, List, [], ◌∷◌, ◌++◌, Option, Some, None, refl, sym, ap, ◌∙◌, subst, Bor}
use Rattle.std.specs.Prelude.{is_some, nat_eq, not, option_copied}
use Rattle.std.proofs.lemmas.Bool.{eqb-true}
use Rattle.machine_events.specs.Events.{set_in}

-- the first of two, where there is one
abbrev either : Option (List ℕ) → Option (List ℕ) → Option (List ℕ)
either (Some x) o = Some x
either None o = o

set_in-push : (ss : List (ℕ × List ℕ)) (s : ℕ × List ℕ) (y : ℕ) → set_in (ss ++ s ∷ []) y ≡ either (set_in ss y) (cond (s.0 == y) (Some s.1) None)
set_in-push [] s y = refl
set_in-push (r ∷ ss) s y = pick (r.0 == y) (set_in-push ss s y)
  where
    pick : (b : Bool) → set_in (ss ++ s ∷ []) y ≡ either (set_in ss y) (cond (s.0 == y) (Some s.1) None)
        → cond b (Some r.1) (set_in (ss ++ s ∷ []) y) ≡ either (cond b (Some r.1) (set_in ss y)) (cond (s.0 == y) (Some s.1) None)
    pick true h = refl
    pick false h = h

either-none : (o : Option (List ℕ)) → either o None ≡ o
either-none None = refl
either-none (Some x) = refl

either-some : (o p : Option (List ℕ)) → is_some o ≡ true → either o p ≡ o
either-some None p e = absurd (let d : false ≡ true = e in cc)
either-some (Some x) p e = refl

module _ (ss : List (ℕ × List ℕ)) (s : ℕ × List ℕ) (g : ℕ → Option (List ℕ)) (old : (y : ℕ) → g y ≡ set_in ss y) where
  -- a variable that has a set already
  pub set_kept : is_some (g s.0) ≡ true → (y : ℕ) → g y ≡ set_in (ss ++ s ∷ []) y
  set_kept known y = old y ∙ sym (set_in-push ss s y ∙ pick (s.0 == y) refl)
    where
      pick : (b : Bool) → (s.0 == y) ≡ b → either (set_in ss y) (cond b (Some s.1) None) ≡ set_in ss y
      pick true e = either-some (set_in ss y) (Some s.1) (subst (λ (v : ℕ). is_some (set_in ss v) ≡ true) (eqb-true s.0 y e) (ap is_some (sym (old s.0)) ∙ known))
      pick false e = either-none (set_in ss y)

  -- and one that had none
  pub set_added : (h : ℕ → Option (List ℕ)) → g s.0 ≡ None → ((y : ℕ) → h y ≡ cond (nat_eq s.0 y) (Some s.1) (g y)) → (y : ℕ) → h y ≡ set_in (ss ++ s ∷ []) y
  set_added h new step y = step y ∙ pick (s.0 == y) refl ∙ sym (set_in-push ss s y)
    where
      pick : (b : Bool) → (s.0 == y) ≡ b → cond b (Some s.1) (g y) ≡ either (set_in ss y) (cond b (Some s.1) None)
      pick true e = ap (λ (o : Option (List ℕ)). either o (Some s.1)) (sym (ap (set_in ss) (sym (eqb-true s.0 y e)) ∙ sym (old s.0) ∙ new))
      pick false e = old y ∙ sym (either-none (set_in ss y))

-- ---- what is looked up

copied_some : {A : Type 0} (o : Option (Bor A)) → is_some (option_copied o) ≡ is_some o
copied_some None = refl
copied_some (Some x) = refl

none_there : {A : Type 0} (o : Option A) → is_some o ≡ false → o ≡ None
none_there None e = refl
none_there (Some x) e = absurd (let d : true ≡ false = e in cc)

pub is_known : {A : Type 0} (o : Option (Bor (Bor A))) (p : Option (Bor A)) (b : Bool) → option_copied o ≡ p → is_some o ≡ not b → b ≡ false → is_some (option_copied p) ≡ true
is_known o p b e t f = copied_some p ∙ ap is_some (sym e) ∙ copied_some o ∙ t ∙ ap not f

pub is_new : {A : Type 0} (o : Option (Bor (Bor A))) (p : Option (Bor A)) (b : Bool) → option_copied o ≡ p → is_some o ≡ not b → b ≡ true → option_copied p ≡ None
is_new o p b e t f = none_there (option_copied p) (copied_some p ∙ ap is_some (sym e) ∙ copied_some o ∙ t ∙ ap not f)

pub copied_step : {A : Type 0} (b : Bool) (x : Bor A) (o : Option (Bor A)) → option_copied (cond b (Some x) o) ≡ cond b (Some x.now) (option_copied o)
copied_step true x o = refl
copied_step false x o = refl
