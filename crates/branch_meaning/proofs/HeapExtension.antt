-- One more equation, and one more variable, on a heap.
use Rattle.std.proofs.Common.{◌≡◌, ℕ, ◌<◌, List, [], ◌∷◌, ◌++◌, refl, ap, sym, ◌∙◌}
use Rattle.fd_language.specs.Term.{Term, Terms, Var, Int, Atom, Comp, Substitution, apply, apply_all, no_terms, term}
use Rattle.fd_language.specs.Unifier.{Equation, IsMostGeneral, Unifies}
use Rattle.fd_language.proofs.Lemmas.{after_is, still_unifies, through_term, join_both, split_both}
use Rattle.branch_meaning.specs.Heap.{after, applied_each, Of, AllOf, EquationsOf, Below, StandsForEquations}

-- two substitutions that agree on P
mutual
  pub agree : (P : ℕ → Type 0) (s u : Substitution) → ((x : ℕ) → P x → s x ≡ u x) → (t : Term) → Of P t → apply s t ≡ apply u t
  agree P s u h (Var x) b = h x b
  agree P s u h (Int z) b = refl
  agree P s u h (Atom a) b = refl
  agree P s u h (Comp f ts) b = ap (Comp f) (agree_all P s u h ts b)

  pub agree_all : (P : ℕ → Type 0) (s u : Substitution) → ((x : ℕ) → P x → s x ≡ u x) → (ts : Terms) → AllOf P ts → apply_all s ts ≡ apply_all u ts
  agree_all P s u h no_terms b = refl
  agree_all P s u h (term t ts) b = let first = agree P s u h t b.0 in let rest = agree_all P s u h ts b.1 in cc

pub agree_each : (P : ℕ → Type 0) (s u : Substitution) → ((x : ℕ) → P x → s x ≡ u x) → (es : List Equation) → EquationsOf P es → Unifies s es → Unifies u es
agree_each P s u h [] b g = tt
agree_each P s u h (e ∷ es) b g = (sym (agree P s u h e.left b.0.0) ∙ g.0 ∙ agree P s u h e.right b.0.1, agree_each P s u h es b.1 g.1)

-- terms under substitutions
mutual
  pub still_of : (P Q : ℕ → Type 0) (s : Substitution) → ((x : ℕ) → P x → Of Q (s x)) → (t : Term) → Of P t → Of Q (apply s t)
  still_of P Q s h (Var x) o = h x o
  still_of P Q s h (Int z) o = tt
  still_of P Q s h (Atom a) o = tt
  still_of P Q s h (Comp f ts) o = still_all P Q s h ts o

  pub still_all : (P Q : ℕ → Type 0) (s : Substitution) → ((x : ℕ) → P x → Of Q (s x)) → (ts : Terms) → AllOf P ts → AllOf Q (apply_all s ts)
  still_all P Q s h no_terms o = tt
  still_all P Q s h (term t ts) o = (still_of P Q s h t o.0, still_all P Q s h ts o.1)

-- terms over more variables
mutual
  pub more_of : (P Q : ℕ → Type 0) → ((x : ℕ) → P x → Q x) → (t : Term) → Of P t → Of Q t
  more_of P Q h (Var x) o = h x o
  more_of P Q h (Int z) o = tt
  more_of P Q h (Atom a) o = tt
  more_of P Q h (Comp f ts) o = more_all P Q h ts o

  pub more_all : (P Q : ℕ → Type 0) → ((x : ℕ) → P x → Q x) → (ts : Terms) → AllOf P ts → AllOf Q ts
  more_all P Q h no_terms o = tt
  more_all P Q h (term t ts) o = (more_of P Q h t o.0, more_all P Q h ts o.1)

pub more_each : (P Q : ℕ → Type 0) → ((x : ℕ) → P x → Q x) → (es : List Equation) → EquationsOf P es → EquationsOf Q es
more_each P Q h [] o = tt
more_each P Q h (e ∷ es) o = ((more_of P Q h e.left o.0.0, more_of P Q h e.right o.0.1), more_each P Q h es o.1)

pub below_both : (P : ℕ → Type 0) (ds es : List Equation) → EquationsOf P ds → EquationsOf P es → EquationsOf P (ds ++ es)
below_both P [] es h g = g
below_both P (d ∷ ds) es h g = (h.0, below_both P ds es h.1 g)

pub unify_applied : (r s u : Substitution) (P : ℕ → Type 0) (es : List Equation) → ((x : ℕ) → P x → apply r (s x) ≡ u x) → EquationsOf P es → Unifies u es → Unifies r (applied_each s es)
unify_applied r s u P [] h b g = tt
unify_applied r s u P (e ∷ es) h b g = (
  sym (after_is r s e.left) ∙ agree P (after r s) u h e.left b.0.0 ∙ g.0 ∙ sym (agree P (after r s) u h e.right b.0.1) ∙ after_is r s e.right,
  unify_applied r s u P es h b.1 g.1,
)

pub applied_back : (r s : Substitution) (es : List Equation) → Unifies r (applied_each s es) → Unifies (after r s) es
applied_back r s [] g = tt
applied_back r s (e ∷ es) g = (after_is r s e.left ∙ g.0 ∙ sym (after_is r s e.right), applied_back r s es g.1)

-- A most general unifier of what the new equations are on the heap makes a heap of all of them
pub more : (es ds : List Equation) (P : ℕ → Type 0) (h : ℕ) (look new : Substitution) → StandsForEquations es P h look → EquationsOf P ds
    → IsMostGeneral (applied_each look ds) new → ((c : ℕ) → c < h → Below h (new c)) → StandsForEquations (ds ++ es) P h (after new look)
more es ds P h look new st b g cells = record {
  scoped = below_both P ds es b st.scoped;
  unifies = join_both (after new look) ds es (applied_back new look ds g.unifies) (still_unifies new look es st.unifies);
  through = λ u k.
      let both = split_both u ds es k in
      let old = st.through u both.1 in
      (old.0, λ x l. through_term new old.0 (λ y. g.general old.0 y (unify_applied old.0 look u P ds old.1 b both.0)) (look x) ∙ old.1 x l);
  cells = λ x l. still_of (λ c. c < h) (λ c. c < h) new cells (look x) (st.cells x l);
}
