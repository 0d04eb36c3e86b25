-- A variable for each argument of a compound term, which only the proof knows.
use Rattle.std.proofs.Common.{◌≡◌, ℕ, suc, ◌+◌, ◌<◌, ◌≤◌, refl, ap, sym, ◌∙◌, subst, inl, inr, arith}
use Rattle.std.proofs.lemmas.Bool.{cases_eq}
use Rattle.fd_language.specs.Term.{Term, Terms, Var, no_terms, term, Substitution, apply, apply_all, term_count}
use Rattle.fd_language.specs.Unifier.{Unifies}
use Rattle.fd_model.specs.Children.{paired}
use Rattle.branch_meaning.specs.Heap.{Of, AllOf}
use Rattle.branch_meaning.proofs.Lemmas.{agree_all, with_one}
use Rattle.branch_lemmas.proofs.Lemmas.{one_here, one_else}

abbrev pub ghosts : ℕ → Terms → Terms
ghosts n no_terms = no_terms
ghosts n (term s ss) = term (Var n) (ghosts (suc n) ss)

-- w, but that the variables from n on have these terms
abbrev pub assign : Substitution → ℕ → Terms → Substitution
assign w n no_terms = w
assign w n (term t ts) = with_one n t (assign w (suc n) ts)

pub assign_below : (w : Substitution) (n : ℕ) (ts : Terms) (v : ℕ) → v < n → assign w n ts v ≡ w v
assign_below w n no_terms v l = refl
assign_below w n (term t ts) v l = one_else n t (assign w (suc n) ts) v (λ e. omega (arith, e, l)) ∙ assign_below w (suc n) ts v (omega (arith, l))

pub ghosts_in : (P : ℕ → Type 0) (n : ℕ) (ss : Terms) → ((v : ℕ) → n ≤ v → v < n + term_count ss → P v) → AllOf P (ghosts n ss)
ghosts_in P n no_terms h = tt
ghosts_in P n (term s ss) h = (h n (omega arith) (omega arith), ghosts_in P (suc n) ss (λ v l k. h v (omega (arith, l)) (omega (arith, k))))

pub same_tail : (a b : Term) (as' bs : Terms) → term a as' ≡ term b bs → as' ≡ bs
same_tail a b as' bs e = cc

pub same_head : (a b : Term) (as' bs : Terms) → term a as' ≡ term b bs → a ≡ b
same_head a b as' bs e = cc

pub ghost_each : (w u : Substitution) (n : ℕ) (ss : Terms) → apply_all w (ghosts n ss) ≡ apply_all u (ghosts n ss) → (v : ℕ) → n ≤ v → v < n + term_count ss → w v ≡ u v
ghost_each w u n no_terms e v l k = absurd (omega (arith, l, k))
ghost_each w u n (term s ss) e v l k = elim (cases_eq v n) [
  | inl i ↦ ap w i ∙ same_head (w n) (u n) (apply_all w (ghosts (suc n) ss)) (apply_all u (ghosts (suc n) ss)) e ∙ ap u (sym i)
  | inr i ↦ ghost_each w u (suc n) ss (same_tail (w n) (u n) (apply_all w (ghosts (suc n) ss)) (apply_all u (ghosts (suc n) ss)) e) v (omega (arith, l, i)) (omega (arith, k))
]

pub ghost_of : (R : ℕ → Type 0) (w : Substitution) (n : ℕ) (ss : Terms) → AllOf R (apply_all w (ghosts n ss)) → (v : ℕ) → n ≤ v → v < n + term_count ss → Of R (w v)
ghost_of R w n no_terms o v l k = absurd (omega (arith, l, k))
ghost_of R w n (term s ss) o v l k = elim (cases_eq v n) [
  | inl i ↦ subst (λ x. Of R (w x)) (sym i) o.0
  | inr i ↦ ghost_of R w (suc n) ss o.1 v (omega (arith, l, i)) (omega (arith, k))
]

pub assign_ghosts : (w : Substitution) (n : ℕ) (ss ts : Terms) → term_count ss ≡ term_count ts → apply_all (assign w n ts) (ghosts n ss) ≡ ts
assign_ghosts w n no_terms no_terms e = refl
assign_ghosts w n no_terms (term t ts) e = absurd (omega (arith, e))
assign_ghosts w n (term s ss) no_terms e = absurd (omega (arith, e))
assign_ghosts w n (term s ss) (term t ts) e =
    let first = one_here n t (assign w (suc n) ts) in
    let rest : apply_all (with_one n t (assign w (suc n) ts)) (ghosts (suc n) ss) ≡ ts =
    agree_all (λ v. suc n ≤ v) (with_one n t (assign w (suc n) ts)) (assign w (suc n) ts)
    (λ v l. one_else n t (assign w (suc n) ts) v (λ i. omega (arith, i, l))) (ghosts (suc n) ss) (ghosts_in (λ v. suc n ≤ v) (suc n) ss (λ v l k. l))
    ∙ assign_ghosts w (suc n) ss ts (omega (arith, e)) in
    cc

pub unify_ghosts : (u : Substitution) (n : ℕ) (ss us : Terms) → term_count ss ≡ term_count us → Unifies u (paired (ghosts n ss) us) → apply_all u (ghosts n ss) ≡ apply_all u us
unify_ghosts u n no_terms no_terms e k = refl
unify_ghosts u n no_terms (term t us) e k = absurd (omega (arith, e))
unify_ghosts u n (term s ss) no_terms e k = absurd (omega (arith, e))
unify_ghosts u n (term s ss) (term t us) e k = let a = k.0 in let b = unify_ghosts u (suc n) ss us (omega (arith, e)) k.1 in cc

pub ghosts_unify : (u : Substitution) (n : ℕ) (ss us : Terms) → apply_all u (ghosts n ss) ≡ apply_all u us → Unifies u (paired (ghosts n ss) us)
ghosts_unify u n no_terms us e = tt
ghosts_unify u n (term s ss) no_terms e = tt
ghosts_unify u n (term s ss) (term t us) e = (
  same_head (u n) (apply u t) (apply_all u (ghosts (suc n) ss)) (apply_all u us) e,
  ghosts_unify u (suc n) ss us (same_tail (u n) (apply u t) (apply_all u (ghosts (suc n) ss)) (apply_all u us) e),
)
