-- An open member that is not constrained takes every value.
use Rattle.std.proofs.Common.{◌≡◌, ◌≢◌, ℕ, ◌≤◌, true, cond, ◌==◌, pos, List, refl, ap, sym, ◌∙◌, subst, inl, inr, eqb-true, eq-eqb}
use Rattle.std.proofs.lemmas.Bool.{cases_Bool, true≢false}
use Rattle.fd_model.specs.declared.kinds.Order.{Order}
use Rattle.fd_language.specs.Term.{Term, Var, Int, Atom, Comp, Substitution, apply, after}
use Rattle.fd_language.specs.Family.{has}
use Rattle.fd_model.specs.ClosedFamilies.{constrained}
use Rattle.fd_model.specs.Goal.{Branch}
use Rattle.fd_language.proofs.Lemmas.{has_either, still_unifies}
use Rattle.fd_model.specs.Labelling.{open_ones}
use Rattle.fd_model.specs.Members.{Member}
use Rattle.fd_model.specs.Satisfaction.{Assignment}
use Rattle.fd_model.specs.Answers.{IsSolution}
use Rattle.fd_model.specs.LabellingLaws.{IsLabelled, FreeMembers}
use Rattle.fd_model.proofs.ModelSubstitutions.{solution_consistent, given_listed, given_constrained}
use Rattle.fd_model.proofs.AddedRanges.{posted_moved}
use Rattle.fd_model.proofs.LabelledAnswers.{open_var}

module _ (y n : ℕ) where
  unfoldable put : Assignment → Assignment
  put a x = cond (x == y) n (a x)

  unfoldable put_term : Substitution → Substitution
  put_term u x = cond (x == y) (Int (pos n)) (u x)

  put_here : (a : Assignment) → put a y ≡ n
  unfolding put
  put_here a = rw (eq-eqb y y refl) refl

  term_here : (u : Substitution) → put_term u y ≡ Int (pos n)
  unfolding put_term
  term_here u = rw (eq-eqb y y refl) refl

  put_other : (a : Assignment) (x : ℕ) → x ≢ y → put a x ≡ a x
  unfolding put
  put_other a x h = elim (cases_Bool (x == y)) [ inl e ↦ absurd (h (eqb-true x y e)) | inr e ↦ rw e refl ]

  term_other : (u : Substitution) (x : ℕ) → x ≢ y → put_term u x ≡ u x
  unfolding put_term
  term_other u x h = elim (cases_Bool (x == y)) [ inl e ↦ absurd (h (eqb-true x y e)) | inr e ↦ rw e refl ]

  put_low : (M : ℕ) (a : Assignment) → n ≤ M → ((x : ℕ) → a x ≤ M) → (x : ℕ) → put a x ≤ M
  unfolding put
  put_low M a h g x = elim (cases_Bool (x == y)) [ inl e ↦ rw e h | inr e ↦ rw e (g x) ]

module _ (M N : ℕ) (within : N ≤ M) (b : Branch) (o : Order) (ms : List Member) (ws : List ℕ) (l : IsLabelled M N b o ms ws) (a : Assignment)
    (f : IsSolution M N b.equations b.posted (open_ones ms) a) (y n : ℕ)
    (free : (w : ℕ) → has (constrained b.posted) w ≡ true → l.unifier w ≡ Var y → ⊥) (fixed : (x : ℕ) → has (open_ones ms) x ≡ true → l.unifier x ≡ Var x) (listed : has (open_ones ms) y ≡ true) where
  abbrev vs : List ℕ
  vs = open_ones ms

  apart : (x : ℕ) → has (constrained b.posted) x ≡ true → x ≢ y
  apart x c e = free x c (subst (λ z. l.unifier z ≡ Var y) (sym e) (fixed y listed))

  given_by : (x : ℕ) (r : Term) → l.unifier x ≡ r → f.unifier x ≡ Int (pos (a x)) → x ≢ y → r ≢ Var y → apply (put_term y n f.unifier) r ≡ Int (pos (put y n a x))
  given_by x r e g d k =
      let back : apply f.unifier r ≡ Int (pos (a x)) = sym (ap (apply f.unifier) e) ∙ l.view.general.general f.unifier x f.unifies ∙ g in
      same_by r back k ∙ back ∙ ap (λ m. Int (pos m)) (sym (put_other y n a x d))
    where
      same_by : (r : Term) → apply f.unifier r ≡ Int (pos (a x)) → r ≢ Var y → apply (put_term y n f.unifier) r ≡ apply f.unifier r
      same_by (Var w) i j = term_other y n f.unifier w (λ m. j (ap Var m))
      same_by (Int z) i j = refl
      same_by (Atom c) i j = refl
      same_by (Comp c ts) i j = absurd (cc)

  given_here : (x : ℕ) → x ≡ y → apply (put_term y n f.unifier) (l.unifier x) ≡ Int (pos (put y n a x))
  given_here x e =
      ap (λ z. apply (put_term y n f.unifier) (l.unifier z)) e ∙ ap (apply (put_term y n f.unifier)) (fixed y listed) ∙ term_here y n f.unifier
      ∙ ap (λ m. Int (pos m)) (sym (put_here y n a)) ∙ ap (λ z. Int (pos (put y n a z))) (sym e)

  given_listed_at : (x : ℕ) → has vs x ≡ true → apply (put_term y n f.unifier) (l.unifier x) ≡ Int (pos (put y n a x))
  given_listed_at x h = elim (cases_Bool (x == y)) [
    | inl e ↦ given_here x (eqb-true x y e)
    | inr e ↦
        let d : x ≢ y = λ k. true≢false (sym (eq-eqb x y k) ∙ e) in
        given_by x (l.unifier x) refl (given_listed M N within b.equations b.posted vs a f x h) d (λ k. d (let i = sym (fixed x h) ∙ k in let j : x ≡ y = cc in j))
  ]

  put_solution : n ≤ N → IsSolution M N b.equations b.posted vs (put y n a)
  put_solution low = record {
    bounded = put_low y n N a low f.bounded;
    unifier = after (put_term y n f.unifier) l.unifier;
    unifies = still_unifies (put_term y n f.unifier) l.unifier b.equations l.view.general.unifies;
    given = λ x h. elim (has_either vs (constrained b.posted) x h) [
      | inl k ↦ given_listed_at x k
      | inr k ↦ given_by x (l.unifier x) refl (given_constrained M N within b.equations b.posted vs a f x k) (apart x k) (λ e. free x k e)
    ];
    posted = posted_moved M a (put y n a) b.posted (λ x c. put_other y n a x (apart x c)) f.posted;
  }

pub free_members : FreeMembers
free_members M N within b o ms ws l a f y n h free low =
    let fixed = open_var M N b o ms ws (solution_consistent M N within b.equations b.posted (open_ones ms) a f) l in
    (put y n a, put_solution M N within b o ms ws l a f y n free fixed h low, put_here y n a, λ x d. put_other y n a x d)
