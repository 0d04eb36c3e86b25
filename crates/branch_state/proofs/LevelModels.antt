-- What a store's level says of models.
use Rattle.std.proofs.Common.{◌≡◌, ℕ, Bool, true, false, cond, ◌==◌, List, [], ◌∷◌, length, refl, ap, sym, ◌∙◌, inl, inr, arith, eq-eqb, ne_eqb}
use Rattle.std.proofs.lemmas.Bool.{cases_Bool, or_left, true≢false}
use Rattle.fd_language.specs.declared.TheConstants.{INFINITY}
use Rattle.fd_language.specs.Family.{Family, has, universe, IsFamily, IsRising, IsInside}
use Rattle.fd_language.specs.Range.{Indexical, is_none_left}
use Rattle.fd_language.specs.Term.{Var}
use Rattle.fd_language.proofs.Lemmas.{universe_rising, in_universe, identity}
use Rattle.fd_model.specs.ClosedFamilies.{constrained}
use Rattle.fd_model.specs.Domains.{Domains}
use Rattle.fd_model.specs.Models.{IsModel}
use Rattle.fd_model.proofs.Lemmas.{whole}
use Rattle.branch_meaning.proofs.Lemmas.{holds_agree}
use Rattle.range_code.specs.Frames.{family_of}
use Rattle.fd_model.specs.Levels.{Level}
use Rattle.propagate_queue.specs.PropagationInvariant.{AreDomains, HasNone}
use Rattle.propagate_queue.specs.StoreFields.{IsPosted}
use Rattle.propagate_queue.specs.declared.store.Posted.TheVariants.{Kept, Failed}
use Rattle.branch_state.specs.States.{IsSettled, HasNoModel}

some_member : (xs : List ℕ) → is_none_left xs ≡ false → (w : ℕ) × (has xs w ≡ true)
some_member [] h = absurd (true≢false h)
some_member (w ∷ ws) h = (w, or_left (w == w) (has ws w) (eq-eqb w w refl))

module _ (ps : List Indexical) (sets : List (List ℕ)) (d : AreDomains ps sets) where
  -- the sets are a model
  pub settled_model : IsModel INFINITY INFINITY [] ps (family_of sets)
  settled_model = record {
    unifier = Var;
    general = identity;
    closed = whole INFINITY ps (family_of sets) d.family d.closed;
    full = λ x c. some_member (family_of sets x) (d.some x);
  }

  -- which contains each model
  pub settled_most : (R : Family) → IsModel INFINITY INFINITY [] ps R → IsInside R (family_of sets)
  settled_most R m = record { at = λ x. record { each = λ n h. (d.domains x n).1 (record { unifier = m.unifier; general = m.general; family = R; closed = m.closed; member = h }) } }

module _ (M : ℕ) (ps : List Indexical) (x : ℕ) (T : Family) (m : IsModel M M [] ps T) where
  full_at : Family
  full_at v = cond (v == x) (universe M) (T v)

  full_rising : IsFamily M full_at
  unfolding full_at
  full_rising = record { rising = λ v. either (v == x) (T v) (m.closed.family.rising v) } where
    either : (b : Bool) (xs : List ℕ) → IsRising 0 M xs → IsRising 0 M (cond b (universe M) xs)
    either true xs r = universe_rising M
    either false xs r = r

  -- a variable of which nothing is said has a value in some closed family
  free_value : has (constrained ps) x ≡ false → (n : ℕ) × Domains M M [] ps x n
  unfolding full_at
  free_value h = (
    0,
    record {
      unifier = Var;
      general = identity;
      family = full_at;
      closed = whole M ps full_at full_rising (holds_agree M full_at T ps
          (λ v c. ap (λ b. cond b (universe M) (T v)) (ne_eqb v x (λ e. true≢false (sym c ∙ ap (has (constrained ps)) e ∙ h)))) m.closed.posted);
      member = ap (λ b. has (cond b (universe M) (T x)) 0) (eq-eqb x x refl) ∙ in_universe M 0 (omega arith);
    },
  )

  some_value : (n : ℕ) × Domains M M [] ps x n
  some_value = elim (cases_Bool (has (constrained ps) x)) [
    | inl c ↦ let w = m.full x c in (w.0, record { unifier = m.unifier; general = m.general; family = T; closed = m.closed; member = w.1 })
    | inr c ↦ free_value c
  ]

-- a failed level has no model
pub failed_none : (ps : List Indexical) (count : ℕ) → HasNone ps count → (T : Family) → IsModel INFINITY INFINITY [] ps T → ⊥
failed_none ps count h T m = let w = some_value INFINITY ps h.0 T m in h.2 w.0 w.1

pub settled : (l : Level) → AreDomains l.posted l.sets → IsSettled INFINITY l
settled l d = record { model = settled_model l.posted l.sets d; most = settled_most l.posted l.sets d }

-- how a post ends
pub kept_settled : (l : Level) → IsPosted Kept l → (l.failed ≡ false) × IsSettled INFINITY l
kept_settled l p = (p.0, settled l p.1)

pub failed_no_model : (l : Level) → IsPosted Failed l → HasNoModel INFINITY l.posted
failed_no_model l p = failed_none l.posted (length l.sets) p.1
