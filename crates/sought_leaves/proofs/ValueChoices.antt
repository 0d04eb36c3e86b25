-- The two ways of a labelling that takes given values, and a cell that takes an integer.
use Rattle.std.proofs.Common.{◌≡◌, ◌⊎◌, ℕ, suc, pos, List, [], ◌∷◌, Some, None, Ok, refl, ap, sym, ◌∙◌, inl, inr}
use Rattle.std.proofs.lemmas.Bool.{cases_eq}
use Rattle.fd_language.specs.Family.{Family}
use Rattle.fd_language.specs.Term.{Term, Var, Int, Atom, Comp, Substitution, apply}
use Rattle.fd_language.specs.Unifier.{IsMostGeneral}
use Rattle.fd_model.specs.declared.kinds.Order.{Order}
use Rattle.fd_model.specs.Branches.{by_value, look_in, sets_in}
use Rattle.fd_model.specs.Goal.{Branch}
use Rattle.fd_model.specs.Labelling.{read_list, pick, values_by}
use Rattle.fd_model.specs.Members.{Member}
use Rattle.fd_model.specs.BranchViews.{IsConsistent, IsView}
use Rattle.sought_leaves.specs.LeafSearch.{Takes, ends, gives}
use Rattle.sought_leaves.proofs.Nodes.{put_number, number_here, number_else}

module _ (M N : ℕ) (o : Order) (t : Term) (value : ℕ → ℕ) where
  -- by a branch's view, nothing is picked, or a variable is, which takes its value
  pub record IsEnd (b d : Branch) : Type 0 where
    pub unifier : Substitution
    pub family : Family
    pub members : List Member
    pub view : IsView M N b.equations b.posted unifier family
    pub list : read_list (apply (look_in b unifier family) t) ≡ Ok members
    pub picked : pick o (λ y. values_by N (sets_in b unifier family y)) members ≡ None
    pub same : b ≡ d

  pub record IsTaken (j : ℕ) (b d : Branch) : Type 0 where
    pub unifier : Substitution
    pub family : Family
    pub members : List Member
    pub variable : ℕ
    pub view : IsView M N b.equations b.posted unifier family
    pub list : read_list (apply (look_in b unifier family) t) ≡ Ok members
    pub picked : pick o (λ y. values_by N (sets_in b unifier family y)) members ≡ Some variable
    pub consistent : IsConsistent M N (by_value b b.goals variable (value variable)).equations b.posted
    pub more : Takes M N o t value j (by_value b b.goals variable (value variable)) d

  pub takes_either : {k : ℕ} {b d : Branch} → Takes M N o t value k b d → (IsEnd b d × (k ≡ 0)) ⊎ ((j : ℕ) × (k ≡ suc j) × IsTaken j b d)
  takes_either (ends s D ms v e p) = inl (record { unifier = s; family = D; members = ms; view = v; list = e; picked = p; same = refl }, refl)
  takes_either (gives {j = j} s D ms x v e p c m) = inr (j, refl, record { unifier = s; family = D; members = ms; variable = x; view = v; list = e; picked = p; consistent = c; more = m })

-- A term that is a variable once a cell has taken an integer was that variable.
pub number_stays : (v n : ℕ) (u : Term) (d : ℕ) → apply (put_number v n) u ≡ Var d → u ≡ Var d
number_stays v n (Var x) d i = elim (cases_eq x v) [
  | inl j ↦ absurd (let f : Int (pos n) ≡ Var d = sym (ap (put_number v n) j ∙ number_here v n) ∙ i in cc)
  | inr j ↦ sym (number_else v n x j) ∙ i
]
number_stays v n (Int z) d i = absurd (cc)
number_stays v n (Atom a) d i = absurd (cc)
number_stays v n (Comp f ts) d i = absurd (cc)

-- A most general unifier of a variable and an integer changes that variable alone.
pub number_alone : (s : Substitution) (v n : ℕ) → IsMostGeneral (record { left = Var v; right = Int (pos n) } ∷ []) s → (d : ℕ) → s d ≡ put_number v n d
number_alone s v n g d = elim (cases_eq d v) [
  | inl e ↦ ap s e ∙ g.unifies.0 ∙ sym (ap (put_number v n) e ∙ number_here v n)
  | inr e ↦ number_stays v n (s d) d (g.general (put_number v n) d (number_here v n, tt) ∙ number_else v n d e) ∙ sym (number_else v n d e)
]
