-- What is told of queries that an instruction leaves or enters.
use Rattle.std.proofs.Common.{◌≡◌, ◌↔◌, ℕ, suc, ◌+◌, ◌<◌, Bool, true, false, IsTrue, List, length, take, get_or, Option, Some, sym, ap, ◌∙◌, subst, inl, inr}
use Rattle.std.proofs.Common.{arith}
use Rattle.fd_language.specs.Family.{has}
use Rattle.wam_code.specs.declared.instruction.Code.{Code}
use Rattle.wam_code.specs.Area.{State, Area, Holds}
use Rattle.wam_code.specs.VerifiedCode.{named, goes_on, Names, Falls}
use Rattle.code_text.specs.FaultPlaces.{IsTold, Tells, TellsFaults}
use Rattle.code_text.specs.Owners.{owner_at, AreOwners, IsCrossing, IsOwnersPlace, IsOwnerTold, IsCrossed, leaves, AreCrossings}
use Rattle.code_text.proofs.QueryCrossings.{crossed_fails, leaving_fails}
use Rattle.code_text.proofs.PlaceOwners.{owners_kept}
use Rattle.code_flow.proofs.Lemmas.{all_step, has_at}
use Rattle.code_text.proofs.FaultPlaces.{tells_as, tells_then, faults_by, faults_then}

abbrev pub Kept : Option ℕ → Option ℕ → Type 0
Kept old new = (p : ℕ) → IsTold old p → IsTold new p

module _ (a : Area) (own : List (Option ℕ)) (old new : Option ℕ) (kept : Kept old new) where
  pub crossing_kept : (at to : ℕ) → IsCrossing a own old at to → IsCrossing a own new at to
  crossing_kept at to c = record { from = λ n q h e d. kept q.at (c.from n q h e d); into = λ n q h e d. kept q.at (c.into n q h e d) }

  pub owner_kept : (owner : Option ℕ) → IsOwnerTold a owner old → IsOwnerTold a owner new
  owner_kept owner t n q e h = kept q.at (t n q e h)

  pub crossings_kept : (at : ℕ) → AreCrossings a own old at → AreCrossings a own new at
  crossings_kept at c = record {
    names = λ to x. crossing_kept at to (c.names to x);
    falls = λ to x. crossing_kept at to (c.falls to x);
    leaving = λ x. owner_kept (owner_at own at) (c.leaving x);
  }

-- ---- from one place to another

module _ (a : Area) (own : List (Option ℕ)) (at to : ℕ) (x y : Option ℕ) (ex : x ≡ owner_at own at) (ey : y ≡ owner_at own to) (b : Bool) (same : IsTrue b ↔ (x ≡ y)) (old : Option ℕ) where
  pub same_crossing : b ≡ true → IsCrossing a own old at to
  same_crossing t = record { from = λ n q h e d. absurd (d (sym is ∙ e)); into = λ n q h e d. absurd (d (is ∙ e)) }
    where
      is : owner_at own at ≡ owner_at own to
      is = sym ex ∙ same.0 t ∙ ey

  module _ (differ : b ≡ false) (mid new : Option ℕ) where
    differs : ¬ (owner_at own at ≡ owner_at own to)
    differs e = let t : false ≡ true = sym differ ∙ same.1 (ex ∙ e ∙ sym ey) in cc (t)

    pub crossing_told : IsOwnerTold a x mid → IsOwnerTold a y new → Kept mid new → IsCrossing a own new at to
    crossing_told s t kept = record { from = λ n q h e d. kept q.at (s n q (ex ∙ e) h); into = λ n q h e d. t n q (ey ∙ e) h }

    pub crossing_tells : Tells (IsOwnersPlace a x) old mid → Tells (IsOwnersPlace a y) mid new → Tells (IsCrossed a own at to) old new
    crossing_tells s t =
        tells_then (IsCrossed a own at to) old mid new (tells_as (IsOwnersPlace a x) (IsCrossed a own at to) old mid (λ p z. (differs, inl (subst (λ o. IsOwnersPlace a o p) ex z))) s)
        (tells_as (IsOwnersPlace a y) (IsCrossed a own at to) mid new (λ p z. (differs, inr (subst (λ o. IsOwnersPlace a o p) ey z))) t)

-- ---- to each place that is named

abbrev pub IsNamedCrossed : Area → List (Option ℕ) → ℕ → List ℕ → ℕ → Type 0
IsNamedCrossed a own at ns p = (to : ℕ) × IsTrue (has ns to) × IsCrossed a own at to p

module _ (a : Area) (own : List (Option ℕ)) (at : ℕ) (ns : List ℕ) (i d : ℕ) (low : i < length ns) (first old new : Option ℕ) where
  pub named_told : ((to : ℕ) → has (take i ns) to ≡ true → IsCrossing a own old at to) → Kept old new → IsCrossing a own new at (get_or ns i d) → (to : ℕ)
      → has (take (i + 1) ns) to ≡ true → IsCrossing a own new at to
  named_told f kept here = all_step ns i d low (λ to. IsCrossing a own new at to) (λ to t. crossing_kept a own old new kept at to (f to t)) here

  pub named_tells : Tells (IsNamedCrossed a own at ns) first old → Tells (IsCrossed a own at (get_or ns i d)) old new → Tells (IsNamedCrossed a own at ns) first new
  named_tells s t =
      tells_then (IsNamedCrossed a own at ns) first old new s (tells_as (IsCrossed a own at (get_or ns i d)) (IsNamedCrossed a own at ns) old new (λ p z. (get_or ns i d, has_at ns i d low, z)) t)

-- ---- by an instruction

module _ (a : Area) (own : List (Option ℕ)) (at : ℕ) (i : Code) (h : Holds a at i) (ns : List ℕ) (is : ns ≡ named a i) (old one two new : Option ℕ)
    (kept_one : Kept one new) (kept_two : Kept two new) where
  same_code : (j : Code) → Holds a at j → j ≡ i
  same_code j g = let e : Some j ≡ Some i = sym g ∙ h in cc (e)

  pub crossings_are : ((to : ℕ) → IsTrue (has ns to) → IsCrossing a own one at to) → (IsTrue (goes_on i) → IsCrossing a own two at (at + 1))
      → (IsTrue (leaves i) → IsOwnerTold a (owner_at own at) new) → AreCrossings a own new at
  crossings_are named_ones fallen leaving = record { names = names; falls = falls; leaving = λ (j, g, t). leaving (subst (λ c. leaves c ≡ true) (same_code j g) t) }
    where
      names : (to : ℕ) → Names a at to → IsCrossing a own new at to
      names to (j, g, t) = crossing_kept a own one new kept_one at to (named_ones to (ap (λ l. has l to) is ∙ subst (λ c. has (named a c) to ≡ true) (same_code j g) t))

      falls : (to : ℕ) → Falls a at to → IsCrossing a own new at to
      falls to (j, g, t, e) =
          let next : at + 1 ≡ to = omega (arith, e) in
          subst (λ k. IsCrossing a own new at k) next (crossing_kept a own two new kept_two at (at + 1) (fallen (subst (λ c. goes_on c ≡ true) (same_code j g) t)))

  pub crossings_fail : (ss : List State) → AreOwners a (length a.code) old own → Tells (IsNamedCrossed a own at ns) old one
      → Tells (λ p. IsTrue (goes_on i) × IsCrossed a own at (at + 1) p) one two → Tells (λ p. IsTrue (leaves i) × IsOwnersPlace a (owner_at own at) p) two new
      → TellsFaults a ss old new
  crossings_fail ss o s t u =
      let o_one = owners_kept a (length a.code) old one own s.kept o in
      let o_two = owners_kept a (length a.code) one two own t.kept o_one in
      faults_then a ss old two new
      (faults_then a ss old one two
      (faults_by a ss (IsNamedCrossed a own at ns) old one s (λ p (to, x, z) never fits. crossed_fails a own old o ss p never fits at to (inl (i, h, ap (λ l. has l to) (sym is) ∙ x)) z))
      (faults_by a ss (λ p. IsTrue (goes_on i) × IsCrossed a own at (at + 1) p) one two t
      (λ p (x, z) never fits. crossed_fails a own one o_one ss p never fits at (at + 1) (inr (i, h, x, (let e : at + 1 ≡ suc at = omega arith in e))) z)))
      (faults_by a ss (λ p. IsTrue (leaves i) × IsOwnersPlace a (owner_at own at) p) two new u (λ p (x, z) never fits. leaving_fails a own two o_two ss p never fits at (i, h, x) z))
