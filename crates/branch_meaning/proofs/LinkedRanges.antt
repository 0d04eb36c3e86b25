-- Ranges on cells that a store links, as ranges of a branch that are posted.
use Rattle.std.proofs.Common.{◌≡◌, ℕ, true, List, [], ◌∷◌, ◌++◌, Option, map, refl, ap, sym, ◌∙◌, subst, inl, inr}
use Rattle.fd_language.specs.Term.{Var, Substitution}
use Rattle.fd_language.specs.Unifier.{Equation}
use Rattle.fd_language.specs.Family.{has}
use Rattle.fd_language.specs.Range.{Indexical}
use Rattle.fd_model.specs.ClosedFamilies.{constrained}
use Rattle.fd_language.specs.RangeRenaming.{rename_indexical}
use Rattle.fd_language.proofs.Lemmas.{in_left, in_right}
use Rattle.fd_model.proofs.Lemmas.{map_has, has_map}
use Rattle.branch_meaning.specs.Store.{IsLinked, next_slot, IsStored, ArePosted, names}
use Rattle.branch_meaning.specs.Rows.{IsJoined, AreJoined}
use Rattle.branch_meaning.proofs.Renaming.{range_twice}
use Rattle.branch_meaning.proofs.Posting.{posted, posted_by, names_renamed}

module _ (M N : ℕ) (es : List Equation) (P : ℕ → Type 0) (h : ℕ) (look : Substitution) (f : ℕ → ℕ) where
  abbrev Placed : List ℕ → Type 0
  Placed vs = (v : ℕ) → has vs v ≡ true → P v × (look v ≡ Var (f v))

  linked_by : (p : Indexical) → Placed (names p) → (link : ℕ → Option ℕ) (qs : List Indexical) (g : ℕ → ℕ) (link' : ℕ → Option ℕ)
      → IsJoined link qs (rename_indexical f p) g link' → IsLinked P look link qs p (λ v. g (f v)) link'
  linked_by p i link qs g link' j = record {
    used = λ v c. (i v c).0;
    cell = λ v c. (f v, (i v c).1, j.cell (f v) (subst (λ l. has l (f v) ≡ true) (sym (names_renamed f p)) (has_map f (names p) v c)));
    keep = j.keep;
    fresh = λ c k e. elim (j.fresh c k e) [
      | inl a ↦ inl a
      | inr a ↦ let z = map_has f (names p) c (subst (λ l. has l c ≡ true) (names_renamed f p) a.0) in inr (z.0, z.1, (i z.0 z.1).1 ∙ ap Var z.2, a.1)
    ];
    one = j.one;
  }

  -- each known variable that the ranges name is the cell that f gives it
  pub posted_each : (ws : List Indexical) → Placed (constrained ws) → (ps : List Indexical) (link : ℕ → Option ℕ) (slot : ℕ → ℕ) (qs : List Indexical) → IsStored M N es ps P h look link slot qs
      → (link' : ℕ → Option ℕ) (qs' : List Indexical) → AreJoined link qs (map (rename_indexical f) ws) link' qs' → (slot' : ℕ → ℕ) × ArePosted ps P look link slot qs ws link' slot' qs'
  posted_each [] i ps link slot qs st link' qs' a = (slot, (a.0, refl, a.1))
  posted_each (w ∷ ws) i ps link slot qs st link' qs' a =
      let of : ℕ → ℕ = λ v. a.0 (f v) in
      let po = posted_by M N es ps P h look link slot qs st w of a.1 (linked_by w (λ v c. i v (in_left (names w) (constrained ws) v c)) link qs a.0 a.1 a.2) in
      let next = next_slot ps slot of in
      let st' = posted M N es ps P h look link slot qs st w of a.1 next po in
      let twice : rename_indexical a.0 (rename_indexical f w) ≡ rename_indexical of w = ap (λ r. record { target = of w.target; range = r }) (range_twice a.0 f w.range) in
      let later = posted_each ws (λ v c. i v (in_right (names w) (constrained ws) v c)) (w ∷ ps) a.1 next (qs ++ rename_indexical of w ∷ []) st' link' qs'
      (subst (λ p. AreJoined a.1 (qs ++ p ∷ []) (map (rename_indexical f) ws) link' qs') twice a.3) in
      (later.0, (of, a.1, next, po, later.1))
