-- The places of variables' first entries.
use Rattle.std.proofs.Common.{◌≡◌, ◌∙◌, ℕ, ◌<◌, ◌+◌, List, ◌∷◌, length, drop, get_or, Bool, true, false, cond, Option, Some, None, refl, sym, ap, subst, Bor}
use Rattle.std.specs.Prelude.{slice_get, nat_eq, is_some, not, option_copied}
use Rattle.std.proofs.lemmas.Bool.{eqb-true}
use Rattle.std.proofs.lemmas.Option.{slice_get-get_or}
use Rattle.std.proofs.lemmas.List.{at_drop_more}
use Rattle.term_writer.specs.declared.VarText.{VarText}
use Rattle.term_writer.specs.Views.{text_of, text_by, text_at}

-- what the index says of a variable once so many entries are looked at
abbrev pub IsIndexed : List VarText → ℕ → ℕ → Option ℕ → Type 0
IsIndexed vars n x None = text_of vars x ≡ text_of (drop n vars) x
IsIndexed vars n x (Some place) = text_by vars (Some place) ≡ text_of vars x

-- an entry of another variable
pub indexed_other : (vars : List VarText) (n x : ℕ) (v : VarText) (o : Option ℕ) → n < length vars → v ≡ get_or vars n v → nat_eq v.var x ≡ false → IsIndexed vars n x o → IsIndexed vars (n + 1) x o
indexed_other vars n x v None l e d h =
    h ∙ at_drop_more (λ (vs : List VarText). text_of vs x) vars n v l ∙ ap (λ (w : VarText). text_of (w ∷ drop (n + 1) vars) x) (sym e)
    ∙ ap (λ (b : Bool). cond b v.text.items (text_of (drop (n + 1) vars) x)) d
indexed_other vars n x v (Some place) l e d h = h

-- the first of a variable
pub indexed_first : (vars : List VarText) (n x : ℕ) (v : VarText) → n < length vars → v ≡ get_or vars n v → slice_get vars n ≡ Some v → nat_eq v.var x ≡ true
    → IsIndexed vars n x None → IsIndexed vars (n + 1) x (Some n)
indexed_first vars n x v l e s d h =
    ap text_at s
    ∙ sym (h ∙ at_drop_more (λ (vs : List VarText). text_of vs x) vars n v l ∙ ap (λ (w : VarText). text_of (w ∷ drop (n + 1) vars) x) (sym e)
    ∙ ap (λ (b : Bool). cond b v.text.items (text_of (drop (n + 1) vars) x)) d)

absent : (o : Option ℕ) → is_some o ≡ true → o ≡ None → ⊥
absent None t e = let d : false ≡ true = t in absurd cc
absent (Some x) t e = absurd cc

module _ (vars : List VarText) (n : ℕ) (v : VarText) (inside : n < length vars) (is : v ≡ get_or vars n v) where
  pub indexed_kept : (g : ℕ → Option ℕ) → is_some (g v.var) ≡ true → ((x : ℕ) → IsIndexed vars n x (g x)) → (x : ℕ) → IsIndexed vars (n + 1) x (g x)
  indexed_kept g known h x = go (g x) refl (h x)
    where
      other : (b : Bool) → nat_eq v.var x ≡ b → g x ≡ None → IsIndexed vars n x None → IsIndexed vars (n + 1) x None
      other true t e k = absurd (absent (g v.var) known (ap g (eqb-true v.var x t) ∙ e))
      other false t e k = indexed_other vars n x v None inside is t k

      go : (o : Option ℕ) → g x ≡ o → IsIndexed vars n x o → IsIndexed vars (n + 1) x o
      go None e k = other (nat_eq v.var x) refl e k
      go (Some place) e k = k

  pub indexed_added : (g h : ℕ → Option ℕ) → g v.var ≡ None → ((x : ℕ) → h x ≡ cond (nat_eq v.var x) (Some n) (g x)) → ((x : ℕ) → IsIndexed vars n x (g x)) → (x : ℕ) → IsIndexed vars (n + 1) x (h x)
  indexed_added g h new step old x = subst (IsIndexed vars (n + 1) x) (sym (step x)) (go (nat_eq v.var x) refl)
    where
      go : (b : Bool) → nat_eq v.var x ≡ b → IsIndexed vars (n + 1) x (cond b (Some n) (g x))
      go true t =
          let here : slice_get vars n ≡ Some v = slice_get-get_or vars n v inside ∙ ap Some (sym is) in
          indexed_first vars n x v inside is here t (subst (IsIndexed vars n x) (ap g (sym (eqb-true v.var x t)) ∙ new) (old x))
      go false t = indexed_other vars n x v (g x) inside is t (old x)

copied_some : (o : Option (Bor ℕ)) → is_some (option_copied o) ≡ is_some o
copied_some None = refl
copied_some (Some x) = refl

pub is_known : (o : Option (Bor ℕ)) (p : Option ℕ) (b : Bool) → option_copied o ≡ p → is_some o ≡ not b → b ≡ false → is_some p ≡ true
is_known o p b e t f = ap is_some (sym e) ∙ copied_some o ∙ t ∙ ap not f

pub is_new : (o : Option (Bor ℕ)) (p : Option ℕ) (b : Bool) → option_copied o ≡ p → is_some o ≡ not b → b ≡ true → p ≡ None
is_new o None b e t f = refl
is_new o (Some x) b e t f = let d : true ≡ false = ap is_some (sym e) ∙ copied_some o ∙ t ∙ ap not f in absurd cc
