-- The registers of states, each of them once.
use Rattle.std.proofs.Common.{◌≡◌, ◌⊎◌, ℕ, zero, suc, ◌<◌, List, [], ◌∷◌, ◌++◌, length, get_or, slice_get, Some, None, Vec, Global, refl, sym, ap, ◌∙◌, subst}
use Rattle.std.proofs.Common.{inl, inr, arith}
use Rattle.std.proofs.lemmas.Option.{slice_get_read}
use Rattle.fd_language.specs.Family.{has}
use Rattle.code_listing.specs.declared.states.PlaceState.{PlaceState}
use Rattle.code_flow.specs.Successors.{AreRegisters}

-- what stands in a list with one more at its end
pushed_at : {A : Type 0} (xs : List A) (x : A) (k : ℕ) (y : A) → slice_get (xs ++ x ∷ []) k ≡ Some y → (slice_get xs k ≡ Some y) ⊎ ((k ≡ length xs) × (x ≡ y))
pushed_at [] x zero y e = inr (refl, cc (e))
pushed_at [] x (suc k) y e = inl e
pushed_at (z ∷ zs) x zero y e = inl e
pushed_at (z ∷ zs) x (suc k) y e = go (pushed_at zs x k y e)
  where
    go : (slice_get zs k ≡ Some y) ⊎ ((k ≡ length zs) × (x ≡ y)) → (slice_get (z ∷ zs) (suc k) ≡ Some y) ⊎ ((suc k ≡ suc (length zs)) × (x ≡ y))
    go (inl f) = inl f
    go (inr (f, g)) = inr (ap suc f, g)

-- the registers of the states of the first places
abbrev pub AreSame : List PlaceState → List (Vec ℕ Global) → Type 0
AreSame ss rs = (at : ℕ) (s : PlaceState) (r : Vec ℕ Global) → slice_get ss at ≡ Some s → slice_get rs at ≡ Some r → (n : ℕ) → has r.items n ≡ has s.regs.items n

pub none_same : (ss : List PlaceState) (rs : List (Vec ℕ Global)) → rs ≡ [] → AreSame ss rs
none_same ss rs z at s r h g = absurd (let e : None ≡ Some r = ap (λ (l : List (Vec ℕ Global)). slice_get l at) (sym z) ∙ g in cc (e))

-- and those of one place more
pub one_more : (ss : List PlaceState) (rs new : List (Vec ℕ Global)) (at : ℕ) (s : PlaceState) (r : Vec ℕ Global) → length rs ≡ at → slice_get ss at ≡ Some s
    → ((n : ℕ) → has r.items n ≡ has s.regs.items n) → new ≡ rs ++ r ∷ [] → AreSame ss rs → AreSame ss new
one_more ss rs new at s r size here same is old k t x h g = go (pushed_at rs r k x (subst (λ (l : List (Vec ℕ Global)). slice_get l k ≡ Some x) is g))
  where
    go : (slice_get rs k ≡ Some x) ⊎ ((k ≡ length rs) × (r ≡ x)) → (n : ℕ) → has x.items n ≡ has t.regs.items n
    go (inl e) = old k t x h e
    go (inr (e, f)) = λ n. ap (λ (v : Vec ℕ Global). has v.items n) (sym f) ∙ same n ∙ ap (λ (p : PlaceState). has p.regs.items n) alike
      where
        alike : s ≡ t
        alike = let z : Some s ≡ Some t = sym here ∙ ap (slice_get ss) (sym size ∙ sym e) ∙ h in cc (z)

-- those of a place
pub registers_at : (ss : List PlaceState) (rs : List (Vec ℕ Global)) (at : ℕ) (s : PlaceState) (r : Vec ℕ Global) → AreRegisters ss rs → at < length ss
    → s ≡ get_or ss at s → r ≡ get_or rs at r → (n : ℕ) → has r.items n ≡ has s.regs.items n
registers_at ss rs at s r a low e f = a.same at s r (slice_get_read ss (length ss) at s refl low e) (slice_get_read rs (length rs) at r refl (omega (arith, low, a.size)) f)
