-- What was saved is put back.
use Rattle.std.proofs.Common.{◌≡◌, ℕ, zero, suc, ◌≤◌, Bool, true, ◌||◌, ◌==◌, List, [], ◌∷◌, ◌++◌, length, set, take, refl, ap, sym, ◌∙◌, subst, inl, inr}
use Rattle.std.proofs.Common.{arith, eqb-true, All}
use Rattle.std.proofs.lemmas.Bool.{or_cases, cases_Bool, eqb-false}
use Rattle.std.proofs.lemmas.List.{set-set, set_comm, length-set}
use Rattle.std.proofs.lemmas.List.Elements.{All-head, All-tail, All-set}
use Rattle.domain_trail.specs.declared.Cell.{Cell}
use Rattle.domain_trail.specs.declared.Saved.{Saved}
use Rattle.domain_trail.specs.Trails.{undo, is_saved}

pub undo-append : (xs ys : List Saved) (cs : List Cell) → undo (xs ++ ys) cs ≡ undo xs (undo ys cs)
undo-append [] ys cs = refl
undo-append (e ∷ xs) ys cs = ap (λ l. set l e.var e.cell) (undo-append xs ys cs)

pub length-undo : (es : List Saved) (cs : List Cell) → length (undo es cs) ≡ length cs
length-undo [] cs = refl
length-undo (e ∷ es) cs = length-set (undo es cs) e.var e.cell ∙ length-undo es cs

take-set_all : (n : ℕ) (l : List Cell) (i : ℕ) (a : Cell) → take n (set l i a) ≡ set (take n l) i a
take-set_all zero l i a = refl
take-set_all (suc n) [] i a = refl
take-set_all (suc n) (x ∷ xs) zero a = refl
take-set_all (suc n) (x ∷ xs) (suc i) a = ap (λ l. x ∷ l) (take-set_all n xs i a)

pub take-undo : (n : ℕ) (es : List Saved) (cs : List Cell) → take n (undo es cs) ≡ undo es (take n cs)
take-undo n [] cs = refl
take-undo n (e ∷ es) cs = take-set_all n (undo es cs) e.var e.cell ∙ ap (λ l. set l e.var e.cell) (take-undo n es cs)

-- a change of a cell that is then written
set_over : (es : List Saved) (cs : List Cell) (k : ℕ) (c x : Cell) → set (undo es (set cs k c)) k x ≡ set (undo es cs) k x
set_over [] cs k c x = set-set cs k c x
set_over (e ∷ es) cs k c x =
    elim (cases_Bool (e.var == k)) [
      | inl h ↦ let same : e.var ≡ k = eqb-true e.var k h in
          subst (λ v. set (set (undo es (set cs k c)) v e.cell) k x ≡ set (set (undo es cs) v e.cell) k x) (sym same)
          (set-set (undo es (set cs k c)) k e.cell x ∙ set_over es cs k c x ∙ sym (set-set (undo es cs) k e.cell x))
      | inr h ↦
          set_comm (undo es (set cs k c)) e.var k e.cell x (eqb-false e.var k h)
          ∙ ap (λ l. set l e.var e.cell) (set_over es cs k c x)
          ∙ sym (set_comm (undo es cs) e.var k e.cell x (eqb-false e.var k h))
    ]

-- a change of a cell that was saved
pub undo_over : (es : List Saved) (cs : List Cell) (k : ℕ) (c : Cell) → is_saved k es ≡ true → undo es (set cs k c) ≡ undo es cs
undo_over [] cs k c h = absurd (cc)
undo_over (e ∷ es) cs k c h =
    elim (or_cases (e.var == k) (is_saved k es) h) [
      | inl f ↦ subst (λ v. set (undo es (set cs k c)) v e.cell ≡ set (undo es cs) v e.cell) (sym (eqb-true e.var k f)) (set_over es cs k c e.cell)
      | inr f ↦ ap (λ l. set l e.var e.cell) (undo_over es cs k c f)
    ]

pub is_saved-append : (k : ℕ) (xs ys : List Saved) → is_saved k (xs ++ ys) ≡ is_saved k xs || is_saved k ys
is_saved-append k [] ys = refl
is_saved-append k (e ∷ xs) ys = either (e.var == k) (is_saved k xs) (is_saved k ys) (is_saved k (xs ++ ys)) (is_saved-append k xs ys) where
  either : (a b c d : Bool) → d ≡ b || c → (a || d) ≡ ((a || b) || c)
  either a b c d h = grind (arith, h)

pub old_undone : (last : ℕ) (es : List Saved) (cs : List Cell) → All (λ e. e.cell.stamp ≤ last) es → All (λ c. c.stamp ≤ last) cs → All (λ c. c.stamp ≤ last) (undo es cs)
old_undone last [] cs h k = k
old_undone last (e ∷ es) cs h k =
    All-set (λ c. c.stamp ≤ last) (undo es cs) e.var e.cell (All-head (λ f. f.cell.stamp ≤ last) e es h) (old_undone last es cs (All-tail (λ f. f.cell.stamp ≤ last) e es h) k)
