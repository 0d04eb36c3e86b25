-- Lists with each element once, as they grow.
use Rattle.std.proofs.Common.{◌≡◌, ℕ, Bool, true, false, cond, not, ◌||◌, ◌==◌, nat_eq, List, [], ◌∷◌, ◌++◌, filter, refl, sym, ◌∙◌, ap, inl, inr}
use Rattle.std.specs.List.{list_any}
use Rattle.std.proofs.lemmas.Bool.{cases_Bool}
use Rattle.std.proofs.lemmas.List.Elements.{filter-append}
use Rattle.std.proofs.Math.Bool.{or-false, or-true}
use Rattle.std.proofs.lemmas.List.{append-nil}
use Rattle.fd_language.specs.Family.{has}
use Rattle.fd_language.specs.Needs.{once}
use Rattle.fd_language.proofs.Lemmas.{eq_sym, has_once}

-- one more element
pub once_more : (xs : List ℕ) (x : ℕ) → once (xs ++ x ∷ []) ≡ cond (has xs x) (once xs) (once xs ++ x ∷ [])
once_more [] x = refl
once_more (y ∷ ys) x = elim (cases_Bool (has ys x)) [
  | inl i ↦
      ap (λ l. y ∷ filter (λ z. not (z == y)) l) (once_more ys x ∙ ap (λ b. cond b (once ys) (once ys ++ x ∷ [])) i)
      ∙ sym (ap (λ b. cond ((y == x) || b) (once (y ∷ ys)) (once (y ∷ ys) ++ x ∷ [])) i ∙ ap (λ b. cond b (once (y ∷ ys)) (once (y ∷ ys) ++ x ∷ [])) (or-true (y == x)))
  | inr i ↦
      ap (λ l. y ∷ filter (λ z. not (z == y)) l) (once_more ys x ∙ ap (λ b. cond b (once ys) (once ys ++ x ∷ [])) i)
      ∙ (ap (λ l. y ∷ l) (filter-append (λ z. not (z == y)) (once ys) (x ∷ []))
      ∙ (last (x == y) (y == x) (eq_sym y x)
      ∙ sym (ap (λ b. cond ((y == x) || b) (once (y ∷ ys)) (once (y ∷ ys) ++ x ∷ [])) i ∙ ap (λ b. cond b (once (y ∷ ys)) (once (y ∷ ys) ++ x ∷ [])) (or-false (y == x)))))
] where
  last : (c d : Bool) → d ≡ c → y ∷ (filter (λ z. not (z == y)) (once ys) ++ cond (not c) (x ∷ []) []) ≡ cond d (once (y ∷ ys)) (once (y ∷ ys) ++ x ∷ [])
  last true d e = ap (λ l. y ∷ l) (append-nil (filter (λ z. not (z == y)) (once ys))) ∙ sym (ap (λ b. cond b (once (y ∷ ys)) (once (y ∷ ys) ++ x ∷ [])) e)
  last false d e = sym (ap (λ b. cond b (once (y ∷ ys)) (once (y ∷ ys) ++ x ∷ [])) e)

pub any_has : (keys : List ℕ) (x : ℕ) → list_any (nat_eq x) keys ≡ has keys x
any_has [] x = refl
any_has (k ∷ ks) x = ap (λ b. b || list_any (nat_eq x) ks) (eq_sym x k) ∙ ap (λ b. (k == x) || b) (any_has ks x)

-- the keys of a set that grows
pub keys_more : (xs keys new : List ℕ) (x : ℕ) → new ≡ cond (list_any (nat_eq x) keys) keys (keys ++ x ∷ []) → keys ≡ once xs → new ≡ once (xs ++ x ∷ [])
keys_more xs keys new x e f =
    e ∙ (ap (λ l. cond (list_any (nat_eq x) l) l (l ++ x ∷ [])) f ∙ (ap (λ b. cond b (once xs) (once xs ++ x ∷ [])) (any_has (once xs) x ∙ has_once xs x) ∙ sym (once_more xs x)))

is_new : (xs keys : List ℕ) (x : ℕ) (b : Bool) → b ≡ not (list_any (nat_eq x) keys) → keys ≡ once xs → b ≡ not (has xs x)
is_new xs keys x b e f = e ∙ ap not (ap (list_any (nat_eq x)) f ∙ (any_has (once xs) x ∙ has_once xs x))

from_not : (a b c : Bool) → b ≡ not a → b ≡ c → a ≡ not c
from_not true b c e f = sym (ap not (sym f ∙ e))
from_not false b c e f = sym (ap not (sym f ∙ e))

pub put_new : (xs keys slots new : List ℕ) (x : ℕ) (b : Bool) → b ≡ not (list_any (nat_eq x) keys) → keys ≡ once xs → b ≡ true → slots ≡ once xs → new ≡ slots ++ x ∷ [] → new ≡ once (xs ++ x ∷ [])
put_new xs keys slots new x b e f t s n =
    n ∙ (ap (λ l. l ++ x ∷ []) s ∙ sym (once_more xs x ∙ ap (λ c. cond c (once xs) (once xs ++ x ∷ [])) (from_not (has xs x) b true (is_new xs keys x b e f) t)))

pub put_old : (xs keys slots : List ℕ) (x : ℕ) (b : Bool) → b ≡ not (list_any (nat_eq x) keys) → keys ≡ once xs → b ≡ false → slots ≡ once xs → slots ≡ once (xs ++ x ∷ [])
put_old xs keys slots x b e f t s = s ∙ sym (once_more xs x ∙ ap (λ c. cond c (once xs) (once xs ++ x ∷ [])) (from_not (has xs x) b false (is_new xs keys x b e f) t))
