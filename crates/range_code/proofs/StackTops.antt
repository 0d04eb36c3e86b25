-- The last element of a list, which is the top of a stack.
use Rattle.std.proofs.Common.{◌≡◌, ℕ, zero, suc, ◌-◌, ◌<◌, ℤ, pos, List, [], ◌∷◌, ◌++◌, length, length-append, take, Option, Some, None, refl, sym, ◌∙◌, ap}
use Rattle.std.proofs.Common.{arith}
use Rattle.std.specs.Prelude.{◌↔◌}
use Rattle.std.specs.Option.{IsSome, option_to_list, unwrap_or}
use Rattle.std.proofs.lemmas.Bool.{true≢false}
use Rattle.indexmap.proofs.RemoveLemmas.{popped_last}

-- what was popped is the element that stood last, and the others are left
pub last_popped : (old new front : List ℤ) (a : ℤ) (n : ℕ) (o : Option ℤ) → old ≡ new ++ option_to_list o → IsSome o ↔ (0 < n) → new ≡ take (n - 1) old
    → old ≡ front ++ a ∷ [] → (unwrap_or o (pos 0) ≡ a) × (new ≡ front)
last_popped old new front a n (Some x) e s t h = let k = popped_last front new a (Some x) (sym h ∙ e) refl in (ap (λ o. unwrap_or o (pos 0)) k.0, k.1)
last_popped old new front a n None e s t h = absurd (none n (λ l. true≢false (sym (s.1 l))) t) where
  none : (n : ℕ) → (0 < n → ⊥) → new ≡ take (n - 1) old → ⊥
  none zero s t = let l : length old ≡ 0 = ap length (e ∙ ap (λ l. l ++ []) t) in let k = ap length h ∙ length-append front (a ∷ []) in omega (arith, l, k)
  none (suc n) s t = s (omega arith)
