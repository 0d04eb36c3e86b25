-- The four lines of a summary, one behind the other.
use Rattle.std.proofs.Common.{◌≡◌, ◌++◌, ◌∙◌, ℕ, [], List, ap}
use Rattle.std.proofs.lemmas.List.{append_assoc}

pub four_lines : (g a r e t u v w s : List ℕ) → t ≡ [] → u ≡ t ++ g → v ≡ u ++ a → w ≡ v ++ r → s ≡ w ++ e → s ≡ g ++ (a ++ (r ++ e))
four_lines g a r e t u v w s e0 e1 e2 e3 e4 =
    e4 ∙ ap (λ (l : List ℕ). l ++ e) (e3 ∙ ap (λ (l : List ℕ). l ++ r) (e2 ∙ ap (λ (l : List ℕ). l ++ a) (e1 ∙ ap (λ (l : List ℕ). l ++ g) e0)))
    ∙ append_assoc (g ++ a) r e
    ∙ append_assoc g a (r ++ e)
