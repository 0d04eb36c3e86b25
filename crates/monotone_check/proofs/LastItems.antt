-- What stood last where items were popped.
use Rattle.std.proofs.Common.{◌≡◌, List, [], ◌∷◌, ◌++◌, sym, ◌∙◌, subst}
use Rattle.std.proofs.lemmas.List.{same_from_push}

pub two_popped : {A : Type 0} (P : List A → A → A → Type 0) (xs ys zs : List A) (x y : A) → xs ≡ ys ++ y ∷ [] → ys ≡ zs ++ x ∷ [] → P zs x y
    → (front : List A) (a b : A) → xs ≡ (front ++ a ∷ []) ++ b ∷ [] → P front a b
two_popped P xs ys zs x y e f p front a b g =
    let last = same_from_push ys (front ++ a ∷ []) y b (sym e ∙ g) in
    let before = same_from_push zs front x a (sym f ∙ last.0) in
    subst (λ z. P front a z) last.1 (subst (λ z. P front z y) before.1 (subst (λ l. P l x y) before.0 p))
