-- Facts of each element of a list.
use Rattle.std.proofs.Common.{sym, subst, arith, List, [], ◌∷◌, ◌++◌, length-append}
use Rattle.std.specs.Prelude.{All, reverse}
use Rattle.std.proofs.lemmas.List.{get_or_append_left, reverse-append}
pub use Rattle.std.proofs.lemmas.List.Elements.{All-head as head_of, All-tail as tail_of, All-nil as none_at_all, All-cons as both_of, All-push as all_push}

-- what holds of all of two lists together holds of all of the first
pub all_front : {X : Type 0} (P : X → Type 0) (xs ys : List X) → All P (xs ++ ys) → All P xs
all_front P xs ys a = λ k d l. subst P (get_or_append_left xs ys d k l) (a k d (let e = length-append xs ys in omega arith))

-- and of a last element
pub last_of : {X : Type 0} (P : X → Type 0) (xs : List X) (x : X) → All P (xs ++ x ∷ []) → P x
last_of P [] x a = head_of P x [] a
last_of P (y ∷ ys) x a = last_of P ys x (tail_of P y (ys ++ x ∷ []) a)

-- and of all in the other order
pub all_reverse : {X : Type 0} (P : X → Type 0) (xs : List X) → All P xs → All P (reverse xs)
all_reverse P [] a = a
all_reverse P (x ∷ xs) a = subst (All P) (sym (reverse-append (x ∷ []) xs)) (all_push P (reverse xs) x (all_reverse P xs (tail_of P x xs a)) (head_of P x xs a))
