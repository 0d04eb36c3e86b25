-- Words in pairs, taken two by two from a slice.
use Rattle.std.proofs.Common.{◌≡◌, ◌∙◌, ◌&&◌, ◌≤◌, ◌<◌, ◌-◌, not, is_some, refl, ap, arith, List, [], ◌∷◌, length, map, take, drop, get_or, None}
use Rattle.std.specs.Prelude.{◌==◌}
use Rattle.std.proofs.Math.Seq.{take-length}
use Rattle.clap.specs.Words.{Text}
use Rattle.command_words.specs.Words.{has_form, is_choice, value_behind}

module _ {S : Type 0} (text : S → Text) where
  -- the words behind the first two
  abbrev pub others : List S → List S
  others xs = take (length xs - 2) (drop 2 xs)

  others_are : (x y : S) (zs : List S) → others (x ∷ y ∷ zs) ≡ zs
  others_are x y zs = let two : length (x ∷ y ∷ zs) - 2 ≡ length zs = omega arith in rw two (take-length zs)

  pub form_of_pair : (xs : List S) (a b : S) (name value : Text) → 2 ≤ length xs → a ≡ get_or xs 0 a → b ≡ get_or xs 1 b → name ≡ text a → value ≡ text b
      → (is_choice name value && (not (is_some (value_behind name (map text (others xs)))) && has_form (map text (others xs)))) ≡ has_form (map text xs)
  form_of_pair [] a b name value two at next named valued = absurd (omega arith)
  form_of_pair (x ∷ []) a b name value two at next named valued = absurd (omega arith)
  form_of_pair (x ∷ y ∷ zs) a b name value two at next named valued =
      let is : name ≡ text x = named ∙ ap text at in
      let gives : value ≡ text y = valued ∙ ap text next in
      rw (is, gives, others_are x y zs) refl

  pub form_of_few : (xs : List S) → length xs < 2 → (length xs == 0) ≡ has_form (map text xs)
  form_of_few [] few = refl
  form_of_few (x ∷ []) few = refl
  form_of_few (x ∷ y ∷ zs) few = absurd (omega arith)

  pub none_behind : (name : Text) (xs : List S) → length xs < 2 → value_behind name (map text xs) ≡ None
  none_behind name [] few = refl
  none_behind name (x ∷ []) few = refl
  none_behind name (x ∷ y ∷ zs) few = absurd (omega arith)
