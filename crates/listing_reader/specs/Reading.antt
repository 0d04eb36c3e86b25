-- Reading: finding the only thing that has a text.
use Rattle.std.specs.Prelude.{◌≡◌, ℕ, Bool, List, [], ◌∷◌, ◌==◌, nat_eq, if◌then◌else◌, Option, MatchOption}
use Rattle.std.specs.List.{list_any}

-- What the result stands for is a thing that fits and has this text, and there is none where there is no result.
abbrev pub ReadsAs : {V A B : Type 0} → (V → A) → (A → Type 0) → (A → B) → B → Option V → Type 0
ReadsAs {V} {A} {B} told Fits text given r = MatchOption r ((x : A) → Fits x → ¬ (text x ≡ given)) (λ v. Fits (told v) × (text (told v) ≡ given))

-- the same, where the result is the thing itself
abbrev pub Reads : {A B : Type 0} → (A → Type 0) → (A → B) → B → Option A → Type 0
Reads {A} {B} Fits text given r = MatchOption r ((x : A) → Fits x → ¬ (text x ≡ given)) (λ x. Fits x × (text x ≡ given))

-- ---- words

abbrev pub with_byte : ℕ → List (List ℕ) → List (List ℕ)
with_byte b [] = (b ∷ []) ∷ []
with_byte b (w ∷ ws) = (b ∷ w) ∷ ws

-- the words of a line: what stands between its separators
abbrev pub split : ℕ → List ℕ → List (List ℕ)
split sep [] = [] ∷ []
split sep (b ∷ bs) = if b == sep then [] ∷ split sep bs else with_byte b (split sep bs)

-- the byte stands in the text
abbrev pub has_byte : ℕ → List ℕ → Bool
has_byte sep w = list_any (λ b. nat_eq b sep) w
