-- The needs that are asked for at each place of a parameter.
use Rattle.std.specs.Prelude.{◌≡◌, ℕ, suc, Bool, true, false, not, ◌||◌, ◌&&◌, nat_lt, if◌then◌else◌, List, [], ◌∷◌, ◌++◌, length, map}
use Rattle.std.specs.List.{list_any}
use Rattle.fd_language.specs.declared.range_node.Need.{Need}
use Rattle.fd_language.specs.declared.range_node.Need.TheVariants.{Whole, Natural, Divisor}
use Rattle.fd_language.specs.Needs.{stronger}
use Rattle.fd_language.specs.declared.range_node.RangeNode.{RangeNode}
use Rattle.fd_language.specs.declared.range_node.RangeNode.TheVariants as node
use Rattle.monotone_check.specs.declared.parameter_places.Asked.{Asked}
use Rattle.monotone_check.specs.declared.parameter_asks.OpenTerm.{OpenTerm}
use Rattle.monotone_check.specs.declared.parameter_asks.AskReader.{AskReader}

abbrev pub raise : Need → Need
raise n = stronger n Natural

-- a natural term that ends at one of these places begins at the number i or before
abbrev pub reaches : ℕ → List Asked → Bool
reaches i es = list_any (λ e. not (nat_lt i e.floor)) es

-- what is asked for at the places, whose numbers begin at i
abbrev pub told : ℕ → List Asked → List (ℕ × Need)
told i [] = []
told i (e ∷ es) = (e.variable, if reaches i (e ∷ es) then raise e.need else e.need) ∷ told (suc i) es

-- at least natural from the number f on
abbrev pub raised : ℕ → ℕ → List (ℕ × Need) → List (ℕ × Need)
raised f i [] = []
raised f i (d ∷ ds) = (d.0, if nat_lt i f then d.1 else raise d.1) ∷ raised f (suc i) ds

-- whether the operator's term may be a literal
abbrev pub joins : RangeNode → Bool
joins node.Add = true
joins node.Sub = true
joins node.Mul = true
joins _ = false

-- the same for each place
abbrev pub raise_all : List (ℕ × Need) → List (ℕ × Need)
raise_all ds = map (λ d. (d.0, raise d.1)) ds

-- what an operator does to what is asked for, from what is kept of its operands
abbrev pub AsksOf : RangeNode → OpenTerm → OpenTerm → List (ℕ × Need) → List (ℕ × Need) → Type 0
AsksOf node.Add a b old new = new ≡ old
AsksOf node.Sub a b old new = new ≡ old
AsksOf node.Mul a b old new = new ≡ (if a.literal || b.literal then old else raised a.from 0 old)
AsksOf _ a b old new = (b.parameter ≡ true → (front : List (ℕ × Need)) (x : ℕ) (n : Need) → old ≡ front ++ (x, n) ∷ [] → new ≡ front ++ (x, Divisor) ∷ [])
    × (b.parameter ≡ false → new ≡ (if b.literal then old else raised a.from 0 old))

abbrev pub asks_now : AskReader → List (ℕ × Need)
asks_now r = told 0 r.asking.places.items

abbrev pub Opens : Bool → AskReader → AskReader → Type 0
Opens literal old new = (s : OpenTerm) × (new.terms.items ≡ old.terms.items ++ s ∷ []) × (s.literal ≡ literal) × (s.parameter ≡ false)
    × (s.from ≡ length old.asking.places.items) × (asks_now new ≡ asks_now old)

abbrev pub OpensParameter : ℕ → AskReader → AskReader → Type 0
OpensParameter x old new = (s : OpenTerm) × (new.terms.items ≡ old.terms.items ++ s ∷ []) × (s.literal ≡ false) × (s.parameter ≡ true)
    × (s.from ≡ length old.asking.places.items) × (asks_now new ≡ asks_now old ++ (x, Whole) ∷ [])

abbrev pub Operates : RangeNode → AskReader → AskReader → Type 0
Operates n old new = (front : List OpenTerm) (a b : OpenTerm) → old.terms.items ≡ (front ++ a ∷ []) ++ b ∷ [] →
    (s : OpenTerm) × (new.terms.items ≡ front ++ s ∷ []) × (s.literal ≡ (joins n && (a.literal && b.literal))) × (s.parameter ≡ false) × (s.from ≡ a.from) × AsksOf n a b (asks_now old) (asks_now new)

abbrev pub Closes : AskReader → AskReader → Type 0
Closes old new = (new.terms.items ≡ []) × (asks_now new ≡ asks_now old)

abbrev pub ClosesQuotient : AskReader → AskReader → Type 0
ClosesQuotient old new = (front : List OpenTerm) (c : OpenTerm) → old.terms.items ≡ front ++ c ∷ [] →
    (new.terms.items ≡ []) × (c.parameter ≡ true → (ds : List (ℕ × Need)) (x : ℕ) (n : Need) → asks_now old ≡ ds ++ (x, n) ∷ []
    → asks_now new ≡ ds ++ (x, Divisor) ∷ []) × (c.parameter ≡ false → asks_now new ≡ asks_now old)
