-- Facts on lists.
use Rattle.std.specs.Prelude.{List, [], ◌∷◌}

-- the fact holds of each element
abbrev pub Each : {X : Type 0} → (X → Type 0) → List X → Type 0
Each H [] = Unit {0}
Each H (x ∷ xs) = H x × Each H xs
