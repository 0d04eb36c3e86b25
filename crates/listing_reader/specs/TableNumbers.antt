-- Tables are numbered in the order of the switches that name them.
use Rattle.std.specs.Prelude.{ℕ, suc, List, [], ◌∷◌, map}
use Rattle.wam_code.specs.declared.instruction.Code.{Code}
use Rattle.wam_code.specs.declared.instruction.Code.TheVariants.{SwitchOnConstant, SwitchOnInteger, SwitchOnStructure}
use Rattle.wam_code.specs.Area.{State, Table}
use Rattle.listing_reader.specs.Lists.{Placed}

-- a switch with the number of its table; other instructions as they are
abbrev pub numbered : ℕ → Code → Code
numbered n (SwitchOnConstant t) = SwitchOnConstant n
numbered n (SwitchOnInteger t) = SwitchOnInteger n
numbered n (SwitchOnStructure t) = SwitchOnStructure n
numbered n i = i

-- how many tables there are with that of this instruction
abbrev pub count_with : Code → ℕ → ℕ
count_with (SwitchOnConstant t) n = suc n
count_with (SwitchOnInteger t) n = suc n
count_with (SwitchOnStructure t) n = suc n
count_with i n = n

-- tables with that of this instruction in front
abbrev pub tables_with : Code → Table → List Table → List Table
tables_with (SwitchOnConstant t) rows ts = rows ∷ ts
tables_with (SwitchOnInteger t) rows ts = rows ∷ ts
tables_with (SwitchOnStructure t) rows ts = rows ∷ ts
tables_with i rows ts = ts

-- the instructions of places, where tables are numbered from n
abbrev pub codes_of : ℕ → List Placed → List Code
codes_of n [] = []
codes_of n (p ∷ ps) = numbered n p.1.0 ∷ codes_of (count_with p.1.0 n) ps

abbrev pub tables_of : List Placed → List Table
tables_of [] = []
tables_of (p ∷ ps) = tables_with p.1.0 p.1.1 (tables_of ps)

abbrev pub states_in : List Placed → List State
states_in ps = map (λ p. p.0) ps
