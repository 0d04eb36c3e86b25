-- What a store is seen as: a nonempty list of levels, each with what is posted on it, the sets of its variables, and whether it has failed.
use Rattle.std.specs.Prelude.{ℕ, Bool, List, refl}
use Rattle.std.specs.Coded.{Coded, code_by, coded×, coded_ℕ, coded_bool, coded_list}
use Rattle.fd_language.specs.contracts.range_node.RangeNode as node
use Rattle.fd_language.specs.Range.{Range, Indexical}
use Rattle.fd_language.specs.PostfixRanges.{nodes_of, spelled_range, spelled_range-nodes}

-- A level's variables are numbered from 0, and each has a set. The sets of a level that has failed say nothing.
pub record Level : Type 0 where
  pub posted : List Indexical
  pub sets : List (List ℕ)
  pub failed : Bool

-- The current level, and those below it, the newest first. spent: memory was wanting, and no answer comes any more.
pub record Levels : Type 0 where
  pub current : Level
  pub below : List Level
  pub spent : Bool

-- levels as values that a program may hold
abbrev pub range_coded : Coded Range
range_coded = code_by _ (coded_list node.the_row.coded) nodes_of spelled_range spelled_range-nodes

abbrev pub indexical_coded : Coded Indexical
indexical_coded = code_by (ℕ × Range) (coded× coded_ℕ range_coded) (λ p. (p.target, p.range)) (λ d. record { target = d.0; range = d.1 }) (λ _. refl)

abbrev pub level_coded : Coded Level
level_coded = code_by (List Indexical × (List (List ℕ) × Bool)) (coded× (coded_list indexical_coded) (coded× (coded_list (coded_list coded_ℕ)) coded_bool))
    (λ l. (l.posted, (l.sets, l.failed))) (λ d. record { posted = d.0; sets = d.1.0; failed = d.1.1 }) (λ _. refl)

abbrev pub levels_coded : Coded Levels
levels_coded = code_by (Level × (List Level × Bool)) (coded× level_coded (coded× (coded_list level_coded) coded_bool)) (λ l. (l.current, (l.below, l.spent)))
    (λ d. record { current = d.0; below = d.1.0; spent = d.1.1 }) (λ _. refl)
