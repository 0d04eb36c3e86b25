-- What the words of the command line ask for.
use Rattle.std.specs.Prelude.{ℕ, List, [], ◌∷◌, Option, Some, None, codes, if◌then◌else◌}
use Rattle.std.specs.Str.{bytes_eq}
use Rattle.clpcode.specs.declared.command.Task.{Task}
use Rattle.clpcode.specs.declared.command.Task.TheVariants.{List as ListIt, Load}

abbrev pub task_named : List ℕ → Option Task
task_named word = if bytes_eq word (codes "list") then Some ListIt else (if bytes_eq word (codes "load") then Some Load else None)

-- the one word `list`, or the one word `load`
abbrev pub task_of : List (List ℕ) → Option Task
task_of [] = None
task_of (word ∷ []) = task_named word
task_of (word ∷ other ∷ words) = None
