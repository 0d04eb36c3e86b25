-- What is read so far, and what is still ahead.
use Rattle.std.specs.Prelude.{◌≡◌, ℕ, ◌+◌, ◌*◌, ◌<◌, List, [], ◌∷◌, ◌++◌, length, All}
use Rattle.std.specs.Option.{option_to_list}
use Rattle.fd_language.specs.Spelling.{least_place}
use Rattle.fd_language.specs.declared.range_node.RangeNode.{RangeNode}
use Rattle.term_pool.specs.Contents.{Contents}
use Rattle.term_pool.specs.Terms.{term_of, size}
use Rattle.range_terms.specs.declared.walk.Task.{Task}
use Rattle.range_terms.specs.declared.walk.Task.TheVariants as task
use Rattle.range_terms.specs.declared.walk.Found.{Found}
use Rattle.range_terms.specs.TermNodes.{Wanted, nothing, one_node, joined}
use Rattle.range_terms.specs.Forms.{of_operand}

-- what is to come of a task
abbrev pub of_task : ℕ → Contents → Task → Wanted
of_task N c (task.Read a) = of_operand N c a
of_task N c (task.Put n p) = one_node n p

-- what is to come of the tasks, the last of them first
abbrev pub left : ℕ → Contents → List Task → Wanted
left N c [] = nothing
left N c (t ∷ ts) = joined (left N c ts) (of_task N c t)

-- how long the tasks can take
abbrev pub task_weight : Contents → Task → ℕ
task_weight c (task.Read a) = 2 * size (term_of c a.term)
task_weight c (task.Put n p) = 1

unfoldable pub load : Contents → List Task → ℕ
load c [] = 0
load c (t ∷ ts) = task_weight c t + load c ts

-- the task reads a term of the pool
abbrev pub IsOf : Contents → Task → Type 0
IsOf c (task.Read a) = a.term.number < length c.entries
IsOf c (task.Put n p) = Unit {0}

-- one node more
pub record Puts (n : RangeNode) (p : ℕ) (old new : Found) : Type 0 where
  pub nodes : new.nodes.items ≡ old.nodes.items ++ n ∷ []
  pub places : new.places.items ≡ old.places.items ++ p ∷ []
  pub offender : new.offender ≡ old.offender

-- one place more at which something fits nowhere
pub record Refuses (p : ℕ) (old new : Found) : Type 0 where
  pub nodes : new.nodes.items ≡ old.nodes.items
  pub places : new.places.items ≡ old.places.items
  pub offender : (rest : List ℕ) → least_place (option_to_list new.offender ++ rest) ≡ least_place (option_to_list old.offender ++ p ∷ rest)

-- What is wanted, behind what was found, is partly found and partly left to tasks that weigh less.
pub record Replaces (N : ℕ) (c : Contents) (w : Wanted) (heavy : ℕ) (old : Found) (old_ahead : List Task) (new : Found) (new_ahead : List Task) : Type 0 where
  pub more : List Task
  pub pushed : new_ahead ≡ old_ahead ++ more
  pub nodes : w.offenders ≡ [] → new.nodes.items ++ (left N c more).nodes ≡ old.nodes.items ++ w.nodes
  pub places : new.places.items ++ (left N c more).places ≡ old.places.items ++ w.places
  pub offenders : (rest : List ℕ) → least_place (option_to_list new.offender ++ ((left N c more).offenders ++ rest)) ≡ least_place (option_to_list old.offender ++ (w.offenders ++ rest))
  pub level : length old.nodes.items ≡ length old.places.items → length new.nodes.items ≡ length new.places.items
  pub lighter : load c more < heavy
  pub within : All (IsOf c) more

-- What is found and what is ahead come to what is wanted.
pub record IsLeft (N : ℕ) (c : Contents) (w : Wanted) (found : Found) (ahead : List Task) : Type 0 where
  pub nodes : w.offenders ≡ [] → found.nodes.items ++ (left N c ahead).nodes ≡ w.nodes
  pub places : found.places.items ++ (left N c ahead).places ≡ w.places
  pub offenders : least_place (option_to_list found.offender ++ (left N c ahead).offenders) ≡ least_place w.offenders
  pub level : length found.nodes.items ≡ length found.places.items
  pub within : All (IsOf c) ahead
