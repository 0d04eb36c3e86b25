-- Collecting by tasks, and the sums that are made.
use Rattle.std.specs.Prelude.{◌≡◌, ℕ, ◌+◌, ◌*◌, ◌<◌, ◌≤◌, Bool, false, not, if◌then◌else◌, List, [], ◌∷◌, ◌++◌, length, All, codes, Option, Some, None}
use Rattle.std.specs.Prelude.{MatchResult, Result, Ok, Err}
use Rattle.std.specs.Str.{bytes_eq}
use Rattle.fd_language.specs.Term.{Name}
use Rattle.fd_model.specs.declared.kinds.QueryFault.{QueryFault}
use Rattle.fd_model.specs.declared.kinds.QueryFault.TheVariants.{BadType}
use Rattle.fd_model.specs.Linear as linear
use Rattle.fd_model.specs.Linear.{of_one, sum_of, product_of, collect_term}
use Rattle.term_pool.specs.declared.TermId.{TermId}
use Rattle.term_pool.specs.Contents.{Contents}
use Rattle.term_pool.specs.Terms.{term_of, size}
use Rattle.linear_forms.specs.declared.LinearFault.{LinearFault}
use Rattle.linear_forms.specs.declared.LinearFault.TheVariants as fault
use Rattle.linear_forms.specs.declared.sums.Sum.{Sum}
use Rattle.linear_forms.specs.declared.walk.Task.{Task}
use Rattle.linear_forms.specs.declared.walk.Task.TheVariants as task
use Rattle.linear_forms.specs.declared.walk.Made.{Made}
use Rattle.linear_forms.specs.LinearForm.{IsFaultOf}
use Rattle.linear_forms.specs.Sums.{IsSum, signed}

-- a sum before the others
abbrev pub before : List linear.Sum → Result linear.Sum QueryFault → Result (List linear.Sum) QueryFault
before ss r = of_one (λ s. Ok (s ∷ ss)) r

-- an operation on the last two sums
abbrev pub on_two : (linear.Sum → linear.Sum → Result linear.Sum QueryFault) → List linear.Sum → Result (List linear.Sum) QueryFault
on_two op [] = Err BadType
on_two op (t ∷ []) = Err BadType
on_two op (t ∷ s ∷ ss) = before ss (op s t)

-- what a task does to the sums that are made, the last one first
abbrev pub step : Contents → Task → List linear.Sum → Result (List linear.Sum) QueryFault
step c (task.Collect t negated) ss = before ss (signed negated (collect_term (term_of c t)))
step c task.Add ss = on_two sum_of ss
step c task.Multiply ss = on_two product_of ss

-- what the tasks do, the last one first
abbrev pub run : Contents → List Task → List linear.Sum → Result (List linear.Sum) QueryFault
run c [] ss = Ok ss
run c (k ∷ ks) ss = of_one (step c k) (run c ks ss)

-- how long the tasks can take
abbrev pub task_weight : Contents → Task → ℕ
task_weight c (task.Collect t negated) = 2 * size (term_of c t)
task_weight c task.Add = 1
task_weight c task.Multiply = 1

unfoldable pub load : Contents → List Task → ℕ
load c [] = 0
load c (k ∷ ks) = task_weight c k + load c ks

-- the task collects a term of the pool
abbrev pub IsOf : Contents → Task → Type 0
IsOf c (task.Collect t negated) = t.number < length c.entries
IsOf c task.Add = Unit {0}
IsOf c task.Multiply = Unit {0}

-- an operator behind its operands, the left one last
abbrev pub operator_tasks : Name → TermId → TermId → Bool → Option (List Task)
operator_tasks f a b negated =
    if bytes_eq f (codes "+") then Some (task.Add ∷ task.Collect b negated ∷ task.Collect a negated ∷ []) else
    if bytes_eq f (codes "-") then Some (task.Add ∷ task.Collect b (not negated) ∷ task.Collect a negated ∷ []) else
    if bytes_eq f (codes "*") then Some (task.Multiply ∷ task.Collect b negated ∷ task.Collect a false ∷ []) else None

abbrev pub compound_tasks : Name → List TermId → Bool → Option (List Task)
compound_tasks f [] negated = None
compound_tasks f (a ∷ []) negated = if bytes_eq f (codes "-") then Some (task.Collect a (not negated) ∷ []) else None
compound_tasks f (a ∷ b ∷ []) negated = operator_tasks f a b negated
compound_tasks f (a ∷ b ∷ c ∷ ts) negated = None

-- no number, or want of memory
abbrev pub IsNoNumber : Option (List Task) → LinearFault → Type 0
IsNoNumber ks fault.Nonlinear = ⊥
IsNoNumber ks fault.NotANumber = ks ≡ None
IsNoNumber ks fault.Overflow = ⊥
IsNoNumber ks fault.NoMemory = Unit {0}

-- the tasks that are meant, or no number where there are none
abbrev pub Means : {A : Type 0} → Option (List Task) → (A → List Task) → Result A LinearFault → Type 0
Means ks view r = MatchResult r (λ a. ks ≡ Some (view a)) (λ f. (f ≡ fault.NotANumber) × (ks ≡ None))

-- the tasks are put behind the others
abbrev pub Opens : Option (List Task) → List Task → List Task → Result (Unit {0}) LinearFault → Type 0
Opens ks old new r = MatchResult r (λ _. (more : List Task) × (ks ≡ Some more) × (new ≡ old ++ more)) (IsNoNumber ks)

-- The sums are kept, the last one last, before those of acc. The variables of each first occur behind those of the sums before it.
abbrev pub AreSums : ℕ → List Sum → List linear.Sum → List linear.Sum → ℕ → Type 0
AreSums lo [] acc ss hi = (acc ≡ ss) × (lo ≤ hi)
AreSums lo (t ∷ ts) acc ss hi = (s : linear.Sum) × (m : ℕ) × IsSum t s lo m × AreSums m ts (s ∷ acc) ss hi

abbrev pub Makes : Made → List linear.Sum → Type 0
Makes m ss = AreSums 0 m.sums.items [] ss m.met

-- The operation is done to the sums, or it gives the fault.
abbrev pub Applies : (List linear.Sum → Result (List linear.Sum) QueryFault) → Made → Made → Result (Unit {0}) LinearFault → Type 0
Applies op old new r =
    MatchResult r (λ _. (ss : List linear.Sum) → Makes old ss → (ts : List linear.Sum) × (op ss ≡ Ok ts) × Makes new ts) (λ f. (ss : List linear.Sum) → Makes old ss → IsFaultOf (op ss) f)

-- the last two sums, and the others before them
pub record TakesTwo (old : Made) (left right : Sum) (new : Made) (ss : List linear.Sum) : Type 0 where
  pub first : linear.Sum
  pub second : linear.Sum
  pub rest : List linear.Sum
  pub lo : ℕ
  pub middle : ℕ
  pub is : ss ≡ second ∷ first ∷ rest
  pub left_sum : IsSum left first lo middle
  pub right_sum : IsSum right second middle old.met
  pub others : AreSums 0 new.sums.items [] rest lo
  pub met : new.met ≡ old.met

-- fewer than two sums, or want of memory
abbrev pub HasNotTwo : LinearFault → List linear.Sum → Type 0
HasNotTwo f ss = (op : linear.Sum → linear.Sum → Result linear.Sum QueryFault) → IsFaultOf (on_two op ss) f

-- The sums and the tasks that are new come to what the task does.
pub record Does (c : Contents) (k : Task) (old : Made) (old_ahead : List Task) (new : Made) (new_ahead : List Task) : Type 0 where
  pub more : List Task
  pub pushed : new_ahead ≡ old_ahead ++ more
  pub made : (ss : List linear.Sum) → Makes old ss → (ts : List linear.Sum) × (run c more ts ≡ step c k ss) × Makes new ts
  pub lighter : load c more < task_weight c k
  pub within : All (IsOf c) more

abbrev pub Refuses : Contents → Task → Made → LinearFault → Type 0
Refuses c k old f = (ss : List linear.Sum) → Makes old ss → IsFaultOf (step c k ss) f

-- What is made and what is ahead come to the goal.
pub record IsLeft (c : Contents) (goal : Result (List linear.Sum) QueryFault) (made : Made) (ahead : List Task) : Type 0 where
  pub sums : List linear.Sum
  pub is : run c ahead sums ≡ goal
  pub makes : Makes made sums
  pub within : All (IsOf c) ahead
