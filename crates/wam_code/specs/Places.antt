-- The registers and slots of a clause's code, as terms of a branch.
use Rattle.std.specs.Prelude.{◌≡◌, ◌⊎◌, ℕ, suc, ◌+◌, ◌<◌, ◌≤◌, ◌==◌, Bool, true, false, if◌then◌else◌, Option, Some, None}
use Rattle.fd_language.specs.Term.{Name, Term, Terms, Atom, Comp, no_terms, term}
use Rattle.branch_meaning.specs.Heap.{Below}
use Rattle.wam_code.specs.declared.instruction.Register.{Register}
use Rattle.wam_code.specs.declared.instruction.Register.TheVariants.{X, Y}

-- How deep a search is: there are so many choice points, and they stand for so many branches.
pub record Depth : Type 0 where
  pub points : ℕ
  pub branches : ℕ

abbrev pub no_depth : Depth
no_depth = record { points = 0; branches = 0 }

-- with so many more choice points and branches
abbrev pub deeper : Depth → Depth → Depth
deeper d e = record { points = d.points + e.points; branches = d.branches + e.branches }

-- with one more choice point, which stands for one branch
abbrev pub one_deeper : Depth → Depth
one_deeper d = record { points = suc d.points; branches = suc d.branches }

-- A register, where it holds one, holds a term over the branch's variables. A slot may hold a depth instead, and noted is the depth that the call of the
-- clause's predicate has noted, where no other goal was called since. known are the variables that the heap has already. Those of the clause and of the branch
-- before it are below own; those from own on, below top, are the code's own, for parts of structures.
pub record Places : Type 0 where
  pub x : ℕ → Option Term
  pub y : ℕ → Option Term
  pub levels : ℕ → Option Depth
  pub noted : Option Depth
  pub known : ℕ → Bool
  pub own : ℕ
  pub top : ℕ

abbrev pub put_at : {A : Type 0} → ℕ → A → (ℕ → Option A) → ℕ → Option A
put_at i t r n = if n == i then Some t else r n

-- the register holds nothing that the code may count on
abbrev pub drop_at : {A : Type 0} → ℕ → (ℕ → Option A) → ℕ → Option A
drop_at i r n = if n == i then None else r n

abbrev pub learnt : ℕ → (ℕ → Bool) → ℕ → Bool
learnt v known n = if n == v then true else known n

abbrev pub read : Places → Register → Option Term
read p (X n) = p.x n
read p (Y n) = p.y n

abbrev pub write : Places → Register → Term → Places
write p (X n) t = record p { x = put_at n t p.x }
write p (Y n) t = record p { y = put_at n t p.y; levels = drop_at n p.levels }

-- the slot holds a depth, and no term
abbrev pub put_level : Places → ℕ → Depth → Places
put_level p n d = record p { y = drop_at n p.y; levels = put_at n d p.levels }

-- the code may count on neither a term nor a depth in the slot
abbrev pub drop_level : Places → ℕ → Places
drop_level p n = record p { y = drop_at n p.y; levels = drop_at n p.levels }

abbrev pub without : Places → ℕ → Places
without p i = record p { x = drop_at i p.x }

-- the heap has one more variable
abbrev pub learn : Places → ℕ → Places
learn p v = record p { known = learnt v p.known }

-- A call leaves neither the argument registers nor what was noted.
abbrev pub no_registers : Places → Places
no_registers p = record p { x = λ n. None; noted = None }

abbrev pub no_slots : Places → Places
no_slots p = record p { y = λ n. None; levels = λ n. None }

-- a variable that is still to be made
abbrev pub IsFresh : Places → ℕ → Type 0
IsFresh p v = (p.known v ≡ false) × (v < p.top)

-- a variable that the heap has, or one of the clause's
abbrev pub Has : Places → ℕ → Type 0
Has p v = (p.known v ≡ true) ⊎ (v < p.top)

-- each variable is made
abbrev pub IsWhole : Places → Type 0
IsWhole p = (v : ℕ) → v < p.top → p.known v ≡ true

-- At a goal: each variable is made, and no more are from there on. Of the registers those may be kept whose terms are the branch's, and of the depths any.
pub record IsSettled (p q : Places) : Type 0 where
  pub whole : IsWhole p
  pub xs : (n : ℕ) (t : Term) → q.x n ≡ Some t → (p.x n ≡ Some t) × Below p.own t
  pub ys : (n : ℕ) (t : Term) → q.y n ≡ Some t → (p.y n ≡ Some t) × Below p.own t
  pub levels : (n : ℕ) (d : Depth) → q.levels n ≡ Some d → p.levels n ≡ Some d
  pub noted : (d : Depth) → q.noted ≡ Some d → p.noted ≡ Some d
  pub known : (v : ℕ) → q.known v ≡ true
  pub own : q.own ≡ p.own
  pub top : q.top ≡ 0

-- No depth that is kept is above this one.
pub record AreWithin (p : Places) (d : Depth) : Type 0 where
  pub levels : (n : ℕ) (e : Depth) → p.levels n ≡ Some e → e.points ≤ d.points
  pub noted : (e : Depth) → p.noted ≡ Some e → e.points ≤ d.points

-- the deepest of the depths that are kept, which is none where no one is
pub record IsDeepest (p : Places) (d : Depth) : Type 0 where
  pub within : AreWithin p d
  pub kept : (d ≡ no_depth) ⊎ (((n : ℕ) × (p.levels n ≡ Some d)) ⊎ (p.noted ≡ Some d))

-- the argument registers from i on hold these terms
abbrev pub Hold : Places → ℕ → Terms → Type 0
Hold p i no_terms = Unit {0}
Hold p i (term t ts) = (p.x i ≡ Some t) × Hold p (suc i) ts

-- a name with these arguments
abbrev pub made : Name → Terms → Term
made f no_terms = Atom f
made f (term t ts) = Comp f (term t ts)
