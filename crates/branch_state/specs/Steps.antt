-- What calls do to a branch: cells that are unified, and touches that are posted.
use Rattle.std.specs.Prelude.{ℕ, ◌<◌, List, ◌++◌, length, All}
use Rattle.fd_language.specs.Range.{Indexical}
use Rattle.unify_core.specs.declared.Touch.{Touch}
use Rattle.unify_core.specs.declared.Touch.TheVariants.{Value, Same}
use Rattle.branch_meaning.specs.Store.{posts}
use Rattle.branch_lemmas.specs.Frames.{store_touches}
use Rattle.branch_state.specs.States.{State}

-- the touch is of variables of the store, of which there are so many
abbrev pub IsTouchBelow : ℕ → Touch → Type 0
IsTouchBelow n (Value k z) = k < n
IsTouchBelow n (Same k j) = (k < n) × (j < n)

abbrev pub AreTouchesBelow : ℕ → List Touch → Type 0
AreTouchesBelow n ts = All (IsTouchBelow n) ts

-- the touches are of variables of the branch's store
abbrev pub AreTouchesOf : State → List Touch → Type 0
AreTouchesOf s ts = AreTouchesBelow (length s.levels.current.sets) ts

-- the store's ranges with those of the touches
abbrev pub posted_with : State → List Touch → List Indexical
posted_with s ts = s.levels.current.posted ++ posts (store_touches ts)
