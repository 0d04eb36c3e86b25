-- The ranges of a constraint as they are posted: each with its own arguments, by the code of a range that differs from it in names alone.
use Rattle.std.specs.Prelude.{◌≡◌, ℕ, List, [], ◌∷◌, ◌++◌, map}
use Rattle.fd_language.specs.Range.{Range, Indexical}
use Rattle.fd_language.specs.Term.{Var}
use Rattle.heap_cells.specs.Cells.{Cells}
use Rattle.range_code.specs.declared.frame.Arg.{Arg}
use Rattle.range_code.specs.Frames.{posted}
use Rattle.range_code.specs.Slots.{slot_needs}
use Rattle.propagate_queue.specs.declared.instance.Instance.{Instance}
use Rattle.propagate_queue.specs.Instances.{posting}
use Rattle.propagate_queue.specs.Postings.{Posting}
use Rattle.branch_state.specs.Constraints.{store_variable, row_posting}
use Rattle.branch_state.specs.StoreVariables.{IsNaming}

-- with the same arguments both ranges are posted as one range, and they ask the same of them
pub record IsAlike (r q : Range) : Type 0 where
  pub same : (args : List Arg) → posted r args ≡ posted q args
  pub needs : slot_needs r ≡ slot_needs q

-- both post the same range on the same target
pub record IsSamePosting (a b : Posting) : Type 0 where
  pub target : a.target ≡ b.target
  pub args : a.args ≡ b.args
  pub alike : IsAlike a.range b.range

abbrev pub AreSamePostings : List Posting → List Posting → Type 0
AreSamePostings [] [] = Unit {0}
AreSamePostings (a ∷ as') (b ∷ bs) = IsSamePosting a b × AreSamePostings as' bs
AreSamePostings _ _ = ⊥

-- the ranges are listed behind the others, on the variables of the store that the heap's variables are
pub record AreListed (h : Cells) (ps : List Indexical) (old new : List Instance) : Type 0 where
  pub more : List Instance
  pub behind : new ≡ old ++ more
  pub same : AreSamePostings (map posting more) (map (row_posting (store_variable h)) ps)

-- whatever had been named before, these variables are named with it now
abbrev pub LinksMore : Cells → List (List ℕ) → List ℕ → Cells → List (List ℕ) → Type 0
LinksMore h sets xs now S = (first : Cells) (before : List (List ℕ)) (ys : List ℕ)
    → IsNaming Var first before ys h sets [] [] → IsNaming Var first before (ys ++ xs) now S [] []
