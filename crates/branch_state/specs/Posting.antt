-- What is posted for touches.
use Rattle.std.specs.Prelude.{Bool, true, List, [], ◌∷◌, ◌++◌}
use Rattle.fd_language.specs.declared.range_node.Need.TheVariants.{Natural}
use Rattle.fd_language.specs.Needs.{meets}
use Rattle.range_code.specs.declared.frame.Arg.TheVariants as arg
use Rattle.propagate_queue.specs.Postings.{Posting}
use Rattle.unify_core.specs.declared.Touch.{Touch}
use Rattle.unify_core.specs.declared.Touch.TheVariants.{Value, Same}
use Rattle.branch_state.specs.Codes.{exact_range, same_range}

-- an integer that a variable is to be isn't negative, and no greater than a machine's
abbrev pub is_natural : Touch → Bool
is_natural (Value k z) = meets Natural z
is_natural (Same k j) = true

-- a variable gets an integer, and two variables get each other's values
abbrev pub touch_postings : Touch → List Posting
touch_postings (Value k z) = record { range = exact_range; target = k; args = arg.Int z ∷ [] } ∷ []
touch_postings (Same k j) = record { range = same_range; target = k; args = arg.Var j ∷ [] }
    ∷ record { range = same_range; target = j; args = arg.Var k ∷ [] } ∷ []

abbrev pub postings : List Touch → List Posting
postings [] = []
postings (t ∷ ts) = touch_postings t ++ postings ts
