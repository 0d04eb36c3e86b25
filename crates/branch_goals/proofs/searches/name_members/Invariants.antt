use Rattle.std.proofs.Common.{◌≡◌, ℕ, List, length, take}
use Rattle.fd_model.specs.Members as seen
use Rattle.heap_cells.specs.Terms.{Naming}
use Rattle.branch_goals.specs.Lists.{AreMembersAt}
use Rattle.branch_goals.specs.Searches.{IsNamed}
use Rattle.branch_goals.proofs.searches.name_members.Given as goal

abbrev pub invariant-loop-i : goal.invariant-loop-i
invariant-loop-i l =
    (name : Naming) (sets : List (List ℕ)) (ms : List seen.Member) → l.fn.vars ≡ length sets → AreMembersAt name l.fn.heap.now sets l.fn.list.cells.items l.fn.list.members.items ms
    → IsNamed name l.fn.heap.now (length sets) (take l.i ms) l.named
