use Rattle.heap_cells.specs.Terms.{Naming}
use Rattle.term_pool.specs.Terms.{size}
use Rattle.heap_cells.specs.SeenTerms.{seen_term}
use Rattle.range_code.specs.Frames.{family_of}
use Rattle.branch_goals.specs.Lists.{IsListNaming}
use Rattle.branch_goals.proofs.ListNodes.{IsWalked, list_naming}
use Rattle.branch_goals.proofs.lists.read_members.Given as goal

abbrev pub invariant-walking : goal.invariant-walking
invariant-walking g l = (name : Naming) → IsListNaming name → IsWalked name l.heap.now (g.V.View.sets l.view) l.fn.list l.cells.items l.members.items l.at

abbrev pub decreases-walking : goal.decreases-walking
decreases-walking g l = size (seen_term list_naming l.heap.now (family_of (g.V.View.sets l.view)) l.at)
