-- What is to come of a term in its position: nodes, their places, and the places of what fits nowhere.
use Rattle.std.specs.Prelude.{ℕ, true, false, List, [], ◌∷◌, ◌++◌}
use Rattle.fd_language.specs.declared.range_node.RangeNode.{RangeNode}
use Rattle.fd_language.specs.PlacedTerm.{PlacedTerm}
use Rattle.fd_language.specs.Range as fd
use Rattle.fd_language.specs.PostfixRanges.{expr_nodes, nodes_of}
use Rattle.fd_language.specs.Spelling.{Parsed, read_expr, read_range}
use Rattle.range_terms.specs.declared.forms.Position.{Position}
use Rattle.range_terms.specs.declared.forms.Position.TheVariants as position

pub record Wanted : Type 0 where
  pub nodes : List RangeNode
  pub places : List ℕ
  pub offenders : List ℕ

abbrev pub nothing : Wanted
nothing = record { nodes = []; places = []; offenders = [] }

abbrev pub one_node : RangeNode → ℕ → Wanted
one_node n p = record { nodes = n ∷ []; places = p ∷ []; offenders = [] }

-- one behind the other
abbrev pub joined : Wanted → Wanted → Wanted
joined u v = record { nodes = u.nodes ++ v.nodes; places = u.places ++ v.places; offenders = u.offenders ++ v.offenders }

abbrev pub of_expr : Parsed fd.Expr → Wanted
of_expr r = record { nodes = expr_nodes r.tree []; places = r.places; offenders = r.offenders }

abbrev pub of_range : Parsed fd.Range → Wanted
of_range r = record { nodes = nodes_of r.tree; places = r.places; offenders = r.offenders }

unfoldable pub wanted : ℕ → Position → PlacedTerm → Wanted
wanted N position.Range t = of_range (read_range N t)
wanted N position.Term t = of_expr (read_expr N true t)
wanted N position.Constant t = of_expr (read_expr N false t)
