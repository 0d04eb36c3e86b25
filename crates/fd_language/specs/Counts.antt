-- How many ranges and terms wait for their operators in a list of nodes.
use Rattle.std.specs.Prelude.{◌≡◌, ℕ, true, false, List, length, Option}
use Rattle.fd_language.specs.declared.range_node.RangeNode.{RangeNode}
use Rattle.fd_language.specs.declared.operand_counts.Operands.{Operands}
use Rattle.fd_language.specs.Range.{Range, Expr}
use Rattle.fd_language.specs.PostfixRanges.{Shape, term_alone, term_of_terms, range_alone, range_of_term, range_of_terms, range_of_range, range_of_ranges}
use Rattle.fd_language.specs.PostfixRanges.{range_of_both, shape_of, built}

-- how many ranges and terms a node of the shape takes, and whether it gives a range
abbrev pub taken : Shape → Operands
taken (term_alone e) = record { ranges = 0; terms = 0; gives_range = false }
taken (term_of_terms make) = record { ranges = 0; terms = 2; gives_range = false }
taken (range_alone r) = record { ranges = 0; terms = 0; gives_range = true }
taken (range_of_term make) = record { ranges = 0; terms = 1; gives_range = true }
taken (range_of_terms make) = record { ranges = 0; terms = 2; gives_range = true }
taken (range_of_range make) = record { ranges = 1; terms = 0; gives_range = true }
taken (range_of_ranges make) = record { ranges = 2; terms = 0; gives_range = true }
taken (range_of_both make) = record { ranges = 1; terms = 1; gives_range = true }

abbrev pub takes : RangeNode → Operands
takes n = taken (shape_of n)

-- what is built is what the nodes build on top of so many ranges and terms
abbrev pub IsReached : Option Range → List RangeNode → ℕ → ℕ → Type 0
IsReached o ns ranges terms = (rs : List Range) × (ts : List Expr) × (length rs ≡ ranges) × (length ts ≡ terms) × (o ≡ built ns rs ts)
