-- What becomes of nodes while literals are folded.
use Rattle.std.specs.Prelude.{ℤ, pos, ◌+ℤ◌, ◌-ℤ◌, ◌*ℤ◌, List, [], ◌∷◌, reverse, fold, Option, Some, None}
use mir.Syntax.{w128}
use Rattle.std.specs.Int.{int_wrap}
use Rattle.fd_language.specs.declared.range_node.RangeNode.{RangeNode}
use Rattle.fd_language.specs.declared.range_node.RangeNode.TheVariants as node
use Rattle.fd_language.specs.declared.TheConstants.{INFINITY}
use Rattle.fd_language.specs.Range.{Range}
use Rattle.range_code.specs.declared.fold.Piece.{Piece}
use Rattle.range_code.specs.declared.fold.Piece.TheVariants.{Literal, Other}
use Rattle.range_code.specs.Work.{RangeFits}

-- a piece as a node, and a node as a piece
abbrev pub piece_node : Piece → RangeNode
piece_node (Literal z) = node.Int z
piece_node (Other n) = n

abbrev pub piece_of : RangeNode → Piece
piece_of (node.Int z) = Literal z
piece_of n = Other n

-- the sum, difference or product in 128 bits
abbrev pub combined : RangeNode → ℤ → ℤ → ℤ
combined node.Add a b = int_wrap w128 (a +ℤ b)
combined node.Sub a b = int_wrap w128 (a -ℤ b)
combined node.Mul a b = int_wrap w128 (a *ℤ b)
combined n a b = pos 0

-- Pieces with the last one first: an operator of two literals is a literal.
abbrev pub joined : RangeNode → List Piece → List Piece
joined n (Literal b ∷ Literal a ∷ ps) = Literal (combined n a b) ∷ ps
joined n ps = Other n ∷ ps

-- one more node
abbrev pub taken : List Piece → RangeNode → List Piece
taken ps (node.Int z) = Literal z ∷ ps
taken ps node.Infinity = Literal (pos INFINITY) ∷ ps
taken ps node.Add = joined node.Add ps
taken ps node.Sub = joined node.Sub ps
taken ps node.Mul = joined node.Mul ps
taken ps n = Other n ∷ ps

-- the pieces of nodes, the first one first
abbrev pub pieces_of : List RangeNode → List Piece
pieces_of ns = reverse (fold taken [] ns)

-- the integers of pieces
abbrev pub literals : List Piece → List ℤ
literals [] = []
literals (Literal z ∷ ps) = z ∷ literals ps
literals (Other n ∷ ps) = literals ps

-- the value of the last piece where it is a literal, and the pieces without it
abbrev pub top_literal : List Piece → Option ℤ
top_literal (Literal z ∷ ps) = Some z
top_literal ps = None

abbrev pub under_literal : List Piece → List Piece
under_literal (Literal z ∷ ps) = ps
under_literal ps = ps

-- No value is over the limit where each parameter is 1 and no set has a member: so none of a literal is.
abbrev pub FitsAlone : Range → Type 0
FitsAlone r = RangeFits (λ y. []) (λ y. pos 1) r
