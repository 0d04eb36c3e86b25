-- What a term is read as: one node, or an operator's node behind its operands.
use Rattle.std.specs.Prelude.{◌≡◌, ℕ, List, [], ◌∷◌}
use Rattle.fd_language.specs.PlacedTerm.{PlacedTerm, var, int, atom, comp}
use Rattle.fd_language.specs.declared.range_node.RangeNode.{RangeNode}
use Rattle.term_pool.specs.declared.TermId.{TermId}
use Rattle.term_pool.specs.Contents.{Contents}
use Rattle.range_terms.specs.declared.forms.Position.{Position}
use Rattle.range_terms.specs.declared.forms.Position.TheVariants as position
use Rattle.range_terms.specs.declared.forms.Operand.{Operand}
use Rattle.range_terms.specs.declared.forms.RangeForm.{RangeForm}
use Rattle.range_terms.specs.declared.forms.RangeForm.TheVariants as form
use Rattle.term_pool.specs.PlacedTerms.{placed_of}
use Rattle.range_terms.specs.TermNodes.{Wanted, wanted, one_node, joined}

-- what is wanted of an operand
abbrev pub of_operand : ℕ → Contents → Operand → Wanted
of_operand N c o = wanted N o.position (placed_of c o.term)

-- the form of a term at the place p with the parts ts, of which w is wanted
abbrev pub IsRangeForm : ℕ → Contents → Wanted → ℕ → List TermId → RangeForm → Type 0
IsRangeForm N c w p ts (form.Leaf n) = w ≡ one_node n p
IsRangeForm N c w p ts (form.Unary n a) = (ts ≡ a.term ∷ []) × (w ≡ joined (of_operand N c a) (one_node n p))
IsRangeForm N c w p ts (form.Binary n a b) = (ts ≡ a.term ∷ b.term ∷ []) × (w ≡ joined (joined (of_operand N c a) (of_operand N c b)) (one_node n p))
IsRangeForm N c w p ts form.Misfit = (w.places ≡ []) × (w.offenders ≡ p ∷ [])

-- what is wanted of a number: a node where a number is wanted, and it fits nowhere where a range is
abbrev pub IsNumber : Position → RangeNode → ℕ → Wanted → Type 0
IsNumber position.Range n p w = (w.places ≡ []) × (w.offenders ≡ p ∷ [])
IsNumber position.Term n p w = w ≡ one_node n p
IsNumber position.Constant n p w = w ≡ one_node n p

-- a number is wanted
abbrev pub IsOfTerms : Position → Type 0
IsOfTerms position.Range = ⊥
IsOfTerms position.Term = Unit {0}
IsOfTerms position.Constant = Unit {0}

abbrev pub IsNoVariable : PlacedTerm → Type 0
IsNoVariable (var x p) = ⊥
IsNoVariable (int z p) = Unit {0}
IsNoVariable (atom a p) = Unit {0}
IsNoVariable (comp f p ts) = Unit {0}
