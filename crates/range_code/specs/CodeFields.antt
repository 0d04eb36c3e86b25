-- What is kept of an accepted range.
use Rattle.std.specs.Prelude.{◌≡◌, ℕ, ℤ, IsTrue, List, [], ◌++◌, map, length, Option}
use Rattle.fd_language.specs.declared.range_node.Need.{Need}
use Rattle.fd_language.specs.declared.range_node.Feature.{Feature}
use Rattle.fd_language.specs.declared.range_node.RangeNode.{RangeNode}
use Rattle.fd_language.specs.declared.TheConstants.{INFINITY}
use Rattle.fd_language.specs.Range.{Range}
use Rattle.fd_language.specs.RangeVerdict.{is_accepted}
use Rattle.fd_language.specs.PostfixRanges.{nodes_of}
use Rattle.range_code.specs.declared.evaluate.Steps.{Steps}
use Rattle.range_code.specs.declared.form.Evaluation.{Evaluation}
use Rattle.range_code.specs.declared.Shape.{Shape}
use Rattle.range_code.specs.Forms.{IsEvaluation, IsShifted}
use Rattle.range_code.specs.Slots.{slots_of, slot_needs, slot_features, in_slots}
use Rattle.range_code.specs.ValSlots.{val_slots}
use Rattle.range_code.specs.Heights.{height}
use Rattle.range_code.specs.FoldedRanges.{folded_nodes}
use Rattle.range_code.specs.Instructions.{tests_for, integers, once_each, instr_of}

-- what is evaluated of nodes with so many constants, where slots have needs and the values of some are read by val
pub record AreStepsOf (needs : List (Option Need)) (vals : List ℕ) (zs : List ℤ) (ms : List RangeNode) (s : Steps) : Type 0 where
  pub instrs : s.instrs.items ≡ tests_for needs vals ++ map (instr_of (once_each zs)) ms
  pub tests : s.tests ≡ length (tests_for needs vals)
  pub constants : s.constants.items ≡ once_each zs

-- the range in slots
pub record IsShapeOf (r : Range) (s : Shape) : Type 0 where
  pub slots : s.slots.items ≡ slots_of r
  pub needs : s.needs.items ≡ slot_needs r
  pub nodes : s.nodes.items ≡ nodes_of (in_slots r)

pub record IsCompiled (r : Range) (vs : List ℕ) (ns : List (Option Need)) (fs : List (ℕ × Feature)) (ys : List ℕ)
    (ms : List RangeNode) (s : Steps) (way : Evaluation) (high : ℕ) : Type 0 where
  pub accepted : IsTrue (is_accepted INFINITY r)
  pub slots : vs ≡ slots_of r
  pub needs : ns ≡ slot_needs r
  pub features : fs ≡ slot_features r
  pub vals : ys ≡ val_slots r
  pub nodes : ms ≡ nodes_of (in_slots r)
  pub steps : AreStepsOf (slot_needs r) (val_slots r) (integers (folded_nodes r)) (folded_nodes r) s
  pub form : IsEvaluation (in_slots r) way
  pub shifted : IsShifted way → val_slots r ≡ []
  pub height : high ≡ height r
