-- The ranges of gates.
use Rattle.std.specs.Prelude.{ℕ, List}
use Rattle.fd_language.specs.Range.{Indexical}
use Rattle.fd_model.specs.BooleanRows.{and_ranges, or_ranges}
use Rattle.product_bool.specs.declared.booleans.Gate.{Gate}
use Rattle.product_bool.specs.declared.booleans.Gate.TheVariants as gate

abbrev pub gate_ranges : Gate → ℕ → ℕ → ℕ → List Indexical
gate_ranges gate.And x y z = and_ranges x y z
gate_ranges gate.Or x y z = or_ranges x y z
