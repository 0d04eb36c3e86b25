-- Public lemmas: the roles of a name as an operator.
use Rattle.std.proofs.Common.{◌≡◌, Option, Some, None, refl}
use Rattle.std.specs.Prelude.{option_map, is_some, ◌||◌}
use Rattle.fd_language.specs.Term.{Name}
use Rattle.fd_language.specs.Operators.{infix_of, prefix_of, is_operator}
use Rattle.name_syntax.specs.declared.operators.Operator.{Operator}
use Rattle.name_syntax.specs.Operators.{operator_of}

some_map : {X Y : Type 0} (f : X → Y) (o : Option X) → is_some (option_map f o) ≡ is_some o
some_map f None = refl
some_map f (Some x) = refl

-- the roles of a name tell whether it is an operator's
pub roles_tell : (name : Name) (f g : Option Operator) → option_map (operator_of name) f ≡ infix_of name → option_map (operator_of name) g ≡ prefix_of name
    → (is_some f || is_some g) ≡ is_operator name
unfolding is_operator
roles_tell name f g h k = rw (← h, ← k, some_map (operator_of name) f, some_map (operator_of name) g) refl
