use Rattle.std.proofs.Common.{◌+ℤ◌, ◌-ℤ◌, ◌*ℤ◌, sym, ap, SFits, to_z-of_z}
use mir.Syntax.{w128}
use Rattle.answer_check.specs.OperandStack.{operated}
use Rattle.answer_check.proofs.Operators.{fits_limited, none_operated}
use Rattle.answer_check.proofs.operand_stack.operate.Goals as goal

pub overflow_add-result : goal.overflow_add-result
overflow_add-result c =
    let a : SFits w128 c.args.a = c.ranges.a in
    let b : SFits w128 c.args.b = c.ranges.b in
    simp to_z-of_z (fits_limited (c.args.a +ℤ c.args.b) (rw (c.in-Add.is) at c.requires))

pub returns-in-Add : goal.returns-in-Add
returns-in-Add c =
    let a : SFits w128 c.args.a = c.ranges.a in
    let b : SFits w128 c.args.b = c.ranges.b in
    let f : SFits w128 (c.args.a +ℤ c.args.b) = fits_limited (c.args.a +ℤ c.args.b) (rw (c.in-Add.is) at c.requires) in
    simp to_z-of_z (ap (λ m. operated m c.args.a c.args.b) (sym c.in-Add.is))

pub overflow_sub-result : goal.overflow_sub-result
overflow_sub-result c =
    let a : SFits w128 c.args.a = c.ranges.a in
    let b : SFits w128 c.args.b = c.ranges.b in
    simp to_z-of_z (fits_limited (c.args.a -ℤ c.args.b) (rw (c.in-Sub.is) at c.requires))

pub returns-in-Sub : goal.returns-in-Sub
returns-in-Sub c =
    let a : SFits w128 c.args.a = c.ranges.a in
    let b : SFits w128 c.args.b = c.ranges.b in
    let f : SFits w128 (c.args.a -ℤ c.args.b) = fits_limited (c.args.a -ℤ c.args.b) (rw (c.in-Sub.is) at c.requires) in
    simp to_z-of_z (ap (λ m. operated m c.args.a c.args.b) (sym c.in-Sub.is))

pub overflow_mul-result : goal.overflow_mul-result
overflow_mul-result c =
    let a : SFits w128 c.args.a = c.ranges.a in
    let b : SFits w128 c.args.b = c.ranges.b in
    simp to_z-of_z (fits_limited (c.args.a *ℤ c.args.b) (rw (c.in-Mul.is) at c.requires))

pub returns-in-Mul : goal.returns-in-Mul
returns-in-Mul c =
    let a : SFits w128 c.args.a = c.ranges.a in
    let b : SFits w128 c.args.b = c.ranges.b in
    let f : SFits w128 (c.args.a *ℤ c.args.b) = fits_limited (c.args.a *ℤ c.args.b) (rw (c.in-Mul.is) at c.requires) in
    simp to_z-of_z (ap (λ m. operated m c.args.a c.args.b) (sym c.in-Mul.is))

pub returns-in_default : goal.returns-in_default
returns-in_default c = none_operated c.args.node c.args.a c.args.b c.in_default.not-Add c.in_default.not-Sub c.in_default.not-Mul c.in_default.not-DivDown c.in_default.not-DivUp
