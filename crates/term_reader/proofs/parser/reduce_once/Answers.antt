use Rattle.std.proofs.Common.{◌≡◌, ℕ, ◌-◌, ◌∙◌, sym, ap, take, true, false}
use Rattle.fd_language.specs.Operators.{right_limit}
use Rattle.fd_language.specs.ReadingSteps.{gives_way}
use Rattle.name_syntax.specs.Operators.{nameless}
use Rattle.term_reader.proofs.Stacks.{stays_no_operation, stays_operation, operation_ids, steps_operation, steps_as}
use Rattle.term_reader.proofs.parser.reduce_once.Goals as goal

pub returns-in_default-clause-stays : goal.returns-in_default-clause-stays
returns-in_default-clause-stays c =
    let n = rw (c.in_default.is, c.deref.ensures.value) at c.last_operation.ensures in
    stays_no_operation c.args.below c.args.pool.now c.args.items.now.items n

pub returns-then-not-gives_way-clause-stays : goal.returns-then-not-gives_way-clause-stays
returns-then-not-gives_way-clause-stays c =
    let o = c.in-Some.operation in
    let e = rw (c.in-Some.is, c.deref.ensures.value) at c.last_operation.ensures in
    let h : gives_way c.args.below (right_limit (nameless o.operator)) ≡ false = ap (gives_way c.args.below) (sym c.right_limit.ensures) ∙ sym c.gives_way.ensures ∙ c.if-not-gives_way.true in
    stays_operation c.args.below c.args.pool.now c.args.items.now.items o o.left e h

pub add_operation-requires-clause-name : goal.add_operation-requires-clause-name
add_operation-requires-clause-name c =
    let o = c.in-Some.operation in
    let e = rw (c.in-Some.is, c.deref.ensures.value) at c.last_operation.ensures in
    (operation_ids c.args.pool.now c.args.items.now.items o o.left c.args.operand e c.requires.ids c.requires.operand).0

pub add_operation-requires-clause-operands : goal.add_operation-requires-clause-operands
add_operation-requires-clause-operands c =
    let o = c.in-Some.operation in
    let e = rw (c.in-Some.is, c.deref.ensures.value) at c.last_operation.ensures in
    (operation_ids c.args.pool.now c.args.items.now.items o o.left c.args.operand e c.requires.ids c.requires.operand).1

pub returns-clause-steps : goal.returns-clause-steps
returns-clause-steps c q =
    let o = c.in-Some.operation in
    let e = rw (c.in-Some.is, c.deref.ensures.value) at c.last_operation.ensures in
    let h : gives_way c.args.below (right_limit (nameless o.operator)) ≡ true = ap (gives_way c.args.below) (sym c.right_limit.ensures) ∙ sym c.gives_way.ensures ∙ c.if-not-gives_way.false in
    steps_as (steps_operation c.args.below c.args.pool.now c.add_operation.new.pool c.args.items.now.items o o.left c.args.operand c.in_ok-term.term q e h
    c.requires.pool c.requires.ids c.in_ok-term.ensures)
    (c.pop.ensures.rest ∙ ap (λ (n : ℕ). take (n - 1) c.args.items.now.items) c.args.items.now.ok.0)
