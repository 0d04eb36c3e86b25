use Rattle.term_instructions.proofs.UnifyInstructions.{only_unify}
use Rattle.term_instructions.proofs.arguments.argument_at.Goals as goal

pub unreachable-requires : goal.unreachable-requires
unreachable-requires c =
    let d = c.in_default in
    only_unify c.args.code.now c.args.at c.code_at.result.now c.code_at.ensures.holds c.requires.unify d.not-UnifyVariable d.not-UnifyValue d.not-UnifyConstant d.not-UnifyInteger d.not-UnifyVoid
