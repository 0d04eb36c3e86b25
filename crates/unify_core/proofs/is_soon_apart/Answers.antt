use Rattle.unify_core.proofs.OccursCheck.{args_absent, root_other}
use Rattle.unify_core.proofs.is_soon_apart.Goals as goal

pub returns-in-Struct : goal.returns-in-Struct
returns-in-Struct c = λ t.
    let s = c.in-Struct.ensures.seen in
    args_absent c.args.heap.now.now c.deref.ensures.valid c.args.var c.args.root c.in-Struct.field-0 c.in-Struct.args.now (s.0, s.2, s.3) (c.are_others.ensures.absent t)

pub returns-in_default : goal.returns-in_default
returns-in_default c = λ t. root_other c.args.heap.now.now c.deref.ensures.valid c.args.var c.args.root c.requires.root (c.is_other.ensures.0 t)
