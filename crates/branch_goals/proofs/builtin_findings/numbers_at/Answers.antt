use Rattle.std.proofs.Common.{◌∙◌, Ok, ap, sym, subst, w64}
use Rattle.std.proofs.lemmas.Int.{to_z-of_z}
use borrow.Author.Rules.{sfits_of}
use Rattle.branch_lemmas.specs.Frames.{link_of}
use Rattle.branch_goals.specs.declared.builtin_findings.Numbers.TheVariants.{One}
use Rattle.branch_goals.specs.Findings.{AreNumbersAt, numbers_in_set}
use Rattle.branch_goals.proofs.Findings.{numbers_free, numbers_linked, numbers_int, numbers_atom, numbers_compound}
use Rattle.branch_goals.proofs.builtin_findings.numbers_at.Goals as goal

pub domain-requires : goal.domain-requires
domain-requires g c = let s = c.in-Constrained.ensures.seen in c.requires.linked c.in-Constrained.field-0 c.in-Constrained.k (ap link_of s.1)

pub returns-in-Open : goal.returns-in-Open
returns-in-Open g c = λ name.
    let s = c.in-Open.ensures.seen in
    numbers_free name c.args.heap.now.now c.deref.ensures.valid (g.V.View.sets c.args.view.now) c.args.c c.in-Open.field-0 s.1 s.2

pub returns-in-Constrained : goal.returns-in-Constrained
returns-in-Constrained g c = λ name.
    let s = c.in-Constrained.ensures.seen in
    numbers_linked name c.args.heap.now.now c.deref.ensures.valid (g.V.View.sets c.args.view.now) c.args.c c.in-Constrained.field-0 c.in-Constrained.k c.numbers_in.result s.1 s.2
    (c.numbers_in.ensures ∙ ap numbers_in_set c.domain.ensures)

pub returns-in-Int : goal.returns-in-Int
returns-in-Int g c = λ name.
    subst (λ z. AreNumbersAt name c.args.heap.now.now (g.V.View.sets c.args.view.now) c.args.c (Ok (One z)))
    (sym (to_z-of_z w64 c.in-Int.z (sfits_of (rw c.in-Int.is at c.deref.type_inv).1.1.1.1.0.1)))
    (numbers_int name c.args.heap.now.now c.deref.ensures.valid (g.V.View.sets c.args.view.now) c.args.c c.in-Int.z c.in-Int.ensures.seen)

pub returns-in-Atom : goal.returns-in-Atom
returns-in-Atom g c = λ name.
    numbers_atom name c.args.heap.now.now c.deref.ensures.valid (g.V.View.sets c.args.view.now) c.args.c c.in-Atom.field-0 c.in-Atom.ensures.seen

pub returns-in-Struct : goal.returns-in-Struct
returns-in-Struct g c = λ name.
    let s = c.in-Struct.ensures.seen in
    numbers_compound name c.args.heap.now.now c.deref.ensures.valid (g.V.View.sets c.args.view.now) c.args.c c.in-Struct.field-0 c.in-Struct.field-1.now s.0 s.2 s.3
