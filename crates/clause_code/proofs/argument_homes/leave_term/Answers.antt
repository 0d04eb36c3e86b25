use Rattle.std.proofs.Common.{◌<◌, length, sym, subst, arith}
use Rattle.std.proofs.lemmas.List.Elements.{All-weaker}
use Rattle.branch_meaning.specs.Heap.{Of}
use Rattle.term_pool.specs.declared.TermId.{TermId}
use Rattle.clause_code.proofs.ArgumentHomes.{leaves_variable, leaves_nothing, leaves_parts}
use Rattle.clause_code.proofs.argument_homes.leave_term.Goals as goal

pub returns-in_ok-leave-in-Var : goal.returns-in_ok-leave-in-Var
returns-in_ok-leave-in-Var c =
    let w = c.in_ok-leave-in-Var.ensures in
    leaves_variable c.args.pool.now c.args.t c.in-Var.x c.args.least c.args.last c.args.first c.args.homes.now.items c.leave.new.homes.items
    c.args.terms.now.items c.requires.behind c.in-Var.ensures.term w.back w.outside c.requires.own

pub returns-in_ok-extend_from_slice-in-Comp : goal.returns-in_ok-extend_from_slice-in-Comp
returns-in_ok-extend_from_slice-in-Comp c =
    let P : TermId → Type 0 = λ u. u.number < length c.args.pool.now.entries in
    let own = c.requires.term.0 in
    let within = All-weaker (λ u. u.number < c.args.t.number) P (λ u h. omega (arith, h, own)) c.in-Comp.parts.now c.in-Comp.ensures.within.1 in
    leaves_parts c.args.pool.now c.args.t c.in-Comp.field-0 c.in-Comp.parts.now c.args.least c.args.last c.args.first c.args.homes.now.items
    c.args.terms.now.items c.extend_from_slice.new.self.items c.in-Comp.ensures.term c.in_ok-extend_from_slice-in-Comp.ensures.items
    c.requires.term within c.requires.own

pub returns-in-Int : goal.returns-in-Int
returns-in-Int c = leaves_nothing c.args.pool.now c.args.t c.args.least c.args.last c.args.first c.args.homes.now.items c.args.terms.now.items
    (λ P. subst (Of P) (sym c.in-Int.ensures.term) tt) c.requires.own

pub returns-in-Atom : goal.returns-in-Atom
returns-in-Atom c = leaves_nothing c.args.pool.now c.args.t c.args.least c.args.last c.args.first c.args.homes.now.items c.args.terms.now.items
    (λ P. subst (Of P) (sym c.in-Atom.ensures.term) tt) c.requires.own
