use Rattle.code_machine.proofs.start.start.Goals as goal
use Rattle.std.proofs.Common.{◌∙◌, ◌∷◌, [], length, ap, arith, subst, sym}
use Rattle.fd_language.specs.declared.TheConstants.{INFINITY}
use Rattle.fd_model.specs.Goal.{start_of}
use Rattle.fd_model.specs.Run.{Run, IsLimit}
use Rattle.term_pool.specs.PoolInvariant.{IsPool}
use Rattle.term_pool.proofs.Lemmas.{slice_get_found}
use Rattle.code_machine.proofs.InitialMachine.{new_machine, new_stands}

pub returns-clause-machine : goal.returns-clause-machine
returns-clause-machine g c =
    let area = c.args.code.now in
    let there = slice_get_found area.queries c.args.query c.requires.query in
    new_machine area c.parts.ensures.verified (subst IsPool c.pool.ensures c.atoms.ensures.valid) c.args.query there.0 there.1 c.atoms.result
    c.args.limits.infinity (c.atoms.ensures.count ∙ ap (λ x. length x.names) c.pool.ensures) c.args.limits.steps c.all_of.result
    c.in_ok-branch.branch c.in_ok-branch.ensures.first c.new-2.result c.new-2.ensures c.new-3.result.items c.new-3.ensures.items c.place_of-at.result
    (c.place_of-at.ensures there.0 there.1) c.requires.query c.in_ok-branch.ensures.sound (subst IsLimit (sym c.all_of.ensures.same) c.requires.answers)
    (omega arith)

pub returns-clause-stands : goal.returns-clause-stands
returns-clause-stands g c =
    let area = c.args.code.now in
    let there = slice_get_found area.queries c.args.query c.requires.query in
    λ prog q may es r run.
    new_stands area c.parts.ensures.verified (subst IsPool c.pool.ensures c.atoms.ensures.valid) c.args.query there.0 there.1 c.atoms.result
    c.args.limits.infinity (c.atoms.ensures.count ∙ ap (λ x. length x.names) c.pool.ensures) c.args.limits.steps c.all_of.result
    c.in_ok-branch.branch c.in_ok-branch.ensures.first c.new-2.result c.new-2.ensures c.new-3.result.items c.new-3.ensures.items c.place_of-at.result (c.place_of-at.ensures there.0 there.1)
    prog q may es r (subst (λ k. Run INFINITY c.args.limits.infinity prog q c.args.limits.steps k (start_of q ∷ []) es r) (sym c.all_of.ensures.same) run)
