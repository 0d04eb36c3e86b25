use Rattle.std.proofs.Common.{◌≡◌, Ok, subst}
use Rattle.fd_model.specs.Levels.{Levels}
use Rattle.heap_cells.specs.Cells.{Heaps}
use Rattle.branch_goals.specs.Findings.{numbers_at, the_numbers}
use Rattle.branch_goals.proofs.DomainLists.{domain_told}
use Rattle.branch_goals.proofs.domains.find_domain.Goals as goal

pub returns-clause-found : goal.returns-clause-found
returns-clause-found g c = λ name n.
    let numbers = the_numbers c.in-Ok.numbers in
    let told : numbers_at name c.args.branch.now.heaps.now c.args.branch.now.levels.current.sets c.args.of ≡ Ok numbers =
    subst (λ (h : Heaps). numbers_at name h.now c.args.branch.now.levels.current.sets c.args.of ≡ Ok numbers) c.heap.ensures
    (subst (λ (l : Levels). numbers_at name c.heap.result.now.now l.current.sets c.args.of ≡ Ok numbers) c.store.ensures (c.in-Ok.ensures name)) in
    domain_told name c.args.branch.now c.list_spans.new.branch c.args.of c.args.is n c.requires.of c.requires.is numbers told
    c.in_ok-spans-in-Ok.spans.items c.in_ok-spans-in-Ok.ensures c.in_ok-list.list c.in_ok-list.ensures
