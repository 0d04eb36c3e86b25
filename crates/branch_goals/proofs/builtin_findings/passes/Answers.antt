use Rattle.std.proofs.Common.{◌≡◌, ◌∙◌, subst}
use Rattle.fd_model.specs.Levels.{Levels}
use Rattle.heap_cells.specs.Cells.{Heaps}
use Rattle.heap_cells.specs.SeenTerms.{seen_term}
use Rattle.range_code.specs.Frames.{family_of}
use Rattle.builtin_calls.specs.TypeTests.{passes}
use Rattle.branch_goals.specs.Findings.{seen_at}
use Rattle.branch_goals.proofs.Findings.{links_below}
use Rattle.branch_goals.proofs.builtin_findings.passes.Goals as goal

pub type_test-requires-clause-links : goal.type_test-requires-clause-links
type_test-requires-clause-links g c = links_below c.args.branch.now c.requires.sound c.heap.result.now c.store.result.now c.heap.ensures c.store.ensures

pub returns : goal.returns
returns g c = λ name.
    subst (λ (l : Levels). c.type_test.result ≡ passes c.test_of.result (seen_term name c.args.branch.now.heaps.now (family_of l.current.sets) c.args.c)) c.store.ensures
    (subst (λ (h : Heaps). c.type_test.result ≡ passes c.test_of.result (seen_term name h.now (family_of c.store.result.now.current.sets) c.args.c)) c.heap.ensures (c.type_test.ensures name))
    ∙ c.test_of.ensures (seen_at name c.args.branch.now c.args.c)
