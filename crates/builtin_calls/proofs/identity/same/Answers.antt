use Rattle.std.proofs.Common.{◌≡◌, ◌++◌, [], ◌∷◌, ap, sym, ◌∙◌, List, rules}
use Rattle.domain_ranges.specs.Views.{family_of}
use Rattle.builtin_calls.specs.declared.identity.Pair.{Pair}
use Rattle.heap_cells.specs.SeenTerms.{seen_term}
use Rattle.builtin_calls.proofs.TermPairs.{same_seen, comparing_roots}
use Rattle.builtin_calls.proofs.identity.same.Goals as goal

pub pairs-init : goal.pairs-init
pairs-init g c =
    comparing_roots c.args.heap.now.now (family_of (g.V.View.sets c.args.view.now)) c.args.a c.args.b c.root-left.result c.root-right.result _
    c.root-left.ensures.same c.root-right.ensures.same c.root-left.ensures.own c.root-right.ensures.own
    (ap (λ (ps : List Pair). ps ++ record { left = c.root-left.result; right = c.root-right.result } ∷ []) c.new-work.ensures.items)

pub returns-then-eq : goal.returns-then-eq
returns-then-eq g c =
    let h = c.args.heap.now.now in
    let G = family_of (g.V.View.sets c.args.view.now) in
    let e : c.root-left.result ≡ c.root-right.result = search rules in
    λ name. same_seen h G c.args.a c.root-left.result c.root-left.ensures.same name ∙ ap (seen_term name h G) e ∙ sym (same_seen h G c.args.b c.root-right.result c.root-right.ensures.same name)
