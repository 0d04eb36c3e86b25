use Rattle.std.proofs.Common.{◌≡◌, ◌+◌, ◌-◌, ◌++◌, ◌∷◌, [], length, get_or, ap, sym, ◌∙◌, arith}
use Rattle.std.proofs.lemmas.Bool.{eqb-false}
use Rattle.std.proofs.lemmas.List.{length-set}
use Rattle.dependency_chains.proofs.LinkChanges.{chains_less, filter_less, all_stay, last_apart}
use Rattle.dependency_chains.proofs.cut_links.Goals as goal

pub cutting-preserved : goal.cutting-preserved
cutting-preserved c =
    let ks = c.cutting.links.items in
    let hs = c.cutting.heads.items in
    let l = c.index-link.result.now in
    let n = c.len-last.result - 1 in
    let size : n + 1 ≡ length ks = omega (arith, c.len-last.ensures, eqb-false c.cutting.links.len 0 (sym c.cutting-test.ensures)) in
    let parts : ks ≡ c.truncate.new.self.items ++ l ∷ [] = last_apart ks n l size c.index-link.ensures ∙ ap (λ q. q ++ l ∷ []) (sym c.truncate.ensures.items) in
    record {
      chains = chains_less c.truncate.new.self.items ks hs c.index_mut.result.now c.set_head.new.heads l c.cutting.invariant.chains parts c.index_mut.ensures.value c.set_head.ensures;
      vars = length-set hs l.var c.set_head.new.heads ∙ c.cutting.invariant.vars;
      reads = filter_less c.args.agents c.truncate.new.self.items ks l parts (omega (arith, c.if-link-agents.false)) ∙ c.cutting.invariant.reads;
    }

pub returns-then-link-agents-clause-reads : goal.returns-then-link-agents-clause-reads
returns-then-link-agents-clause-reads c =
    let ks = c.cutting.links.items in
    let l = c.index-link.result.now in
    let n = c.len-last.result - 1 in
    let size : n + 1 ≡ length ks = omega (arith, c.len-last.ensures, eqb-false c.cutting.links.len 0 (sym c.cutting-test.ensures)) in
    let last : l ≡ get_or ks (length ks - 1) l = c.index-link.ensures ∙ ap (λ m. get_or ks m l) (omega (arith, size)) in
    sym (all_stay c.args.agents ks c.cutting.heads.items l c.cutting.invariant.chains (omega (arith, size)) last c.if-link-agents.true) ∙ c.cutting.invariant.reads
