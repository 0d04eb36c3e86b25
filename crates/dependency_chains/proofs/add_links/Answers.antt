use Rattle.std.proofs.Common.{◌<◌, ◌≤◌, ◌++◌, ◌∷◌, [], All, List, ℕ, length, get_or, take, cond, ap, sym, subst, ◌∙◌, arith}
use Rattle.std.proofs.lemmas.List.{take_more, length-append, map-append, length-set, append_assoc, get_or_default}
use Rattle.std.proofs.lemmas.List.Elements.{All-push}
use Rattle.fd_language.specs.declared.range_node.Feature.{Feature}
use Rattle.fd_language.specs.declared.range_node.Feature.TheVariants as feature
use Rattle.dependency_chains.specs.declared.Link.{Link}
use Rattle.dependency_chains.specs.AgentReads.{read_by}
use Rattle.dependency_chains.specs.Links.{reading, reads_of, head_of}
use Rattle.fd_language.specs.Features.{is_same_feature}
use Rattle.dependency_chains.proofs.LinkChanges.{chains_more}
use Rattle.dependency_chains.proofs.add_links.Goals as goal

pub loop-read-preserved : goal.loop-read-preserved
loop-read-preserved c =
    let d : ℕ × Feature = get_or c.args.features.now c.loop-read.read-index (0, feature.Min) in
    let l : Link = record { agent = c.args.agent; var = d.0; feature = d.1; next = c.head-next.result } in
    let within : d.0 < length c.loop-read.heads.items = omega (arith, c.loop-read.invariant.vars, c.requires.vars c.loop-read.read-index (0, feature.Min) c.loop-read-test.true) in
    record {
      chains = chains_more c.loop-read.links.items c.push_reserved.new.self.items c.loop-read.heads.items c.index.result.now c.set_head.new.heads l c.len.result
          c.loop-read.invariant.chains within c.loop-read.invariant.agent c.index.ensures c.head-next.ensures c.push_reserved.ensures.items
          (omega (arith, c.len.ensures)) (λ f. c.set_head.ensures f
          ∙ ap (λ h. cond (is_same_feature d.1 f) c.len.result (head_of h f))
          (c.index_mut.ensures.value ∙ get_or_default c.loop-read.heads.items d.0 c.index_mut.result.now c.index.result.now within ∙ sym c.index.ensures));
      agent = subst (λ (q : List Link). All (λ k. k.agent ≤ c.args.agent) q) (sym c.push_reserved.ensures.items)
          (All-push (λ k. k.agent ≤ c.args.agent) c.loop-read.links.items l c.loop-read.invariant.agent (omega arith));
      vars = length-set c.loop-read.heads.items d.0 c.set_head.new.heads ∙ c.loop-read.invariant.vars;
      few_links = omega (arith, c.loop-read.invariant.few_links, ap length c.push_reserved.ensures.items, length-append c.loop-read.links.items (l ∷ []), c.loop-read-test.true);
      room = omega (arith, c.loop-read.invariant.room, c.push_reserved.ensures.len, c.push_reserved.ensures.capacity, c.loop-read-test.true);
      reads = ap reads_of c.push_reserved.ensures.items ∙ map-append reading c.loop-read.links.items (l ∷ [])
          ∙ ap (λ q. q ++ reading l ∷ []) c.loop-read.invariant.reads
          ∙ append_assoc (reads_of c.args.links.now.items) (read_by c.args.agent (take c.loop-read.read-index c.args.features.now)) (reading l ∷ [])
          ∙ ap (λ q. reads_of c.args.links.now.items ++ q)
          (sym (ap (read_by c.args.agent) (take_more c.args.features.now c.loop-read.read-index (0, feature.Min) c.loop-read-test.true)
          ∙ map-append (λ (e : ℕ × Feature). record { agent = c.args.agent; var = e.0; feature = e.1 }) (take c.loop-read.read-index c.args.features.now) (d ∷ [])));
    }
