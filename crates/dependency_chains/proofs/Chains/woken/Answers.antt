use Rattle.std.proofs.Common.{◌≡◌, ◌<◌, cond, ◌++◌, ◌&&◌, ◌==◌, List, ap, sym, subst, ◌∙◌, length, arith}
use Rattle.std.specs.List.{list_any}
use Rattle.fd_language.specs.Family.{has}
use Rattle.fd_language.specs.declared.range_node.Feature.TheVariants as feature
use Rattle.dependency_chains.specs.declared.Link.{Link}
use Rattle.dependency_chains.specs.AgentReads.{AgentRead}
use Rattle.dependency_chains.specs.WokenAgents.{wakes}
use Rattle.dependency_chains.specs.Links.{AreLinked, agents_from, head_of}
use Rattle.dependency_chains.proofs.ChainSteps.{latest_below}
use Rattle.dependency_chains.proofs.WokenAgents.{woken_are, gate_within}
use Rattle.dependency_chains.proofs.Chains.woken.Goals as goal

pub returns : goal.returns
returns c a =
    let t = c.self.inside in
    let k = c.args.k in
    let h = c.index-heads.result.now in
    let g = c.args.change in
    let within : k < length t.heads.items = omega (arith, c.requires, ap (λ v. v.vars) c.self.view_is) in
    ap (λ q. has (agents_from q h.dom ++ (agents_from q c.place_if.result ++ (agents_from q c.place_if-2.result ++ agents_from q c.place_if-3.result))) a) c.deref.ensures.value
    ∙ woken_are t.links.items t.heads.items h g k c.place_if.result c.place_if-2.result c.place_if-3.result a c.self.invariant within c.index-heads.ensures
    (λ e. c.place_if.ensures ∙ ap (λ b. cond b h.min 0) e) (λ e. c.place_if.ensures ∙ ap (λ b. cond b h.min 0) e)
    (λ e. c.place_if-2.ensures ∙ ap (λ b. cond b h.max 0) e) (λ e. c.place_if-2.ensures ∙ ap (λ b. cond b h.max 0) e)
    (λ e. c.place_if-3.ensures ∙ ap (λ b. cond b h.val 0) e) (λ e. c.place_if-3.ensures ∙ ap (λ b. cond b h.val 0) e)
    ∙ ap (λ v. list_any (λ (r : AgentRead). (r.agent == a) && ((r.var == k) && wakes g r.feature)) v.reads) c.self.view_is

pub invariant_of-result : goal.invariant_of-result
invariant_of-result c =
    let t = c.self.inside in
    let k = c.args.k in
    let h = c.index-heads.result.now in
    let within : k < length t.heads.items = omega (arith, c.requires, ap (λ v. v.vars) c.self.view_is) in
    let n = length t.links.items in
    let size : length c.deref.result.now ≡ n = ap length c.deref.ensures.value in
    let dom = ap (λ x. head_of x feature.Dom) c.index-heads.ensures ∙ c.self.invariant.heads k h feature.Dom within in
    let min = ap (λ x. head_of x feature.Min) c.index-heads.ensures ∙ c.self.invariant.heads k h feature.Min within in
    let max = ap (λ x. head_of x feature.Max) c.index-heads.ensures ∙ c.self.invariant.heads k h feature.Max within in
    let val = ap (λ x. head_of x feature.Val) c.index-heads.ensures ∙ c.self.invariant.heads k h feature.Val within in (
      subst (λ (q : List Link). AreLinked q) (sym c.deref.ensures.value) c.self.invariant.linked,
      omega (arith, size, dom, latest_below t.links.items n k feature.Dom),
      omega (arith, size, gate_within c.args.change.min h.min c.place_if.result n c.place_if.ensures (omega (arith, min, latest_below t.links.items n k feature.Min))),
      omega (arith, size, gate_within c.args.change.max h.max c.place_if-2.result n c.place_if-2.ensures (omega (arith, max, latest_below t.links.items n k feature.Max))),
      omega (arith, size, gate_within c.args.change.fixed h.val c.place_if-3.result n c.place_if-3.ensures (omega (arith, val, latest_below t.links.items n k feature.Val))),
    )
