use Rattle.std.proofs.Common.{rules, ◌≡◌, ◌++◌, ◌∷◌, [], ◌∙◌, List, true, map, length, take, drop, ap, sym, subst, arith, All}
use Rattle.std.proofs.lemmas.Iterator.Adapters.{YieldsList-from_vec}
use Rattle.std.proofs.lemmas.Iterator.Consumers.{YieldsList-turn, YieldsList-so_far}
use Rattle.std.proofs.lemmas.List.{append_assoc, map-append, map-id, length-append, take-append-drop}
use Rattle.std.proofs.lemmas.List.Elements.{All-push}
use Rattle.fd_language.specs.declared.TheConstants.{INFINITY}
use Rattle.fd_language.specs.Monotonicity.{IsMonotone}
use Rattle.range_code.specs.Frames.{posted}
use Rattle.propagate_queue.specs.declared.instance.Instance.{Instance}
use Rattle.propagate_queue.specs.Postings.{Posting, IsPosting}
use Rattle.propagate_queue.specs.Instances.{posting, posting_of, IsInstance}
use Rattle.propagate_queue.proofs.NewAgents.{posted_more}
use Rattle.propagate_queue.proofs.new_agents.add_agents.Goals as goal

rest_of : (old : List Posting) (yielded list : List Instance) → map (λ x. x) yielded ≡ take (length yielded) list
    → (rest : List Posting) × ((old ++ map posting yielded) ++ rest ≡ old ++ map posting list)
rest_of old yielded list e = (
  map posting (drop (length yielded) list),
  append_assoc old (map posting yielded) (map posting (drop (length yielded) list))
      ∙ ap (λ l. old ++ l) (sym (map-append posting yielded (drop (length yielded) list))
      ∙ ap (map posting) (ap (λ l. l ++ drop (length yielded) list) (sym (map-id yielded) ∙ e) ∙ take-append-drop (length yielded) list)),
)

pub add_agent-requires-clause-instance : goal.add_agent-requires-clause-instance
add_agent-requires-clause-instance g c =
    let i = c.in-Some.instance in
    let t = YieldsList-turn (YieldsList-from_vec {s = c.into_iter-instance-iterator.result} c.args.list.items (search rules) (search rules))
    c.loop-instance.yielded c.loop-instance.instance-iterator c.loop-instance.yielded_by c.next.result c.next.new.self i c.in-Some.is
    c.next.ensures.steps in
    let here : IsInstance c.args.vars i = subst (IsInstance c.args.vars) (sym t.1) (c.requires.instances (length c.loop-instance.yielded) i t.0) in
    subst (λ l. IsPosting c.args.vars (posting_of i.code.value i.target l)) (sym c.deref.ensures.value) here

pub loop-instance-preserved : goal.loop-instance-preserved
loop-instance-preserved g c =
    let i = c.in-Some.instance in
    let old = c.args.agents.now in
    let inv = c.loop-instance.invariant in
    let t = YieldsList-turn (YieldsList-from_vec {s = c.into_iter-instance-iterator.result} c.args.list.items (search rules) (search rules))
    c.loop-instance.yielded c.loop-instance.instance-iterator c.loop-instance.yielded_by c.next.result c.next.new.self i c.in-Some.is
    c.next.ensures.steps in
    let here : IsInstance c.args.vars i = subst (IsInstance c.args.vars) (sym t.1) (c.requires.instances (length c.loop-instance.yielded) i t.0) in
    let grown = c.in_ok-add_agent.ensures.agents ∙ ap (λ l. c.loop-instance.agents ++ posting_of i.code.value i.target l ∷ []) c.deref.ensures.value in
    record {
      agents = grown ∙ ap (λ l. l ++ posting i ∷ []) inv.agents ∙ append_assoc old (map posting c.loop-instance.yielded) (posting i ∷ [])
          ∙ ap (λ l. old ++ l) (sym (map-append posting c.loop-instance.yielded (i ∷ [])));
      flags = c.in_ok-add_agent.ensures.flags ∙ ap (λ l. l ++ true ∷ []) inv.flags
          ∙ append_assoc c.args.queued.now.items (map (λ _. true) c.loop-instance.yielded) (true ∷ [])
          ∙ ap (λ l. c.args.queued.now.items ++ l) (sym (map-append (λ (x : Instance). true) c.loop-instance.yielded (i ∷ [])));
      queued = c.in_ok-add_agent.ensures.queued;
      room = omega (arith, inv.room, c.in_ok-add_agent.ensures.room);
      instances = subst (λ (l : List Posting). All (IsPosting c.args.vars) l) (sym grown) (All-push (IsPosting c.args.vars) c.loop-instance.agents (posting i) inv.instances here);
      monotone = posted_more (λ p. IsMonotone INFINITY p.range) c.loop-instance.agents c.add_agent.new.agents (posting i) grown inv.monotone
          (subst (λ l. IsMonotone INFINITY (posted i.code.value l)) c.deref.ensures.value c.in_ok-add_agent.ensures.monotone);
      readers = c.in_ok-add_agent.ensures.readers;
      vars = c.in_ok-add_agent.ensures.vars;
      within = c.in_ok-add_agent.ensures.within;
      kept = λ m h. c.in_ok-add_agent.ensures.kept m (omega (arith, h, ap length inv.agents, length-append old (map posting c.loop-instance.yielded))) ∙ inv.kept m h;
    }

pub returns-in_err-add_agent-clause-part : goal.returns-in_err-add_agent-clause-part
returns-in_err-add_agent-clause-part g c =
    let old = c.args.agents.now in
    let so_far = YieldsList-so_far (YieldsList-from_vec {s = c.into_iter-instance-iterator.result} c.args.list.items (search rules) (search rules))
    c.loop-instance.yielded c.loop-instance.instance-iterator c.loop-instance.yielded_by in
    subst (λ l. (rest : List Posting) × (l ++ rest ≡ old ++ map posting c.args.list.items))
    (sym (c.in_err-add_agent.ensures.unchanged ∙ c.loop-instance.invariant.agents)) (rest_of old c.loop-instance.yielded c.args.list.items so_far)
