use Rattle.std.proofs.Common.{◌-◌, ◌<◌, ◌∙◌, drop, length, rules}
use Rattle.std.proofs.lemmas.List.Elements.{All-drop}
use Rattle.term_pool.specs.declared.TermId.{TermId}
use Rattle.heap_terms.proofs.Pools.{places_same, places_added, places_both, made_term, added_own, last_part}
use Rattle.heap_terms.proofs.make_term.Goals as goal

pub returns-clause-made : goal.returns-clause-made
returns-clause-made c =
    let k = length c.args.done.now.items - c.args.count in (
      c.in_ok-t.t,
      added_own c.atom.new.self c.add.new.self _ c.in_ok-t.t c.in_ok-t.ensures.added c.in_ok-t.ensures.id,
      made_term c.args.pool.now c.atom.new.self c.add.new.self c.args.from.now.names c.args.f c.in_ok-f.f c.in_ok-t.t (drop k c.args.done.now.items) _
          c.in_ok-f.ensures.kept (All-drop (λ (x : TermId). x.number < length c.args.pool.now.entries) k c.args.done.now.items c.requires.own)
          (c.in_ok-f.ensures.name ∙ c.name_of.ensures.name) c.in_ok-t.ensures.term
          (last_part c.args.done.now.items c.deref.result.now c.len.result c.args.count (search rules) (search rules)),
      search rules,
    )

pub returns-clause-places : goal.returns-clause-places
returns-clause-places c =
    places_both c.args.pool.now c.atom.new.self c.add.new.self (places_same c.args.pool.now c.atom.new.self (search rules))
    (places_added c.atom.new.self c.add.new.self _ c.in_ok-t.ensures.added) c.in_ok-t.ensures.extends
