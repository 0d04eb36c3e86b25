use Rattle.std.proofs.Common.{◌≡◌, ◌<◌, ◌∷◌, true, ap, refl, sym, subst, arith}
use Rattle.std.specs.BinaryHeap.{heap_items}
use Rattle.std.specs.Result.{is_ok}
use Rattle.std.proofs.lemmas.List.Elements.{All-map}
use Rattle.std.proofs.lemmas.List.Sorted.{IsPermutation-map}
use Rattle.propagate_queue.specs.AgendaEntries.{AgendaEntry}
use Rattle.propagate_queue.specs.AgendaHeap.{Entry, waiting, AreHeaped}
use Rattle.propagate_queue.proofs.Costs.{was_ok, heaped_more, times_more, length_more}
use Rattle.propagate_queue.proofs.cost_agenda.CheapestAgenda.put.Goals as goal

pub invariant_of-self : goal.invariant_of-self
invariant_of-self c =
    let t = c.self.inside in
    let e : Entry = record { 0 = (c.args.cost, t.puts, c.args.agent) } in
    let ok : is_ok c.push.result ≡ true = c.push.ensures.succeeds (omega (arith, c.requires, ap (λ v. v.spare) c.self.view_is)) in
    subst (λ n. AreHeaped (heap_items c.push.new.self) n) (sym c.saturating_add-self-inside.ensures)
    (heaped_more (heap_items t.heap) (heap_items c.push.new.self) e t.puts c.self.invariant (omega (arith, c.self.ranges)) refl
    (was_ok c.push.result ok c.push.ensures.permutation) (was_ok c.push.result ok c.push.ensures.heap_order))

pub returns-clause-waits : goal.returns-clause-waits
returns-clause-waits c =
    let t = c.self.inside in
    let e : Entry = record { 0 = (c.args.cost, t.puts, c.args.agent) } in
    let ok : is_ok c.push.result ≡ true = c.push.ensures.succeeds (omega (arith, c.requires, ap (λ v. v.spare) c.self.view_is)) in
    rw (← c.self.view_is) (IsPermutation-map waiting (e ∷ heap_items t.heap) (heap_items c.push.new.self) (was_ok c.push.result ok c.push.ensures.permutation))

pub returns-clause-later : goal.returns-clause-later
returns-clause-later c =
    let t = c.self.inside in
    rw (← c.self.view_is) (λ low. All-map (λ (w : AgendaEntry). w.turn < t.puts) waiting (heap_items t.heap) (c.self.invariant.earlier low))

pub returns-clause-added : goal.returns-clause-added
returns-clause-added c k =
    let t = c.self.inside in
    let e : Entry = record { 0 = (c.args.cost, t.puts, c.args.agent) } in
    let ok : is_ok c.push.result ≡ true = c.push.ensures.succeeds (omega (arith, c.requires, ap (λ v. v.spare) c.self.view_is)) in
    rw (← c.self.view_is) (times_more k (heap_items t.heap) (heap_items c.push.new.self) e (was_ok c.push.result ok c.push.ensures.permutation))

pub returns-clause-len : goal.returns-clause-len
returns-clause-len c =
    let t = c.self.inside in
    let e : Entry = record { 0 = (c.args.cost, t.puts, c.args.agent) } in
    let ok : is_ok c.push.result ≡ true = c.push.ensures.succeeds (omega (arith, c.requires, ap (λ v. v.spare) c.self.view_is)) in
    rw (← c.self.view_is) (length_more (heap_items t.heap) (heap_items c.push.new.self) e (was_ok c.push.result ok c.push.ensures.permutation))
