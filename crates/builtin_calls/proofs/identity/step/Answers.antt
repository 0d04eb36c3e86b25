use Rattle.std.proofs.Common.{subst, [], ◌∷◌, ◌++◌, Option, append-nil}
use Rattle.std.specs.Prelude.{reverse, option_to_list}
use Rattle.domain_ranges.specs.Views.{family_of}
use Rattle.builtin_calls.specs.Identity.{paired, IsSettled}
use Rattle.builtin_calls.proofs.TermPairs.{parts_settled, parts_apart, flat_alike, held_parts}
use Rattle.term_pool.proofs.Lemmas.{atom_same, atom_other}
use Rattle.builtin_calls.specs.declared.identity.Pair.{Pair}
use Rattle.builtin_calls.proofs.identity.step.Goals as goal
use Rattle.builtin_calls.proofs.identity.step.Goals.{then-ne-via-then-ne, then-ne-via-else-ne+then-some-others}

pub returns-then-ne : goal.returns-then-ne
returns-then-ne g c =
    let h = c.args.heap.now.now in
    let G = family_of (g.V.View.sets c.args.view.now) in
    parts_apart h G c.args.pair c.in-Struct.f c.in-Struct-look.g c.in-Struct.some.now c.in-Struct-look.others.now
    (λ name. c.in-Struct.ensures.term name)
    (λ name. c.in-Struct-look.ensures.term name)
    (λ e l. elim c.then-ne.branch [
      | then-ne-via-then-ne w ↦ atom_other c.in-Struct.f c.in-Struct-look.g c.ne.result c.ne.ensures w.if-ne.true e
      | then-ne-via-else-ne+then-some-others w ↦ w.if-some-others.true l
    ])

pub returns-in-Some : goal.returns-in-Some
returns-in-Some g c =
    let h = c.args.heap.now.now in
    let G = family_of (g.V.View.sets c.args.view.now) in
    parts_settled h G c.args.work.now.items (c.pair_up.new.work.items ++ c.in-Some.next ∷ []) c.args.pair c.in-Struct.f c.in-Struct-look.g c.in-Struct.some.now c.in-Struct-look.others.now
    (atom_same c.in-Struct.f c.in-Struct-look.g c.ne.result c.ne.ensures c.if-ne.false)
    (λ name. c.in-Struct.ensures.term name)
    (λ name. c.in-Struct-look.ensures.term name)
    (held_parts h c.in-Struct.ensures.valid c.in-Struct.f c.in-Struct.some c.in-Struct.ensures.held)
    (held_parts h c.in-Struct-look.ensures.valid c.in-Struct-look.g c.in-Struct-look.others c.in-Struct-look.ensures.held)
    c.if-some-others.false
    (subst (λ (o : Option Pair). IsSettled h G (c.args.work.now.items ++ reverse (paired c.in-Struct.some.now c.in-Struct-look.others.now))
    (c.pair_up.new.work.items ++ option_to_list o)) c.in-Some.is (c.in_ok-next-in-Struct-look.ensures G))

pub returns-in-None : goal.returns-in-None
returns-in-None g c =
    let h = c.args.heap.now.now in
    let G = family_of (g.V.View.sets c.args.view.now) in
    parts_settled h G c.args.work.now.items c.pair_up.new.work.items c.args.pair c.in-Struct.f c.in-Struct-look.g c.in-Struct.some.now c.in-Struct-look.others.now
    (atom_same c.in-Struct.f c.in-Struct-look.g c.ne.result c.ne.ensures c.if-ne.false)
    (λ name. c.in-Struct.ensures.term name)
    (λ name. c.in-Struct-look.ensures.term name)
    (held_parts h c.in-Struct.ensures.valid c.in-Struct.f c.in-Struct.some c.in-Struct.ensures.held)
    (held_parts h c.in-Struct-look.ensures.valid c.in-Struct-look.g c.in-Struct-look.others c.in-Struct-look.ensures.held)
    c.if-some-others.false
    (subst (IsSettled h G (c.args.work.now.items ++ reverse (paired c.in-Struct.some.now c.in-Struct-look.others.now))) (append-nil c.pair_up.new.work.items)
    (subst (λ (o : Option Pair). IsSettled h G (c.args.work.now.items ++ reverse (paired c.in-Struct.some.now c.in-Struct-look.others.now))
    (c.pair_up.new.work.items ++ option_to_list o)) c.in-None.is (c.in_ok-next-in-Struct-look.ensures G)))

pub returns-then-is_same_flat : goal.returns-then-is_same_flat
returns-then-is_same_flat g c =
    let h = c.args.heap.now.now in
    let G = family_of (g.V.View.sets c.args.view.now) in
    flat_alike h G c.args.work.now.items c.args.pair c.look.result c.look-in_default.result c.is_same_flat.result c.if-is_same_flat.true
    (λ name. c.look.ensures.term name)
    (λ name. c.look-in_default.ensures.term name)
    c.is_same_flat.ensures
