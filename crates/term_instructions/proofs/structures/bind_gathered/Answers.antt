use Rattle.std.proofs.Common.{◌≡◌, ◌<◌, ◌==◌, Bool, true, List, [], ◌∷◌, length, refl, ap, sym, ◌∙◌, subst, arith, rules, eqb-true}
use Rattle.std.specs.Vec.{vec_len}
use Rattle.fd_language.specs.declared.NoMemory.{NoMemory}
use Rattle.unify_core.specs.declared.Touch.{Touch}
use Rattle.unify_core.proofs.Lemmas.{at_false}
use Rattle.branch_state.specs.States.{IsSoundBelow}
use Rattle.code_areas.specs.Areas.{Contents}
use Rattle.code_safety.specs.declared.instruction_outcomes.Went.{Went}
use Rattle.term_instructions.specs.WriteMode.{BuildsOn}
use Rattle.term_instructions.proofs.BoundStructures.{bound_then, bound_untold, unbound_then}
use Rattle.term_instructions.proofs.structures.bind_gathered.Goals as goal

no_items : (l : List Touch) (b : Bool) → b ≡ (length l == 0) → b ≡ true → l ≡ []
no_items [] b e so = refl
no_items (t ∷ l) b e so = let k : length (t ∷ l) ≡ 0 = eqb-true (length (t ∷ l)) 0 (sym e ∙ so) in absurd (omega (arith, k))

pub bind_compound-requires-clause-name : goal.bind_compound-requires-clause-name
bind_compound-requires-clause-name g c = subst (λ k. c.args.functor.0.number < k) (sym c.requires.atoms) c.requires.name

pub returns-then-not-branch : goal.returns-then-not-branch
returns-then-not-branch g c =
    let b = c.in_ok-bind_compound in
    λ c2 s from c1 there k.
    unbound_then c.args.code.now c.args.functor.0 c.args.functor.1 c.requires.name s from c1 c.args.var there [] refl
    c.args.branch.now c.args.next c2 c.args.args.now k c.requires.all c.args.args.now refl c.args.touches.now.items c.bind_compound.new.touches.items
    c.bind_compound.new.self b.ensures.heap b.field-0 b.ensures.binds
    c.if-not-branch.true (at_false b.field-0 (IsSoundBelow c.bind_compound.new.self) c.if-not-branch.true b.ensures.below)

pub returns-then-is_empty : goal.returns-then-is_empty
returns-then-is_empty g c =
    let b = c.in_ok-bind_compound in
    let size : vec_len c.bind_compound.new.touches ≡ length c.bind_compound.new.touches.items = search rules in
    let none = no_items c.bind_compound.new.touches.items c.is_empty.result (c.is_empty.ensures ∙ ap (λ n. n == 0) size) c.if-is_empty.true in
    λ c2 s from c1 there k.
    bound_untold c.args.code.now c.args.functor.0 c.args.functor.1 c.requires.name s from c1 c.args.var there [] refl
    c.args.branch.now c.args.next c2 c.args.args.now k c.requires.all c.args.args.now refl c.args.touches.now.items c.bind_compound.new.touches.items
    c.bind_compound.new.self b.ensures.heap b.field-0 b.ensures.binds
    c.if-not-branch.false c.requires.untold none NoMemory b.ensures.sound

pub returns : goal.returns
returns g c =
    let b = c.in_ok-bind_compound in
    let p = c.in_ok-posted in
    subst (λ (w : Went). (c2 : Contents) → BuildsOn c.args.code.now c.args.functor.0 c.args.functor.1 c.args.var c.args.branch.now c.args.next c2
    c.args.args.now c.post_touches.new.self c2 w) (sym c.on_if.ensures)
    (λ c2 s from c1 there k.
    bound_then c.args.code.now c.args.functor.0 c.args.functor.1 c.requires.name s from c1 c.args.var there [] refl
    c.args.branch.now c.args.next c2 c.args.args.now k c.requires.all c.args.args.now refl c.args.touches.now.items c.bind_compound.new.touches.items
    c.bind_compound.new.self b.ensures.heap b.field-0 b.ensures.binds
    c.if-not-branch.false c.requires.untold c.post_touches.new.self c.deref.result.now c.deref.ensures.value p.posted NoMemory p.ensures.heap p.ensures.same
    p.ensures.posted p.ensures.none p.ensures.sound p.ensures.below)
