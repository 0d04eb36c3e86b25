use Rattle.std.proofs.Common.{◌∙◌, ap, sym, subst, arith}
use Rattle.branch_state.specs.States.{State, with_heap}
use Rattle.branch_state.specs.Steps.{AreTouchesOf}
use Rattle.branch_state.proofs.Compounds.{made_of, cells_stay, binds, on_any}
use Rattle.branch_state.proofs.state.BranchState.bind_compound.Goals as goal

pub bind_built-requires-clause-there : goal.bind_built-requires-clause-there
bind_built-requires-clause-there g c = (let low = c.requires.there in let more = c.in_ok-built.ensures.made.grown.longer in omega (arith, low, more))

pub bind_built-requires-clause-open : goal.bind_built-requires-clause-open
bind_built-requires-clause-open g c = c.in_ok-built.ensures.made.grown.slots c.args.var ∙ c.requires.«open»

pub bind_built-requires-clause-own : goal.bind_built-requires-clause-own
bind_built-requires-clause-own g c = c.in_ok-built.ensures.made.own

pub bind_built-requires-clause-cells : goal.bind_built-requires-clause-cells
bind_built-requires-clause-cells g c = cells_stay c.args.self.now c.args.f c.args.args.now c.compound.new.self c.in_ok-built.built c.requires.cells
    c.in_ok-built.ensures.made c.in_ok-built.ensures.heap

pub bind_built-requires-clause-compound : goal.bind_built-requires-clause-compound
bind_built-requires-clause-compound g c = made_of c.args.self.now c.args.f c.args.args.now c.compound.new.self c.in_ok-built.built c.requires.cells c.in_ok-built.ensures.made

pub returns-clause-binds : goal.returns-clause-binds
returns-clause-binds g c =
    let b = c.in_ok-built in
    binds c.args.f c.args.args.now c.args.var c.args.self.now c.compound.new.self b.built b.ensures.made b.ensures.heap b.ensures.sound c.bind_built.new.self
    c.args.touches.now.items c.bind_built.new.touches.items c.bind_built.result c.bind_built.ensures.equal c.bind_built.ensures.unequal

pub returns-clause-touches : goal.returns-clause-touches
returns-clause-touches g c = λ low. c.bind_built.ensures.touches (subst (λ (s : State). AreTouchesOf s c.args.touches.now.items) (sym c.in_ok-built.ensures.heap) low)

pub returns-clause-heap : goal.returns-clause-heap
returns-clause-heap g c = on_any c.bind_built.result (c.bind_built.ensures.heap ∙ ap (λ (s : State). with_heap s c.bind_built.new.self.heaps.now) c.in_ok-built.ensures.heap)
