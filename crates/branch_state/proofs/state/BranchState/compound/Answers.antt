use Rattle.std.proofs.Common.{◌<◌, sym, subst}
use Rattle.std.specs.Prelude.{All, IfOk}
use Rattle.std.proofs.lemmas.Result.{on_ok_weaker}
use Rattle.branch_state.specs.Compounds.{IsMade}
use Rattle.branch_state.specs.States.{State, IsSound, IsCell}
use Rattle.branch_state.proofs.Compounds.{made_cell, made_sound, if_ok_with}
use Rattle.branch_state.proofs.state.BranchState.compound.Goals as goal

pub returns-clause-made : goal.returns-clause-made
returns-clause-made g c =
    let now : State = record { atoms = c.self.inside.atoms; infinity = c.self.inside.infinity; heaps = c.self.inside.heap; levels = c.self.inside.store } in
    let o : IsSound now = subst IsSound (sym c.self.view_is) c.requires.sound in
    let low : c.args.f.number < now.atoms = subst (λ (s : State). c.args.f.number < s.atoms) (sym c.self.view_is) c.requires.name in
    let cells : All (IsCell now) c.args.args.now = subst (λ (s : State). All (IsCell s) c.args.args.now) (sym c.self.view_is) c.requires.cells in
    let next : State = record { atoms = now.atoms; infinity = now.infinity; heaps = c.new_struct.new.self; levels = now.levels } in
    subst (λ (s : State). IfOk c.new_struct.result (IsMade c.args.f c.args.args.now s next)) c.self.view_is
    (if_ok_with c.new_struct.result _ (IsMade c.args.f c.args.args.now now next) _
    (λ d e added. subst (IsMade c.args.f c.args.args.now now next) (sym e)
    (made_cell now o c.args.f c.args.args.now low cells c.new_struct.new.self added c.new_struct.ensures.kept c.new_struct.ensures.valid))
    c.new_struct.ensures.id c.new_struct.ensures.added)

pub returns-clause-sound : goal.returns-clause-sound
returns-clause-sound g c =
    let now : State = record { atoms = c.self.inside.atoms; infinity = c.self.inside.infinity; heaps = c.self.inside.heap; levels = c.self.inside.store } in
    let o : IsSound now = subst IsSound (sym c.self.view_is) c.requires.sound in
    let low : c.args.f.number < now.atoms = subst (λ (s : State). c.args.f.number < s.atoms) (sym c.self.view_is) c.requires.name in
    let cells : All (IsCell now) c.args.args.now = subst (λ (s : State). All (IsCell s) c.args.args.now) (sym c.self.view_is) c.requires.cells in
    on_ok_weaker c.new_struct.result (λ added. made_sound now o c.args.f c.args.args.now low cells c.new_struct.new.self added c.new_struct.ensures.kept
    c.new_struct.ensures.valid) c.new_struct.ensures.added
