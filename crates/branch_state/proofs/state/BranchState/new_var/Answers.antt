use Rattle.std.proofs.Common.{sym, subst}
use Rattle.std.proofs.lemmas.Result.{on_ok_weaker}
use Rattle.branch_state.specs.States.{State, IsSound}
use Rattle.branch_state.proofs.States.{var_sound}
use Rattle.branch_state.proofs.state.BranchState.new_var.Goals as goal

pub returns-clause-sound : goal.returns-clause-sound
returns-clause-sound g c =
    let now : State = record { atoms = c.self.inside.atoms; infinity = c.self.inside.infinity; heaps = c.self.inside.heap; levels = c.self.inside.store } in
    let o : IsSound now = subst IsSound (sym c.self.view_is) c.requires.sound in
    on_ok_weaker c.new_var.result (λ e. var_sound now o c.new_var.new.self e c.new_var.ensures.valid) c.new_var.ensures.added
