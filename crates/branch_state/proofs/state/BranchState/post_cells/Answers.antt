use Rattle.std.specs.Prelude.{All}
use Rattle.std.proofs.Common.{◌≡◌, true, sym, subst, length, Some, refl}
use Rattle.fd_language.specs.declared.TheConstants.{INFINITY}
use Rattle.fd_language.specs.Range.{Range}
use Rattle.fd_language.specs.RangeVerdict.{is_accepted}
use Rattle.range_code.specs.Slots.{slots_of}
use Rattle.unify_core.specs.TerminationMeasure.{unnamed}
use Rattle.branch_lemmas.specs.CellRanges.{cells_offence}
use Rattle.branch_state.specs.CellVariables.{IsFineGoal, IsPrepared}
use Rattle.branch_state.specs.CellPosts.{term_in, slots_in, PostsNamed}
use Rattle.branch_state.specs.States.{State, IsSound, IsCell}
use Rattle.branch_state.proofs.CellPosts.{own_cells, goal_fine, goal_fault, cells_target_low, cells_frame, cells_touches_low, cells_step}
use Rattle.branch_state.proofs.state.BranchState.post_cells.Goals as goal

pub find_cells_offence-offence-requires-clause-cells : goal.find_cells_offence-offence-requires-clause-cells
find_cells_offence-offence-requires-clause-cells g c =
    let now : State = record { atoms = c.self.inside.atoms; infinity = c.self.inside.infinity; heaps = c.self.inside.heap; levels = c.self.inside.store } in
    own_cells now c.args.cells.now (subst (λ (s : State). All (IsCell s) c.args.cells.now) (sym c.self.view_is) c.requires.cells)

pub find_cells_offence-offence-requires-clause-counted : goal.find_cells_offence-offence-requires-clause-counted
find_cells_offence-offence-requires-clause-counted g c = subst (λ (q : Range). length c.args.cells.now ≡ length (slots_of q)) (sym c.deref-2.ensures) c.requires.counted

pub returns-in-Some-clause-step : goal.returns-in-Some-clause-step
returns-in-Some-clause-step g c = λ name.
    let now : State = record { atoms = c.self.inside.atoms; infinity = c.self.inside.infinity; heaps = c.self.inside.heap; levels = c.self.inside.store } in
    let o : IsSound now = subst IsSound (sym c.self.view_is) c.requires.sound in
    let r = c.args.code.now.value in
    let cells = c.args.cells.now in
    let target = c.args.target in
    let accepted : is_accepted INFINITY r ≡ true = subst (λ q. is_accepted INFINITY q ≡ true) c.deref.ensures c.know_code.ensures in
    let fault : cells_offence (term_in name now target) (slots_in name now r cells) r ≡ Some c.in-Some.fault =
    goal_fault name now target cells c.deref-2.result.now r accepted c.look_cell-look.result (c.look_cell-look.ensures name) c.find_cells_offence-offence.result
    c.deref-2.ensures c.find_cells_offence-offence.ensures c.in-Some.fault c.in-Some.is in
    (subst (λ (v : State). cells_offence (term_in name v target) (slots_in name v r cells) r ≡ Some c.in-Some.fault) c.self.view_is fault, refl)

pub prepare_cells-requires-clause-cells : goal.prepare_cells-requires-clause-cells
prepare_cells-requires-clause-cells g c =
    let now : State = record { atoms = c.self.inside.atoms; infinity = c.self.inside.infinity; heaps = c.self.inside.heap; levels = c.self.inside.store } in
    own_cells now c.args.cells.now (subst (λ (s : State). All (IsCell s) c.args.cells.now) (sym c.self.view_is) c.requires.cells)

pub prepare_cells-requires-clause-counted : goal.prepare_cells-requires-clause-counted
prepare_cells-requires-clause-counted g c = subst (λ (q : Range). length c.args.cells.now ≡ length (slots_of q)) (sym c.deref-3.ensures) c.requires.counted

pub prepare_cells-requires-clause-looks : goal.prepare_cells-requires-clause-looks
prepare_cells-requires-clause-looks g c = (_, c.look_cell-look.ensures unnamed)

pub prepare_cells-requires-clause-fine : goal.prepare_cells-requires-clause-fine
prepare_cells-requires-clause-fine g c =
    let now : State = record { atoms = c.self.inside.atoms; infinity = c.self.inside.infinity; heaps = c.self.inside.heap; levels = c.self.inside.store } in
    let r = c.args.code.now.value in
    let cells = c.args.cells.now in
    let fine : IsFineGoal now.heaps.now now.levels.current.sets r c.look_cell-look.result cells = goal_fine now.heaps.now now.levels.current.sets
    c.deref-2.result.now r c.look_cell-look.result cells c.find_cells_offence-offence.result c.deref-2.ensures c.find_cells_offence-offence.ensures
    c.in_default.not-Some in
    subst (λ q. IsFineGoal now.heaps.now now.levels.current.sets q c.look_cell-look.result cells) (sym c.deref-3.ensures) fine

pub post_prepared-requires-clause-target : goal.post_prepared-requires-clause-target
post_prepared-requires-clause-target g c =
    let now : State = record { atoms = c.self.inside.atoms; infinity = c.self.inside.infinity; heaps = c.self.inside.heap; levels = c.self.inside.store } in
    let o : IsSound now = subst IsSound (sym c.self.view_is) c.requires.sound in
    let r = c.args.code.now.value in
    let cells = c.args.cells.now in
    let target = c.args.target in
    let accepted : is_accepted INFINITY r ≡ true = subst (λ q. is_accepted INFINITY q ≡ true) c.deref.ensures c.know_code.ensures in
    let fine : IsFineGoal now.heaps.now now.levels.current.sets r c.look_cell-look.result cells = goal_fine now.heaps.now now.levels.current.sets
    c.deref-2.result.now r c.look_cell-look.result cells c.find_cells_offence-offence.result c.deref-2.ensures c.find_cells_offence-offence.ensures
    c.in_default.not-Some in
    let S = c.prepare_cells.new.store.current.sets in
    let p = c.in_ok-prepared.prepared in
    let looks = c.look_cell-look.ensures unnamed in
    let t = term_in unnamed now target in
    let ready = subst (λ q. IsPrepared t (slots_in unnamed now q cells) now.heaps.now now.levels.current.sets q c.prepare_cells.new.heap.now S p.fixed.items
    p.target p.args.items) c.deref-3.ensures (c.in_ok-prepared.ensures.ready unnamed t looks) in
    cells_target_low unnamed now o.now target cells r accepted (fine unnamed t looks) c.prepare_cells.new.heap.now S p.fixed.items p.target p.args.items ready

pub post_prepared-requires-clause-frame : goal.post_prepared-requires-clause-frame
post_prepared-requires-clause-frame g c =
    let now : State = record { atoms = c.self.inside.atoms; infinity = c.self.inside.infinity; heaps = c.self.inside.heap; levels = c.self.inside.store } in
    let o : IsSound now = subst IsSound (sym c.self.view_is) c.requires.sound in
    let r = c.args.code.now.value in
    let cells = c.args.cells.now in
    let target = c.args.target in
    let accepted : is_accepted INFINITY r ≡ true = subst (λ q. is_accepted INFINITY q ≡ true) c.deref.ensures c.know_code.ensures in
    let fine : IsFineGoal now.heaps.now now.levels.current.sets r c.look_cell-look.result cells = goal_fine now.heaps.now now.levels.current.sets
    c.deref-2.result.now r c.look_cell-look.result cells c.find_cells_offence-offence.result c.deref-2.ensures c.find_cells_offence-offence.ensures
    c.in_default.not-Some in
    let S = c.prepare_cells.new.store.current.sets in
    let p = c.in_ok-prepared.prepared in
    let looks = c.look_cell-look.ensures unnamed in
    let t = term_in unnamed now target in
    let ready = subst (λ q. IsPrepared t (slots_in unnamed now q cells) now.heaps.now now.levels.current.sets q c.prepare_cells.new.heap.now S p.fixed.items
    p.target p.args.items) c.deref-3.ensures (c.in_ok-prepared.ensures.ready unnamed t looks) in
    cells_frame unnamed now o.now target cells r accepted (fine unnamed t looks) c.prepare_cells.new.heap.now S p.fixed.items p.target p.args.items ready

pub post_prepared-requires-clause-fixed : goal.post_prepared-requires-clause-fixed
post_prepared-requires-clause-fixed g c =
    let now : State = record { atoms = c.self.inside.atoms; infinity = c.self.inside.infinity; heaps = c.self.inside.heap; levels = c.self.inside.store } in
    let o : IsSound now = subst IsSound (sym c.self.view_is) c.requires.sound in
    let r = c.args.code.now.value in
    let cells = c.args.cells.now in
    let target = c.args.target in
    let accepted : is_accepted INFINITY r ≡ true = subst (λ q. is_accepted INFINITY q ≡ true) c.deref.ensures c.know_code.ensures in
    let fine : IsFineGoal now.heaps.now now.levels.current.sets r c.look_cell-look.result cells = goal_fine now.heaps.now now.levels.current.sets
    c.deref-2.result.now r c.look_cell-look.result cells c.find_cells_offence-offence.result c.deref-2.ensures c.find_cells_offence-offence.ensures
    c.in_default.not-Some in
    let S = c.prepare_cells.new.store.current.sets in
    let p = c.in_ok-prepared.prepared in
    let looks = c.look_cell-look.ensures unnamed in
    let t = term_in unnamed now target in
    let ready = subst (λ q. IsPrepared t (slots_in unnamed now q cells) now.heaps.now now.levels.current.sets q c.prepare_cells.new.heap.now S p.fixed.items
    p.target p.args.items) c.deref-3.ensures (c.in_ok-prepared.ensures.ready unnamed t looks) in
    cells_touches_low unnamed now o.now target cells r accepted (fine unnamed t looks) c.prepare_cells.new.heap.now S p.fixed.items p.target p.args.items ready

pub returns-clause-step : goal.returns-clause-step
returns-clause-step g c = λ name.
    let now : State = record { atoms = c.self.inside.atoms; infinity = c.self.inside.infinity; heaps = c.self.inside.heap; levels = c.self.inside.store } in
    let o : IsSound now = subst IsSound (sym c.self.view_is) c.requires.sound in
    let r = c.args.code.now.value in
    let cells = c.args.cells.now in
    let target = c.args.target in
    let accepted : is_accepted INFINITY r ≡ true = subst (λ q. is_accepted INFINITY q ≡ true) c.deref.ensures c.know_code.ensures in
    let fine : IsFineGoal now.heaps.now now.levels.current.sets r c.look_cell-look.result cells = goal_fine now.heaps.now now.levels.current.sets
    c.deref-2.result.now r c.look_cell-look.result cells c.find_cells_offence-offence.result c.deref-2.ensures c.find_cells_offence-offence.ensures
    c.in_default.not-Some in
    let S = c.prepare_cells.new.store.current.sets in
    let p = c.in_ok-prepared.prepared in
    let looks = c.look_cell-look.ensures name in
    let t = term_in name now target in
    let ready = subst (λ q. IsPrepared t (slots_in name now q cells) now.heaps.now now.levels.current.sets q c.prepare_cells.new.heap.now S p.fixed.items
    p.target p.args.items) c.deref-3.ensures (c.in_ok-prepared.ensures.ready name t looks) in
    let next : State = record { atoms = now.atoms; infinity = now.infinity; heaps = c.prepare_cells.new.heap; levels = c.post_prepared.new.store } in
    subst (λ (v : State). PostsNamed name v target cells r next c.step_of.result) c.self.view_is
    (subst (PostsNamed name now target cells r next) (sym c.step_of.ensures)
    (cells_step name now o.now target cells r accepted (fine name t looks) c.prepare_cells.new.heap.now S p.fixed.items p.target p.args.items ready
    o c.prepare_cells.new.heap refl c.prepare_cells.ensures.below c.prepare_cells.new.store c.post_prepared.new.store c.in_ok-prepared.ensures.store
    c.post_prepared.ensures.below c.in_ok-kept.ensures.unspent c.in_ok-kept.ensures.vars c.vars.result c.vars.ensures c.in_ok-kept.kept
    c.in_ok-kept.ensures.posted c.in_ok-kept.ensures.kept c.in_ok-kept.ensures.none))

pub post_prepared-requires-clause-greatest : goal.post_prepared-requires-clause-greatest
post_prepared-requires-clause-greatest g c =
    let now : State = record { atoms = c.self.inside.atoms; infinity = c.self.inside.infinity; heaps = c.self.inside.heap; levels = c.self.inside.store } in
    let o : IsSound now = subst IsSound (sym c.self.view_is) c.requires.sound in
    o.greatest.1
