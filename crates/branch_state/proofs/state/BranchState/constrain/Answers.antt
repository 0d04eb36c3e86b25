use Rattle.std.proofs.Common.{◌≡◌, ◌∙◌, ap, sym, subst, length, Ok, Err, refl}
use Rattle.branch_state.specs.Constraints.{row_of, Constrains, IsRowOf}
use Rattle.branch_state.specs.LinkedRows.{IsRowReady}
use Rattle.branch_state.specs.States.{State, IsSound, IsCell}
use Rattle.branch_state.proofs.ConstraintStates.{own_links, constraint_step, list_fits, fixed_fits, row_of_heap, row_read, fault_read}
use Rattle.branch_state.proofs.state.BranchState.constrain.Goals as goal

pub expand_goal-expanded-requires-clause-linked : goal.expand_goal-expanded-requires-clause-linked
expand_goal-expanded-requires-clause-linked g c =
    let now : State = record { atoms = c.self.inside.atoms; infinity = c.self.inside.infinity; heaps = c.self.inside.heap; levels = c.self.inside.store } in
    let o : IsSound now = subst IsSound (sym c.self.view_is) c.requires.sound in
    o.now.linked

pub returns-in-Err-clause-step : goal.returns-in-Err-clause-step
returns-in-Err-clause-step g c =
    let now : State = record { atoms = c.self.inside.atoms; infinity = c.self.inside.infinity; heaps = c.self.inside.heap; levels = c.self.inside.store } in
    let o : IsSound now = subst IsSound (sym c.self.view_is) c.requires.sound in
    let names = c.args.pool.now.names in
    let kind = c.args.kind in
    let cell = c.args.goal in
    let atoms : length names ≡ now.atoms = c.requires.atoms ∙ sym (ap (λ (s : State). s.atoms) c.self.view_is) in
    let own : IsCell now cell = subst (λ (s : State). IsCell s cell) (sym c.self.view_is) c.requires.cell in
    let read = row_read names now o atoms kind cell own _ refl in
    let fault : row_of names now kind cell ≡ Err c.in_ok-fault_of-in-Err.field-0 = sym read
    ∙ fault_read _ c.in-Err.fault c.in_ok-fault_of-in-Err.field-0 c.in-Err.ensures.row c.in_ok-fault_of-in-Err.ensures.fault in
    (subst (λ (v : State). row_of names v kind cell ≡ Err c.in_ok-fault_of-in-Err.field-0) c.self.view_is fault, c.self.view_is)

pub prepare_row-requires-clause-links : goal.prepare_row-requires-clause-links
prepare_row-requires-clause-links g c =
    let now : State = record { atoms = c.self.inside.atoms; infinity = c.self.inside.infinity; heaps = c.self.inside.heap; levels = c.self.inside.store } in
    let o : IsSound now = subst IsSound (sym c.self.view_is) c.requires.sound in
    own_links now o

pub prepare_row-requires-clause-row : goal.prepare_row-requires-clause-row
prepare_row-requires-clause-row g c =
    let now : State = record { atoms = c.self.inside.atoms; infinity = c.self.inside.infinity; heaps = c.self.inside.heap; levels = c.self.inside.store } in
    let o : IsSound now = subst IsSound (sym c.self.view_is) c.requires.sound in
    let names = c.args.pool.now.names in
    let kind = c.args.kind in
    let cell = c.args.goal in
    let atoms : length names ≡ now.atoms = c.requires.atoms ∙ sym (ap (λ (s : State). s.atoms) c.self.view_is) in
    let own : IsCell now cell = subst (λ (s : State). IsCell s cell) (sym c.self.view_is) c.requires.cell in
    let read = row_read names now o atoms kind cell own _ refl in
    let y = c.in-Ok.expansion in
    let is : row_of names now kind cell ≡ Ok y = sym read ∙ c.in-Ok.ensures.row in
    let row : IsRowOf now.heaps.now y = row_of_heap names now o kind cell own y is in
    row

pub post_rows-requires-clause-list : goal.post_rows-requires-clause-list
post_rows-requires-clause-list g c =
    let now : State = record { atoms = c.self.inside.atoms; infinity = c.self.inside.infinity; heaps = c.self.inside.heap; levels = c.self.inside.store } in
    let o : IsSound now = subst IsSound (sym c.self.view_is) c.requires.sound in
    let names = c.args.pool.now.names in
    let kind = c.args.kind in
    let cell = c.args.goal in
    let atoms : length names ≡ now.atoms = c.requires.atoms ∙ sym (ap (λ (s : State). s.atoms) c.self.view_is) in
    let own : IsCell now cell = subst (λ (s : State). IsCell s cell) (sym c.self.view_is) c.requires.cell in
    let read = row_read names now o atoms kind cell own _ refl in
    let y = c.in-Ok.expansion in
    let is : row_of names now kind cell ≡ Ok y = sym read ∙ c.in-Ok.ensures.row in
    let row : IsRowOf now.heaps.now y = row_of_heap names now o kind cell own y is in
    let S = c.prepare_row.new.store.current.sets in
    let list = c.in_ok-listed.listed.list.items in
    let fixed = c.in_ok-listed.listed.fixed.items in
    let ready : IsRowReady now.heaps.now now.levels.current.sets y c.prepare_row.new.heap.now S list fixed =
    c.in_ok-listed.ensures.ready in
    list_fits names now o kind cell y is row c.prepare_row.new.heap.now S list fixed ready

pub post_rows-requires-clause-fixed : goal.post_rows-requires-clause-fixed
post_rows-requires-clause-fixed g c =
    let now : State = record { atoms = c.self.inside.atoms; infinity = c.self.inside.infinity; heaps = c.self.inside.heap; levels = c.self.inside.store } in
    let o : IsSound now = subst IsSound (sym c.self.view_is) c.requires.sound in
    let names = c.args.pool.now.names in
    let kind = c.args.kind in
    let cell = c.args.goal in
    let atoms : length names ≡ now.atoms = c.requires.atoms ∙ sym (ap (λ (s : State). s.atoms) c.self.view_is) in
    let own : IsCell now cell = subst (λ (s : State). IsCell s cell) (sym c.self.view_is) c.requires.cell in
    let read = row_read names now o atoms kind cell own _ refl in
    let y = c.in-Ok.expansion in
    let is : row_of names now kind cell ≡ Ok y = sym read ∙ c.in-Ok.ensures.row in
    let row : IsRowOf now.heaps.now y = row_of_heap names now o kind cell own y is in
    let S = c.prepare_row.new.store.current.sets in
    let list = c.in_ok-listed.listed.list.items in
    let fixed = c.in_ok-listed.listed.fixed.items in
    let ready : IsRowReady now.heaps.now now.levels.current.sets y c.prepare_row.new.heap.now S list fixed =
    c.in_ok-listed.ensures.ready in
    fixed_fits names now o kind cell y is row c.prepare_row.new.heap.now S list fixed ready

pub returns-clause-step : goal.returns-clause-step
returns-clause-step g c =
    let now : State = record { atoms = c.self.inside.atoms; infinity = c.self.inside.infinity; heaps = c.self.inside.heap; levels = c.self.inside.store } in
    let o : IsSound now = subst IsSound (sym c.self.view_is) c.requires.sound in
    let names = c.args.pool.now.names in
    let kind = c.args.kind in
    let cell = c.args.goal in
    let atoms : length names ≡ now.atoms = c.requires.atoms ∙ sym (ap (λ (s : State). s.atoms) c.self.view_is) in
    let own : IsCell now cell = subst (λ (s : State). IsCell s cell) (sym c.self.view_is) c.requires.cell in
    let read = row_read names now o atoms kind cell own _ refl in
    let y = c.in-Ok.expansion in
    let is : row_of names now kind cell ≡ Ok y = sym read ∙ c.in-Ok.ensures.row in
    let row : IsRowOf now.heaps.now y = row_of_heap names now o kind cell own y is in
    let S = c.prepare_row.new.store.current.sets in
    let list = c.in_ok-listed.listed.list.items in
    let fixed = c.in_ok-listed.listed.fixed.items in
    let ready : IsRowReady now.heaps.now now.levels.current.sets y c.prepare_row.new.heap.now S list fixed =
    c.in_ok-listed.ensures.ready in
    let next : State = record { atoms = now.atoms; infinity = now.infinity; heaps = c.prepare_row.new.heap; levels = c.post_rows.new.store } in
    let below = c.prepare_row.ensures.below in
    subst (λ (v : State). Constrains names v kind cell next c.step_of.result) c.self.view_is
    (subst (Constrains names now kind cell next) (sym c.step_of.ensures)
    (constraint_step names now o kind cell y is row c.prepare_row.new.heap.now S list fixed ready
    c.prepare_row.new.heap refl below c.prepare_row.new.store c.post_rows.new.store c.in_ok-listed.ensures.store c.post_rows.ensures.below
    c.in_ok-kept.ensures.unspent c.in_ok-kept.ensures.vars c.vars.result c.vars.ensures c.in_ok-kept.kept c.in_ok-kept.ensures.posted
    c.in_ok-kept.ensures.kept c.in_ok-kept.ensures.none))

pub post_rows-requires-clause-greatest : goal.post_rows-requires-clause-greatest
post_rows-requires-clause-greatest g c =
    let now : State = record { atoms = c.self.inside.atoms; infinity = c.self.inside.infinity; heaps = c.self.inside.heap; levels = c.self.inside.store } in
    let o : IsSound now = subst IsSound (sym c.self.view_is) c.requires.sound in
    o.greatest.1
