use Rattle.std.proofs.Common.{◌≡◌, ◌∙◌, ◌-◌, ap, sym, subst, length, [], refl}
use Rattle.fd_language.specs.Term.{Var}
use Rattle.heap_cells.specs.Cells.{Cells, Heaps}
use Rattle.branch_state.specs.Constraints.{variables_in, firsts, with_variables, AreLinked, AreOpen}
use Rattle.branch_state.specs.StoreVariables.{IsNaming}
use Rattle.branch_state.proofs.LinkedRows.{all_unbound, wider_links, equated_linked, equated_open}
use Rattle.branch_state.proofs.constraints.link_row.Goals as goal

pub list_ranges-requires-clause-unbound : goal.list_ranges-requires-clause-unbound
list_ranges-requires-clause-unbound g c =
    let h = c.args.heap.now.now in
    let y = c.args.expansion.now in
    let grown : c.add_variables.new.heap.now ≡ with_variables (y.fresh - length h.slots) h =
    ap (λ (x : Heaps). x.now) c.in_ok-add_variables.ensures.added ∙ ap (λ n. with_variables (n - c.variable_count-fresh.result) h) c.added.ensures
    ∙ ap (λ n. with_variables (y.fresh - n) h) c.variable_count-fresh.ensures in
    all_unbound h c.args.store.now.current.sets c.requires.links y c.requires.row c.add_variables.new.heap.now grown (variables_in y.ranges) refl

pub list_ranges-requires-clause-links : goal.list_ranges-requires-clause-links
list_ranges-requires-clause-links g c =
    let h = c.args.heap.now.now in
    let y = c.args.expansion.now in
    let grown : c.add_variables.new.heap.now ≡ with_variables (y.fresh - length h.slots) h =
    ap (λ (x : Heaps). x.now) c.in_ok-add_variables.ensures.added ∙ ap (λ n. with_variables (n - c.variable_count-fresh.result) h) c.added.ensures
    ∙ ap (λ n. with_variables (y.fresh - n) h) c.variable_count-fresh.ensures in
    wider_links h c.args.store.now.current.sets c.requires.links y c.requires.row c.add_variables.new.heap.now grown

pub equate-requires-clause-linked : goal.equate-requires-clause-linked
equate-requires-clause-linked g c =
    let h = c.args.heap.now.now in
    let y = c.args.expansion.now in
    let grown : c.add_variables.new.heap.now ≡ with_variables (y.fresh - length h.slots) h =
    ap (λ (x : Heaps). x.now) c.in_ok-add_variables.ensures.added ∙ ap (λ n. with_variables (n - c.variable_count-fresh.result) h) c.added.ensures
    ∙ ap (λ n. with_variables (y.fresh - n) h) c.variable_count-fresh.ensures in
    let sets = c.args.store.now.current.sets in
    let middle = c.list_ranges.new.heap.now in
    let S = c.list_ranges.new.store.current.sets in
    let w : IsNaming Var (with_variables (y.fresh - length h.slots) h) sets (variables_in y.ranges) middle S [] [] =
    subst (λ (x : Cells). IsNaming Var x sets (variables_in y.ranges) middle S [] []) grown c.in_ok-list.ensures.linked in
    subst (λ l. AreLinked middle (firsts l)) (sym (c.equated.ensures ∙ c.list_ranges.ensures.equated)) (equated_linked h sets c.requires.links y c.requires.row middle S w)

pub equate-requires-clause-unbound : goal.equate-requires-clause-unbound
equate-requires-clause-unbound g c =
    let h = c.args.heap.now.now in
    let y = c.args.expansion.now in
    let grown : c.add_variables.new.heap.now ≡ with_variables (y.fresh - length h.slots) h =
    ap (λ (x : Heaps). x.now) c.in_ok-add_variables.ensures.added ∙ ap (λ n. with_variables (n - c.variable_count-fresh.result) h) c.added.ensures
    ∙ ap (λ n. with_variables (y.fresh - n) h) c.variable_count-fresh.ensures in
    let sets = c.args.store.now.current.sets in
    let middle = c.list_ranges.new.heap.now in
    let S = c.list_ranges.new.store.current.sets in
    let w : IsNaming Var (with_variables (y.fresh - length h.slots) h) sets (variables_in y.ranges) middle S [] [] =
    subst (λ (x : Cells). IsNaming Var x sets (variables_in y.ranges) middle S [] []) grown c.in_ok-list.ensures.linked in
    subst (λ n. AreOpen n c.equated.result.now middle) (sym c.variable_count-fresh.ensures)
    (subst (λ l. AreOpen (length h.slots) l middle) (sym (c.equated.ensures ∙ c.list_ranges.ensures.equated))
    (equated_open h sets c.requires.links y c.requires.row middle S w))
