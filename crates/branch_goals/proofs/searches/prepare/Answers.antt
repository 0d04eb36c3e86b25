use Rattle.std.proofs.Common.{◌∙◌, Ok, Err, ap, subst}
use Rattle.heap_cells.specs.SeenTerms.{seen_term}
use Rattle.range_code.specs.Frames.{family_of}
use Rattle.branch_goals.specs.Lists.{IsListRead}
use Rattle.branch_goals.specs.Searches.{search_fault}
use Rattle.branch_goals.proofs.ListNodes.{is_list_naming, list_naming}
use Rattle.branch_goals.proofs.BestLeafSearch.{prepared_by}
use Rattle.branch_goals.proofs.searches.prepare.Goals as goal

pub returns-in-Err : goal.returns-in-Err
returns-in-Err g c = λ name names.
    let hs = c.heap-heap.result.now in
    let ls = c.store-store.result.now in
    let read = subst (IsListRead name hs.now ls.current.sets c.args.list) c.in-Err.is (c.in_ok-list.ensures name names) in
    prepared_by c.args.branch.now hs ls c.heap-heap.ensures c.store-store.ensures name c.args.list c.args.cost (Err c.in-Err.fault)
    (ap (λ l. search_fault l (seen_term name hs.now (family_of ls.current.sets) c.args.cost)) read)

pub name_members-requires : goal.name_members-requires
name_members-requires g c =
    let hs = c.heap-heap.result.now in
    let ls = c.store-store.result.now in
    let read = subst (IsListRead list_naming hs.now ls.current.sets c.args.list) c.in-Ok.is (c.in_ok-list.ensures list_naming is_list_naming) in
    (list_naming, ls.current.sets, read.0, read.2)

pub returns-in-Ok-cost_in : goal.returns-in-Ok-cost_in
returns-in-Ok-cost_in g c = λ name names.
    let hs = c.heap-heap.result.now in
    let ls = c.store-store.result.now in
    let read = subst (IsListRead name hs.now ls.current.sets c.args.list) c.in-Ok.is (c.in_ok-list.ensures name names) in
    let named = c.in_ok-named.ensures name ls.current.sets read.0 c.vars.ensures read.2 in
    prepared_by c.args.branch.now hs ls c.heap-heap.ensures c.store-store.ensures name c.args.list c.args.cost (Ok (record { named = c.in_ok-named.named; cost = c.in-Ok-cost_in.cost }))
    (read.0, read.1, named, c.in-Ok-cost_in.ensures name read.0 named)

pub returns : goal.returns
returns g c = λ name names.
    let hs = c.heap-heap.result.now in
    let ls = c.store-store.result.now in
    let read = subst (IsListRead name hs.now ls.current.sets c.args.list) c.in-Ok.is (c.in_ok-list.ensures name names) in
    let named = c.in_ok-named.ensures name ls.current.sets read.0 c.vars.ensures read.2 in
    prepared_by c.args.branch.now hs ls c.heap-heap.ensures c.store-store.ensures name c.args.list c.args.cost (Err c.in-Err-cost_in.fault)
    (ap (λ l. search_fault l (seen_term name hs.now (family_of ls.current.sets) c.args.cost)) read.1 ∙ c.in-Err-cost_in.ensures name read.0 named)
