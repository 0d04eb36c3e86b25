use Rattle.std.proofs.Common.{arith}
use Rattle.clause_compiler.specs.Parts.{tables_in}
use Rattle.clause_compiler.proofs.KindChoices.{grown_keeps, grown_twice}
use Rattle.clause_compiler.proofs.SwitchCode.{switch_put, switch_within}
use Rattle.clause_compiler.proofs.choices.put_switch.Goals as goal

pub index_mut-requires : goal.index_mut-requires
index_mut-requires c =
    let p = c.args.program.now in
    let ns = c.args.clauses.now in
    let t1 = tables_in c.put_kind.new.tables in
    let t2 = tables_in c.put_kind-2.new.tables in
    let t3 = tables_in c.put_kind-3.new.tables in
    let within =
    switch_within p ns c.args.code.now.items t1 t2 t3 (grown_keeps p ns t1 t2 c.in_ok-put_kind-2.ensures.tables)
    (grown_keeps p ns t2 t3 c.in_ok-put_kind-3.ensures.tables) c.len-at.result c.len-all.result c.len-atoms.result c.len-integers.result
    c.len-structures.result _ c.push.new.self.items c.put_list.new.code.items c.put_kind.new.code.items c.put_kind-2.new.code.items
    c.put_kind-3.new.code.items
    (omega arith) c.in_ok-push.ensures.items (omega arith) c.in_ok-put_list.ensures (omega arith) c.in_ok-put_kind.ensures.code (omega arith)
    c.in_ok-put_kind-2.ensures.code (omega arith) c.in_ok-put_kind-3.ensures.code in
    omega (arith, within, c.put_kind-3.new.code.ok.0)

pub returns-clause-code : goal.returns-clause-code
returns-clause-code c =
    let p = c.args.program.now in
    let ns = c.args.clauses.now in
    let t1 = tables_in c.put_kind.new.tables in
    let t2 = tables_in c.put_kind-2.new.tables in
    let t3 = tables_in c.put_kind-3.new.tables in
    switch_put p ns c.args.code.now.items t1 t2 t3 (grown_keeps p ns t1 t2 c.in_ok-put_kind-2.ensures.tables)
    (grown_keeps p ns t2 t3 c.in_ok-put_kind-3.ensures.tables) c.len-at.result c.len-all.result c.len-atoms.result c.len-integers.result
    c.len-structures.result _ c.push.new.self.items c.put_list.new.code.items c.put_kind.new.code.items c.put_kind-2.new.code.items
    c.put_kind-3.new.code.items
    (omega arith) c.in_ok-push.ensures.items (omega arith) c.in_ok-put_list.ensures (omega arith) c.in_ok-put_kind.ensures.code (omega arith)
    c.in_ok-put_kind-2.ensures.code (omega arith) c.in_ok-put_kind-3.ensures.code

pub returns-clause-tables : goal.returns-clause-tables
returns-clause-tables c =
    let p = c.args.program.now in
    let ns = c.args.clauses.now in
    let t0 = tables_in c.args.tables.now in
    let t1 = tables_in c.put_kind.new.tables in
    let t2 = tables_in c.put_kind-2.new.tables in
    let t3 = tables_in c.put_kind-3.new.tables in
    grown_twice p ns t0 t1 t3 c.in_ok-put_kind.ensures.tables (grown_twice p ns t1 t2 t3 c.in_ok-put_kind-2.ensures.tables c.in_ok-put_kind-3.ensures.tables)
