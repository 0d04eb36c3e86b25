use Rattle.std.proofs.Common.{rules, ◌≡◌, ◌∙◌, ◌++◌, [], ◌∷◌, Some, sym, ap, map, codes, append_assoc, append-nil}
use Rattle.std.specs.Str.{bytes_eq}
use Rattle.term_pool.specs.Contents.{atom_name}
use Rattle.answer_check.specs.Rows.{answer_in, value_in}
use Rattle.answer_check.proofs.Lists.{some_items}
use Rattle.answer_check.proofs.RowReading.{none_before, from_name, some_names, name_read, all_read, row_end}
use Rattle.answer_check.proofs.answers.read_answer.Goals as goal

pub loop-name-init : goal.loop-name-init
loop-name-init c =
    let f = atom_name c.args.pool.now in
    let names = c.args.names.now in
    let line = c.args.line.now in
    ([], sym (append-nil c.args.values.now.items), some_names f names line (some_items names c.is_empty.result c.is_empty.ensures c.if-is_empty.false) ∙ none_before (from_name f [] names 0 line))

pub loop-name-preserved : goal.loop-name-preserved
loop-name-preserved c =
    let f = atom_name c.args.pool.now in
    let i = c.loop-name.name-index in
    let v = c.loop-name.invariant in
    let n = c.in-Some.number in
    let between = c.loop-name.between.now in
    let rest = c.loop-name.rest.now in
    let later = c.in-Some.behind.now in
    let read : Some (n, later) ≡ value_in between c.name_of.result.now rest = c.in-Some.ensures in
    let e = read ∙ ap (λ name. value_in between name rest) c.name_of.ensures.name in (
      v.0 ++ n ∷ [],
      c.in_ok-push.ensures.items ∙ ap (λ ns. ns ++ n ∷ []) v.1 ∙ append_assoc c.args.values.now.items v.0 (n ∷ []),
      v.2 ∙ name_read f between c.args.names.now i _ rest later n v.0 c.loop-name-test.true e,
    )

pub returns : goal.returns
returns c =
    let f = atom_name c.args.pool.now in
    let v = c.loop-name.invariant in
    let rest = c.loop-name.rest.now in
    let test : c.eq-2.result ≡ bytes_eq rest (codes "\n") = search rules in
    row_end (answer_in (map f c.args.names.now) c.args.line.now) v.0 c.args.values.now.items c.loop-name.values.items (bytes_eq rest (codes "\n")) c.eq-2.result
    (v.2 ∙ all_read f c.loop-name.between.now c.args.names.now c.loop-name.name-index rest v.0 c.loop-name-test.false) test v.1
