use Rattle.std.proofs.Common.{◌≡◌, ◌∙◌, ◌++◌, ◌∷◌, [], ℕ, List, Vec, Global, ap, map, refl, rules, sym, length, subst, arith}
use Rattle.std.proofs.lemmas.List.{map_push, length-map}
use Rattle.std.proofs.lemmas.List.Sorted.{answers_always}
use Rattle.clause_compiler.specs.contracts.tables.LabelOrd.TheImpl.{cmp-value}
use Rattle.clause_compiler.specs.ClauseKeys.{label}
use Rattle.clause_compiler.proofs.RowOrder.{Orders, rows_rise}
use Rattle.wam_code.specs.declared.instruction.Key.{Key}
use Rattle.clause_compiler.specs.Sections.{ArePut, IsListIn, its_row}
use Rattle.clause_compiler.specs.Switches.{switch_on}
use Rattle.clause_compiler.specs.Parts.{tables_in}
use Rattle.clause_compiler.proofs.KindChoices.{table_grows, table_put}
use Rattle.clause_compiler.proofs.choices.put_table.Goals as goal

abbrev items : Vec (Key × ℕ) Global → List (Key × ℕ)
items v = v.items

orders : Orders cmp-value.it
orders = record { atoms = λ a b. refl; integers = λ y z. refl; structures = λ f n g m. refl }

pub returns : goal.returns
returns c p ns told w =
    let k = c.args.kind in
    let looked = c.args.keyed.now.labels.keys in
    let keys = c.args.keyed.now.keys.items in
    let groups = map (λ l. l.items) c.args.keyed.now.lists.items in
    let before = tables_in c.args.tables.now in
    let after = tables_in c.push-2.new.self in
    let number = sym (length-map c.args.tables.now.items items) in
    let tables : c.len.result ≡ length c.args.tables.now.items = omega arith in
    let one = c.in_ok-push.ensures.items ∙ ap (λ i. c.args.code.now.items ++ i ∷ []) (c.switch_of.ensures ∙ ap (switch_on k) tables) in
    let put = subst (λ ks. ArePut (its_row ks) (IsListIn groups) (length ks) c.push.new.self.items c.put_rows.new.code.items c.in_ok-rows.rows.items) c.deref.ensures.value
    (subst (λ gs. ArePut (its_row c.deref.result.now) (IsListIn (map (λ (l : Vec ℕ Global). l.items) gs)) (length c.deref.result.now) c.push.new.self.items
    c.put_rows.new.code.items c.in_ok-rows.rows.items) c.deref-2.ensures.value c.in_ok-rows.ensures) in
    let moved = c.sort_unstable_by_key.ensures.permutation in
    let sorted = c.sort_unstable_by_key.ensures.sorted (λ x. label x.0) (answers_always _ _ _ (λ f a r g h. search rules)) in
    let rises = rows_rise cmp-value.it orders p k ns looked keys groups w c.push.new.self.items c.put_rows.new.code.items c.in_ok-rows.rows.items
    c.sort_unstable_by_key.new.self.items put moved sorted in
    let grown = ap (map items) c.in_ok-push-2.ensures.items ∙ map_push items c.args.tables.now.items c.sort_unstable_by_key.new.self in (
      table_put p k ns looked keys groups w c.args.code.now.items c.push.new.self.items c.put_rows.new.code.items before after c.in_ok-rows.rows.items
          c.sort_unstable_by_key.new.self.items c.sort_unstable_by_key.ensures.permutation (length c.args.tables.now.items) number one put grown rises told,
      table_grows p k ns looked keys groups w c.args.code.now.items c.push.new.self.items c.put_rows.new.code.items before after c.in_ok-rows.rows.items
          c.sort_unstable_by_key.new.self.items c.sort_unstable_by_key.ensures.permutation (length c.args.tables.now.items) number one put grown rises,
    )
