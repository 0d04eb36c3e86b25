use Rattle.std.proofs.Common.{◌≡◌, ◌∙◌, ◌++◌, ◌∷◌, [], ◌<◌, ap, map, set, sym, refl, length, not, Bool, true, false, if◌then◌else◌, arith}
use Rattle.std.specs.List.{list_any}
use Rattle.std.proofs.lemmas.Bool.{true≢false}
use Rattle.std.proofs.lemmas.Option.{slice_get_within}
use Rattle.std.proofs.lemmas.List.{map_push, map-set}
use Rattle.wam_code.specs.declared.instruction.Key.{Key}
use Rattle.clause_compiler.specs.contracts.tables.LabelPartialEq.TheImpl.{eq-value}
use Rattle.clause_compiler.specs.ClauseKeys.{label, same_key}
use Rattle.clause_compiler.proofs.Vectors.{items, list_put}
use Rattle.clause_compiler.proofs.ClauseKeys.{each_pair, insert_new, insert_old}
use Rattle.clause_compiler.proofs.tables.add.Goals as goal

alike : (a b : Key) → eq-value.it (label a) (label b) ≡ same_key a b
alike = each_pair (λ a b. eq-value.it (label a) (label b) ≡ same_key a b) (λ a b. refl) (λ a z. refl) (λ a g m. refl) (λ y b. refl) (λ y z. refl)
    (λ y g m. refl) (λ f n b. refl) (λ f n z. refl) (λ f n g m. refl)

not_false : (b : Bool) → not b ≡ false → b ≡ true
not_false true k = refl
not_false false k = absurd (true≢false k)

pub returns-in_ok-push-3 : goal.returns-in_ok-push-3
returns-in_ok-push-3 c p ns own w =
    insert_new p ns c.args.clause c.args.key own c.args.keyed.now.labels.keys c.args.keyed.now.keys.items (map items c.args.keyed.now.lists.items) w eq-value.it
    alike c.label_of.result c.insert_full.new.self.keys c.push-then-is_new.new.self.items (map items c.push-then-is_new-2.new.self.items)
    c.push.new.self.items c.label_of.ensures
    (sym c.in_ok-n.ensures.added ∙ c.if-is_new.true) c.in_ok-n.ensures.keys c.in_ok-push-2.ensures.items
    (c.in_ok-push.ensures.items ∙ ap (λ l. l ++ c.args.clause ∷ []) c.new-list.ensures.items)
    (ap (map items) c.in_ok-push-3.ensures.items ∙ map_push items c.args.keyed.now.lists.items c.push.new.self)

pub returns-in_ok-push-4 : goal.returns-in_ok-push-4
returns-in_ok-push-4 c p ns own w =
    let inside : c.in_ok-n.n < length c.args.keyed.now.lists.items =
    let same = c.in_ok-n.ensures.keys ∙ ap (λ b. if b then c.args.keyed.now.labels.keys else c.args.keyed.now.labels.keys ++ c.label_of.result ∷ [])
    (not_false (list_any (eq-value.it c.label_of.result) c.args.keyed.now.labels.keys) (sym c.in_ok-n.ensures.added ∙ c.if-is_new.false)) in
    let long = ap length same in
    let within = slice_get_within c.insert_full.new.self.keys c.in_ok-n.n c.in_ok-n.ensures.stored.0 c.in_ok-n.ensures.stored.1 in
    let equal = c.requires in
    omega (arith, long, within, equal)
    in
    insert_old p ns c.args.clause c.args.key own c.args.keyed.now.labels.keys c.args.keyed.now.keys.items (map items c.args.keyed.now.lists.items) w eq-value.it
    alike c.label_of.result c.insert_full.new.self.keys (map items (set c.args.keyed.now.lists.items c.in_ok-n.n c.push-else-is_new.new.self)) c.in_ok-n.n
    c.label_of.ensures
    (sym c.in_ok-n.ensures.added ∙ c.if-is_new.false) c.in_ok-n.ensures.keys c.in_ok-n.ensures.stored
    (map-set items c.args.keyed.now.lists.items c.in_ok-n.n c.push-else-is_new.new.self
    ∙ ap (set (map items c.args.keyed.now.lists.items) c.in_ok-n.n)
    (list_put c.args.keyed.now.lists.items c.in_ok-n.n c.args.clause c.index_mut.result.now c.push-else-is_new.new.self.items c.in_ok-push-4.ensures.items
    c.index_mut.ensures.value inside))
