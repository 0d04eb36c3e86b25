use Rattle.std.proofs.Common.{◌≡◌, ◌∙◌, sym, ap, subst, arith, ℕ, List, [], ◌∷◌, ◌++◌, length, map, string_bytes}
use Rattle.term_pool.specs.declared.TermId.{TermId}
use Rattle.term_pool.specs.declared.Placed.{Placed}
use Rattle.term_pool.specs.Contents.{Shape, Entry, Contents}
use Rattle.term_pool.specs.Terms.{term_of, Extends}
use Rattle.term_pool.specs.PoolInvariant.{IsPool, IsWithin, HasMachineNumbers, shape_of}
use Rattle.term_pool.specs.PoolFields.{entries_of, entry_of, AreStored, stored_shape}
use Rattle.term_pool.proofs.Laws.{terms_kept, extends_push}
use Rattle.term_pool.proofs.Growth.{stored_grown, stored_push, grown_entries, entries_push, length-entries_of, same_extends, term_added, on_err}
use Rattle.term_pool.proofs.Pool.add.Goals as goal

-- where the parts could not be kept
same_without_parts : (c : goal.After-from_residual) → record {
  names = map string_bytes c.self.inside.atoms.keys;
  entries = entries_of c.store.new.parts.items c.self.inside.nodes.items;
} ≡ c.args.self.now
same_without_parts c =
    let names = map string_bytes c.self.inside.atoms.keys in
    ap (λ (es : List Entry). let p : Contents = record { names = names; entries = es } in p)
    (grown_entries names c.self.inside.parts.items c.store.new.parts.items c.self.inside.nodes.items c.store.ensures.grows c.self.invariant)
    ∙ c.self.view_is

pub invariant_of-self : goal.invariant_of-self
invariant_of-self c = stored_grown _ c.self.inside.parts.items c.store.new.parts.items c.self.inside.nodes.items c.store.ensures.grows c.self.invariant

pub returns-in_err-node-clause-err : goal.returns-in_err-node-clause-err
returns-in_err-node-clause-err c = on_err c.from_residual.result _ (same_without_parts c)

pub returns-in_err-node-clause-kept : goal.returns-in_err-node-clause-kept
returns-in_err-node-clause-kept c t h = ap (λ (p : Contents). term_of p t) (same_without_parts c)

pub returns-in_err-node-clause-extends : goal.returns-in_err-node-clause-extends
returns-in_err-node-clause-extends c = same_extends _ _ (same_without_parts c)

pub returns-in_err-node-clause-valid : goal.returns-in_err-node-clause-valid
returns-in_err-node-clause-valid c = (invariant_of-self c).pool

-- where the node could not be kept
same_without_node : (c : goal.After-from_residual-in_err-push)
    → record { names = map string_bytes c.self.inside.atoms.keys; entries = entries_of c.store.new.parts.items c.push.new.self.items } ≡ c.args.self.now
same_without_node c =
    let names = map string_bytes c.self.inside.atoms.keys in
    ap (λ (es : List Entry). let p : Contents = record { names = names; entries = es } in p)
    (ap (λ (ns : List Placed). entries_of c.store.new.parts.items ns) c.in_err-push.ensures.items
    ∙ grown_entries names c.self.inside.parts.items c.store.new.parts.items c.self.inside.nodes.items c.store.ensures.grows c.self.invariant)
    ∙ c.self.view_is

pub invariant_of-self-in_err-push : goal.invariant_of-self-in_err-push
invariant_of-self-in_err-push c =
    let names = map string_bytes c.self.inside.atoms.keys in
    subst (λ (ns : List Placed). AreStored names c.store.new.parts.items ns) (sym c.in_err-push.ensures.items)
    (stored_grown names c.self.inside.parts.items c.store.new.parts.items c.self.inside.nodes.items c.store.ensures.grows c.self.invariant)

pub returns-in_err-push-clause-err : goal.returns-in_err-push-clause-err
returns-in_err-push-clause-err c = on_err c.from_residual-in_err-push.result _ (same_without_node c)

pub returns-in_err-push-clause-kept : goal.returns-in_err-push-clause-kept
returns-in_err-push-clause-kept c t h = ap (λ (p : Contents). term_of p t) (same_without_node c)

pub returns-in_err-push-clause-extends : goal.returns-in_err-push-clause-extends
returns-in_err-push-clause-extends c = same_extends _ _ (same_without_node c)

pub returns-in_err-push-clause-valid : goal.returns-in_err-push-clause-valid
returns-in_err-push-clause-valid c = (invariant_of-self-in_err-push c).pool

-- where both are kept
old_pool : (c : goal.In_ok-push) → IsPool c.args.self.now
old_pool c = subst IsPool c.self.view_is c.self.invariant.pool

old_length : (c : goal.In_ok-push) → length c.args.self.now.entries ≡ length c.self.inside.nodes.items
old_length c = ap (λ (p : Contents). length p.entries) (sym c.self.view_is) ∙ length-entries_of c.self.inside.parts.items c.self.inside.nodes.items

abbrev new_entry : (c : goal.In_ok-push) → Entry
new_entry c = record { shape = shape_of c.args.node; place = c.args.place }

pub invariant_of-self-2 : goal.invariant_of-self-2
invariant_of-self-2 c =
    let names = map string_bytes c.self.inside.atoms.keys in
    let parts = c.store.new.parts.items in
    let nodes = c.self.inside.nodes.items in
    let placed : Placed = record { node = c.in_ok-node.node; place = c.args.place } in
    let within : IsWithin (length c.args.self.now.names) (length c.args.self.now.entries) (stored_shape parts placed.node) = subst (IsWithin _ _) (sym c.in_ok-node.ensures.shape) c.requires in
    let here : IsWithin (length names) (length nodes) (stored_shape parts placed.node) =
    subst (λ (k : ℕ). IsWithin (length names) k (stored_shape parts placed.node)) (old_length c)
    (subst (λ (p : Contents). IsWithin (length p.names) (length c.args.self.now.entries) (stored_shape parts placed.node)) (sym c.self.view_is) within) in
    let machine : HasMachineNumbers (stored_shape parts placed.node) = subst HasMachineNumbers (sym c.in_ok-node.ensures.shape) c.in_ok-node.ensures.machine in
    subst (λ (ns : List Placed). AreStored names parts ns) (sym c.in_ok-push.ensures.items)
    (stored_push names parts nodes placed (stored_grown names c.self.inside.parts.items parts nodes c.store.ensures.grows c.self.invariant) c.in_ok-node.ensures.parts here machine)

pub returns-clause-added : goal.returns-clause-added
returns-clause-added c =
    let names = map string_bytes c.self.inside.atoms.keys in
    let parts = c.store.new.parts.items in
    let nodes = c.self.inside.nodes.items in
    let placed : Placed = record { node = c.in_ok-node.node; place = c.args.place } in
    let entries : entries_of parts c.push.new.self.items ≡ entries_of c.self.inside.parts.items nodes ++ record { shape = shape_of c.args.node; place = c.args.place } ∷ [] =
    ap (λ (ns : List Placed). entries_of parts ns) c.in_ok-push.ensures.items
    ∙ entries_push parts nodes placed
    ∙ ap (λ (es : List Entry). es ++ entry_of parts placed ∷ []) (grown_entries names c.self.inside.parts.items parts nodes c.store.ensures.grows c.self.invariant)
    ∙ ap (λ (s : Shape). entries_of c.self.inside.parts.items nodes ++ record { shape = s; place = c.args.place } ∷ []) c.in_ok-node.ensures.shape in
    ap (λ (es : List Entry). let p : Contents = record { names = names; entries = es } in p) entries
    ∙ ap (λ (p : Contents). let q : Contents = record p { entries = p.entries ++ record { shape = shape_of c.args.node; place = c.args.place } ∷ [] } in q) c.self.view_is

pub returns-clause-extends : goal.returns-clause-extends
returns-clause-extends c = subst (λ (p : Contents). Extends c.args.self.now p) (sym (returns-clause-added c)) (extends_push c.args.self.now (new_entry c))

pub returns-clause-kept : goal.returns-clause-kept
returns-clause-kept c = terms_kept _ _ (old_pool c) (returns-clause-extends c)

pub returns-clause-term : goal.returns-clause-term
returns-clause-term c =
    let t : TermId = record { number = c.len-number.result } in
    ap (λ (p : Contents). term_of p t) (returns-clause-added c)
    ∙ term_added c.args.self.now (new_entry c) (old_pool c) c.requires c.in_ok-node.ensures.machine t (omega (arith, c.self.inside.nodes.ok.0, old_length c, c.len-number.ensures))

pub returns-clause-valid : goal.returns-clause-valid
returns-clause-valid c = (invariant_of-self-2 c).pool
