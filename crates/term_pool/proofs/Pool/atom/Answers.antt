use Rattle.std.proofs.Common.{◌≡◌, sym, subst, ◌<◌, Some, slice_get, length, map, string_bytes}
use Rattle.std.proofs.lemmas.Option.{slice_get_within}
use Rattle.term_pool.specs.Contents.{Contents, atom_name}
use Rattle.term_pool.proofs.Laws.{terms_kept}
use Rattle.std.proofs.lemmas.Result.{IfOk-weaker}
use Rattle.term_pool.proofs.Growth.{after_intern, stored_interned, extends_interned, known_atom}
use Rattle.term_pool.proofs.Pool.atom.Goals as goal

pub invariant_of-self : goal.invariant_of-self
invariant_of-self c =
    let old = map string_bytes c.self.inside.atoms.keys in
    let new = map string_bytes c.intern.new.atoms.keys in
    let names = after_intern c.intern.result old new c.args.text.now c.intern.ensures.names c.intern.ensures.err in
    stored_interned old new c.args.text.now c.utf8.text c.self.inside.parts.items c.self.inside.nodes.items names c.self.invariant

pub returns-clause-own : goal.returns-clause-own
returns-clause-own c =
    let new = map string_bytes c.intern.new.atoms.keys in
    IfOk-weaker c.intern.result (λ a. slice_get new a.number ≡ Some c.args.text.now) (λ a. a.number < length new) (λ a h. slice_get_within new a.number c.args.text.now h) c.intern.ensures.stands

pub returns-clause-known : goal.returns-clause-known
returns-clause-known c a l e =
    let old = map string_bytes c.self.inside.atoms.keys in
    let new = map string_bytes c.intern.new.atoms.keys in
    known_atom c.intern.result old new c.args.text.now c.self.invariant.pool.distinct c.intern.ensures.known c.intern.ensures.stands c.intern.ensures.names a
    (subst (λ (p : Contents). a.number < length p.names) (sym c.self.view_is) l)
    (subst (λ (p : Contents). atom_name p a ≡ c.args.text.now) (sym c.self.view_is) e)

pub returns-clause-extends : goal.returns-clause-extends
returns-clause-extends c =
    let old = map string_bytes c.self.inside.atoms.keys in
    let new = map string_bytes c.intern.new.atoms.keys in
    let names = after_intern c.intern.result old new c.args.text.now c.intern.ensures.names c.intern.ensures.err in
    rw (← c.self.view_is) (extends_interned old new c.args.text.now _ names)

pub returns-clause-kept : goal.returns-clause-kept
returns-clause-kept c = terms_kept _ _ (rw (← c.self.view_is) c.self.invariant.pool) (returns-clause-extends c)

pub returns-clause-valid : goal.returns-clause-valid
returns-clause-valid c = (invariant_of-self c).pool
