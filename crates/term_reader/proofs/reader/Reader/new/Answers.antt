use Rattle.std.proofs.Common.{◌∙◌, refl, ap, sym, subst, ◌<◌, length}
use Rattle.term_pool.specs.declared.AtomId.{AtomId}
use Rattle.term_pool.specs.Contents.{atom_name}
use Rattle.term_reader.proofs.Readers.{reader_begins, nothing_read}
use Rattle.term_reader.proofs.reader.Reader.new.Goals as goal

pub returns-clause-whole : goal.returns-clause-whole
returns-clause-whole c =
    let d = c.atom.new.self in
    reader_begins _ c.in_ok-parser.parser c.in_ok-parser.ensures.whole c.in_ok-anonymous.ensures.extends c.in_ok-anonymous.ensures.valid refl refl refl c.new-3.ensures.items c.new-2.ensures.names
    (subst (λ (a : AtomId). a.number < length d.names) (sym c.new-2.ensures.anonymous) c.in_ok-anonymous.ensures.own)
    (ap (atom_name d) c.new-2.ensures.anonymous ∙ c.in_ok-anonymous.ensures.name)
    c.new-2.ensures.indexed

pub returns-clause-begins : goal.returns-clause-begins
returns-clause-begins c = nothing_read _ c.in_ok-parser.parser c.in_ok-parser.ensures.whole c.in_ok-parser.ensures.begins c.in_ok-anonymous.ensures.extends refl
    refl refl c.new-3.ensures.items c.new-2.ensures.names
