use Rattle.term_reader.proofs.Operands.{named_atom}
use Rattle.term_reader.proofs.parser.add_named_atom.Goals as goal

pub returns : goal.returns
returns c = named_atom c.add_atom.result c.args.pool.now c.atom.new.self c.add_atom.new.pool c.in_ok-id.id c.args.name.now c.args.place
    c.in_ok-id.ensures.extends c.in_ok-id.ensures.name c.add_atom.ensures
