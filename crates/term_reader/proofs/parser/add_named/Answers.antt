use Rattle.term_reader.proofs.PlacedLaws.{added_named}
use Rattle.term_reader.proofs.parser.add_named.Goals as goal

pub returns : goal.returns
returns c = added_named c.add_compound.result c.args.pool.now c.atom.new.self c.add_compound.new.pool c.in_ok-atom.atom c.args.name.now c.args.place
    c.args.parts.now c.requires.pool c.requires.parts c.in_ok-atom.ensures.extends c.in_ok-atom.ensures.name c.add_compound.ensures
