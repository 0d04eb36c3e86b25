use Rattle.term_pool.specs.Contents as pool
use Rattle.term_reader.proofs.PlacedLaws.{added}
use Rattle.term_reader.proofs.parser.add_atom.Goals as goal

pub returns : goal.returns
returns c = added c.add.result c.args.pool.now c.add.new.self (record { shape = pool.atom c.args.name; place = c.args.place }) c.requires.pool c.requires.name
    c.add.ensures.added c.add.ensures.extends c.add.ensures.valid c.add.ensures.id
