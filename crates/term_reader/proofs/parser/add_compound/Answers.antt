use Rattle.term_pool.specs.Contents as pool
use Rattle.term_reader.specs.PlacedTerms.{parts_of}
use Rattle.term_reader.proofs.PlacedLaws.{added}
use Rattle.term_reader.proofs.parser.add_compound.Goals as goal

pub returns : goal.returns
unfolding parts_of
returns c = added c.add.result c.args.pool.now c.add.new.self (record { shape = pool.comp c.args.name c.args.parts.now; place = c.args.place }) c.requires.pool
    (c.requires.name, c.requires.parts) c.add.ensures.added c.add.ensures.extends c.add.ensures.valid c.add.ensures.id
