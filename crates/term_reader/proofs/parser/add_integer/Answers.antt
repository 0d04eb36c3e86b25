use Rattle.std.proofs.Common.{w64}
use Rattle.std.proofs.lemmas.Int.{to_z-of_z}
use Rattle.term_pool.specs.Contents as pool
use Rattle.term_reader.proofs.PlacedLaws.{added}
use Rattle.term_reader.proofs.parser.add_integer.Goals as goal

pub returns : goal.returns
returns c =
    let same = to_z-of_z w64 c.args.value c.ranges.value in
    let is = rw same at c.add.ensures.added in
    added c.add.result c.args.pool.now c.add.new.self (record { shape = pool.int c.args.value; place = c.args.place }) c.requires tt is c.add.ensures.extends c.add.ensures.valid c.add.ensures.id
