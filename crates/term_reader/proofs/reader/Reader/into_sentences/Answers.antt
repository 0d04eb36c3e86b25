use Rattle.std.proofs.Common.{refl}
use Rattle.term_reader.proofs.Texts.{found, fault_unended, own}
use Rattle.term_reader.proofs.reader.Reader.into_sentences.Goals as goal

pub returns-then-not-is_between-clause-fault : goal.returns-then-not-is_between-clause-fault
returns-then-not-is_between-clause-fault c = fault_unended c.args.text.now c.args.self c.requires (c.is_between.ensures.begun c.if-not-is_between.true)

pub returns-clause-found : goal.returns-clause-found
returns-clause-found c = found c.args.text.now c.args.self (record { pool = c.into_pool.result; list = c.args.self.list }) c.requires
    (c.is_between.ensures.between c.if-not-is_between.false) c.into_pool.ensures refl

pub returns-clause-own : goal.returns-clause-own
returns-clause-own c = own c.args.text.now c.args.self _ c.requires c.into_pool.ensures refl
