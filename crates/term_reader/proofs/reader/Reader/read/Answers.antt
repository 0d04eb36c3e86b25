use Rattle.std.proofs.Common.{refl}
use Rattle.char_tokens.specs.Views.{lexeme_of}
use Rattle.term_reader.proofs.Operands.{whole_grown}
use Rattle.term_reader.proofs.Readers.{reader_grown, if_step, if_whole, if_end}
use Rattle.term_reader.proofs.reader.Reader.read.Goals as goal

pub step-requires-clause-whole : goal.step-requires-clause-whole
step-requires-clause-whole c = whole_grown c.args.self.now.parser _ c.requires.whole.parser c.in_ok-seen.ensures.grows c.in_ok-seen.ensures.valid refl refl refl

pub end-requires : goal.end-requires
end-requires c = reader_grown c.args.self.now _ c.requires.whole c.in_ok-seen.ensures.grows c.in_ok-seen.ensures.valid refl refl refl refl c.in_ok-seen.ensures.variables

pub returns-in-Some-clause-whole : goal.returns-in-Some-clause-whole
returns-in-Some-clause-whole c =
    let s = rw c.in-Some.is at c.in_ok-seen.ensures in
    if_whole c.step.result (lexeme_of c.args.token) c.in-Some.seen c.args.self.now
    (record { parser = c.step.new.self; variables = c.terminal.new.variables; list = c.args.self.now.list })
    (record c.args.self.now.parser { pool = c.terminal.new.pool }) c.terminal.new.variables c.requires.whole s c.step.ensures refl refl

pub returns-in-Some-clause-took : goal.returns-in-Some-clause-took
returns-in-Some-clause-took c =
    let s = rw c.in-Some.is at c.in_ok-seen.ensures in
    if_step c.step.result (lexeme_of c.args.token) c.in-Some.seen c.args.self.now
    (record { parser = c.step.new.self; variables = c.terminal.new.variables; list = c.args.self.now.list })
    (record c.args.self.now.parser { pool = c.terminal.new.pool }) c.terminal.new.variables c.requires.whole s refl refl refl c.step.ensures refl refl

pub returns-in-None-clause-took : goal.returns-in-None-clause-took
returns-in-None-clause-took c =
    let s = rw c.in-None.is at c.in_ok-seen.ensures in
    if_end c.end.result (lexeme_of c.args.token) c.args.self.now
    (record { parser = record c.args.self.now.parser { pool = c.terminal.new.pool }; variables = c.terminal.new.variables; list = c.args.self.now.list })
    c.end.new.self c.requires.whole s refl refl refl refl c.end.ensures.took
