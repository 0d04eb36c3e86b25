use Rattle.std.proofs.Common.{refl}
use Rattle.term_reader.proofs.Readers.{stop_refused, stop_taken, stop_whole}
use Rattle.term_reader.proofs.reader.Reader.end.Goals as goal

pub returns-in_default-clause-took : goal.returns-in_default-clause-took
returns-in_default-clause-took c ls l e h =
    let n = rw c.in_default.is at c.in_ok-term.ensures in
    stop_refused c.args.self.now n ls l e h

pub returns-clause-whole : goal.returns-clause-whole
returns-clause-whole c t =
    let o = rw c.in-Some.is at c.in_ok-term.ensures in
    stop_whole c.args.self.now (record { parser = c.stop.new.self; variables = c.take-names.new.self; list = c.push.new.self }) c.in-Some.term
    (record { term = c.in-Some.term; names = c.take-names.result }) c.requires o refl c.take-names.ensures.names c.in_ok-push.ensures.items
    c.take-names.ensures.none c.take-names.ensures.anonymous c.take-names.ensures.indexed

pub returns-clause-took : goal.returns-clause-took
returns-clause-took c ls l e h =
    let o = rw c.in-Some.is at c.in_ok-term.ensures in
    stop_taken c.args.self.now (record { parser = c.stop.new.self; variables = c.take-names.new.self; list = c.push.new.self }) c.in-Some.term
    (record { term = c.in-Some.term; names = c.take-names.result }) c.requires o refl c.take-names.ensures.names c.in_ok-push.ensures.items
    c.take-names.ensures.none ls l e h
