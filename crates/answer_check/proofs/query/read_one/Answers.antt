use Rattle.std.proofs.Common.{rules, ◌≡◌, [], Some, refl}
use Rattle.std.proofs.lemmas.List.Elements.{All-pop}
use Rattle.fd_language.specs.declared.TheConstants.{INFINITY}
use Rattle.term_reader.specs.Sentences.{sentences_of, IsSentence}
use Rattle.answer_check.specs.FlatForm.{flat_query}
use Rattle.answer_check.proofs.WholeQueries.{one_sentence, sentence_query}
use Rattle.answer_check.proofs.query.read_one.Goals as goal

pub read_sentence-requires : goal.read_sentence-requires
read_sentence-requires c = (All-pop (IsSentence c.args.sentences.pool) c.args.sentences.list.items c.pop.new.self.items (Some c.in-Some.sentence) c.in-Some.ensures.items c.requires.list).1

pub returns : goal.returns
returns c =
    let pool = c.args.sentences.pool in
    let items = c.args.sentences.list.items in
    let rest = c.pop.new.self.items in
    let s = c.in-Some.sentence in
    let popped = All-pop (IsSentence pool) items rest (Some s) c.in-Some.ensures.items c.requires.list in
    let none : rest ≡ [] = search rules in
    sentence_query pool s (flat_query INFINITY (sentences_of c.args.sentences)) _ (one_sentence pool items rest s c.in-Some.ensures.items none) popped.1.names c.in_ok-goals.ensures refl refl
