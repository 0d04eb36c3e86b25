use Rattle.term_reader.proofs.Lemmas.{each_is_read}
use Rattle.term_reader.specs.Sentences.{sentences_of}
use Rattle.answer_check.proofs.WholeQueries.{reads_text, stops_as}
use Rattle.answer_check.proofs.query.read_query.Goals as goal

pub returns-in-Ok : goal.returns-in-Ok
returns-in-Ok c = reads_text c.args.text.now (sentences_of c.in-Ok.sentences) c.read_one.result c.in-Ok.ensures.found c.read_one.ensures

pub returns-in-Err : goal.returns-in-Err
returns-in-Err c =
    let read = each_is_read c.args.text.now in
    (read.0, read.1, stops_as read.0 c.unread.result (c.unread.ensures.fault read.0 (c.in-Err.ensures.only read.0 read.1)))
