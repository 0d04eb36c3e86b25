use Rattle.fd_language.specs.Reading.{sentences}
use Rattle.term_reader.specs.Sentences.{sentences_of}
use Rattle.term_reader.proofs.Lemmas.{each_is_read}
use Rattle.text_verdict.proofs.Verdicts.{judged_by}
use Rattle.text_verdict.proofs.judgement.judge_characters.Goals as goal

pub returns-in-Ok : goal.returns-in-Ok
returns-in-Ok c = judged_by c.args.infinity c.args.text.now (sentences (sentences_of c.in-Ok.sentences)) c.judge_sentences.result c.requires.size c.utf8.text
    c.in-Ok.ensures.found c.judge_sentences.ensures

pub returns-in-Err : goal.returns-in-Err
returns-in-Err c =
    let read = each_is_read c.args.text.now in
    judged_by c.args.infinity c.args.text.now read.0 c.judge_fault.result c.requires.size c.utf8.text read.1 (c.judge_fault.ensures c.args.infinity read.0 (c.in-Err.ensures.only read.0 read.1))
