use Rattle.std.proofs.Common.{◌≡◌, take, None}
use Rattle.fd_language.specs.declared.TheConstants.{INFINITY}
use Rattle.fd_model.specs.Refusals.{first_refusal}
use Rattle.clause_check.specs.Parts.{KeepsSentences}
use Rattle.clause_check.specs.Terms.{terms_of}
use Rattle.clause_check.proofs.SentenceLists.{front}
use Rattle.clause_check.proofs.check.Parts.add_sentences.Given as goal

abbrev pub invariant-loop-sentence : goal.invariant-loop-sentence
invariant-loop-sentence l =
    record {
      accepted : first_refusal INFINITY l.fn.infinity (terms_of l.sentences) (front l.sentences l.sentence-index) ≡ None;
      stands : KeepsSentences l.fn.infinity l.sentences.pool l.self (take l.sentence-index l.sentences.list.items);
    }
