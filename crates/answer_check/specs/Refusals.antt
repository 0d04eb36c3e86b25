-- The reasons of refusals.
use Rattle.std.specs.Prelude.{ℕ, List, codes}
use Rattle.char_tokens.specs.Views.{cause_of}
use Rattle.fd_model.specs.Verdict.{cause_name}
use Rattle.answer_check.specs.declared.outcome.Reason.{Reason}
use Rattle.answer_check.specs.declared.outcome.Reason.TheVariants.{TooLarge, NotUtf8, NoAnswers, Token, Syntax, TooDeep, NotFlat, BadAnswer}

-- how a reason is told
abbrev pub reason_text : Reason → List ℕ
reason_text TooLarge = codes "too large"
reason_text NotUtf8 = codes "not UTF-8"
reason_text NoAnswers = codes "no answers"
reason_text (Token cause) = cause_name (cause_of cause)
reason_text Syntax = codes "syntax"
reason_text TooDeep = codes "too deep"
reason_text NotFlat = codes "not flat"
reason_text BadAnswer = codes "bad answer"
