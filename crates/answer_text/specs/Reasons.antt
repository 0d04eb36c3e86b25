-- The reasons of refusals.
use Rattle.std.specs.Prelude.{ℕ, ◌<◌, List, ◌++◌, length, codes}
use Rattle.fd_model.specs.Refusals.{functor, functor_name}
use Rattle.term_pool.specs.Contents.{Contents, atom_name}
use Rattle.answer_text.specs.declared.reason.Reason.{Reason}
use Rattle.answer_text.specs.declared.reason.Reason.TheVariants.{TooLarge, NotUtf8, BadCharacter, OpenQuote, OpenComment, BadEscape, IntegerTooWide, FloatOut}
use Rattle.answer_text.specs.declared.reason.Reason.TheVariants.{StringOut, Syntax, TooDeep, BadHead, BadGoal, ArityOver255, Unknown, Redefines, NotARange}
use Rattle.answer_text.specs.declared.reason.Reason.TheVariants.{NotMonotone, NotNatural, BadDivisor, TooWide}

-- the name that the reason tells is of the pool
abbrev pub IsReasonIn : Contents → Reason → Type 0
IsReasonIn c (Unknown name arity) = name.number < length c.names
IsReasonIn c (Redefines name arity) = name.number < length c.names
IsReasonIn c _ = Unit {0}

-- the reason without the functor that follows it in some
abbrev pub reason_words : Reason → List ℕ
reason_words TooLarge = codes "too large"
reason_words NotUtf8 = codes "not UTF-8"
reason_words BadCharacter = codes "bad character"
reason_words OpenQuote = codes "open quote"
reason_words OpenComment = codes "open comment"
reason_words BadEscape = codes "bad escape"
reason_words IntegerTooWide = codes "integer too wide"
reason_words FloatOut = codes "float"
reason_words StringOut = codes "string"
reason_words Syntax = codes "syntax"
reason_words TooDeep = codes "too deep"
reason_words BadHead = codes "bad head"
reason_words BadGoal = codes "bad goal"
reason_words ArityOver255 = codes "arity over 255"
reason_words (Unknown name arity) = codes "unknown "
reason_words (Redefines name arity) = codes "redefines "
reason_words NotARange = codes "not a range"
reason_words NotMonotone = codes "not monotone"
reason_words NotNatural = codes "not natural"
reason_words BadDivisor = codes "bad divisor"
reason_words TooWide = codes "too wide"

abbrev pub reason_text : Contents → Reason → List ℕ
reason_text c (Unknown name arity) = reason_words (Unknown name arity) ++ functor_name (functor (atom_name c name) arity)
reason_text c (Redefines name arity) = reason_words (Redefines name arity) ++ functor_name (functor (atom_name c name) arity)
reason_text c r = reason_words r
