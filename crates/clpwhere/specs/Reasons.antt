-- The reasons of refusals, and the words that tell them.
use Rattle.std.specs.Prelude.{ℕ, Bool, false, List, [], ◌∷◌, Option, find, codes}
use Rattle.std.specs.Option.{option_map_or}
use Rattle.std.specs.Str.{bytes_eq}
use Rattle.clpwhere.specs.Numbers.{behind}
use Rattle.clpwhere.specs.Functors.{is_functor}
use Rattle.clpwhere.specs.declared.reason.Reason.{Reason}
use Rattle.clpwhere.specs.declared.reason.Reason.TheVariants.{TooLarge, NotUtf8, BadCharacter, OpenQuote, OpenComment, BadEscape, IntegerTooWide, FloatOut}
use Rattle.clpwhere.specs.declared.reason.Reason.TheVariants.{StringOut, Syntax, TooDeep, ArityOver255, BadHead, Redefines, BadGoal, Unknown, NotARange}
use Rattle.clpwhere.specs.declared.reason.Reason.TheVariants.{TooWide, NotMonotone, NotNatural, BadDivisor}

-- how the reason is told; those of `Redefines` and `Unknown` have a name and a number of arguments behind these words
abbrev pub reason_words : Reason → List ℕ
reason_words TooLarge = codes "too large"
reason_words NotUtf8 = codes "not UTF-8"
reason_words BadCharacter = codes "bad character"
reason_words OpenQuote = codes "open quote"
reason_words OpenComment = codes "open comment"
reason_words BadEscape = codes "bad escape"
reason_words IntegerTooWide = codes "integer too wide"
reason_words FloatOut = codes "float"
reason_words StringOut = codes "string"
reason_words Syntax = codes "syntax"
reason_words TooDeep = codes "too deep"
reason_words ArityOver255 = codes "arity over 255"
reason_words BadHead = codes "bad head"
reason_words Redefines = codes "redefines "
reason_words BadGoal = codes "bad goal"
reason_words Unknown = codes "unknown "
reason_words NotARange = codes "not a range"
reason_words TooWide = codes "too wide"
reason_words NotMonotone = codes "not monotone"
reason_words NotNatural = codes "not natural"
reason_words BadDivisor = codes "bad divisor"

abbrev pub all_reasons : List Reason
all_reasons = TooLarge ∷ NotUtf8 ∷ BadCharacter ∷ OpenQuote ∷ OpenComment ∷ BadEscape ∷ IntegerTooWide ∷ FloatOut ∷ StringOut ∷ Syntax ∷ TooDeep
    ∷ ArityOver255 ∷ BadHead ∷ Redefines ∷ BadGoal ∷ Unknown ∷ NotARange ∷ TooWide ∷ NotMonotone ∷ NotNatural ∷ BadDivisor ∷ []

-- the words are those of the reason and behind them a name with a number of arguments
abbrev pub names_functor : List ℕ → Reason → Bool
names_functor words r = option_map_or is_functor (behind (reason_words r) words) false

-- the words tell the reason
abbrev pub is_told_by : List ℕ → Reason → Bool
is_told_by words Redefines = names_functor words Redefines
is_told_by words Unknown = names_functor words Unknown
is_told_by words r = bytes_eq words (reason_words r)

abbrev pub reason_of : List ℕ → Option Reason
reason_of words = find (is_told_by words) all_reasons
