-- The sentences that explain refusals.
use Rattle.std.specs.Prelude.{◌||◌, ℕ, Bool, List, [], ◌∷◌, Option, option_and_then, nat_eq, codes, if◌then◌else◌}
use Rattle.std.specs.Option.{option_map_or}
use Rattle.std.specs.List.{starts_with}
use Rattle.clpwhere.specs.declared.before_place.Before.{Before}
use Rattle.clpwhere.specs.declared.before_place.Before.TheVariants.{WholeTerm, NoTerm, Unclear, Foreign, End}
use Rattle.clpwhere.specs.declared.foreign_names.ForeignName.{ForeignName}
use Rattle.clpwhere.specs.declared.foreign_words.ForeignWord.TheVariants.{ExclaimedUnequal}
use Rattle.clpwhere.specs.declared.reason.Reason.{Reason}
use Rattle.clpwhere.specs.declared.reason.Reason.TheVariants.{TooLarge, NotUtf8, BadCharacter, OpenQuote, OpenComment, BadEscape, IntegerTooWide, FloatOut}
use Rattle.clpwhere.specs.declared.reason.Reason.TheVariants.{StringOut, Syntax, TooDeep, ArityOver255, BadHead, Redefines, BadGoal, Unknown, NotARange}
use Rattle.clpwhere.specs.declared.reason.Reason.TheVariants.{TooWide, NotMonotone, NotNatural, BadDivisor}
use Rattle.clpwhere.specs.Numbers.{behind}
use Rattle.clpwhere.specs.Functors.{name_part}
use Rattle.clpwhere.specs.ForeignNames.{foreign_name, name_sentence}
use Rattle.clpwhere.specs.ForeignWords.{word_sentence}

-- the bytes begin with these
abbrev pub begins : List ℕ → List ℕ → Bool
begins front bytes = starts_with nat_eq bytes front

-- the character U+FEFF
abbrev pub byte_order_mark : List ℕ
byte_order_mark = 239 ∷ 187 ∷ 191 ∷ []

-- on a character that starts no token, by the bytes from it on
abbrev pub bad_character_sentence : List ℕ → List ℕ
bad_character_sentence rest =
    if begins byte_order_mark rest then codes "This is a byte order mark, which shows nothing and starts no token: save the text without it."
    else codes "No token starts with this character."

-- on a place where the grammar doesn't go on, by what is read before it
abbrev pub before_sentence : Before → List ℕ
before_sentence WholeTerm = codes "A whole term ends just before this place, which wants an operator, a comma, a bar, a closing bracket or the full stop that fits there. Often a comma or the full stop is missing just before it."
before_sentence NoTerm = codes "This place wants a term: a name, a variable, a number or an opening bracket."
before_sentence Unclear = codes "Behind an operator this place wants a term, and behind a whole term an operator, a comma, a bar, a closing bracket or the full stop. Often a comma or the full stop is missing just before it."
before_sentence (Foreign word) = word_sentence word
before_sentence (End at) = codes "The text ends here, and its last sentence doesn't: often a closing bracket or the full stop is missing."

-- and by the bytes from it on; != is no token, but the word ! and what begins with =
abbrev pub syntax_sentence : Before → List ℕ → List ℕ
syntax_sentence before rest = if begins (codes "!=") rest then word_sentence ExclaimedUnequal else before_sentence before

-- on a part that fits nowhere in a range, by the bytes from it on
abbrev pub not_a_range_sentence : List ℕ → List ℕ
not_a_range_sentence rest =
    if begins (codes ",") rest || begins (codes "[") rest
    then codes "A range has no lists and no commas: the numbers 1, 2 and 5 are written {1}:{2}:{5}, or 1..2:{5}."
    else codes "This part fits nowhere in a range."

-- on a goal whose name nothing has, by the words of the reason
abbrev pub unknown_name : List ℕ → Option ForeignName
unknown_name words = option_and_then (λ functor. foreign_name (name_part functor)) (behind (codes "unknown ") words)

abbrev pub unknown_sentence : List ℕ → List ℕ
unknown_sentence words =
    option_map_or name_sentence (unknown_name words)
    (codes "No clause of the text has this name with this number of arguments, and the language has no such form.")

-- the sentence that explains a reason, by its words, by what is read before its place, and by the bytes from it on
abbrev pub reason_sentence : Reason → List ℕ → Before → List ℕ → List ℕ
reason_sentence TooLarge words before rest = codes "A text has at most 16777216 bytes."
reason_sentence NotUtf8 words before rest = codes "The bytes from here on begin no character of UTF-8."
reason_sentence BadCharacter words before rest = bad_character_sentence rest
reason_sentence OpenQuote words before rest = codes "This quoted name isn't closed on its line."
reason_sentence OpenComment words before rest = codes "This comment has no */ that closes it."
reason_sentence BadEscape words before rest = codes "This backslash starts no escape that a quoted name may have."
reason_sentence IntegerTooWide words before rest = codes "The greatest integer is 9223372036854775807."
reason_sentence FloatOut words before rest = codes "Numbers are integers: none has a fraction."
reason_sentence StringOut words before rest = codes "Texts in double quotes aren't part of the language; a name may stand in single quotes."
reason_sentence Syntax words before rest = syntax_sentence before rest
reason_sentence TooDeep words before rest = codes "At most 1000 brackets may be open at once."
reason_sentence ArityOver255 words before rest = codes "A compound term has at most 255 arguments."
reason_sentence BadHead words before rest = codes "A clause begins with a name, or with a name and its arguments. A sentence that begins with :- is a directive, and there are none: leave out what loads a library, and ask a query with ?-."
reason_sentence Redefines words before rest = codes "A clause can't redefine a form of the language."
reason_sentence BadGoal words before rest = codes "A goal is a name or a name with arguments, and no variable, number or list; that of fd_minimize and fd_maximize is a labelling."
reason_sentence Unknown words before rest = unknown_sentence words
reason_sentence NotARange words before rest = not_a_range_sentence rest
reason_sentence TooWide words before rest = codes "A value could become wider than 126 bits here."
reason_sentence NotMonotone words before rest = codes "The range could grow when a domain shrinks: turn this part round, or use the variable in one way only."
reason_sentence NotNatural words before rest = codes "A product or quotient of terms that change needs natural terms, which have no difference and no number below 0."
reason_sentence BadDivisor words before rest = codes "A literal divisor is at least 1, and that of a whole range is a literal or one parameter."
