-- Words that are operators, or begin comments, in other systems, and what is written in their place.
use Rattle.std.specs.Prelude.{ℕ, List, [], ◌∷◌, Option, find, codes}
use Rattle.std.specs.Str.{bytes_eq}
use Rattle.clpwhere.specs.declared.foreign_words.ForeignWord.{ForeignWord}
use Rattle.clpwhere.specs.declared.foreign_words.ForeignWord.TheVariants.{Implies, Equivalent, Or, And, Not, NotUnified, Ins, Unequal}
use Rattle.clpwhere.specs.declared.foreign_words.ForeignWord.TheVariants.{ExclaimedUnequal, PostedAtMost, AtMost, Arrow, Union, Intersection, Hash, Slashes}

-- how it is spelled
abbrev pub word_spelling : ForeignWord → List ℕ
word_spelling Implies = codes "#==>"
word_spelling Equivalent = codes "#<==>"
word_spelling Or = codes "#\\/"
word_spelling And = codes "#/\\"
word_spelling Not = codes "#\\"
word_spelling NotUnified = codes "\\="
word_spelling Ins = codes "ins"
word_spelling Unequal = codes "<>"
word_spelling ExclaimedUnequal = codes "!="
word_spelling PostedAtMost = codes "#<="
word_spelling AtMost = codes "<="
word_spelling Arrow = codes "==>"
word_spelling Union = codes "\\/"
word_spelling Intersection = codes "/\\"
word_spelling Hash = codes "#"
word_spelling Slashes = codes "//"

-- the sentence that says what is written in its place
abbrev pub word_sentence : ForeignWord → List ℕ
word_sentence Implies = codes "There is no #==> here: make each side a truth value, as in A #<=> X #> 1, and write A #=< B."
word_sentence Equivalent = codes "Here it is written #<=>, with a truth value on its left side and a comparison on its right, as in A #<=> X #> 1."
word_sentence Or = codes "There is no #\\/ here: make each side a truth value, as in A #<=> X #> 1, and write fd_or(A, B, 1)."
word_sentence And = codes "There is no #/\\ here: constraints with commas between them all hold, and of truth values A and B write fd_and(A, B, 1)."
word_sentence Not = codes "There is no #\\ here: write the opposite comparison, or fd_not(A, 1) of a truth value A."
word_sentence NotUnified = codes "There is no \\= here: \\+ X = Y asks it now, and X #\\= Y says it of two numbers."
word_sentence Ins = codes "There is no ins here: write a clause that goes over the list, with X in R for each member."
word_sentence Unequal = codes "Here it is written #\\= for a constraint, and =\\= between known numbers."
word_sentence ExclaimedUnequal = codes "Here it is written #\\= for a constraint, and =\\= between known numbers."
word_sentence PostedAtMost = codes "Here it is written #=<."
word_sentence AtMost = codes "Here it is written =< between known numbers, and #=< for a constraint."
word_sentence Arrow = codes "There is no ==> here: an if is C -> A ; B, and of truth values A and B write A #=< B."
word_sentence Union = codes "Here the union of two ranges is written with :, as in 1..3 : 5..7."
word_sentence Intersection = codes "Here the numbers that two ranges share are written with &, as in 1..5 & 3..7."
word_sentence Hash = codes "Here a comment begins with %."
word_sentence Slashes = codes "Here a comment begins with %, and // divides known numbers."

abbrev pub all_foreign_words : List ForeignWord
all_foreign_words = Implies ∷ Equivalent ∷ Or ∷ And ∷ Not ∷ NotUnified ∷ Ins ∷ Unequal ∷ ExclaimedUnequal ∷ PostedAtMost ∷ AtMost ∷ Arrow
    ∷ Union ∷ Intersection ∷ Hash ∷ Slashes ∷ []

-- the one that is spelled so
abbrev pub foreign_word : List ℕ → Option ForeignWord
foreign_word text = find (λ x. bytes_eq text (word_spelling x)) all_foreign_words
