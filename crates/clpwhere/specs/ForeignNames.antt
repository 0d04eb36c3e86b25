-- Names of predicates that other systems have built in, and what serves in their place.
use Rattle.std.specs.Prelude.{ℕ, List, [], ◌∷◌, Option, find, codes}
use Rattle.std.specs.Str.{bytes_eq}
use Rattle.clpwhere.specs.declared.foreign_names.ForeignName.{ForeignName}
use Rattle.clpwhere.specs.declared.foreign_names.ForeignName.TheVariants.{FdDomain, Label, Labeling, AllDifferent, AllDistinct, Sum, TuplesIn, Findall}
use Rattle.clpwhere.specs.declared.foreign_names.ForeignName.TheVariants.{Length, Append, Member, Between, Nth1, Maplist, Format}

-- how it is spelled
abbrev pub name_spelling : ForeignName → List ℕ
name_spelling FdDomain = codes "fd_domain"
name_spelling Label = codes "label"
name_spelling Labeling = codes "labeling"
name_spelling AllDifferent = codes "all_different"
name_spelling AllDistinct = codes "all_distinct"
name_spelling Sum = codes "sum"
name_spelling TuplesIn = codes "tuples_in"
name_spelling Findall = codes "findall"
name_spelling Length = codes "length"
name_spelling Append = codes "append"
name_spelling Member = codes "member"
name_spelling Between = codes "between"
name_spelling Nth1 = codes "nth1"
name_spelling Maplist = codes "maplist"
name_spelling Format = codes "format"

-- the sentence that says what serves in its place
abbrev pub name_sentence : ForeignName → List ℕ
name_sentence FdDomain = codes "Here it is written X in 0..9, and for a list a clause says it of each member."
name_sentence Label = codes "Here it is written fd_labeling(L)."
name_sentence Labeling = codes "Here it is written fd_labeling(L), fd_labelingff(L) for [ff], and fd_minimize(fd_labeling(L), C) for the least cost."
name_sentence AllDifferent = codes "Here it is written fd_all_different(L)."
name_sentence AllDistinct = codes "Nothing here is as strong: fd_all_different(L) takes a number from the others once one member has it."
name_sentence Sum = codes "It isn't built in: library/sums.pl, put in front of the text, has it as fdl_sum(L, S)."
name_sentence TuplesIn = codes "Nothing here does this for a table: fd_element(I, L, X) takes a list of integers."
name_sentence Findall = codes "There is no findall: each query writes all its answers, and what reads them makes the list."
name_sentence Length = codes "It isn't built in: library/lists.pl, put in front of the text, has it under a name that begins with fdl_."
name_sentence Append = codes "It isn't built in: library/lists.pl, put in front of the text, has it under a name that begins with fdl_."
name_sentence Member = codes "It isn't built in: library/lists.pl, put in front of the text, has it under a name that begins with fdl_."
name_sentence Between = codes "It isn't built in: library/lists.pl, put in front of the text, has it under a name that begins with fdl_."
name_sentence Nth1 = codes "It isn't built in: library/lists.pl has fdl_nth(I, L, X), and fd_element(I, L, X) is a constraint."
name_sentence Maplist = codes "There are no goals in variables: write a clause that goes over the list."
name_sentence Format = codes "There is no format: write(T) and nl write terms and newlines."

abbrev pub all_foreign_names : List ForeignName
all_foreign_names = FdDomain ∷ Label ∷ Labeling ∷ AllDifferent ∷ AllDistinct ∷ Sum ∷ TuplesIn ∷ Findall ∷ Length ∷ Append ∷ Member
    ∷ Between ∷ Nth1 ∷ Maplist ∷ Format ∷ []

-- the one that is spelled so
abbrev pub foreign_name : List ℕ → Option ForeignName
foreign_name text = find (λ x. bytes_eq text (name_spelling x)) all_foreign_names
