-- The lines that tell a fault of a query, and the query that a line belongs to.
use Rattle.std.specs.Prelude.{ℕ, zero, suc, List, [], ◌∷◌, ◌++◌, Option, None, slice_get, find, filter_map, option_and_then, codes, decimal}
use Rattle.std.specs.List.{last_or}
use Rattle.std.specs.Str.{bytes_eq}
use Rattle.fd_model.specs.declared.kinds.QueryFault.{QueryFault}
use Rattle.fd_model.specs.declared.kinds.QueryFault.TheVariants.{Instantiation, BadType, Parameter, Evaluation, Nonlinear}
use Rattle.fd_model.specs.Lines.{fault_name}
use Rattle.clpwhere.specs.Lines.{without_newline}
use Rattle.clpwhere.specs.Numbers.{behind, place_in}

-- ---- queries

-- The number in a line `query N`: in decimal, at most 16,777,216. No text has more queries.
abbrev pub query_number : List ℕ → Option ℕ
query_number line = option_and_then place_in (behind (codes "query ") (without_newline line))

-- the number of the query that a line behind these belongs to: that of the last of them which is a line `query N`
abbrev pub query_behind : List (List ℕ) → Option ℕ
query_behind lines = last_or None (filter_map query_number lines)

-- the place of the query with a number among these places; the first has the number 1
abbrev pub query_place : List ℕ → ℕ → Option ℕ
query_place places zero = None
query_place places (suc k) = slice_get places k

-- ---- faults

abbrev pub all_faults : List QueryFault
all_faults = Instantiation ∷ BadType ∷ Parameter ∷ Evaluation ∷ Nonlinear ∷ []

-- the line of a fault, without its newline
abbrev pub fault_line : QueryFault → List ℕ
fault_line f = codes "error: " ++ fault_name f

-- the fault that a line without its newline tells
abbrev pub fault_of : List ℕ → Option QueryFault
fault_of words = find (λ f. bytes_eq words (fault_line f)) all_faults

-- what is said of it
abbrev pub fault_words : ℕ → QueryFault → List ℕ
fault_words n f = fault_line f ++ (codes " in query " ++ decimal n)

-- the sentence that explains it
abbrev pub fault_sentence : QueryFault → List ℕ
fault_sentence Instantiation = codes "A goal of this query, or of a clause that it calls, met an open variable where it needs a value: in arithmetic, as a parameter of a range, as the end of a list, among the numbers of fd_element and fd_atmost, or right of #<=>. Or fd_min, fd_max, fd_size or fd_dom met a variable without a domain."
fault_sentence BadType = codes "A goal of this query, or of a clause that it calls, met an atom or a compound term where it needs a variable, an integer, a list or a comparison. Constraints have +, - and * alone, and is has // and mod too."
fault_sentence Parameter = codes "A goal of this query, or of a clause that it calls, met a parameter of a range that is below 0 or, as a divisor, below 1; or the cost of fd_minimize or fd_maximize is a variable that is no open member of the list."
fault_sentence Evaluation = codes "A goal of this query, or of a clause that it calls, divides by 0, or has a number of more than 63 bits as a result, a coefficient or a constant."
fault_sentence Nonlinear = codes "A goal of this query, or of a clause that it calls, has a product with variables on both sides. Such a product may only be one side of #=, with a variable or an integer on the other."
