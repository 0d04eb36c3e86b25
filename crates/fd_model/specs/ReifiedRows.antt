-- What tells by 1 and 0 whether a comparison is true: its sums and its ranges.
use Rattle.std.specs.Prelude.{ℕ, suc, ◌+◌, ◌*◌, ◌&&◌, if◌then◌else◌, ℤ, pos, negsuc, ◌+ℤ◌, ◌-ℤ◌, neg_ℤ, nat_abs, List, [], ◌∷◌, ◌++◌, codes, Option, Some, None}
use Rattle.std.specs.Prelude.{Result, Ok, Err}
use Rattle.std.specs.List.{list_all}
use Rattle.std.specs.Str.{bytes_eq}
use Rattle.fd_model.specs.declared.kinds.QueryFault.{QueryFault}
use Rattle.fd_model.specs.declared.kinds.QueryFault.TheVariants.{Instantiation, BadType, Evaluation}
use Rattle.fd_model.specs.declared.kinds.Relation.{Relation}
use Rattle.fd_model.specs.declared.kinds.Relation.TheVariants.{Equal, Differ, Less, AtMost, Greater, AtLeast}
use Rattle.fd_language.specs.Term.{Term, Var, Comp, no_terms, term, Name}
use Rattle.fd_language.specs.Range.{Indexical}
use Rattle.fd_model.specs.Linear.{Linear, Comparison, IsEqual, IsOther, IsAtMost, comparison, scaled, turned, with_product, nonzero, in_integers, of_one}
use Rattle.fd_model.specs.Linear.{of_both, collect, normal_form}
use Rattle.fd_model.specs.BooleanRows.{bit, and_ranges, not_ranges}

-- the relation that a name is
abbrev pub relation_named : Name → Option Relation
relation_named f =
    if bytes_eq f (codes "#=") then Some Equal else
    if bytes_eq f (codes "#\\=") then Some Differ else
    if bytes_eq f (codes "#<") then Some Less else
    if bytes_eq f (codes "#=<") then Some AtMost else
    if bytes_eq f (codes "#>") then Some Greater else
    if bytes_eq f (codes "#>=") then Some AtLeast else None

-- the normal form of a comparison, and how its sum compares to its constant
abbrev pub formed : Relation → Linear → Result (Comparison × Linear) QueryFault
formed r l = Ok (comparison r, l)

abbrev pub read_sides : Option Relation → Term → Term → Result (Comparison × Linear) QueryFault
read_sides None s t = Err BadType
read_sides (Some r) s t = of_one (formed r) (of_one (normal_form r) (collect s t))

-- that of a term that is one of the six comparisons
abbrev pub read_comparison : Term → Result (Comparison × Linear) QueryFault
read_comparison (Var x) = Err Instantiation
read_comparison (Comp f (term s (term t no_terms))) = read_sides (relation_named f) s t
read_comparison _ = Err BadType

-- the magnitudes of the coefficients added up
abbrev pub magnitudes : List (ℕ × ℤ) → ℕ
magnitudes [] = 0
magnitudes (t ∷ ts) = nat_abs t.1 + magnitudes ts

-- More than a sum over numbers up to M is away from its constant.
abbrev pub reach : ℕ → Linear → ℕ
reach M l = suc (nat_abs l.constant + M * magnitudes l.products)

-- The products at most a constant, collected again, where these are integers of the language. How many variables there are is no matter here.
abbrev pub collected_again : List (ℕ × ℤ) → ℤ → Result Linear QueryFault
collected_again ts c = if in_integers c && list_all (λ t. in_integers t.1) ts then Ok (record { products = nonzero ts; constant = c }) else Err Evaluation

abbrev pub two : Linear → Linear → Result (List Linear) QueryFault
two l m = Ok (l ∷ m ∷ [])

-- Where b is 1 the sum s is at most c, and where b is 0 it is more: s + w*b is at most c + w, and -s - w*b at most -c - 1.
abbrev pub told_by : ℕ → ℤ → Linear → Result (List Linear) QueryFault
told_by b w l =
    let ts = with_product l.products b w in
    if in_integers w then of_both two (collected_again ts (l.constant +ℤ w)) (collected_again (scaled (negsuc 0) ts) (neg_ℤ l.constant -ℤ pos 1)) else Err Evaluation

abbrev pub both_sums : List Linear → List Linear → Result (List Linear) QueryFault
both_sums ls ms = Ok (ls ++ ms)

-- Sums, each at most its constant. b tells, and the added variables are numbered from n on.
abbrev pub reified_sums : ℕ → Comparison → ℕ → ℕ → Linear → Result (List Linear) QueryFault
reified_sums M IsAtMost b n l = told_by b (pos (reach M l)) l
reified_sums M IsEqual b n l = of_both both_sums (told_by n (pos (reach M l)) l) (told_by (suc n) (pos (reach M l)) (turned l))
reified_sums M IsOther b n l = of_both both_sums (told_by (suc n) (pos (reach M l)) l) (told_by (suc (suc n)) (pos (reach M l)) (turned l))

-- b is 1 where both f and g are, which tell of at most and of at least
abbrev pub equal_ranges : ℕ → ℕ → ℕ → List Indexical
equal_ranges b f g = bit f ∷ bit g ∷ and_ranges f g b

-- the other ranges
abbrev pub reified_ranges : Comparison → ℕ → ℕ → List Indexical
reified_ranges IsAtMost b n = bit b ∷ []
reified_ranges IsEqual b n = equal_ranges b n (suc n)
reified_ranges IsOther b n = equal_ranges n (suc n) (suc (suc n)) ++ not_ranges n b

-- the next fresh number
abbrev pub reified_end : Comparison → ℕ → ℕ
reified_end IsAtMost n = n
reified_end IsEqual n = n + 2
reified_end IsOther n = n + 3
