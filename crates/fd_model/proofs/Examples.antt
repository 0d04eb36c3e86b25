-- Worked constraints, by computation.
use Rattle.std.proofs.Common.{◌≡◌, ℕ, pos, negsuc, List, [], ◌∷◌, refl, inl, inr, Result, Ok, Err, zero, suc, ◌<◌, ◌==◌, true, false, ◌++◌, Some, None, arith}
use Rattle.std.proofs.lemmas.Int.{ints}
use Rattle.std.specs.Prelude.{codes, slice_index_or, if◌then◌else◌}
use Rattle.fd_model.specs.declared.kinds.QueryFault.{QueryFault}
use Rattle.fd_model.specs.declared.kinds.QueryFault.TheVariants.{Instantiation, BadType, Evaluation, Nonlinear}
use Rattle.fd_model.specs.declared.kinds.Relation.TheVariants.{Equal, Differ, Less, AtMost}
use Rattle.fd_model.specs.declared.kinds.ConstraintKind.TheVariants.{Compare, AllDifferent, Element, Atmost, And, Not, Reified}
use Rattle.fd_language.specs.Term.{Term, Terms, Name, Var, Int, Atom, Comp, no_terms, term}
use Rattle.fd_language.specs.Family.{Family, universe, has}
use Rattle.fd_language.specs.Range.{Range, Span, Outside, Number, Infinity, Min, Max, Val, Sub, Mul, DivDown, DivUp, set_of}
use Rattle.fd_model.specs.LinearRows.{Expansion, no_number}
use Rattle.fd_model.specs.ListRows.{element_ranges, counter, counted}
use Rattle.fd_model.specs.ProductRows.{product_ranges}
use Rattle.fd_model.specs.BooleanRows.{bit, and_ranges}
use Rattle.fd_model.specs.ConstraintExpansion.{expand}
use Rattle.fd_model.specs.declared.kinds.Order.TheVariants.{Leftmost}
use Rattle.fd_model.specs.Goal.{Goal, Goals, no_goals, goal, Post, Constrain, Label, Call, Cut, If, IfElse, Not, Best, marked, Program, Query, Event, start_of}
use Rattle.fd_language.specs.PlacedTerm.{PlacedTerm, var, int, atom, comp, no_parts, part}
use Rattle.fd_language.specs.Spelling.{read_range}
use Rattle.fd_model.specs.Children.{kept_by}
use Rattle.fd_model.specs.Queries.{body_goals}
use Rattle.fd_model.specs.Refusals.{goal_refusal, refused_at}
use Rattle.fd_model.specs.Run.{Run}
use Rattle.fd_model.specs.Members.{Open}
use Rattle.fd_model.specs.FlatConstraints.{is_flat_constraint}
use Rattle.fd_model.specs.FlatQueries.{IsFlat, IsSatisfied}
use Rattle.fd_model.specs.FlatLines.{AreFlatEvents}
use Rattle.fd_model.proofs.FlatLines.{flat_events}

abbrev two : Term → Term → Terms
two s t = term s (term t no_terms)

abbrev operation : Name → Term → Term → Term
operation f s t = Comp f (two s t)

abbrev cell : Term → Term → Term
cell h t = operation (codes ".") h t

abbrev end : Term
end = Atom (codes "[]")

abbrev range_at : ℕ → Result Expansion QueryFault → Range
range_at n (Ok x) = (slice_index_or x.ranges n (record { target = 0; range = no_number })).range
range_at n (Err f) = no_number

-- X #< Y, and X #\= Y
less_ranges : expand 9 (Compare Less) (two (Var 0) (Var 1)) 2 ≡ Ok record {
  equated = [];
  ranges =
      record { target = 0; range = Span (Number (pos 0)) (DivDown (Sub (Number (negsuc 0)) (Mul (Number (negsuc 0)) (Max 1))) (Number (pos 1))) }
      ∷ record { target = 1; range = Span (DivUp (Sub (Number (pos 1)) (Mul (Number (negsuc 0)) (Min 0))) (Number (pos 1))) Infinity } ∷ [];
  fresh = 2;
}
less_ranges = refl

differ_ranges : expand 9 (Compare Differ) (two (Var 0) (Var 1)) 2 ≡ Ok record {
  equated = [];
  ranges =
      record {
        target = 0;
        range = Outside (Span (DivUp (Sub (Number (pos 0)) (Mul (Number (negsuc 0)) (Val 1))) (Number (pos 1)))
            (DivDown (Sub (Number (pos 0)) (Mul (Number (negsuc 0)) (Val 1))) (Number (pos 1))));
      }
      ∷ record {
        target = 1;
        range = Outside (Span (DivUp (Sub (Number (pos 0)) (Mul (Number (negsuc 0)) (Val 0))) (Number (pos 1)))
            (DivDown (Sub (Number (pos 0)) (Mul (Number (negsuc 0)) (Val 0))) (Number (pos 1))));
      } ∷ [];
  fresh = 2;
}
differ_ranges = refl

-- forms without variables: 2 #= 3 has no solution, and X - X #= 0 says nothing
never : expand 9 (Compare Equal) (two (Int (pos 2)) (Int (pos 3))) 0 ≡ Ok record { equated = []; ranges = record { target = 0; range = no_number } ∷ []; fresh = 1 }
never = refl

always : expand 9 (Compare Equal) (two (operation (codes "-") (Var 0) (Var 0)) (Int (pos 0))) 1 ≡ Ok record { equated = []; ranges = []; fresh = 1 }
always = refl

-- X*Y #= 4 and 4 #= X*Y are of the product form, 4 having a fresh variable. X*Y #=< 4 isn't, nor is X*Y #= Y*Z.
product : expand 9 (Compare Equal) (two (operation (codes "*") (Var 0) (Var 1)) (Int (pos 4))) 2 ≡ Ok record { equated = (2, pos 4) ∷ []; ranges = product_ranges 0 1 2; fresh = 3 }
product = refl

turned_product : expand 9 (Compare Equal) (two (Int (pos 4)) (operation (codes "*") (Var 0) (Var 1))) 2 ≡ Ok record { equated = (2, pos 4) ∷ []; ranges = product_ranges 0 1 2; fresh = 3 }
turned_product = refl

at_most_product : expand 9 (Compare AtMost) (two (operation (codes "*") (Var 0) (Var 1)) (Int (pos 4))) 2 ≡ Err Nonlinear
at_most_product = refl

two_products : expand 9 (Compare Equal) (two (operation (codes "*") (Var 0) (Var 1)) (operation (codes "*") (Var 1) (Var 2))) 3 ≡ Err Nonlinear
two_products = refl

-- fd_and(X, 1, X) and fd_not(a, X)
conjunction : expand 9 And (term (Var 0) (term (Int (pos 1)) (term (Var 0) no_terms))) 1 ≡ Ok record { equated = (1, pos 1) ∷ []; ranges = and_ranges 0 1 0; fresh = 2 }
conjunction = refl

wrong_negation : expand 9 Not (two (Atom (codes "a")) (Var 0)) 1 ≡ Err BadType
wrong_negation = refl

-- B #<=> X #=< 4 in the universe 0 to 9: W is 14, so X + 14*B is at most 18, and -X - 14*B at most -5.
told : expand 9 Reified (two (Var 1) (operation (codes "#=<") (Var 0) (Int (pos 4)))) 2 ≡ Ok record {
  equated = [];
  ranges =
      bit 1
      ∷ record { target = 0; range = Span (Number (pos 0)) (DivDown (Sub (Number (pos 18)) (Mul (Number (pos 14)) (Min 1))) (Number (pos 1))) }
      ∷ record { target = 1; range = Span (Number (pos 0)) (DivDown (Sub (Number (pos 18)) (Mul (Number (pos 1)) (Min 0))) (Number (pos 14))) }
      ∷ record { target = 0; range = Span (DivUp (Sub (Number (pos 5)) (Mul (Number (pos 14)) (Max 1))) (Number (pos 1))) Infinity }
      ∷ record { target = 1; range = Span (DivUp (Sub (Number (pos 5)) (Mul (Number (pos 1)) (Max 0))) (Number (pos 14))) Infinity } ∷ [];
  fresh = 2;
}
told = refl

-- A teller that is in the comparison has one coefficient: B #<=> B #=< 4.
told_itself : range_at 1 (expand 9 Reified (two (Var 0) (operation (codes "#=<") (Var 0) (Int (pos 4)))) 1) ≡ Span (Number (pos 0)) (DivDown (Number (pos 18)) (Number (pos 15)))
told_itself = refl

-- B #<=> K, B #<=> X and a #<=> X #= 1: the arguments are looked at from left to right
open_comparison : expand 9 Reified (two (Var 0) (Var 1)) 2 ≡ Err Instantiation
open_comparison = refl

no_comparison : expand 9 Reified (two (Var 0) (Int (pos 1))) 1 ≡ Err BadType
no_comparison = refl

wrong_teller : expand 9 Reified (two (Atom (codes "a")) (Var 1)) 2 ≡ Err BadType
wrong_teller = refl

-- a product is not told, and W is an integer of the language
told_product : expand 9 Reified (two (Var 0) (operation (codes "#=") (operation (codes "*") (Var 1) (Var 2)) (Int (pos 4)))) 3 ≡ Err Nonlinear
told_product = refl

far : expand 9 Reified (two (Var 0) (operation (codes "#=<") (operation (codes "*") (Int (pos 1024819115206086201)) (Var 1)) (Int (pos 0)))) 2 ≡ Err Evaluation
far = refl

-- a #= X, and a coefficient of 2^63

not_a_sum : expand 9 (Compare Equal) (two (Atom (codes "a")) (operation (codes "*") (Var 0) (Var 0))) 1 ≡ Err BadType
not_a_sum = refl

overflow : expand 9 (Compare Equal) (two (operation (codes "-") (operation (codes "*") (Int (pos 9223372036854775807)) (Var 0))
    (operation (codes "*") (Int (negsuc 0)) (Var 0))) (Int (pos 0))) 1 ≡ Err Evaluation
overflow = refl

-- fd_all_different([X|_]), fd_all_different([a|_]) and fd_all_different([-1])
open_list : expand 9 AllDifferent (term (cell (Var 0) (Var 1)) no_terms) 2 ≡ Err Instantiation
open_list = refl

wrong_element : expand 9 AllDifferent (term (cell (Atom (codes "a")) (Var 1)) no_terms) 2 ≡ Err BadType
wrong_element = refl

one_integer : expand 9 AllDifferent (term (cell (Int (negsuc 0)) end) no_terms) 0 ≡ Ok record {
  equated = (0, negsuc 0) ∷ [];
  ranges = record { target = 0; range = Span (Number (pos 0)) Infinity } ∷ [];
  fresh = 1;
}
one_integer = refl

-- fd_element(I, [5,7,5], 5)
abbrev elements : Terms
elements = term (Var 0) (two (cell (Int (pos 5)) (cell (Int (pos 7)) (cell (Int (pos 5)) end))) (Int (pos 5)))

element_rows : expand 9 Element elements 1 ≡ Ok record { equated = (1, pos 5) ∷ []; ranges = element_ranges 0 (pos 5 ∷ pos 7 ∷ pos 5 ∷ []) 1; fresh = 2 }
element_rows = refl

-- fd_atmost(1, [3,Y], 3)
abbrev counts : Terms
counts = term (Int (pos 1)) (two (cell (Int (pos 3)) (cell (Var 0) end)) (Int (pos 3)))

atmost_rows : expand 9 Atmost counts 1 ≡ Ok record {
  equated = (1, pos 3) ∷ [];
  ranges =
      counter (pos 3) 1 2 ∷ counted (pos 3) 1 2 ∷ counter (pos 3) 0 3 ∷ counted (pos 3) 0 3
      ∷ record { target = 2; range = Span (Number (pos 0)) (DivDown (Sub (Number (pos 1)) (Mul (Number (pos 1)) (Min 3))) (Number (pos 1))) }
      ∷ record { target = 3; range = Span (Number (pos 0)) (DivDown (Sub (Number (pos 1)) (Mul (Number (pos 1)) (Min 2))) (Number (pos 1))) } ∷ [];
  fresh = 4;
}
atmost_rows = refl

-- The sets of single ranges up to 9, where the variables from 0 on have these sets.
abbrev sets : List (List ℕ) → Family
sets ss v = slice_index_or ss v []

-- X #\= Y where Y is 2, and where Y is open
known_value : set_of 9 (sets ((1 ∷ 2 ∷ 3 ∷ []) ∷ (2 ∷ []) ∷ [])) (range_at 0 (expand 9 (Compare Differ) (two (Var 0) (Var 1)) 2)) ≡ 0 ∷ 1 ∷ 3 ∷ 4 ∷ 5 ∷ 6 ∷ 7 ∷ 8 ∷ 9 ∷ []
unfolding universe
known_value = refl

open_value : set_of 3 (sets ((1 ∷ 2 ∷ []) ∷ (2 ∷ 3 ∷ []) ∷ [])) (range_at 0 (expand 9 (Compare Differ) (two (Var 0) (Var 1)) 2)) ≡ 0 ∷ 1 ∷ 2 ∷ 3 ∷ []
unfolding universe
open_value = refl

-- X #< Y, where Y is at most 8
below_eight : set_of 9 (sets ((0 ∷ []) ∷ (1 ∷ 8 ∷ []) ∷ [])) (range_at 0 (expand 9 (Compare Less) (two (Var 0) (Var 1)) 2)) ≡ 0 ∷ 1 ∷ 2 ∷ 3 ∷ 4 ∷ 5 ∷ 6 ∷ 7 ∷ []
unfolding universe
below_eight = refl

-- fd_element(I, [5,7,5], 5) has 1 and 3 for I
indices : set_of 9 (sets ((0 ∷ 1 ∷ 2 ∷ 3 ∷ []) ∷ (5 ∷ []) ∷ [])) (range_at 1 (expand 9 Element elements 1)) ≡ 1 ∷ 3 ∷ []
unfolding universe
indices = refl

-- in fd_atmost(1, [3,Y], 3) the counter of 3 is 1, that of Y then is 0, and Y isn't 3
first_counter : set_of 4 (sets ((3 ∷ 4 ∷ []) ∷ (3 ∷ []) ∷ (0 ∷ 1 ∷ []) ∷ (0 ∷ 1 ∷ []) ∷ [])) (range_at 0 (expand 9 Atmost counts 1)) ≡ 1 ∷ []
unfolding universe
first_counter = refl

second_counter : set_of 4 (sets ((3 ∷ 4 ∷ []) ∷ (3 ∷ []) ∷ (1 ∷ []) ∷ (0 ∷ 1 ∷ []) ∷ [])) (range_at 5 (expand 9 Atmost counts 1)) ≡ 0 ∷ []
unfolding universe
second_counter = refl

counted_variable : set_of 4 (sets ((3 ∷ 4 ∷ []) ∷ (3 ∷ []) ∷ (1 ∷ []) ∷ (0 ∷ []) ∷ [])) (range_at 3 (expand 9 Atmost counts 1)) ≡ 0 ∷ 1 ∷ 2 ∷ 4 ∷ []
unfolding universe
counted_variable = refl

-- ---- a flat query

-- X in 0..1, X #\= Y, and the labelling of X and Y
abbrev flat_goals : List Goal
flat_goals = Post (Var 0) (Span (Number (pos 0)) (Number (pos 1))) ∷ Constrain (Compare Differ) (operation (codes "#\\=") (Var 0) (Var 1)) ∷ []

abbrev flat_list : Term
flat_list = cell (Var 0) (cell (Var 1) end)

abbrev flat_query : Query
flat_query = record { variables = 2; names = codes "X" ∷ codes "Y" ∷ []; shown = 0 ∷ 1 ∷ []; goals = flat_goals ++ Label Leftmost flat_list ∷ [] }

each_listed : (x : ℕ) → x < 2 → has (0 ∷ 1 ∷ []) x ≡ true
each_listed zero h = refl
each_listed (suc zero) h = refl
each_listed (suc (suc x)) h = absurd (omega arith)

a_flat_query : IsFlat 3 3 flat_query flat_goals Leftmost (Open 0 ∷ Open 1 ∷ [])
a_flat_query = record { list = flat_list; goals = refl; read = refl; flat = ((refl, refl), ((refl, omega arith), tt)); every = each_listed }

-- its events
flat_query_events : (prog : Program) (n : ℕ) (es : List Event) (r : ℕ) → Run 3 3 prog flat_query n None (start_of flat_query ∷ []) es r
    → AreFlatEvents 3 3 flat_query flat_goals Leftmost (0 ∷ 1 ∷ []) es
flat_query_events prog n es r run =
    flat_events 3 3 prog flat_query n None es r flat_goals Leftmost (Open 0 ∷ Open 1 ∷ []) (omega arith) (omega arith) (
      (omega arith, tt),
      ((omega arith, (omega arith, tt)), ((omega arith, ((omega arith, (tt, tt)), tt)), tt)),
    ) (omega arith, (omega arith, tt)) a_flat_query run

-- (1, 0) satisfies its goals, and (1, 1) doesn't
differs : IsSatisfied 3 3 (λ x. if x == 0 then 1 else 0) (Constrain (Compare Differ) (operation (codes "#\\=") (Var 0) (Var 1)))
differs = (tt, λ e. absurd (cc))

same_no : IsSatisfied 3 3 (λ x. 1) (Constrain (Compare Differ) (operation (codes "#\\=") (Var 0) (Var 1))) → ⊥
same_no h = h.1 refl

-- (4, 1) satisfies B #<=> X #=< 4, and (5, 1) doesn't
told_rightly : IsSatisfied 9 9 (λ x. if x == 0 then 4 else 1) (Constrain Reified (operation (codes "#<=>") (Var 1) (operation (codes "#=<") (Var 0) (Int (pos 4)))))
told_rightly = inl (omega (arith, ints), refl)

told_wrongly : IsSatisfied 9 9 (λ x. if x == 0 then 5 else 1) (Constrain Reified (operation (codes "#<=>") (Var 1) (operation (codes "#=<") (Var 0) (Int (pos 4))))) → ⊥
told_wrongly (inl h) = absurd (let e = h.0 in omega (arith, ints))
told_wrongly (inr h) = absurd (let e = h.1 in omega (arith, ints))

-- In flat queries stand X*Y #= 9 in the universe 0 to 9, and not X*Y #= 10.
flat_product : is_flat_constraint 9 9 (Compare Equal) (two (operation (codes "*") (Var 0) (Var 1)) (Int (pos 9))) ≡ true
flat_product = refl

no_flat_product : is_flat_constraint 9 9 (Compare Equal) (two (operation (codes "*") (Var 0) (Var 1)) (Int (pos 10))) ≡ false
no_flat_product = refl

-- ---- control

abbrev cut : Goals
cut = goal (Cut None) no_goals

-- a cut in a test or a negation has no number of the clause's
marked_outside : marked 3 (IfElse cut cut cut) ≡ IfElse cut (goal (Cut (Some 3)) no_goals) (goal (Cut (Some 3)) no_goals)
marked_outside = refl

marked_negation : marked 3 (Not cut) ≡ Not cut
marked_negation = refl

-- of five other branches a cut numbered 2 keeps two, and of one that one
keeps_two : kept_by 5 (Cut (Some 2)) ≡ 2
keeps_two = refl

keeps_one : kept_by 1 (Cut (Some 2)) ≡ 1
keeps_one = refl

abbrev named : List ℕ → PlacedTerm
named a = atom a 0

abbrev both : List ℕ → PlacedTerm → PlacedTerm → PlacedTerm
both f a b = comp f 0 (part a (part b no_parts))

abbrev called : List ℕ → Goals
called a = goal (Call (Atom a)) no_goals

-- (a -> b ; c) is one if, and its other part is c; in (a -> b) it has none; \+ a holds one body
an_if : body_goals 9 (both (codes ";") (both (codes "->") (named (codes "a")) (named (codes "b"))) (named (codes "c"))) ≡ goal
    (IfElse (called (codes "a")) (called (codes "b")) (called (codes "c"))) no_goals
an_if = refl

half_an_if : body_goals 9 (both (codes "->") (named (codes "a")) (named (codes "b"))) ≡ goal (If (called (codes "a")) (called (codes "b"))) no_goals
half_an_if = refl

a_negation : body_goals 9 (comp (codes "\\+") 0 (part (named (codes "a")) no_parts)) ≡ goal (Not (called (codes "a"))) no_goals
a_negation = refl

-- the word `infinity` is the greatest number of a variable
up_to_nine : (read_range 9 (both (codes "..") (int (pos 3) 0) (named (codes "infinity")))).tree ≡ Span (Number (pos 3)) (Number (pos 9))
up_to_nine = refl

-- fd_minimize(fd_labeling(L), C), and what isn't a labelling there
abbrev labelling_of_x : PlacedTerm
labelling_of_x = comp (codes "fd_labeling") 0 (part (var 0 0) no_parts)

a_search : body_goals 9 (both (codes "fd_minimize") labelling_of_x (var 1 0)) ≡ goal (Best Leftmost true (Var 0) (Var 1)) no_goals
a_search = refl

a_bad_goal : goal_refusal 9 9 [] (both (codes "fd_minimize") (atom (codes "true") 15) (var 1 0)) ≡ Some (refused_at 15 (codes "bad goal"))
a_bad_goal = refl
