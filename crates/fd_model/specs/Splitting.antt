-- Products and Boolean constraints: their ranges, and sums that are at most their constants.
use Rattle.std.specs.Prelude.{ℕ, ℤ, List, [], ◌∷◌, ◌++◌, Option, Some, None, Result, Ok}
use Rattle.fd_model.specs.declared.kinds.QueryFault.{QueryFault}
use Rattle.fd_model.specs.declared.kinds.ConstraintKind.{ConstraintKind}
use Rattle.fd_model.specs.declared.kinds.ConstraintKind.TheVariants.{Compare, And, Or, Not, Reified}
use Rattle.fd_language.specs.Term.{Term, Terms, no_terms, term}
use Rattle.fd_language.specs.Range.{Indexical}
use Rattle.fd_model.specs.Linear.{Linear, Comparison, IsAtMost, of_one, of_both}
use Rattle.fd_model.specs.LinearRows.{Expansion, rows_behind}
use Rattle.fd_model.specs.Members.{Member, as_member, place_of, after, equated_from, fresh_after}
use Rattle.fd_model.specs.ProductRows.{Product, product_form, product_ranges}
use Rattle.fd_model.specs.BooleanRows.{and_ranges, or_ranges, not_ranges}
use Rattle.fd_model.specs.ReifiedRows.{read_comparison, reified_sums, reified_ranges, reified_end}

-- Fresh variables equated with integers, ranges, sums that are each at most their constant, and the next fresh number.
pub record Split : Type 0 where
  pub equated : List (ℕ × ℤ)
  pub ranges : List Indexical
  pub sums : List Linear
  pub fresh : ℕ

-- the linear rows of the sums
abbrev pub sum_rows : List Linear → List Indexical
sum_rows [] = []
sum_rows (l ∷ ls) = rows_behind IsAtMost l.constant [] l.products ++ sum_rows ls

-- The ranges, and then the rows of the sums.
abbrev pub joined : Split → Expansion
joined s = record { equated = s.equated; ranges = s.ranges ++ sum_rows s.sums; fresh = s.fresh }

-- ranges alone, on variables of members
abbrev pub on_members : ℕ → List Member → List Indexical → Split
on_members n ms ps = record { equated = equated_from n ms; ranges = ps; sums = []; fresh = fresh_after n ms }

abbrev pub product_split : ℕ → Product → Split
product_split n p = on_members n (p.result ∷ []) (product_ranges p.left p.right (place_of n p.result))

abbrev pub pair_of : {A B : Type 0} → A → B → Result (A × B) QueryFault
pair_of a b = Ok (a, b)

-- of two members
abbrev pub on_two : (ℕ → ℕ → List Indexical) → ℕ → Member → Member → Split
on_two rows n x y = on_members n (x ∷ y ∷ []) (rows (place_of n x) (place_of (after n x) y))

-- of three
abbrev pub on_three : (ℕ → ℕ → ℕ → List Indexical) → ℕ → Member → Member → Member → Split
on_three rows n x y z = on_members n (x ∷ y ∷ z ∷ []) (rows (place_of n x) (place_of (after n x) y) (place_of (after (after n x) y) z))

-- the arguments from left to right
abbrev pub of_two : (ℕ → ℕ → List Indexical) → Term → Term → ℕ → Result Split QueryFault
of_two rows x y n = of_both (λ p q. Ok (on_two rows n p q)) (as_member x) (as_member y)

abbrev pub of_three : (ℕ → ℕ → ℕ → List Indexical) → Term → Term → Term → ℕ → Result Split QueryFault
of_three rows x y z n = of_both (λ p q. Ok (on_three rows n p.0 p.1 q)) (of_both pair_of (as_member x) (as_member y)) (as_member z)

-- b tells whether the sum of a form compares so to its constant
abbrev pub told : ℕ → ℕ → Member → Comparison × Linear → Result Split QueryFault
told M n b p =
    of_one (λ ls. Ok (record { equated = equated_from n (b ∷ []); ranges = reified_ranges p.0 (place_of n b) (after n b); sums = ls; fresh = reified_end p.0 (after n b) }))
    (reified_sums M p.0 (place_of n b) (after n b) p.1)

abbrev pub reified : ℕ → Term → Term → ℕ → Result Split QueryFault
reified M b k n = of_both (told M n) (as_member b) (read_comparison k)

abbrev pub product_of : ℕ → Option Product → Option (Result Split QueryFault)
product_of n None = None
product_of n (Some p) = Some (Ok (product_split n p))

-- A product or a Boolean constraint of the arguments, where n is the next fresh number. It is none for the other goals.
abbrev pub split : ℕ → ConstraintKind → Terms → ℕ → Option (Result Split QueryFault)
split M (Compare r) (term s (term t no_terms)) n = product_of n (product_form r s t)
split M And (term x (term y (term z no_terms))) n = Some (of_three and_ranges x y z n)
split M Or (term x (term y (term z no_terms))) n = Some (of_three or_ranges x y z n)
split M Not (term x (term y no_terms)) n = Some (of_two not_ranges x y n)
split M Reified (term b (term k no_terms)) n = Some (reified M b k n)
split M _ _ n = None
