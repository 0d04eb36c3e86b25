-- The ranges of the constraints on lists.
use Rattle.std.specs.Prelude.{ℕ, suc, ◌+◌, ℤ, pos, List, [], ◌∷◌, ◌++◌, length}
use Rattle.fd_language.specs.Range.{Range, Span, One, Dom, Union, Inter, Outside, Plus, Times, Expr, Number, Infinity, Min, Max, Val, Add, Sub, Mul, Indexical}
use Rattle.fd_model.specs.Linear.{IsAtMost}
use Rattle.fd_model.specs.LinearRows.{Expansion, no_number, linear_rows}
use Rattle.fd_model.specs.Members.{Member, place_of, after, placed, equated_from, fresh_after}

abbrev pub differs : ℕ → ℕ → Indexical
differs x y = record { target = x; range = Outside (One (Val y)) }

-- x against each of the others
abbrev pub against : ℕ → List ℕ → List Indexical
against x [] = []
against x (y ∷ ys) = differs x y ∷ differs y x ∷ against x ys

abbrev pub pairwise : List ℕ → List Indexical
pairwise [] = []
pairwise (x ∷ xs) = against x xs ++ pairwise xs

-- One variable alone is posted in the universe.
abbrev pub different_ranges : List ℕ → List Indexical
different_ranges [] = []
different_ranges (x ∷ []) = record { target = x; range = Span (Number (pos 0)) Infinity } ∷ []
different_ranges (x ∷ y ∷ ys) = pairwise (x ∷ y ∷ ys)

abbrev pub different_rows : List Member → ℕ → Expansion
different_rows ms n = record { equated = equated_from n ms; ranges = different_ranges (placed n ms); fresh = fresh_after n ms }

-- b alone, where y may be a
abbrev pub where_is : ℤ → ℕ → ℤ → Range
where_is a y b = Plus (Times (Inter (One (Number a)) (Dom y)) (Number (pos 0))) (Number b)

-- 0 alone, where y may be another than a
abbrev pub where_other : ℤ → ℕ → Range
where_other a y = Times (Inter (Outside (One (Number a))) (Dom y)) (Number (pos 0))

abbrev pub union_onto : Range → List Range → Range
union_onto r [] = r
union_onto r (q ∷ qs) = union_onto (Union r q) qs

abbrev pub union_of : List Range → Range
union_of [] = no_number
union_of (r ∷ rs) = union_onto r rs

-- the elements from the k-th on where i may be their number, and the numbers of those that x may be
abbrev pub elements_at : ℕ → ℕ → List ℤ → List Range
elements_at i k [] = []
elements_at i k (z ∷ zs) = where_is (pos k) i z ∷ elements_at i (suc k) zs

abbrev pub index_ranges : ℕ → ℕ → List ℤ → List Range
index_ranges x k [] = []
index_ranges x k (z ∷ zs) = where_is z x (pos k) ∷ index_ranges x (suc k) zs

abbrev pub element_ranges : ℕ → List ℤ → ℕ → List Indexical
element_ranges i zs x = record { target = x; range = union_of (elements_at i 1 zs) } ∷ record { target = i; range = union_of (index_ranges x 1 zs) } ∷ []

abbrev pub element_rows : Member → List ℤ → Member → ℕ → Expansion
element_rows i zs x n =
    let ms = i ∷ x ∷ [] in
    record { equated = equated_from n ms; ranges = element_ranges (place_of n i) zs (place_of (after n i) x); fresh = fresh_after n ms }

-- more than each number of the universe
abbrev pub beyond : Expr
beyond = Add Infinity (Number (pos 1))

-- b is 1 where x is v, and else 0
abbrev pub counter : ℤ → ℕ → ℕ → Indexical
counter v x b = record { target = b; range = Union (where_is v x (pos 1)) (where_other v x) }

abbrev pub counted : ℤ → ℕ → ℕ → Indexical
counted v x b = record {
  target = x;
  range = Union
      (Union (Span (Number v) (Add (Number v) (Mul (Sub (Max b) (Number (pos 1))) beyond))) (Span (Add (Add (Number v) (Number (pos 1))) (Mul (Min b) beyond)) Infinity))
      (Span (Number (pos 0)) (Sub (Sub (Number v) (Number (pos 1))) (Mul (Min b) beyond)));
}

-- the added variables are numbered from n on
abbrev pub counts : ℤ → List ℕ → ℕ → List Indexical
counts v [] n = []
counts v (x ∷ xs) n = counter v x n ∷ counted v x n ∷ counts v xs (suc n)

-- their sum
abbrev pub units : List ℕ → ℕ → List (ℕ × ℤ)
units [] n = []
units (x ∷ xs) n = (n, pos 1) ∷ units xs (suc n)

abbrev pub with_counts : List (ℕ × ℤ) → List Indexical → Expansion → Expansion
with_counts es ps x = record { equated = es; ranges = ps ++ x.ranges; fresh = x.fresh }

abbrev pub atmost_rows : ℤ → List Member → ℤ → ℕ → Expansion
atmost_rows m ms v n =
    let xs = placed n ms in
    let b = fresh_after n ms in
    with_counts (equated_from n ms) (counts v xs b) (linear_rows IsAtMost (units xs b) m (b + length xs))
