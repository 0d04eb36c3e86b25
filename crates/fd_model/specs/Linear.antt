-- Linear. Terms collected to sums, and the normal forms of the comparisons.
use Rattle.std.specs.Prelude.{ℕ, ◌^◌, Bool, ◌&&◌, not, ◌==◌, if◌then◌else◌, ℤ, pos, negsuc, ◌+ℤ◌, ◌-ℤ◌, ◌*ℤ◌, neg_ℤ, nat_lt, nat_abs, List, [], ◌∷◌, length}
use Rattle.std.specs.Prelude.{codes, Result, Ok, Err}
use Rattle.std.specs.List.{list_all}
use Rattle.std.specs.Ordering.{int_eq}
use Rattle.std.specs.Str.{bytes_eq}
use Rattle.fd_model.specs.declared.kinds.QueryFault.{QueryFault}
use Rattle.fd_model.specs.declared.kinds.QueryFault.TheVariants.{BadType, Evaluation, Nonlinear}
use Rattle.fd_model.specs.declared.kinds.Relation.{Relation}
use Rattle.fd_model.specs.declared.kinds.Relation.TheVariants.{Equal, Differ, Less, AtMost, Greater, AtLeast}
use Rattle.fd_language.specs.Term.{Term, Var, Int, Atom, Comp, no_terms, term, Name}

-- Products of a variable and its coefficient, and a constant, added up. Each variable stands once, in the order of first occurrence, also where its coefficient
-- is 0.
pub record Sum : Type 0 where
  pub products : List (ℕ × ℤ)
  pub constant : ℤ

-- with a times x more
abbrev pub with_product : List (ℕ × ℤ) → ℕ → ℤ → List (ℕ × ℤ)
with_product [] x a = (x, a) ∷ []
with_product (t ∷ ts) x a = if t.0 == x then (x, t.1 +ℤ a) ∷ ts else t ∷ with_product ts x a

abbrev pub with_products : List (ℕ × ℤ) → List (ℕ × ℤ) → List (ℕ × ℤ)
with_products ts [] = ts
with_products ts (u ∷ us) = with_products (with_product ts u.0 u.1) us

-- all coefficients times k
abbrev pub scaled : ℤ → List (ℕ × ℤ) → List (ℕ × ℤ)
scaled k [] = []
scaled k (t ∷ ts) = (t.0, k *ℤ t.1) ∷ scaled k ts

-- those whose coefficient isn't 0
abbrev pub nonzero : List (ℕ × ℤ) → List (ℕ × ℤ)
nonzero [] = []
nonzero (t ∷ ts) = if int_eq t.1 (pos 0) then nonzero ts else t ∷ nonzero ts

abbrev pub plus : Sum → Sum → Sum
plus s t = record { products = with_products s.products t.products; constant = s.constant +ℤ t.constant }

abbrev pub times : ℤ → Sum → Sum
times k s = record { products = scaled k s.products; constant = k *ℤ s.constant }

abbrev pub is_constant : Sum → Bool
is_constant s = list_all (λ t. int_eq t.1 (pos 0)) s.products

-- an integer of the language
abbrev pub in_integers : ℤ → Bool
in_integers z = nat_lt (nat_abs z) (2 ^ 63)

-- at most 2^31 variables
abbrev pub are_few : List (ℕ × ℤ) → Bool
are_few ts = not (nat_lt (2 ^ 31) (length (nonzero ts)))

abbrev pub is_within : Sum → Bool
is_within s = in_integers s.constant && (list_all (λ t. in_integers t.1) s.products && are_few s.products)

abbrev pub checked : Sum → Result Sum QueryFault
checked s = if is_within s then Ok s else Err Evaluation

-- The left operand's fault comes first, then the right one's, then the operation's.
abbrev pub of_both : {A B C F : Type 0} → (A → B → Result C F) → Result A F → Result B F → Result C F
of_both op (Ok s) (Ok t) = op s t
of_both op (Ok s) (Err f) = Err f
of_both op (Err f) t = Err f

abbrev pub of_one : {A B F : Type 0} → (A → Result B F) → Result A F → Result B F
of_one op (Ok s) = op s
of_one op (Err f) = Err f

abbrev pub sum_of : Sum → Sum → Result Sum QueryFault
sum_of s t = checked (plus s t)

abbrev pub difference_of : Sum → Sum → Result Sum QueryFault
difference_of s t = checked (plus s (times (negsuc 0) t))

abbrev pub product_of : Sum → Sum → Result Sum QueryFault
product_of s t = if is_constant s then checked (times s.constant t) else if is_constant t then checked (times t.constant s) else Err Nonlinear

abbrev pub collect_operator : Name → Result Sum QueryFault → Result Sum QueryFault → Result Sum QueryFault
collect_operator f s t =
    if bytes_eq f (codes "+") then of_both sum_of s t else
    if bytes_eq f (codes "-") then of_both difference_of s t else
    if bytes_eq f (codes "*") then of_both product_of s t else Err BadType

-- the sum that a seen term is
abbrev pub collect_term : Term → Result Sum QueryFault
collect_term (Var x) = checked (record { products = (x, pos 1) ∷ []; constant = pos 0 })
collect_term (Int z) = checked (record { products = []; constant = z })
collect_term (Atom a) = Err BadType
collect_term (Comp f no_terms) = Err BadType
collect_term (Comp f (term a no_terms)) = if bytes_eq f (codes "-") then of_one (λ s. checked (times (negsuc 0) s)) (collect_term a) else Err BadType
collect_term (Comp f (term a (term b no_terms))) = collect_operator f (collect_term a) (collect_term b)
collect_term (Comp f (term a (term b (term c ts)))) = Err BadType

-- A sum of products that stands against a constant. No coefficient is 0.
pub record Linear : Type 0 where
  pub products : List (ℕ × ℤ)
  pub constant : ℤ

abbrev pub linear_of : Sum → Result Linear QueryFault
linear_of s = Ok (record { products = nonzero s.products; constant = neg_ℤ s.constant })

-- left minus right is the products less the constant
abbrev pub collect : Term → Term → Result Linear QueryFault
collect left right = of_one linear_of (of_both difference_of (collect_term left) (collect_term right))

-- how the sum of a normal form compares to its constant
pub data Comparison : Type 0 where
  IsEqual IsOther IsAtMost : Comparison

abbrev pub comparison : Relation → Comparison
comparison Equal = IsEqual
comparison Differ = IsOther
comparison Less = IsAtMost
comparison AtMost = IsAtMost
comparison Greater = IsAtMost
comparison AtLeast = IsAtMost

abbrev pub turned : Linear → Linear
turned l = record { products = scaled (negsuc 0) l.products; constant = neg_ℤ l.constant }

-- the constant one less
abbrev pub below : Linear → Linear
below l = record { products = l.products; constant = l.constant -ℤ pos 1 }

abbrev pub normal : Relation → Linear → Linear
normal Equal l = l
normal Differ l = l
normal Less l = below l
normal AtMost l = l
normal Greater l = below (turned l)
normal AtLeast l = turned l

-- the normal form of left and right, where its constant is an integer of the language
abbrev pub normal_form : Relation → Linear → Result Linear QueryFault
normal_form r l = let m = normal r l in if in_integers m.constant then Ok m else Err Evaluation
