-- Flat constraints: those that meet no fault.
use Rattle.std.specs.Prelude.{◌≡◌, ℕ, ◌+◌, ◌*◌, ◌-◌, ◌^◌, ◌≤◌, ◌<◌, Bool, true, false, ◌&&◌, ◌||◌, if◌then◌else◌, IsTrue, nat_lt, int_le, nat_abs, length}
use Rattle.std.specs.Prelude.{codes, Option, Some, None, Ok, pos, ◌⊎◌, ◌↔◌}
use Rattle.std.specs.Str.{bytes_eq}
use Rattle.fd_model.specs.declared.kinds.Relation.{Relation}
use Rattle.fd_model.specs.declared.kinds.ConstraintKind.{ConstraintKind}
use Rattle.fd_model.specs.declared.kinds.ConstraintKind.TheVariants.{Compare, AllDifferent, Element, Atmost, And, Or, Not, Reified}
use Rattle.fd_language.specs.Variables.{variables_of, variables_of_all}
use Rattle.fd_language.specs.Range.{is_none_left}
use Rattle.fd_language.specs.Term.{Term, Terms, Var, Int, Atom, Comp, no_terms, term, Name, apply, apply_all}
use Rattle.fd_model.specs.Builtins.{is_integer}
use Rattle.fd_model.specs.LinearRows.{Expansion}
use Rattle.fd_model.specs.Members.{Member, Open, Known}
use Rattle.fd_model.specs.ProductRows.{Product, product_form}
use Rattle.fd_model.specs.ReifiedRows.{relation_named}
use Rattle.fd_model.specs.ConstraintExpansion.{compare, expand}
use Rattle.fd_model.specs.Satisfaction.{Assignment, worth, Satisfies}

-- The width of a term: the greatest magnitude that it may have. A variable counts as the greatest number of the universe.
abbrev pub width : ℕ → Term → ℕ
width M (Var x) = M
width M (Int z) = nat_abs z
width M (Atom a) = 0
width M (Comp f no_terms) = 0
width M (Comp f (term a no_terms)) = width M a
width M (Comp f (term a (term b no_terms))) = if bytes_eq f (codes "+") || bytes_eq f (codes "-") then width M a + width M b else width M a * width M b
width M (Comp f (term a (term b (term c ts)))) = 0

abbrev pub is_narrow : ℕ → Bool
is_narrow n = nat_lt n (2 ^ 63 - 1)

abbrev pub is_ground : Term → Bool
is_ground t = is_none_left (variables_of t)

abbrev pub is_operator : Name → Term → Term → Bool
is_operator f a b = bytes_eq f (codes "+") || (bytes_eq f (codes "-") || (bytes_eq f (codes "*") && (is_ground a || is_ground b)))

-- Sums, differences, negations, and products of which one operand holds no variable. Each subterm is narrow.
abbrev pub is_flat : ℕ → Term → Bool
is_flat M (Var x) = is_narrow M
is_flat M (Int z) = is_narrow (nat_abs z)
is_flat M (Atom a) = false
is_flat M (Comp f no_terms) = false
is_flat M (Comp f (term a no_terms)) = bytes_eq f (codes "-") && is_flat M a
is_flat M (Comp f (term a (term b no_terms))) = (is_flat M a && is_flat M b) && (is_operator f a b && is_narrow (width M (Comp f (term a (term b no_terms)))))
is_flat M (Comp f (term a (term b (term c ts)))) = false

-- both sides, and left minus right
abbrev pub is_flat_comparison : ℕ → Term → Term → Bool
is_flat_comparison M s t = (is_flat M s && is_flat M t) && is_narrow (width M s + width M t)

-- A flat comparison of at most 2^31 variables meets no fault.
abbrev pub FlatCompares : Type 0
FlatCompares =
    (M : ℕ) (r : Relation) (s t : Term) (n : ℕ) → 0 < M → IsTrue (is_flat_comparison M s t) → length (variables_of s) + length (variables_of t) ≤ 2 ^ 31
    → (x : Expansion) × (compare r s t n ≡ Ok x)

-- an open variable or an integer, and lists of them
abbrev pub is_place : Term → Bool
is_place (Var x) = true
is_place (Int z) = true
is_place _ = false

abbrev pub is_list_of : (Term → Bool) → Term → Bool
is_list_of test (Atom a) = bytes_eq a (codes "[]")
is_list_of test (Comp f (term h (term t no_terms))) = bytes_eq f (codes ".") && (test h && is_list_of test t)
is_list_of test _ = false

-- an integer in the place of a variable is at most the greatest value N of a variable
abbrev pub is_known_number : ℕ → Member → Bool
is_known_number N (Open x) = true
is_known_number N (Known z) = int_le (pos 0) z && int_le z (pos N)

-- the product of two variables is a variable or an integer up to N
abbrev pub is_flat_product : ℕ → ℕ → Option Product → Bool
is_flat_product M N None = false
is_flat_product M N (Some p) = is_known_number N p.result && is_narrow (M * M + M)

-- Without the product form the sides are flat.
abbrev pub is_flat_compare : ℕ → ℕ → Relation → Term → Term → Bool
is_flat_compare M N r s t = is_flat_product M N (product_form r s t) || is_flat_comparison M s t

-- The sums of a comparison that is told by a variable are narrow too.
abbrev pub is_told : ℕ → Option Relation → Term → Term → Bool
is_told M None s t = false
is_told M (Some r) s t = is_flat_comparison M s t && nat_lt (2 * (width M s + width M t) + 4) (2 ^ 63)

abbrev pub is_flat_told : ℕ → Term → Bool
is_flat_told M (Comp f (term s (term t no_terms))) = is_told M (relation_named f) s t
is_flat_told M _ = false

-- a flat constraint of the arguments, where N is the greatest value of a variable
abbrev pub is_flat_constraint : ℕ → ℕ → ConstraintKind → Terms → Bool
is_flat_constraint M N (Compare r) (term s (term t no_terms)) = is_flat_compare M N r s t
is_flat_constraint M N AllDifferent (term l no_terms) = is_list_of is_place l
is_flat_constraint M N Element (term i (term l (term x no_terms))) = is_place i && (is_list_of is_integer l && is_place x)
is_flat_constraint M N Atmost (term m (term l (term v no_terms))) = is_integer m && (is_list_of is_place l && is_integer v)
is_flat_constraint M N And (term x (term y (term z no_terms))) = is_place x && (is_place y && is_place z)
is_flat_constraint M N Or (term x (term y (term z no_terms))) = is_place x && (is_place y && is_place z)
is_flat_constraint M N Not (term x (term y no_terms)) = is_place x && is_place y
is_flat_constraint M N Reified (term b (term k no_terms)) = is_place b && is_flat_told M k
is_flat_constraint M N _ _ = false

-- each variable is seen as an open one, or as an integer of the universe
abbrev pub SeesNumbers : ℕ → (ℕ → Term) → Type 0
SeesNumbers M look = (x : ℕ) → ((y : ℕ) × (look x ≡ Var y)) ⊎ ((k : ℕ) × (k ≤ M) × (look x ≡ Int (pos k)))

-- A flat term is seen as one that is flat, no wider, and of no more variables.
pub record IsSeenFlat (M : ℕ) (t u : Term) : Type 0 where
  pub flat : IsTrue (is_flat M u)
  pub narrower : width M u ≤ width M t
  pub fewer : length (variables_of u) ≤ length (variables_of t)

abbrev pub FlatSeen : Type 0
FlatSeen = (M : ℕ) (look : ℕ → Term) (t : Term) → SeesNumbers M look → IsTrue (is_flat M t) → IsSeenFlat M t (apply look t)

-- Whatever numbers its variables are seen as, a flat constraint of at most 2^31 variables meets no fault.
abbrev pub FlatExpands : Type 0
FlatExpands =
    (M N : ℕ) (look : ℕ → Term) (kind : ConstraintKind) (ts : Terms) (n : ℕ) → 0 < M → N ≤ M → SeesNumbers M look → IsTrue (is_flat_constraint M N kind ts) → length (variables_of_all ts) ≤ 2 ^ 31
    → (x : Expansion) × (expand M kind (apply_all look ts) n ≡ Ok x)

-- The seen constraint says the same of an assignment that has the numbers which are seen.
abbrev pub SeenSatisfies : Type 0
SeenSatisfies =
    (M N : ℕ) (look : ℕ → Term) (kind : ConstraintKind) (ts : Terms) (a : Assignment) → SeesNumbers N look → ((x : ℕ) → worth a (look x) ≡ pos (a x)) → IsTrue (is_flat_constraint M N kind ts)
    → Satisfies N kind (apply_all look ts) a ↔ Satisfies N kind ts a
