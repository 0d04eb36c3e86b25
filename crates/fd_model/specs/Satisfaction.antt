-- When an assignment satisfies a constraint.
use Rattle.std.specs.Prelude.{◌≡◌, ℕ, suc, ◌≤◌, if◌then◌else◌, IsTrue, ℤ, pos, ◌+ℤ◌, ◌-ℤ◌, ◌*ℤ◌, ◌≤ℤ◌, ◌<ℤ◌, neg_ℤ, List, [], ◌∷◌, codes, Option, Some, None}
use Rattle.std.specs.Prelude.{◌⊎◌}
use Rattle.std.specs.Ordering.{int_eq}
use Rattle.std.specs.Str.{bytes_eq}
use Rattle.fd_model.specs.declared.kinds.Relation.{Relation}
use Rattle.fd_model.specs.declared.kinds.Relation.TheVariants.{Equal, Differ, Less, AtMost, Greater, AtLeast}
use Rattle.fd_model.specs.declared.kinds.ConstraintKind.{ConstraintKind}
use Rattle.fd_model.specs.declared.kinds.ConstraintKind.TheVariants.{Compare, AllDifferent, Element, Atmost, And, Or, Not, Reified}
use Rattle.fd_language.specs.Term.{Term, Terms, Var, Int, Atom, Comp, no_terms, term, Name}
use Rattle.fd_language.specs.Family.{Family, has}
use Rattle.fd_language.specs.Range.{Range, set_of}
use Rattle.fd_model.specs.Members.{Member, Open, Known}
use Rattle.fd_model.specs.ProductRows.{Product, product_form}
use Rattle.fd_model.specs.ReifiedRows.{relation_named}

-- a number for each variable
abbrev pub Assignment : Type 0
Assignment = ℕ → ℕ

-- the family in which each variable has its one value
abbrev pub singles : Assignment → Family
singles a x = a x ∷ []

abbrev pub operation : Name → ℤ → ℤ → ℤ
operation f x y = if bytes_eq f (codes "+") then x +ℤ y else if bytes_eq f (codes "-") then x -ℤ y else x *ℤ y

-- the whole number that a term of +, - and * is
abbrev pub worth : Assignment → Term → ℤ
worth a (Var x) = pos (a x)
worth a (Int z) = z
worth a (Atom b) = pos 0
worth a (Comp f no_terms) = pos 0
worth a (Comp f (term s no_terms)) = neg_ℤ (worth a s)
worth a (Comp f (term s (term t no_terms))) = operation f (worth a s) (worth a t)
worth a (Comp f (term s (term t (term u us)))) = pos 0

abbrev pub Holds : Relation → ℤ → ℤ → Type 0
Holds Equal x y = x ≡ y
Holds Differ x y = x ≡ y → ⊥
Holds Less x y = x <ℤ y
Holds AtMost x y = x ≤ℤ y
Holds Greater x y = y <ℤ x
Holds AtLeast x y = y ≤ℤ x

-- the numbers that the members of a list are
abbrev pub worths : Assignment → Term → List ℤ
worths a (Comp f (term h (term t no_terms))) = worth a h ∷ worths a t
worths a _ = []

-- a number up to M
pub record IsNumber (M : ℕ) (z : ℤ) : Type 0 where
  pub number : ℕ
  pub within : number ≤ M
  pub is : z ≡ pos number

abbrev pub AreNumbers : ℕ → List ℤ → Type 0
AreNumbers M [] = Unit {0}
AreNumbers M (z ∷ zs) = IsNumber M z × AreNumbers M zs

abbrev pub IsNone : ℤ → List ℤ → Type 0
IsNone z [] = Unit {0}
IsNone z (y ∷ ys) = (z ≡ y → ⊥) × IsNone z ys

-- pairwise different
abbrev pub AreDifferent : List ℤ → Type 0
AreDifferent [] = Unit {0}
AreDifferent (z ∷ zs) = IsNone z zs × AreDifferent zs

-- k is the number of an element that is z, where the first has the number n
abbrev pub IsElement : ℕ → List ℤ → ℤ → ℤ → Type 0
IsElement n [] k z = ⊥
IsElement n (y ∷ ys) k z = ((k ≡ pos n) × (z ≡ y)) ⊎ IsElement (suc n) ys k z

-- how many of them are z
abbrev pub occurrences : List ℤ → ℤ → ℕ
occurrences [] z = 0
occurrences (y ∷ ys) z = if int_eq y z then suc (occurrences ys z) else occurrences ys z

-- T in r, for a range without parameters, where N is the greatest value of a variable
pub record InRange (M N : ℕ) (a : Assignment) (t : Term) (r : Range) : Type 0 where
  pub number : ℕ
  pub within : number ≤ N
  pub is : worth a t ≡ pos number
  pub inside : IsTrue (has (set_of M (singles a) r) number)

-- an integer in the place of a variable is a number up to M
abbrev pub IsKnownNumber : ℕ → Member → Type 0
IsKnownNumber M (Open x) = Unit {0}
IsKnownNumber M (Known z) = IsNumber M z

-- so is the result of a product form
abbrev pub HasResult : ℕ → Option Product → Type 0
HasResult M None = Unit {0}
HasResult M (Some p) = IsKnownNumber M p.result

-- 0 or 1
abbrev pub IsBit : ℤ → Type 0
IsBit z = (z ≡ pos 0) ⊎ (z ≡ pos 1)

-- z is 1 where P is true, and 0 where it isn't
abbrev pub Tells : Type 0 → ℤ → Type 0
Tells P z = (P × (z ≡ pos 1)) ⊎ ((P → ⊥) × (z ≡ pos 0))

-- z tells whether the comparison is true
abbrev pub TellsRelation : Option Relation → ℤ → ℤ → ℤ → Type 0
TellsRelation None x y z = ⊥
TellsRelation (Some r) x y z = Tells (Holds r x y) z

abbrev pub TellsTerm : Assignment → Term → ℤ → Type 0
TellsTerm a (Comp f (term s (term t no_terms))) z = TellsRelation (relation_named f) (worth a s) (worth a t) z
TellsTerm a _ z = ⊥

-- A constraint of the arguments. The integers among the members and in the place of a variable are at most the greatest value of a variable.
abbrev pub Satisfies : ℕ → ConstraintKind → Terms → Assignment → Type 0
Satisfies M (Compare r) (term s (term t no_terms)) a = HasResult M (product_form r s t) × Holds r (worth a s) (worth a t)
Satisfies M AllDifferent (term l no_terms) a = AreNumbers M (worths a l) × AreDifferent (worths a l)
Satisfies M Element (term i (term l (term x no_terms))) a = IsNumber M (worth a i) × IsNumber M (worth a x) × IsElement 1 (worths a l) (worth a i) (worth a x)
Satisfies M Atmost (term n (term l (term v no_terms))) a = AreNumbers M (worths a l) × (pos (occurrences (worths a l) (worth a v)) ≤ℤ worth a n)
Satisfies M And (term x (term y (term z no_terms))) a = IsBit (worth a x) × IsBit (worth a y) × Tells ((worth a x ≡ pos 1) × (worth a y ≡ pos 1)) (worth a z)
Satisfies M Or (term x (term y (term z no_terms))) a = IsBit (worth a x) × IsBit (worth a y) × Tells ((worth a x ≡ pos 1) ⊎ (worth a y ≡ pos 1)) (worth a z)
Satisfies M Not (term x (term y no_terms)) a = IsNumber M (worth a x) × IsNumber M (worth a y) × ((worth a x +ℤ worth a y) ≡ pos 1)
Satisfies M Reified (term b (term k no_terms)) a = TellsTerm a k (worth a b)
Satisfies M _ _ a = ⊥
