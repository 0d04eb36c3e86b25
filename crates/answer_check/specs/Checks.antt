-- What a kept constraint says of an assignment.
use Rattle.std.specs.Prelude.{◌≡◌, ℕ, suc, ◌≤◌, ℤ, pos, ◌≤ℤ◌, true, List, [], ◌∷◌, Option, None, Some, ◌⊎◌}
use Rattle.fd_language.specs.declared.TheConstants.{INFINITY}
use Rattle.fd_language.specs.Range.{Range, Span}
use Rattle.fd_model.specs.declared.kinds.Relation.{Relation}
use Rattle.fd_model.specs.Satisfaction.{Assignment, Holds, IsNumber, AreNumbers, AreDifferent, IsElement, occurrences}
use Rattle.answer_check.specs.declared.goals.Constraint.{Constraint}
use Rattle.answer_check.specs.declared.goals.Constraint.TheVariants.{Post, Compare, AllDifferent, Element, Atmost}
use Rattle.answer_check.specs.declared.members.Member.{Member}
use Rattle.answer_check.specs.Members.{worth_of, worths_of}
use Rattle.answer_check.specs.OperandStack.{value_by, is_in, RangeFits}

-- the integer is a number of the universe that lies in the range
pub record IsInside (a : Assignment) (z : ℤ) (r : Range) : Type 0 where
  pub number : ℕ
  pub within : number ≤ INFINITY
  pub is : z ≡ pos number
  pub inside : is_in a number r ≡ true

-- the relation holds of the two ends of an interval
abbrev pub EndsHold : Assignment → Relation → Range → Type 0
EndsHold a rel (Span s t) = Holds rel (value_by a s) (value_by a t)
EndsHold a rel r = ⊥

-- numbers of the universe that are pairwise different
abbrev pub AreAllDifferent : Assignment → List Member → Type 0
AreAllDifferent a ms = AreNumbers INFINITY (worths_of a ms) × AreDifferent (worths_of a ms)

-- the index and the element are numbers of the universe, and the element has that index
abbrev pub HasElement : Assignment → Member → List Member → Member → Type 0
HasElement a i ms x = IsNumber INFINITY (worth_of a i) × IsNumber INFINITY (worth_of a x) × IsElement 1 (worths_of a ms) (worth_of a i) (worth_of a x)

-- numbers of the universe, of which at most n are v
abbrev pub HasAtMost : Assignment → Member → List Member → Member → Type 0
HasAtMost a n ms v = AreNumbers INFINITY (worths_of a ms) × (pos (occurrences (worths_of a ms) (worth_of a v)) ≤ℤ worth_of a n)

abbrev pub Meets : Assignment → Constraint → Type 0
Meets a (Post m r) = IsInside a (worth_of a m) r
Meets a (Compare rel r) = EndsHold a rel r
Meets a (AllDifferent ms) = AreAllDifferent a ms.items
Meets a (Element i ms x) = HasElement a i ms.items x
Meets a (Atmost n ms v) = HasAtMost a n ms.items v

-- numbers of the universe
abbrev pub IsBounded : Assignment → Type 0
IsBounded a = (x : ℕ) → a x ≤ INFINITY

-- an interval whose ends may be evaluated
abbrev pub EndsFit : Assignment → Range → Type 0
EndsFit a (Span s t) = RangeFits a (Span s t)
EndsFit a r = ⊥

-- what may be evaluated under each assignment of numbers
abbrev pub CanCheck : Constraint → Type 0
CanCheck (Post m r) = (a : Assignment) → IsBounded a → RangeFits a r
CanCheck (Compare rel r) = (a : Assignment) → IsBounded a → EndsFit a r
CanCheck k = Unit {0}

-- the number of the first constraint that an assignment breaks, where the first one has the number n
abbrev pub AreFirstBroken : Assignment → ℕ → List Constraint → Option ℕ → Type 0
AreFirstBroken a n [] o = o ≡ None
AreFirstBroken a n (k ∷ ks) o =
    (Meets a k × AreFirstBroken a (suc n) ks o)
    ⊎ ((Meets a k → ⊥) × (o ≡ Some n))
