-- What a sum has of each variable: its coefficient, and the number of its first occurrence.
use Rattle.std.specs.Prelude.{◌≡◌, ℕ, suc, ◌≤◌, min, Bool, true, false, ℤ, pos, negsuc, ◌+ℤ◌, ◌*ℤ◌, nat_eq, if◌then◌else◌, List, [], ◌∷◌, Option, Some, None}
use Rattle.std.specs.Prelude.{MatchOption, MatchResult, Result}
use Rattle.std.specs.Map.{lookup}
use Rattle.std.specs.Ordering.{int_eq}
use Rattle.fd_model.specs.Linear.{in_integers}
use Rattle.linear_forms.specs.declared.LinearFault.{LinearFault}
use Rattle.linear_forms.specs.declared.LinearFault.TheVariants as fault
use Rattle.linear_forms.specs.declared.sums.Share.{Share}

-- -1 at true
abbrev pub sign_of : Bool → ℤ
sign_of true = negsuc 0
sign_of false = pos 1

-- the integer with this value, or none where that is no integer of the language
abbrev pub IsWithin : ℤ → Option ℤ → Type 0
IsWithin z r = MatchOption r (in_integers z ≡ false) (λ y. (y ≡ z) × (in_integers z ≡ true))

-- what two sums have of the same variable
abbrev pub both : Share → Share → Share
both s t = record { coefficient = s.coefficient +ℤ t.coefficient; first = min s.first t.first }

-- k times the coefficient
abbrev pub scaled_share : ℤ → Share → Share
scaled_share k s = record { coefficient = k *ℤ s.coefficient; first = s.first }

-- the share, or none where its coefficient is no integer of the language
abbrev pub IsShare : Share → Option Share → Type 0
IsShare s r = MatchOption r (in_integers s.coefficient ≡ false) (λ t. (t ≡ s) × (in_integers s.coefficient ≡ true))

-- the share of a variable
abbrev pub share_at : List (ℕ × Share) → ℕ → Option Share
share_at es x = lookup (nat_eq x) es

-- the shares of a variable in two sums
abbrev pub together : Option Share → Option Share → Option Share
together None t = t
together (Some s) None = Some s
together (Some s) (Some t) = Some (both s t)

-- The share with one more added, where there was one, or none where its coefficient is no integer of the language.
abbrev pub IsWhole : Option Share → Share → Option Share → Type 0
IsWhole None s r = r ≡ Some s
IsWhole (Some known) s r = IsShare (both known s) r

-- how many coefficients aren't 0
abbrev pub open_count : List Share → ℕ
open_count [] = 0
open_count (s ∷ ss) = if int_eq s.coefficient (pos 0) then open_count ss else suc (open_count ss)

-- the coefficients
abbrev pub coefficients : List (ℕ × Share) → List (ℕ × ℤ)
coefficients [] = []
coefficients (e ∷ es) = (e.0, e.1.coefficient) ∷ coefficients es

-- each variable occurs first behind those before it, from the occurrence lo on and before hi
abbrev pub Rise : ℕ → List (ℕ × Share) → ℕ → Type 0
Rise lo [] hi = lo ≤ hi
Rise lo (e ∷ es) hi = (lo ≤ e.1.first) × Rise (suc e.1.first) es hi

-- A fault of an overflow that P tells, or want of memory.
abbrev pub OverflowsBy : Type 0 → LinearFault → Type 0
OverflowsBy P fault.Nonlinear = ⊥
OverflowsBy P fault.NotANumber = ⊥
OverflowsBy P fault.Overflow = P
OverflowsBy P fault.NoMemory = Unit {0}

-- what there is, or an overflow where there is nothing
abbrev pub IsOrOverflow : {A : Type 0} → Option A → Result A LinearFault → Type 0
IsOrOverflow found r = MatchResult r (λ value. found ≡ Some value) (λ f. (f ≡ fault.Overflow) × (found ≡ None))

-- an overflow exactly where there are too many
abbrev pub HasFew : Bool → Result (Unit {0}) LinearFault → Type 0
HasFew too_many r = MatchResult r (λ _. too_many ≡ false) (λ f. (f ≡ fault.Overflow) × (too_many ≡ true))
