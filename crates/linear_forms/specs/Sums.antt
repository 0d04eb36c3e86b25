-- The sum that is kept, and what is done with it.
use Rattle.std.specs.Prelude.{◌≡◌, ℕ, Bool, true, false, ℤ, negsuc, ◌+ℤ◌, ◌*ℤ◌, nat_eq, nat_lt, List, Some, None, MatchResult, Result, Ok}
use Rattle.std.specs.List.{IsDistinct}
use Rattle.std.specs.Map.{keys_of, values_of}
use Rattle.fd_model.specs.declared.kinds.QueryFault.{QueryFault}
use Rattle.fd_model.specs.Linear as linear
use Rattle.fd_model.specs.Linear.{in_integers, is_within, times, of_one}
use Rattle.linear_forms.specs.declared.LinearFault.{LinearFault}
use Rattle.linear_forms.specs.declared.sums.Share.{Share}
use Rattle.linear_forms.specs.declared.sums.Sum.{Sum}
use Rattle.linear_forms.specs.LinearForm.{IsFaultOf}
use Rattle.linear_forms.specs.Shares.{share_at, together, scaled_share, open_count, coefficients, Rise}

-- negated at true
abbrev pub signed : Bool → Result linear.Sum QueryFault → Result linear.Sum QueryFault
signed true r = of_one (λ s. Ok (times (negsuc 0) s)) r
signed false r = r

-- The shares are those of s, whose variables first occur from lo on and before hi.
pub record IsSum (t : Sum) (s : linear.Sum) (lo hi : ℕ) : Type 0 where
  pub order : List (ℕ × Share)
  pub same : (x : ℕ) → share_at t.terms.entries x ≡ share_at order x
  pub unique : IsDistinct nat_eq (keys_of t.terms.entries)
  pub distinct : IsDistinct nat_eq (keys_of order)
  pub rise : Rise lo order hi
  pub products : coefficients order ≡ s.products
  pub constant : t.constant ≡ s.constant
  pub within : is_within s ≡ true

-- it is some sum
abbrev pub IsKept : Sum → Type 0
IsKept t = (s : linear.Sum) × (lo : ℕ) × (hi : ℕ) × IsSum t s lo hi

-- the sum that the definition gives, or its fault
abbrev pub Gives : Result linear.Sum QueryFault → ℕ → ℕ → Result Sum LinearFault → Type 0
Gives r lo hi result = MatchResult result (λ t. (s : linear.Sum) × (r ≡ Ok s) × IsSum t s lo hi) (λ f. IsFaultOf r f)

-- The new shares are those of both, and where both have one, it is an integer of the language.
pub record Adds (old other new : List (ℕ × Share)) : Type 0 where
  pub each : (x : ℕ) → share_at new x ≡ together (share_at old x) (share_at other x)
  pub inside : (x : ℕ) (u v : Share) → share_at old x ≡ Some u → share_at other x ≡ Some v → in_integers (u.coefficient +ℤ v.coefficient) ≡ true
  pub unique : IsDistinct nat_eq (keys_of old) → IsDistinct nat_eq (keys_of new)

-- a term of the other can be added: with what is there of its variable it is an integer of the language
pub record HasFitting (now other : List (ℕ × Share)) : Type 0 where
  pub variable : ℕ
  pub share : Share
  pub is : share_at other variable ≡ Some share
  pub fits : (u : Share) → share_at now variable ≡ Some u → in_integers (u.coefficient +ℤ share.coefficient) ≡ true

-- some coefficient of both is no integer of the language
pub record Exceeds (old other : List (ℕ × Share)) : Type 0 where
  pub variable : ℕ
  pub share : Share
  pub is : together (share_at old variable) (share_at other variable) ≡ Some share
  pub over : in_integers share.coefficient ≡ false

-- the terms and the constant of both, integers of the language, and at most so many variables
pub record AddsSum (most : ℕ) (old other new : Sum) : Type 0 where
  pub terms : Adds old.terms.entries other.terms.entries new.terms.entries
  pub constant : new.constant ≡ old.constant +ℤ other.constant
  pub inside : in_integers (old.constant +ℤ other.constant) ≡ true
  pub few : nat_lt most (open_count (values_of new.terms.entries)) ≡ false

-- a coefficient or the constant is no integer of the language, or the variables are too many
pub data ExceedsSum (most : ℕ) (old other : Sum) : Type 0 where
  over_terms : Exceeds old.terms.entries other.terms.entries → ExceedsSum most old other
  over_constant : in_integers (old.constant +ℤ other.constant) ≡ false → ExceedsSum most old other
  over_many : (new : List (ℕ × Share)) → Adds old.terms.entries other.terms.entries new → nat_lt most (open_count (values_of new)) ≡ true → ExceedsSum most old other

-- the shares times k, each an integer of the language
pub record Scales (k : ℤ) (old new : List (ℕ × Share)) : Type 0 where
  pub each : (x : ℕ) (v : Share) → share_at old x ≡ Some v → share_at new x ≡ Some (scaled_share k v)
  pub none : (x : ℕ) → share_at old x ≡ None → share_at new x ≡ None
  pub inside : (x : ℕ) (v : Share) → share_at old x ≡ Some v → in_integers (k *ℤ v.coefficient) ≡ true
  pub unique : IsDistinct nat_eq (keys_of new)

-- some coefficient times k is no integer of the language
pub record ScalesOver (k : ℤ) (old : List (ℕ × Share)) : Type 0 where
  pub variable : ℕ
  pub share : Share
  pub is : share_at old variable ≡ Some share
  pub over : in_integers (k *ℤ share.coefficient) ≡ false

-- the terms and the constant times k, within the limits
pub record Multiplies (k : ℤ) (old new : Sum) : Type 0 where
  pub terms : Scales k old.terms.entries new.terms.entries
  pub constant : new.constant ≡ k *ℤ old.constant
  pub inside : in_integers (k *ℤ old.constant) ≡ true

-- a coefficient or the constant times k is no integer of the language
pub data ExceedsTimes (k : ℤ) (old : Sum) : Type 0 where
  over_term : ScalesOver k old.terms.entries → ExceedsTimes k old
  over_constant_times : in_integers (k *ℤ old.constant) ≡ false → ExceedsTimes k old
