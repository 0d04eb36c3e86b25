-- How a split constraint is seen.
use Rattle.std.specs.Prelude.{◌≡◌, map, Option, Some, None, MatchOption, MatchResult, Result, Ok, Err}
use Rattle.fd_model.specs.declared.kinds.QueryFault.{QueryFault}
use Rattle.fd_model.specs.Splitting as splitting
use Rattle.linear_forms.specs.LinearForm.{form_of}
use Rattle.product_bool.specs.declared.parts.Split.{Split}
use Rattle.product_bool.specs.declared.faults.SplitFault.{SplitFault}
use Rattle.product_bool.specs.declared.faults.SplitFault.TheVariants as fault
use Rattle.product_bool.specs.Faults.{fault_of, IsFaultOf}
use Rattle.product_bool.specs.Posts.{indexicals}

abbrev pub parts_of : Split → splitting.Split
parts_of s = record { equated = s.equated.items; ranges = indexicals s.list.items; sums = map form_of s.sums.items; fresh = s.added }

-- the parts that the definition gives, or its fault
abbrev pub Gives : Result splitting.Split QueryFault → Result Split SplitFault → Type 0
Gives d r = MatchResult r (λ s. d ≡ Ok (parts_of s)) (IsFaultOf d)

-- the same where the definition splits the constraint, and none where it doesn't
abbrev pub Splits : Option (Result splitting.Split QueryFault) → Result (Option Split) SplitFault → Type 0
Splits d r = MatchResult r (λ o. MatchOption o (d ≡ None) (λ s. d ≡ Some (Ok (parts_of s)))) (λ f. MatchOption (fault_of f) (f ≡ fault.NoMemory) (λ q. d ≡ Some (Err q)))
