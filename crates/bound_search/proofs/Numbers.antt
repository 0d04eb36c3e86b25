-- The least number of a rising list from one on, where there is one.
use Rattle.std.proofs.Common.{◌≡◌, ℕ, ◌+◌, ◌≤◌, ◌==◌, nat_le, List, [], ◌∷◌, filter, ◌∙◌}
use Rattle.std.proofs.Common.{Option, Some, None, MatchOption, IfSome, IsTrue}
use Rattle.fd_language.specs.declared.TheConstants.{INFINITY}
use Rattle.fd_language.proofs.Lemmas.{has_high}
use Rattle.fd_language.specs.Family.{has, IsRising}
use Rattle.fd_language.specs.Range.{least}
use Rattle.domain_ranges.proofs.Lemmas.{values_step}

-- the same of the least number from n on, where there is one
pub next_some : (xs : List ℕ) (n : ℕ) (r : Option ℕ) → MatchOption r (filter (λ k. nat_le n k) xs ≡ []) (λ m. m ≡ least (filter (λ k. nat_le n k) xs))
    → IfSome r (λ m. n ≤ m) → IfSome r (λ m. IsTrue (has xs m)) → IsRising 0 INFINITY xs
    → IfSome r (λ v. filter (λ k. nat_le n k) xs ≡ v ∷ filter (λ k. nat_le (v + 1) k) xs)
next_some xs n None a b c d = tt
next_some xs n (Some v) a b c d = values_step 0 INFINITY n v xs d c b a

pub next_few : (xs : List ℕ) (r : Option ℕ) → IfSome r (λ m. IsTrue (has xs m)) → IsRising 0 INFINITY xs → IfSome r (λ v. v ≤ INFINITY)
next_few xs None c d = tt
next_few xs (Some v) c d = has_high 0 INFINITY xs v d c
