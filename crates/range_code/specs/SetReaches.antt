-- What numbers tell of a set.
use Rattle.std.specs.Prelude.{◌≡◌, ℕ, List}
use Rattle.fd_language.specs.declared.TheConstants.{INFINITY}
use Rattle.fd_language.specs.Family.{universe}
use Rattle.domain_ranges.specs.Narrowing.{between, all_but}
use Rattle.range_code.specs.declared.Reach.{Reach}
use Rattle.range_code.specs.declared.Reach.TheVariants.{All, Between, Except, Other}

-- the set is what is told
abbrev pub IsReach : List ℕ → Reach → Type 0
IsReach set All = set ≡ universe INFINITY
IsReach set (Between a b) = set ≡ between a b
IsReach set (Except n) = set ≡ all_but n
IsReach set Other = Unit {0}
