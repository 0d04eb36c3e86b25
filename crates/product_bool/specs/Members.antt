-- How arguments are read, and their variables.
use Rattle.std.specs.Prelude.{◌≡◌, [], ◌∷◌, ◌++◌, MatchResult, Result, Ok, Err}
use Rattle.fd_model.specs.declared.kinds.QueryFault.{QueryFault}
use Rattle.fd_model.specs.declared.kinds.ListCause.{ListCause}
use Rattle.fd_model.specs.Members as members
use Rattle.fd_model.specs.Members.{after, equated_from}
use Rattle.product_bool.specs.declared.members.Member.{Member}
use Rattle.product_bool.specs.declared.members.Member.TheVariants as member
use Rattle.product_bool.specs.declared.members.Placed.{Placed}
use Rattle.product_bool.specs.Faults.{cause_of}

abbrev pub member_of : Member → members.Member
member_of (member.Open x) = members.Open x
member_of (member.Known z) = members.Known z

-- what the definition reads, or what is wrong
abbrev pub Reads : Result members.Member QueryFault → Result Member ListCause → Type 0
Reads d r = MatchResult r (λ m. d ≡ Ok (member_of m)) (λ c. d ≡ Err (cause_of c))

-- the variable of a member, equated with its integer
pub record Places (m : members.Member) (old new : Placed) : Type 0 where
  pub equated : new.equated.items ≡ old.equated.items ++ equated_from old.fresh (m ∷ [])
  pub fresh : new.fresh ≡ after old.fresh m
