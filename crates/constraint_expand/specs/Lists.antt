-- How the members of lists are read, and their variables.
use Rattle.std.specs.Prelude.{◌≡◌, ℕ, ◌<◌, ℤ, pos, FitsSigned, if◌then◌else◌, List, [], ◌∷◌, ◌++◌, length, slice_index_or, codes, Option, Some, None}
use Rattle.std.specs.Prelude.{MatchOption, MatchResult, Result, Ok, Err}
use Rattle.std.specs.Int.{w64}
use Rattle.std.specs.Str.{bytes_eq}
use Rattle.fd_language.specs.Term.{Term, Var, Int, Atom, Comp, no_terms, term}
use Rattle.fd_model.specs.declared.kinds.QueryFault.{QueryFault}
use Rattle.fd_model.specs.declared.kinds.QueryFault.TheVariants.{Instantiation, BadType}
use Rattle.fd_model.specs.Members as members
use Rattle.fd_model.specs.Members.{walk, place_of, after, placed, equated_from, fresh_after}
use Rattle.fd_model.specs.Linear.{of_one}
use Rattle.term_pool.specs.declared.TermId.{TermId}
use Rattle.term_pool.specs.Contents.{Contents}
use Rattle.term_pool.specs.Terms.{term_of, size}
use Rattle.fd_model.specs.declared.kinds.ListCause.{ListCause}
use Rattle.constraint_expand.specs.declared.members.Member.{Member}
use Rattle.constraint_expand.specs.declared.members.Member.TheVariants as member
use Rattle.constraint_expand.specs.declared.members.Placed.{Placed}
use Rattle.constraint_expand.specs.Faults.{cause_of}

abbrev pub member_of : Member → members.Member
member_of (member.Open x) = members.Open x
member_of (member.Known z) = members.Known z

-- what the definition reads, or what is wrong
abbrev pub Reads : {A B : Type 0} → (B → A) → Result A QueryFault → Result B ListCause → Type 0
Reads view d r = MatchResult r (λ b. d ≡ Ok (view b)) (λ c. d ≡ Err (cause_of c))

-- integers of 64 bits, each by its number
abbrev pub AreWords : List ℤ → Type 0
AreWords zs = (k : ℕ) → FitsSigned w64 (slice_index_or zs k (pos 0))

-- the head and the tail of a list, and none at its end
abbrev pub cell_of : Term → Result (Option (Term × Term)) QueryFault
cell_of (Var x) = Err Instantiation
cell_of (Int z) = Err BadType
cell_of (Atom a) = if bytes_eq a (codes "[]") then Ok None else Err BadType
cell_of (Comp f no_terms) = Err BadType
cell_of (Comp f (term h no_terms)) = Err BadType
cell_of (Comp f (term h (term t no_terms))) = if bytes_eq f (codes ".") then Ok (Some (h, t)) else Err BadType
cell_of (Comp f (term h (term t (term u us)))) = Err BadType

-- the head and the tail are terms of the pool, and the tail is smaller
pub record IsCell (c : Contents) (list head tail : TermId) : Type 0 where
  pub is : cell_of (term_of c list) ≡ Ok (Some (term_of c head, term_of c tail))
  pub head_within : head.number < length c.entries
  pub tail_within : tail.number < length c.entries
  pub smaller : size (term_of c tail) < size (term_of c list)

abbrev pub FindsCell : Contents → TermId → Result (Option (TermId × TermId)) ListCause → Type 0
FindsCell c list r = MatchResult r (λ o. MatchOption o (cell_of (term_of c list) ≡ Ok None) (λ p. IsCell c list p.0 p.1)) (λ w. cell_of (term_of c list) ≡ Err (cause_of w))

-- the variable of a member, equated with its integer
pub record Places (m : members.Member) (old new : Placed) : Type 0 where
  pub variables : new.variables.items ≡ old.variables.items ++ place_of old.fresh m ∷ []
  pub equated : new.equated.items ≡ old.equated.items ++ equated_from old.fresh (m ∷ [])
  pub fresh : new.fresh ≡ after old.fresh m

-- the variables of all members, where n is the next fresh number
pub record AllPlaced (n : ℕ) (ms : List members.Member) (p : Placed) : Type 0 where
  pub variables : p.variables.items ≡ placed n ms
  pub equated : p.equated.items ≡ equated_from n ms
  pub fresh : p.fresh ≡ fresh_after n ms

-- what is placed of the members, but those ahead
pub record Placing (n : ℕ) (ms : List members.Member) (p : Placed) (ahead : List members.Member) : Type 0 where
  pub variables : p.variables.items ++ placed p.fresh ahead ≡ placed n ms
  pub equated : p.equated.items ++ equated_from p.fresh ahead ≡ equated_from n ms
  pub fresh : fresh_after p.fresh ahead ≡ fresh_after n ms

-- What is read of the list so far, and the rest of the list.
pub record Walking {A : Type 0} (read : Term → Result A QueryFault) (c : Contents) (list rest : TermId) (done : List A) : Type 0 where
  pub within : rest.number < length c.entries
  pub is : of_one (λ xs. Ok (done ++ xs)) (walk read (term_of c rest)) ≡ walk read (term_of c list)
