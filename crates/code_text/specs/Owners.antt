-- In which query each place is.
use Rattle.std.specs.Prelude.{◌≡◌, ◌⊎◌, ℕ, ◌<◌, Bool, true, false, List, length, slice_index_or, Option, Some, None}
use Rattle.wam_code.specs.declared.instruction.Code.{Code}
use Rattle.wam_code.specs.declared.instruction.Code.TheVariants.{Proceed, Execute}
use Rattle.wam_code.specs.Area.{Span, Area, HasQuery}
use Rattle.wam_code.specs.VerifiedCode.{Names, Falls, IsIn, HoldsOne}
use Rattle.code_text.specs.FaultPlaces.{IsTold}

-- the number of the query that a place is in, as it was found
abbrev pub owner_at : List (Option ℕ) → ℕ → Option ℕ
owner_at own p = slice_index_or own p None

-- the query with this number begins at the place, and isn't empty
abbrev pub BeginsAt : Area → ℕ → ℕ → Type 0
BeginsAt a n p = (q : Span) × HasQuery a n q × (q.at ≡ p) × (q.at < q.end)

-- Where the first k queries begin. Where two of them begin at one place, that is told.
pub record AreBegins (a : Area) (k : ℕ) (told : Option ℕ) (begins : List (Option ℕ)) : Type 0 where
  pub begin : (p n : ℕ) → owner_at begins p ≡ Some n → (n < k) × BeginsAt a n p
  pub found : (n : ℕ) (q : Span) → n < k → HasQuery a n q → q.at < q.end → q.at < length a.code → (owner_at begins q.at ≡ Some n) ⊎ IsTold told q.at
  pub some : (n : ℕ) (q : Span) → n < k → HasQuery a n q → q.at < q.end → q.at < length a.code → (m : ℕ) × (owner_at begins q.at ≡ Some m)

-- The queries of the places below k. Where queries share a place, they are told.
pub record AreOwners (a : Area) (k : ℕ) (told : Option ℕ) (own : List (Option ℕ)) : Type 0 where
  pub owner : (p n : ℕ) → owner_at own p ≡ Some n → (q : Span) × HasQuery a n q × IsIn q p
  pub found : (p n : ℕ) (q : Span) → p < k → HasQuery a n q → IsIn q p → (owner_at own p ≡ Some n) ⊎ IsTold told q.at
  pub first : (n : ℕ) (q : Span) → HasQuery a n q → q.at < q.end → q.at < k → (m : ℕ) × (owner_at own q.at ≡ Some m) × BeginsAt a m q.at

-- the query that goes on from the place before
pub record GoesOn (a : Area) (last : Option ℕ) (at : ℕ) (stays : Option ℕ) : Type 0 where
  pub query : (n : ℕ) → stays ≡ Some n → (q : Span) × (last ≡ Some n) × HasQuery a n q × (at < q.end)
  pub found : (n : ℕ) (q : Span) → last ≡ Some n → HasQuery a n q → at < q.end → stays ≡ Some n

-- a query's place is told, of which this is the owner
abbrev pub IsOwnersPlace : Area → Option ℕ → ℕ → Type 0
IsOwnersPlace a owner p = (n : ℕ) × (q : Span) × (owner ≡ Some n) × HasQuery a n q × (p ≡ q.at)

-- The query that the owner is, if there is one, is told.
abbrev pub IsOwnerTold : Area → Option ℕ → Option ℕ → Type 0
IsOwnerTold a owner told = (n : ℕ) (q : Span) → owner ≡ Some n → HasQuery a n q → IsTold told q.at

-- Each query that one of the two places is in and the other isn't is told.
pub record IsCrossing (a : Area) (own : List (Option ℕ)) (told : Option ℕ) (at to : ℕ) : Type 0 where
  pub from : (n : ℕ) (q : Span) → HasQuery a n q → owner_at own at ≡ Some n → ¬ (owner_at own to ≡ Some n) → IsTold told q.at
  pub into : (n : ℕ) (q : Span) → HasQuery a n q → owner_at own to ≡ Some n → ¬ (owner_at own at ≡ Some n) → IsTold told q.at

-- the place of a query that one of the two places is in and the other isn't
abbrev pub IsCrossed : Area → List (Option ℕ) → ℕ → ℕ → ℕ → Type 0
IsCrossed a own at to p = (¬ (owner_at own at ≡ owner_at own to)) × (IsOwnersPlace a (owner_at own at) p ⊎ IsOwnersPlace a (owner_at own to) p)

-- Proceed and Execute
abbrev pub leaves : Code → Bool
leaves Proceed = true
leaves (Execute e) = true
leaves _ = false

-- Each query is told that the instruction at the place leaves or enters, or that it returns from.
pub record AreCrossings (a : Area) (own : List (Option ℕ)) (told : Option ℕ) (at : ℕ) : Type 0 where
  pub names : (to : ℕ) → Names a at to → IsCrossing a own told at to
  pub falls : (to : ℕ) → Falls a at to → IsCrossing a own told at to
  pub leaving : HoldsOne a leaves at → IsOwnerTold a (owner_at own at) told
