-- How places are reached.
use Rattle.std.specs.Prelude.{◌≡◌, ◌⊎◌, ◌↔◌, ℕ, suc, ◌<◌, IsTrue, List, length, slice_index_or, Option, Some, None}
use Rattle.fd_language.specs.Family.{has}
use Rattle.wam_code.specs.declared.instruction.Code.{Code}
use Rattle.wam_code.specs.declared.instruction.Code.TheVariants.{TryMeElse, RetryMeElse}
use Rattle.wam_code.specs.declared.parts.Entry.{Entry}
use Rattle.wam_code.specs.Area.{Span, Area, HasEntry, HasQuery}
use Rattle.wam_code.specs.VerifiedCode.{Names, NamesOther}
use Rattle.code_flow.specs.PlaceConditions.{IsLast}
use Rattle.code_text.specs.declared.place_predecessors.Namers.{Namers}
use Rattle.code_text.specs.declared.place_predecessors.Namers.TheVariants.{Nobody, One, More}
use Rattle.code_text.specs.declared.place_predecessors.Reach.{Reach}

-- the other part of a choice that an instruction names
abbrev pub other_of : Code → Option ℕ
other_of (TryMeElse to) = Some to
other_of (RetryMeElse to) = Some to
other_of _ = None

abbrev pub with_one : Namers → Namers
with_one Nobody = One
with_one One = More
with_one More = More

abbrev pub namers_at : List Namers → ℕ → Namers
namers_at ns p = slice_index_or ns p Nobody

-- of the places below k none, one or several name the place as the other part of a choice
abbrev pub AreNamers : Area → ℕ → ℕ → Namers → Type 0
AreNamers a k to Nobody = (n : ℕ) → n < k → ¬ NamesOther a n to
AreNamers a k to One = (n : ℕ) × (n < k) × NamesOther a n to × ((m : ℕ) → m < k → NamesOther a m to → m ≡ n)
AreNamers a k to More = (n : ℕ) × (m : ℕ) × (n < m) × NamesOther a n to × NamesOther a m to

-- a place below k names it in another way
abbrev pub IsNamedPlainly : Area → ℕ → ℕ → Type 0
IsNamedPlainly a k to = (at : ℕ) × (at < k) × Names a at to × ¬ NamesOther a at to

-- a predicate or a query begins at the place
abbrev pub IsStart : Area → ℕ → Type 0
IsStart a at = ((n : ℕ) × (e : Entry) × HasEntry a n e × (e.at ≡ at)) ⊎ ((n : ℕ) × (q : Span) × HasQuery a n q × (q.at ≡ at))

-- What is known of the code's places.
pub record IsReach (a : Area) (r : Reach) : Type 0 where
  pub namers : (p : ℕ) → p < length a.code → AreNamers a (length a.code) p (namers_at r.namers.items p)
  pub plain : (p : ℕ) → IsTrue (has r.plain.keys p) ↔ IsNamedPlainly a (length a.code) p
  pub starts : (p : ℕ) → IsTrue (has r.starts.keys p) ↔ IsStart a p
  pub lasts : (p : ℕ) → IsTrue (has r.ends.keys (suc p)) ↔ IsLast a p
