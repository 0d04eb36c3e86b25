-- What instructions of choices and of pieces are not.
use Rattle.std.proofs.Common.{◌⊎◌, ℕ, IsTrue, refl, inl, inr}
use Rattle.clause_compiler.proofs.Lists.{never}
use Rattle.wam_code.specs.declared.instruction.Code.{Code}
use Rattle.wam_code.specs.declared.instruction.Code.TheVariants.{Jump, FailNow, AnswerNow, TryMeElse, RetryMeElse, TrustMe, Try, Retry, Trust, SwitchOnTerm}
use Rattle.wam_code.specs.declared.instruction.Code.TheVariants.{SwitchOnConstant, SwitchOnInteger, SwitchOnStructure}
use Rattle.wam_code.specs.VerifiedCode.{goes_on, is_other, is_before, is_behind}
use Rattle.clause_code.specs.SafeCode.{is_plain}
use Rattle.clause_compiler.specs.Layout.{is_switch, is_listing, is_first}

-- a choice or a switch
abbrev pub Chooses : Code → Type 0
Chooses i = IsTrue (is_switch i) ⊎ IsTrue (is_listing i)

pub listing_falls : (i : Code) → Chooses i → IsTrue (goes_on i) → IsTrue (is_before i)
listing_falls (Try to) h g = refl
listing_falls (Retry to) h g = refl
listing_falls (Jump to) h g = never g
listing_falls FailNow h g = never g
listing_falls (Trust to) h g = never g
listing_falls (SwitchOnTerm v c i s) h g = never g
listing_falls (SwitchOnConstant t) h g = never g
listing_falls (SwitchOnInteger t) h g = never g
listing_falls (SwitchOnStructure t) h g = never g
listing_falls _ (inl h) g = never h
listing_falls _ (inr h) g = never h

-- Neither has a chain of choices.
pub choice_no_other : (i : Code) → Chooses i → IsTrue (is_other i) → ⊥
choice_no_other (RetryMeElse to) (inl h) g = never h
choice_no_other (RetryMeElse to) (inr h) g = never h
choice_no_other TrustMe (inl h) g = never h
choice_no_other TrustMe (inr h) g = never h
choice_no_other _ h g = never g

pub plain_no_other : (i : Code) → IsTrue (is_plain i) → IsTrue (is_other i) → ⊥
plain_no_other (RetryMeElse to) h g = never h
plain_no_other TrustMe h g = never h
plain_no_other _ h g = never g

pub no_try_me : (to : ℕ) → Chooses (TryMeElse to) ⊎ IsTrue (is_plain (TryMeElse to)) → ⊥
no_try_me to (inl (inl h)) = never h
no_try_me to (inl (inr h)) = never h
no_try_me to (inr h) = never h

pub no_retry_me : (to : ℕ) → Chooses (RetryMeElse to) ⊎ IsTrue (is_plain (RetryMeElse to)) → ⊥
no_retry_me to (inl (inl h)) = never h
no_retry_me to (inl (inr h)) = never h
no_retry_me to (inr h) = never h

-- Pieces have no list.
pub plain_not_before : (i : Code) → IsTrue (is_plain i) → IsTrue (is_before i) → ⊥
plain_not_before (Try to) h g = never h
plain_not_before (Retry to) h g = never h
plain_not_before _ h g = never g

pub plain_not_behind : (i : Code) → IsTrue (is_plain i) → IsTrue (is_behind i) → ⊥
plain_not_behind (Retry to) h g = never h
plain_not_behind (Trust to) h g = never h
plain_not_behind _ h g = never g

-- Choices have no end of a clause and no answer.
pub choice_no_answer : Chooses AnswerNow → ⊥
choice_no_answer (inl h) = never h
choice_no_answer (inr h) = never h

pub first_not_behind : (i : Code) → IsTrue (is_first i) → IsTrue (is_behind i) → ⊥
first_not_behind (Retry to) h g = never h
first_not_behind (Trust to) h g = never h
first_not_behind _ h g = never g
