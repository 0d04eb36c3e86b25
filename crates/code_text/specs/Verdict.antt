-- What code that isn't verified is refused for.
use Rattle.wam_code.specs.Area.{State, Area}
use Rattle.std.specs.Prelude.{List}
use Rattle.code_text.specs.declared.verification.VerifyFault.{VerifyFault}
use Rattle.code_text.specs.declared.verification.VerifyFault.TheVariants.{NotVerified, NoMemory}
use Rattle.code_flow.specs.PlaceConditions.{IsFirstFailing}

-- The place is the smallest at which a condition fails. Want of memory says nothing.
abbrev pub IsVerifyFault : Area → List State → VerifyFault → Type 0
IsVerifyFault a ss (NotVerified p) = IsFirstFailing a ss p
IsVerifyFault a ss NoMemory = Unit {0}
