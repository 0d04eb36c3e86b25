-- What a refusal says of the verdict.
use Rattle.std.specs.Prelude.{◌≡◌, Option, Some}
use Rattle.fd_language.specs.declared.range_node.Offence.{Offence}
use Rattle.fd_language.specs.declared.range_node.Offence.TheVariants as offence
use Rattle.monotone_check.specs.declared.CheckFault.{CheckFault}
use Rattle.monotone_check.specs.declared.CheckFault.TheVariants.{NotMonotone, NotNatural, BadDivisor, TooWide, NoMemory}

-- The fault is the offence that the verdict gives. Of want of memory nothing is said.
abbrev pub IsFaultOf : Option Offence → CheckFault → Type 0
IsFaultOf verdict (NotMonotone p) = verdict ≡ Some (offence.NotMonotone p)
IsFaultOf verdict (NotNatural p) = verdict ≡ Some (offence.NotNatural p)
IsFaultOf verdict (BadDivisor p) = verdict ≡ Some (offence.BadDivisor p)
IsFaultOf verdict (TooWide p) = verdict ≡ Some (offence.TooWide p)
IsFaultOf verdict NoMemory = Unit {0}
