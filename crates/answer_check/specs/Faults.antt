-- How a check ends whose report was cut short.
use Rattle.answer_check.specs.declared.outcome.CheckStatus.{CheckStatus}
use Rattle.answer_check.specs.declared.outcome.CheckStatus.TheVariants.{WriteFault, NoMemory}
use Rattle.answer_check.specs.declared.outcome.Fault.{Fault}
use Rattle.answer_check.specs.declared.outcome.Fault.TheVariants as fault

abbrev pub fault_status : Fault → CheckStatus
fault_status fault.WriteFault = WriteFault
fault_status fault.NoMemory = NoMemory
