-- Events that show no term.
use Rattle.std.specs.Prelude.{Bool, true, false}
use Rattle.machine_events.specs.declared.MachineEvent.{MachineEvent}
use Rattle.machine_events.specs.declared.MachineEvent.TheVariants.{Write, Answer}

-- the event is neither an answer nor what a goal writes of a term
abbrev pub is_fixed : MachineEvent → Bool
is_fixed (Write s) = false
is_fixed (Answer s) = false
is_fixed _ = true
