-- What the parts of a run say.
use Rattle.std.specs.Prelude.{◌≡◌}
use Rattle.fd_model.specs.declared.Status.{Status}
use Rattle.fd_model.specs.declared.Status.TheVariants.{NoMemory}
use Rattle.byte_ports.specs.Ends.{SinkState}

-- memory was wanting before the first byte was written
abbrev pub IsShort : SinkState → SinkState → Status → Type 0
IsShort old new result = (result ≡ NoMemory) × (new ≡ old)
