use Rattle.std.proofs.Common.{◌≡◌, map, take, string_bytes}
use Rattle.clpwhere.proofs.command.read_files.Given as goal

abbrev pub invariant-loop-name : goal.invariant-loop-name
invariant-loop-name g l = map (λ f. f.name) l.files.items ≡ map string_bytes (take l.name-index l.names)
