use Rattle.std.proofs.Common.{◌≡◌, take}
use Rattle.clpwhere.specs.Files.{begins, joined}
use Rattle.clpwhere.proofs.files.join.Given as goal

abbrev pub invariant-loop-file : goal.invariant-loop-file
invariant-loop-file l = record {
  bytes : l.bytes.items ≡ joined (take l.file-index l.files);
  begins : l.begins.items ≡ begins (take l.file-index l.files);
}
