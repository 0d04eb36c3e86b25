use Rattle.std.proofs.Common.{◌≡◌, ◌≤◌, take}
use Rattle.text_warnings.specs.Files.{file_of}
use Rattle.text_warnings.proofs.files.file_of.Given as goal

abbrev pub invariant-loop-start : goal.invariant-loop-start
invariant-loop-start l = record {
  count : l.file ≡ file_of (take l.start-index l.starts) l.fn.place;
  few : l.file ≤ l.start-index;
}
