use Rattle.std.proofs.Common.{◌≡◌, ◌<◌, ◌≤◌, ◌+◌, ◌-◌, ◌++◌, ℕ, length, map, take, get_or}
use Rattle.text_warnings.specs.declared.Warning.{Warning}
use Rattle.text_warnings.specs.WarningViews.{warning_in}
use Rattle.clpwhere.specs.Cursors.{IsCursor}
use Rattle.clpwhere.specs.Files.{file_place}
use Rattle.clpwhere.specs.WarnedLines.{warned_lines}
use Rattle.clpwhere.proofs.warnings.put_told.Given as goal

abbrev pub invariant-loop-warning : goal.invariant-loop-warning
invariant-loop-warning l = record {
  out : l.out.items ≡ l.initial.out.items ++ warned_lines l.files (map (warning_in l.pool) (take l.warning-index l.warnings));
  cursor : IsCursor l.at;
  behind : (p : ℕ) → l.at.begin + l.at.place ≤ p → file_place l.files p ≡ file_place l.at.files.now (p - l.at.begin);
  order : (d : Warning) → l.warning-index < length l.warnings → l.at.begin + l.at.place ≤ (get_or l.warnings l.warning-index d).place;
}
