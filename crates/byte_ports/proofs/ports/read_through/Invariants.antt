use Rattle.std.proofs.Common.{◌-◌, ◌≡◌, ◌≤◌, ◌<◌, length, vec_len}
use Rattle.byte_ports.specs.Ports.{Took}
use Rattle.byte_ports.proofs.ports.read_through.Given as goal

abbrev pub invariant-reading : goal.invariant-reading
invariant-reading g l = record {
  took : Took (g.S.Source.left l.fn.src) (g.S.Source.left l.src) l.text.items;
  size : vec_len l.text ≤ 16777216;
  room : 0 < length l.buf;
  kept : g.S.Source.faults l.src ≡ g.S.Source.faults l.fn.src;
}

abbrev pub decreases-reading : goal.decreases-reading
decreases-reading g l = 16777216 - vec_len l.text
