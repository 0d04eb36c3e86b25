-- The first offence for each wish.
use Rattle.std.specs.Prelude.{Option}
use Rattle.fd_language.specs.declared.range_node.Offence.{Offence}
use Rattle.fd_language.specs.Check.{Wish, Rising, Falling, Constant}
use Rattle.monotone_check.specs.declared.offences.Wishes.{Wishes}

abbrev pub by_wish : Wishes → Wish → Option Offence
by_wish s Rising = s.rising
by_wish s Falling = s.falling
by_wish s Constant = s.constant
