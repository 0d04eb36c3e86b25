use Rattle.std.proofs.Common.{◌≡◌, ◌++◌, take, string_bytes}
use Rattle.clpwhere.specs.Places.{shown_characters}
use Rattle.clpwhere.proofs.explanations.put_shown.Given as goal

abbrev pub invariant-loop-character : goal.invariant-loop-character
invariant-loop-character l = string_bytes l.shown ≡ string_bytes l.fn.shown ++ shown_characters (take l.character-index l.characters)
