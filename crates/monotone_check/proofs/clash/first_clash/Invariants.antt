use Rattle.std.proofs.Common.{◌≡◌, ℕ, get_or, drop, List, []}
use Rattle.fd_language.specs.RangeVerdict.{clashes, first, earlier}
use Rattle.monotone_check.specs.MetVariables.{AreSeen}
use Rattle.monotone_check.proofs.clash.first_clash.Given as goal

abbrev pub invariant-loop-number : goal.invariant-loop-number
invariant-loop-number l = (ps : List ℕ) × (ys : List ℕ) × AreSeen ps l.uses.parameters.keys × AreSeen ys l.uses.named.keys
    × (earlier l.clash (first (clashes (λ n. get_or l.places n 0) l.number ps ys (drop l.number l.nodes))) ≡ first (clashes (λ n. get_or l.places n 0) 0 [] [] l.nodes))
