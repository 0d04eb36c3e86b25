-- The verdict on a whole range, from what is kept of it.
use Rattle.std.proofs.Common.{◌≡◌, ℕ, ◌-◌, true, false, List, [], ◌++◌, get_or, Option, Some, None, refl, sym, ◌∙◌, ap, subst}
use Rattle.std.specs.Prelude.{is_some}
use Rattle.std.proofs.lemmas.Bool.{true≢false}
use Rattle.fd_language.specs.declared.range_node.RangeNode.{RangeNode}
use Rattle.fd_language.specs.declared.range_node.Offence.{Offence}
use Rattle.fd_language.specs.declared.TheConstants.{INFINITY}
use Rattle.fd_language.specs.Range.{Range}
use Rattle.fd_language.specs.PostfixRanges.{nodes_of, spelled_range, spelled_range-nodes}
use Rattle.fd_language.specs.RangeVerdict.{range_size, wide_in_range, range_offences, clashes, earlier, first, width_first, verdict, range_within}
use Rattle.fd_language.proofs.Lemmas.{nil-first, nil-range, first-append}
use Rattle.monotone_check.specs.declared.summary.RangeCheck.{RangeCheck}
use Rattle.monotone_check.specs.Summary.{IsRange}

the_range : (at : ℕ → ℕ) (ns : List RangeNode) (r : Range) (s : RangeCheck) → ns ≡ nodes_of r
    → IsRange INFINITY at (range_size (spelled_range ns) - 1) (spelled_range ns) s → IsRange INFINITY at (range_size r - 1) r s
the_range at ns r s e i = subst (λ q. IsRange INFINITY at (range_size q - 1) q s) (ap spelled_range e ∙ spelled_range-nodes r) i

some_wide : (o p q : Option Offence) → is_some o ≡ true → o ≡ p → o ≡ width_first p q
some_wide None p q h e = absurd (true≢false (sym h))
some_wide (Some o) p q h e = ap (λ w. width_first w q) e

none_wide : (o : Option Offence) → is_some o ≡ false → o ≡ None
none_wide None h = refl
none_wide (Some o) h = absurd (true≢false h)

pub whole_wide : (places : List ℕ) (ns : List RangeNode) (r : Range) (s : RangeCheck) → ns ≡ nodes_of r
    → IsRange INFINITY (λ n. get_or places n 0) (range_size (spelled_range ns) - 1) (spelled_range ns) s → is_some s.wide ≡ true
    → s.wide ≡ verdict INFINITY places r
whole_wide places ns r s e i h =
    let k = the_range (λ n. get_or places n 0) ns r s e i in
    some_wide s.wide _ _ h k.wide

pub whole_rest : (places : List ℕ) (ns : List RangeNode) (r : Range) (s : RangeCheck) (clash whole : Option Offence) → ns ≡ nodes_of r
    → IsRange INFINITY (λ n. get_or places n 0) (range_size (spelled_range ns) - 1) (spelled_range ns) s → is_some s.wide ≡ false →
    clash ≡ first (clashes (λ n. get_or places n 0) 0 [] [] ns) → whole ≡ earlier s.shrinking clash → whole ≡ verdict INFINITY places r
whole_rest places ns r s clash whole e i h c w =
    let at : ℕ → ℕ = λ n. get_or places n 0 in
    let k = the_range at ns r s e i in
    let none : first (wide_in_range INFINITY at (range_size r - 1) r) ≡ None = sym k.wide ∙ none_wide s.wide h in
    let within : range_within INFINITY r ≡ true = sym (nil-range INFINITY at (range_size r - 1) r) ∙ nil-first (wide_in_range INFINITY at (range_size r - 1) r) none in
    let a : s.shrinking ≡ first (range_offences INFINITY at (range_size r - 1) r true) = k.offences within true in
    let b : clash ≡ first (clashes at 0 [] [] (nodes_of r)) = c ∙ ap (λ ms. first (clashes at 0 [] [] ms)) e in
    w ∙ (ap (λ o. earlier o clash) a ∙ (ap (λ o. earlier (first (range_offences INFINITY at (range_size r - 1) r true)) o) b
    ∙ (sym (first-append (range_offences INFINITY at (range_size r - 1) r true) (clashes at 0 [] [] (nodes_of r)))
    ∙ ap (λ o. width_first o (first (range_offences INFINITY at (range_size r - 1) r true ++ clashes at 0 [] [] (nodes_of r)))) (sym none))))
