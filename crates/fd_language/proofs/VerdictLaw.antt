-- The verdict is none exactly where the range is accepted.
use Rattle.std.proofs.Common.{◌≡◌, ℕ, ◌-◌, Bool, true, ◌&&◌, List, [], ◌++◌, Option, Some, None, refl, sym, ◌∙◌, ap, arith}
use Rattle.std.proofs.lemmas.Bool.{and_from, and_parts}
use Rattle.std.specs.Prelude.{slice_index}
use Rattle.fd_language.specs.declared.range_node.Offence.{Offence}
use Rattle.fd_language.specs.Range.{Range}
use Rattle.fd_language.specs.Check.{range_fits}
use Rattle.fd_language.specs.PostfixRanges.{nodes_of}
use Rattle.fd_language.specs.RangeVerdict.{range_size, wide_in_range, range_offences, clashes, first, width_first, verdict, range_within, has_one_use}
use Rattle.fd_language.specs.RangeVerdict.{is_accepted}
use Rattle.fd_language.specs.CheckLaws.{VerdictAgrees}
use Rattle.fd_language.proofs.NoOffences.{nil, nil-append, nil-first, first-nil, nil-range, nil-fitting}
use Rattle.fd_language.proofs.Uses.{one_use, one_use_back}

both_none : (a b : Option Offence) → width_first a b ≡ None → (a ≡ None) × (b ≡ None)
both_none None b h = (refl, h)
both_none (Some o) b h = absurd cc

pub all_three : (a b c : Bool) → a ≡ true → b ≡ true → c ≡ true → (a && (b && c)) ≡ true
all_three a b c e f g = grind arith

accepted_from : (M : ℕ) (places : List ℕ) (r : Range) → verdict M places r ≡ None → is_accepted M r ≡ true
accepted_from M places r h =
    let at : ℕ → ℕ = λ n. slice_index places n in
    let root : ℕ = range_size r - 1 in
    let both = both_none (first (wide_in_range M at root r)) (first (range_offences M at root r true ++ clashes at 0 [] [] (nodes_of r))) h in
    let w : range_within M r ≡ true = sym (nil-range M at root r) ∙ nil-first (wide_in_range M at root r) both.0 in
    let two : (nil (range_offences M at root r true) && nil (clashes at 0 [] [] (nodes_of r))) ≡ true = sym
    (nil-append (range_offences M at root r true) (clashes at 0 [] [] (nodes_of r)))
    ∙ nil-first (range_offences M at root r true ++ clashes at 0 [] [] (nodes_of r)) both.1 in
    all_three (range_within M r) (range_fits M r true) (has_one_use r) w
    (sym (nil-fitting M at root r true) ∙ (and_parts (nil (range_offences M at root r true)) (nil (clashes at 0 [] [] (nodes_of r))) two).0)
    (one_use at r ((and_parts (nil (range_offences M at root r true)) (nil (clashes at 0 [] [] (nodes_of r))) two).1))

none_from : (M : ℕ) (places : List ℕ) (r : Range) → is_accepted M r ≡ true → verdict M places r ≡ None
none_from M places r h =
    let at : ℕ → ℕ = λ n. slice_index places n in
    let root : ℕ = range_size r - 1 in
    let w : range_within M r ≡ true = (and_parts (range_within M r) (range_fits M r true && has_one_use r) h).0 in
    let more : (range_fits M r true && has_one_use r) ≡ true = (and_parts (range_within M r) (range_fits M r true && has_one_use r) h).1 in
    let f : nil (range_offences M at root r true) ≡ true = nil-fitting M at root r true ∙ (and_parts (range_fits M r true) (has_one_use r) more).0 in
    let u : nil (clashes at 0 [] [] (nodes_of r)) ≡ true = one_use_back at r ((and_parts (range_fits M r true) (has_one_use r) more).1) in
    let a : first (wide_in_range M at root r) ≡ None = first-nil (wide_in_range M at root r) (nil-range M at root r ∙ w) in
    let b : first (range_offences M at root r true ++ clashes at 0 [] [] (nodes_of r)) ≡ None = first-nil
    (range_offences M at root r true ++ clashes at 0 [] [] (nodes_of r)) (nil-append (range_offences M at root r true) (clashes at 0 [] [] (nodes_of r))
    ∙ and_from _ _ f u) in
    ap (λ o. width_first o (first (range_offences M at root r true ++ clashes at 0 [] [] (nodes_of r)))) a ∙ b

pub verdict_agrees : VerdictAgrees
verdict_agrees M places r = ((λ h. accepted_from M places r h), (λ h. none_from M places r h))
