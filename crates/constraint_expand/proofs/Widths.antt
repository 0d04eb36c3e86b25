-- The ranges of elements and of a sum of counters are accepted, whatever integers of 64 bits stand in them.
use Rattle.std.proofs.Common.{◌≡◌, ℕ, suc, ◌+◌, ◌^◌, ◌≤◌, ◌<◌, ℤ, nat_abs, List, [], ◌∷◌, length, arith, FitsSigned, Ok}
use Rattle.std.specs.Int.{w64}
use Rattle.std.specs.Int.Signed.{nat_abs-le}
use Rattle.fd_language.specs.Term.{Term, no_terms, term}
use Rattle.fd_language.specs.declared.TheConstants.{INFINITY}
use Rattle.fd_model.specs.Linear.{IsAtMost}
use Rattle.fd_model.specs.LinearRows.{Expansion, linear_rows}
use Rattle.fd_model.specs.ListRows.{element_ranges, counts, units, atmost_rows}
use Rattle.fd_model.specs.declared.kinds.Relation.{Relation}
use Rattle.fd_model.specs.declared.kinds.ConstraintKind.TheVariants.{Compare, Atmost}
use Rattle.fd_model.specs.Members.{Member, placed, fresh_after}
use Rattle.fd_model.specs.ConstraintExpansion.{compare, atmost}
use Rattle.fd_model.proofs.Lemmas.{posted_right, AllSmall, compare_within, element_within, sum_within, all_accepted, IsFitting, element_fitting, basic_fitting}
use Rattle.constraint_expand.specs.Lists.{AreWords}
use Rattle.constraint_expand.specs.Posts.{Accepted}

word_size : (z : ℤ) → FitsSigned w64 z → nat_abs z ≤ 2 ^ 63
word_size z f = nat_abs-le z f.sfits

words_small : (zs : List ℤ) → AreWords zs → AllSmall zs
words_small [] w = tt
words_small (z ∷ zs) w = let h = word_size z (w 0) in (omega arith, words_small zs (λ j. w (suc j)))

small_infinity : INFINITY < 2 ^ 28
small_infinity = omega arith

-- The check accepts the rows of a comparison.
pub compared_accepted : (r : Relation) (s t : Term) (n : ℕ) (x : Expansion) → compare r s t n ≡ Ok x → Accepted x.ranges
compared_accepted r s t n x e = all_accepted INFINITY small_infinity x.ranges (basic_fitting INFINITY (Compare r) (term s (term t no_terms)) n x e) (compare_within INFINITY small_infinity r s t n x e)

-- The check accepts what an element and its number give of each other.
pub element_accepted : (i : ℕ) (zs : List ℤ) (x : ℕ) → AreWords zs → length zs < 2 ^ 64 → Accepted (element_ranges i zs x)
element_accepted i zs x w l = all_accepted INFINITY small_infinity (element_ranges i zs x) (element_fitting INFINITY i x zs)
    (element_within INFINITY small_infinity i x zs (words_small zs w) (omega arith))

-- The check accepts the rows of the counters' sum.
pub sum_accepted : (m l v : Term) (n : ℕ) (z w : ℤ) (ms : List Member) → atmost m l v n ≡ Ok (atmost_rows z ms w n) → FitsSigned w64 z → length (placed n ms) < 2 ^ 64
    → Accepted (linear_rows IsAtMost (units (placed n ms) (fresh_after n ms)) z (fresh_after n ms + length (placed n ms))).ranges
sum_accepted m l v n z w ms e f s =
    let xs = placed n ms in
    let b = fresh_after n ms in
    let rows = (linear_rows IsAtMost (units xs b) z (b + length xs)).ranges in
    let fitting = basic_fitting INFINITY Atmost (term m (term l (term v no_terms))) n (atmost_rows z ms w n) e in
    all_accepted INFINITY small_infinity rows (posted_right (λ p. IsFitting INFINITY p.range) (counts w xs b) rows fitting)
    (sum_within INFINITY small_infinity xs z b (b + length xs) (omega arith) (word_size z f))
