use Rattle.std.proofs.Common.{◌≡◌, ℕ, ℤ, ◌+◌, ◌<◌, ◌^◌, ◌++◌, List, Ok, length, map, refl, ap, sym, subst, ◌∙◌, arith, rules, to_z, of_z, FitsSigned}
use Rattle.std.specs.Int.{w64}
use Rattle.std.proofs.lemmas.Int.{to_z-of_z}
use Rattle.fd_model.specs.Linear.{IsAtMost}
use Rattle.fd_model.specs.LinearRows.{Expansion, linear_rows}
use Rattle.fd_model.specs.Members.{as_integer, placed, fresh_after}
use Rattle.fd_model.specs.ListRows.{units}
use Rattle.term_pool.specs.Terms.{term_of}
use Rattle.constraint_expand.specs.declared.members.Member.{Member}
use Rattle.constraint_expand.specs.Lists.{member_of, AllPlaced}
use Rattle.constraint_expand.specs.Nodes.{CanTurn}
use Rattle.linear_forms.specs.IntegerSums.{AreIntegers}
use Rattle.constraint_expand.specs.Posts.{indexicals, Accepted}
use Rattle.constraint_expand.specs.Pieces.{rows_ahead}
use Rattle.constraint_expand.proofs.MemberCounters.{counters_fit, Summing, sum_terms, sum_next, units_integers, units_turn, atmost_is, atmost_ends, rows_end}
use Rattle.constraint_expand.proofs.MemberCounters.{atmost_expands}
use Rattle.constraint_expand.proofs.Widths.{sum_accepted}
use Rattle.constraint_expand.proofs.counts.atmost.Goals as goal

pub sum_of-requires : goal.sum_of-requires
sum_of-requires c =
    let pool = c.args.pool.now in
    let m = term_of pool c.args.most in
    let l = term_of pool c.args.list in
    let v = term_of pool c.args.value in
    let n = c.args.fresh in
    let ms = map member_of c.in_ok-members.members.items in
    let p = c.in_ok-placed.placed in
    let placed_all = subst (λ (ks : List Member). AllPlaced n (map member_of ks) p) c.deref.ensures.value c.in_ok-placed.ensures in
    let end = atmost_ends m l v n c.in_ok-most.most ms c.in_ok-value.value c.in_ok-most.ensures c.in_ok-members.ensures c.in_ok-value.ensures c.requires.ends in
    counters_fit n ms p c.deref-2.result.now placed_all c.deref-2.ensures.value end

pub overflow_add-next : goal.overflow_add-next
overflow_add-next c =
    let pool = c.args.pool.now in
    let m = term_of pool c.args.most in
    let l = term_of pool c.args.list in
    let v = term_of pool c.args.value in
    let n = c.args.fresh in
    let ms = map member_of c.in_ok-members.members.items in
    let p = c.in_ok-placed.placed in
    let us = c.in_ok-units.units.items in
    let s : Summing n ms p c.deref-2.result.now us us =
    record {
      placed_all = subst (λ (ks : List Member). AllPlaced n (map member_of ks) p) c.deref.ensures.value c.in_ok-placed.ensures;
      variables = c.deref-2.ensures.value;
      made = c.in_ok-units.ensures;
      terms = refl;
    }
    in
    let z = to_z w64 (of_z w64 c.in_ok-most.most) in
    let w = to_z w64 (of_z w64 c.in_ok-value.value) in
    let fits : FitsSigned w64 c.in_ok-most.most = search rules in
    let value_fits : FitsSigned w64 c.in_ok-value.value = search rules in
    let same : z ≡ c.in_ok-most.most = to_z-of_z w64 c.in_ok-most.most fits in
    let value_same : w ≡ c.in_ok-value.value = to_z-of_z w64 c.in_ok-value.value value_fits in
    let e : as_integer m ≡ Ok z = c.in_ok-most.ensures ∙ ap (λ (y : ℤ). Ok y) (sym same) in
    let g : as_integer v ≡ Ok w = c.in_ok-value.ensures ∙ ap (λ (y : ℤ). Ok y) (sym value_same) in
    let f = c.in_ok-members.ensures in
    let next = sum_next n ms p c.deref-2.result.now us us s c.len.result (omega arith) in
    let end = atmost_ends m l v n z ms w e f g c.requires.ends in
    let low : p.fresh + c.len.result < 2 ^ 64 = omega arith in
    search rules

pub linear_rows-requires-clause-integers : goal.linear_rows-requires-clause-integers
linear_rows-requires-clause-integers c =
    let pool = c.args.pool.now in
    let m = term_of pool c.args.most in
    let l = term_of pool c.args.list in
    let v = term_of pool c.args.value in
    let n = c.args.fresh in
    let ms = map member_of c.in_ok-members.members.items in
    let p = c.in_ok-placed.placed in
    let us = c.in_ok-units.units.items in
    let s : Summing n ms p c.deref-2.result.now us c.deref-3.result.now =
    record {
      placed_all = subst (λ (ks : List Member). AllPlaced n (map member_of ks) p) c.deref.ensures.value c.in_ok-placed.ensures;
      variables = c.deref-2.ensures.value;
      made = c.in_ok-units.ensures;
      terms = c.deref-3.ensures.value;
    }
    in
    subst AreIntegers (sym (sum_terms n ms p c.deref-2.result.now us c.deref-3.result.now s)) (units_integers (placed n ms) (fresh_after n ms))

pub linear_rows-requires-clause-constant : goal.linear_rows-requires-clause-constant
linear_rows-requires-clause-constant c =
    let pool = c.args.pool.now in
    let m = term_of pool c.args.most in
    let l = term_of pool c.args.list in
    let v = term_of pool c.args.value in
    let n = c.args.fresh in
    let ms = map member_of c.in_ok-members.members.items in
    let p = c.in_ok-placed.placed in
    let us = c.in_ok-units.units.items in
    let s : Summing n ms p c.deref-2.result.now us c.deref-3.result.now =
    record {
      placed_all = subst (λ (ks : List Member). AllPlaced n (map member_of ks) p) c.deref.ensures.value c.in_ok-placed.ensures;
      variables = c.deref-2.ensures.value;
      made = c.in_ok-units.ensures;
      terms = c.deref-3.ensures.value;
    }
    in
    let z = to_z w64 (of_z w64 c.in_ok-most.most) in
    let w = to_z w64 (of_z w64 c.in_ok-value.value) in
    let fits : FitsSigned w64 c.in_ok-most.most = search rules in
    let value_fits : FitsSigned w64 c.in_ok-value.value = search rules in
    let same : z ≡ c.in_ok-most.most = to_z-of_z w64 c.in_ok-most.most fits in
    let value_same : w ≡ c.in_ok-value.value = to_z-of_z w64 c.in_ok-value.value value_fits in
    let e : as_integer m ≡ Ok z = c.in_ok-most.ensures ∙ ap (λ (y : ℤ). Ok y) (sym same) in
    let g : as_integer v ≡ Ok w = c.in_ok-value.ensures ∙ ap (λ (y : ℤ). Ok y) (sym value_same) in
    let f = c.in_ok-members.ensures in
    subst (λ (ts : List (ℕ × ℤ)). CanTurn ts z) (sym (sum_terms n ms p c.deref-2.result.now us c.deref-3.result.now s)) (units_turn (placed n ms) (fresh_after n ms) z)

pub linear_rows-requires-clause-accepted : goal.linear_rows-requires-clause-accepted
linear_rows-requires-clause-accepted c =
    let pool = c.args.pool.now in
    let m = term_of pool c.args.most in
    let l = term_of pool c.args.list in
    let v = term_of pool c.args.value in
    let n = c.args.fresh in
    let ms = map member_of c.in_ok-members.members.items in
    let p = c.in_ok-placed.placed in
    let us = c.in_ok-units.units.items in
    let s : Summing n ms p c.deref-2.result.now us c.deref-3.result.now =
    record {
      placed_all = subst (λ (ks : List Member). AllPlaced n (map member_of ks) p) c.deref.ensures.value c.in_ok-placed.ensures;
      variables = c.deref-2.ensures.value;
      made = c.in_ok-units.ensures;
      terms = c.deref-3.ensures.value;
    }
    in
    let z = to_z w64 (of_z w64 c.in_ok-most.most) in
    let w = to_z w64 (of_z w64 c.in_ok-value.value) in
    let fits : FitsSigned w64 c.in_ok-most.most = search rules in
    let value_fits : FitsSigned w64 c.in_ok-value.value = search rules in
    let same : z ≡ c.in_ok-most.most = to_z-of_z w64 c.in_ok-most.most fits in
    let value_same : w ≡ c.in_ok-value.value = to_z-of_z w64 c.in_ok-value.value value_fits in
    let e : as_integer m ≡ Ok z = c.in_ok-most.ensures ∙ ap (λ (y : ℤ). Ok y) (sym same) in
    let g : as_integer v ≡ Ok w = c.in_ok-value.ensures ∙ ap (λ (y : ℤ). Ok y) (sym value_same) in
    let f = c.in_ok-members.ensures in
    let terms = sum_terms n ms p c.deref-2.result.now us c.deref-3.result.now s in
    let next = sum_next n ms p c.deref-2.result.now us c.deref-3.result.now s c.len.result (omega arith) in
    let end = atmost_ends m l v n z ms w e f g c.requires.ends in
    let rows : linear_rows IsAtMost (units (placed n ms) (fresh_after n ms)) z (fresh_after n ms + length (placed n ms)) ≡ linear_rows IsAtMost c.deref-3.result.now z (p.fresh + c.len.result) =
    λ i. linear_rows IsAtMost (sym terms i) z (sym next i) in
    subst (λ (x : Expansion). Accepted x.ranges) rows
    (sum_accepted m l v n z w ms (atmost_is m l v n z ms w e f g) (subst (FitsSigned w64) (sym same) fits) (omega arith))

pub linear_rows-requires-clause-ends : goal.linear_rows-requires-clause-ends
linear_rows-requires-clause-ends c =
    let pool = c.args.pool.now in
    let m = term_of pool c.args.most in
    let l = term_of pool c.args.list in
    let v = term_of pool c.args.value in
    let n = c.args.fresh in
    let ms = map member_of c.in_ok-members.members.items in
    let p = c.in_ok-placed.placed in
    let us = c.in_ok-units.units.items in
    let s : Summing n ms p c.deref-2.result.now us c.deref-3.result.now =
    record {
      placed_all = subst (λ (ks : List Member). AllPlaced n (map member_of ks) p) c.deref.ensures.value c.in_ok-placed.ensures;
      variables = c.deref-2.ensures.value;
      made = c.in_ok-units.ensures;
      terms = c.deref-3.ensures.value;
    }
    in
    let z = to_z w64 (of_z w64 c.in_ok-most.most) in
    let w = to_z w64 (of_z w64 c.in_ok-value.value) in
    let fits : FitsSigned w64 c.in_ok-most.most = search rules in
    let value_fits : FitsSigned w64 c.in_ok-value.value = search rules in
    let same : z ≡ c.in_ok-most.most = to_z-of_z w64 c.in_ok-most.most fits in
    let value_same : w ≡ c.in_ok-value.value = to_z-of_z w64 c.in_ok-value.value value_fits in
    let e : as_integer m ≡ Ok z = c.in_ok-most.ensures ∙ ap (λ (y : ℤ). Ok y) (sym same) in
    let g : as_integer v ≡ Ok w = c.in_ok-value.ensures ∙ ap (λ (y : ℤ). Ok y) (sym value_same) in
    let f = c.in_ok-members.ensures in
    let terms = sum_terms n ms p c.deref-2.result.now us c.deref-3.result.now s in
    let next = sum_next n ms p c.deref-2.result.now us c.deref-3.result.now s c.len.result (omega arith) in
    let rows : linear_rows IsAtMost (units (placed n ms) (fresh_after n ms)) z (fresh_after n ms + length (placed n ms)) ≡ linear_rows IsAtMost c.deref-3.result.now z (p.fresh + c.len.result) =
    λ i. linear_rows IsAtMost (sym terms i) z (sym next i) in
    subst (λ (x : Expansion). x.fresh < 2 ^ 64) rows (rows_end m l v n z ms w e f g c.requires.ends)

pub returns : goal.returns
returns c =
    let pool = c.args.pool.now in
    let m = term_of pool c.args.most in
    let l = term_of pool c.args.list in
    let v = term_of pool c.args.value in
    let n = c.args.fresh in
    let ms = map member_of c.in_ok-members.members.items in
    let p = c.in_ok-placed.placed in
    let us = c.in_ok-units.units.items in
    let s : Summing n ms p c.deref-2.result.now us c.deref-3.result.now =
    record {
      placed_all = subst (λ (ks : List Member). AllPlaced n (map member_of ks) p) c.deref.ensures.value c.in_ok-placed.ensures;
      variables = c.deref-2.ensures.value;
      made = c.in_ok-units.ensures;
      terms = c.deref-3.ensures.value;
    }
    in
    let z = to_z w64 (of_z w64 c.in_ok-most.most) in
    let w = to_z w64 (of_z w64 c.in_ok-value.value) in
    let fits : FitsSigned w64 c.in_ok-most.most = search rules in
    let value_fits : FitsSigned w64 c.in_ok-value.value = search rules in
    let same : z ≡ c.in_ok-most.most = to_z-of_z w64 c.in_ok-most.most fits in
    let value_same : w ≡ c.in_ok-value.value = to_z-of_z w64 c.in_ok-value.value value_fits in
    let e : as_integer m ≡ Ok z = c.in_ok-most.ensures ∙ ap (λ (y : ℤ). Ok y) (sym same) in
    let g : as_integer v ≡ Ok w = c.in_ok-value.ensures ∙ ap (λ (y : ℤ). Ok y) (sym value_same) in
    let f = c.in_ok-members.ensures in
    let terms = sum_terms n ms p c.deref-2.result.now us c.deref-3.result.now s in
    let next = sum_next n ms p c.deref-2.result.now us c.deref-3.result.now s c.len.result (omega arith) in
    atmost_expands m l v n z ms w e f g p s.placed_all c.deref-3.result.now terms (p.fresh + c.len.result) next
    (rows_ahead c.in_ok-sum.sum.rows ++ indexicals c.in_ok-sum.sum.rest.items) c.in_ok-sum.ensures.ranges c.in_ok-sum.sum.added c.in_ok-sum.ensures.fresh
    c.counting.result c.counting.ensures.equated c.counting.ensures.ranges c.counting.ensures.fresh
