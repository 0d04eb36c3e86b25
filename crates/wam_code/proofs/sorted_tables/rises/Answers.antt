use Rattle.std.proofs.Common.{◌≡◌, ℕ, suc, ◌<◌, ◌≤◌, ◌-◌, length, Some, get_or, slice_get, refl, sym, ap, ◌∙◌, subst, arith, inl, inr}
use Rattle.std.proofs.lemmas.Bool.{cases_lt}
use Rattle.std.proofs.lemmas.Option.{slice_get_within, get_or_from_slice_get, slice_get-get_or}
use Rattle.wam_code.specs.declared.instruction.Key.{Key}
use Rattle.wam_code.specs.Area.{Table}
use Rattle.wam_code.specs.Keys.{IsBelow, Rises}
use Rattle.wam_code.proofs.sorted_tables.rises.Goals as goal

-- the rows that the loop compares are neighbours
neighbours : (table : Table) (i : ℕ) (d e : Key × ℕ) → IsBelow (get_or table (i - 1) d).0 (get_or table i e).0 → (k : ℕ) (x y : Key × ℕ) → suc k ≡ i
    → slice_get table k ≡ Some x → slice_get table (suc k) ≡ Some y → IsBelow x.0 y.0
neighbours table i d e b k x y is fx fy =
    let p : i - 1 ≡ k = omega (arith, is) in
    let ex : get_or table (i - 1) d ≡ x = ap (λ n. get_or table n d) p ∙ get_or_from_slice_get table k x d fx in
    let ey : get_or table i e ≡ y = ap (λ n. get_or table n e) (sym is) ∙ get_or_from_slice_get table (suc k) y e fy in
    subst (λ (w : Key × ℕ). IsBelow x.0 w.0) ey (subst (λ (w : Key × ℕ). IsBelow w.0 (get_or table i e).0) ex b)

below_next : (table : Table) (i : ℕ) (d e : Key × ℕ) → 1 ≤ i → i < length table → Rises table → IsBelow (get_or table (i - 1) d).0 (get_or table i e).0
below_next table i d e low high r =
    let is : suc (i - 1) ≡ i = omega (arith, low) in
    r (i - 1) (get_or table (i - 1) d) (get_or table i e) (slice_get-get_or table (i - 1) d (omega (arith, high)))
    (subst (λ n. slice_get table n ≡ Some (get_or table i e)) (sym is) (slice_get-get_or table i e high))

pub loop-i-preserved : goal.loop-i-preserved
loop-i-preserved c = λ k x y low fx fy.
    elim (cases_lt (suc k) c.loop-i.i) [
      | inl l ↦ c.loop-i.invariant k x y l fx fy
      | inr l ↦ neighbours c.args.table.now c.loop-i.i _ _ (c.is_below.ensures.0 c.if-not-is_below.false) k x y (omega (arith, l, low)) fx fy
    ]

pub returns : goal.returns
returns c = ((λ t k x y fx fy. (let w = slice_get_within c.args.table.now (suc k) y fy in let e = c.loop-i-test.false in c.loop-i.invariant k x y (omega (arith, w, e)) fx fy)), λ r. refl)

pub returns-then-not-is_below : goal.returns-then-not-is_below
returns-then-not-is_below c = ((λ t. absurd (cc)), λ r. sym c.if-not-is_below.true ∙ c.is_below.ensures.1 (below_next c.args.table.now c.loop-i.i _ _ c.loop-i.auto.i c.loop-i-test.true r))
