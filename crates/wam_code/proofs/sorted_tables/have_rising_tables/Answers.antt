use Rattle.std.proofs.Common.{◌≡◌, ℕ, ◌<◌, Vec, Global, [], length, get_or, sym, ap, ◌∙◌, subst, arith, inl, inr}
use Rattle.std.proofs.lemmas.Bool.{cases_lt}
use Rattle.std.proofs.lemmas.List.{get_or-map, length-map}
use Rattle.wam_code.specs.declared.instruction.Key.{Key}
use Rattle.wam_code.specs.declared.parts.CodeParts.{CodeParts}
use Rattle.wam_code.specs.Area.{Table, table_at, area_of}
use Rattle.wam_code.specs.Keys.{Rises}
use Rattle.wam_code.proofs.sorted_tables.have_rising_tables.Goals as goal

table_there : (p : CodeParts) (t : ℕ) (v : Vec (Key × ℕ) Global) (rows : Table) → t < length p.tables.items → v ≡ get_or p.tables.items t v → rows ≡ v.items → table_at (area_of p) t ≡ rows
table_there p t v rows low is all = get_or-map (λ (x : Vec (Key × ℕ) Global). x.items) p.tables.items t v [] low ∙ sym (ap (λ (x : Vec (Key × ℕ) Global). x.items) is) ∙ sym all

pub loop-t-preserved : goal.loop-t-preserved
loop-t-preserved c =
    let low : c.loop-t.t < length c.args.parts.now.tables.items = omega (arith, c.loop-t-test.true, c.len-t-end.ensures, c.args.parts.now.tables.ok.0) in
    let here = table_there c.args.parts.now c.loop-t.t c.index.result.now c.deref.result.now low c.index.ensures c.deref.ensures.value in
    λ t more.
    elim (cases_lt t c.loop-t.t) [
      | inl l ↦ c.loop-t.invariant t l
      | inr l ↦ subst (λ n. Rises (table_at (area_of c.args.parts.now) n)) (let e : c.loop-t.t ≡ t = omega (arith, l, more) in e) (subst Rises (sym here) (c.rises.ensures.0 c.if-not-rises.false))
    ]

pub returns-then-not-rises : goal.returns-then-not-rises
returns-then-not-rises c =
    let low : c.loop-t.t < length c.args.parts.now.tables.items = omega (arith, c.loop-t-test.true, c.len-t-end.ensures, c.args.parts.now.tables.ok.0) in
    let here = table_there c.args.parts.now c.loop-t.t c.index.result.now c.deref.result.now low c.index.ensures c.deref.ensures.value in (
      (λ t. absurd (cc)),
      λ r. sym c.if-not-rises.true
          ∙ c.rises.ensures.1 (subst Rises here (r c.loop-t.t
          (subst (λ n. c.loop-t.t < n) (sym (length-map c.args.parts.now.tables.items (λ (x : Vec (Key × ℕ) Global). x.items))) low))),
    )
