use Rattle.std.proofs.Common.{rules, ◌≡◌, ◌<◌, ℕ, List, [], All, false, true, length, sym, subst, arith}
use Rattle.std.proofs.lemmas.List.{length-map}
use Rattle.wam_code.specs.declared.instruction.Key.{Key}
use Rattle.wam_code.specs.Area.{area_of}
use Rattle.wam_code.specs.VerifiedCode.{IsKey}
use Rattle.code_text.proofs.ListPrefixes.{all_start, all_more, all_done, all_miss}
use Rattle.code_text.proofs.PlaceConditions.{failed}
use Rattle.code_text.proofs.verification.has_all_keys.Goals as goal

pub loop-index-init : goal.loop-index-init
loop-index-init c = all_start (λ table. All (λ row. IsKey (area_of c.args.parts.now) row.0) table) (area_of c.args.parts.now).tables

pub loop-index-preserved : goal.loop-index-preserved
loop-index-preserved c =
    let a = area_of c.args.parts.now in
    let t : c.has_keys.result ≡ true = search rules in
    all_more (λ table. All (λ row. IsKey a row.0) table) a.tables c.loop-index.index [] c.loop-index.invariant
    (subst (λ (rows : List (Key × ℕ)). All (λ row. IsKey a row.0) rows) c.table_at.ensures (c.has_keys.ensures.0 t))

pub returns-then-not-has_keys : goal.returns-then-not-has_keys
returns-then-not-has_keys c =
    let a = area_of c.args.parts.now in
    let f : c.has_keys.result ≡ false = search rules in
    let low : c.loop-index.index < length a.tables = omega (arith, length-map c.args.parts.now.tables.items (λ t. t.items)) in
    all_miss (λ table. All (λ row. IsKey a row.0) table) a.tables c.loop-index.index [] low
    (λ x. failed c.has_keys.result (All (λ row. IsKey a row.0) c.table_at.result.now) c.has_keys.ensures f
    (subst (λ (rows : List (Key × ℕ)). All (λ row. IsKey a row.0) rows) (sym c.table_at.ensures) x))

pub returns : goal.returns
returns c = all_done (λ table. All (λ row. IsKey (area_of c.args.parts.now) row.0) table) (area_of c.args.parts.now).tables c.loop-index.index
    (omega (arith, c.loop-index-test.false, length-map c.args.parts.now.tables.items (λ t. t.items))) c.loop-index.invariant
