use Rattle.std.proofs.Common.{rules, ◌≡◌, ◌++◌, ◌∙◌, List, ℕ, ap, sym, subst, map, length, codes}
use Rattle.std.proofs.lemmas.List.{length-map, take_all}
use Rattle.std.proofs.lemmas.Simd.{map-map}
use Rattle.wam_code.specs.declared.parts.QueryEntry.{QueryEntry}
use Rattle.wam_code.specs.Area.{span_of}
use Rattle.code_listing.specs.Words.{line_bytes}
use Rattle.code_listing.specs.Texts.{span_text}
use Rattle.code_listing.proofs.JoinedTexts.{lines_step, counted_done}
use Rattle.code_listing.proofs.write.put_queries.Goals as goal

abbrev line_at : QueryEntry → List ℕ
line_at q = span_text (span_of q)

pub loop-index-preserved : goal.loop-index-preserved
loop-index-preserved c =
    let q = c.index-queries-index.result in
    let t0 = c.loop-index.text.items in
    let t1 = c.put_query.new.text.items in
    lines_step line_at c.args.queries.now c.loop-index.index q (search rules) c.put_count.new.text.items t0 t1 c.loop-index.invariant
    (subst (λ (x : QueryEntry). t1 ≡ t0 ++ (line_at x ++ codes "\n")) c.index-queries-index.is c.in_ok-put_query.ensures)

pub returns : goal.returns
returns c =
    let qs = c.args.queries.now in
    let ts : List (List ℕ) = map span_text (map span_of qs) in
    counted_done (codes "queries") c.args.text.now.items c.put_count.new.text.items c.loop-index.text.items (length qs) ts
    (sym (length-map qs span_of) ∙ sym (length-map (map span_of qs) span_text))
    c.in_ok-put_count.ensures
    (c.loop-index.invariant ∙ ap (λ (l : List (List ℕ)). c.put_count.new.text.items ++ line_bytes l)
    (ap (map line_at) (take_all c.loop-index.index qs c.loop-index-test.false) ∙ sym (map-map span_text span_of qs)))
