use Rattle.std.proofs.Common.{rules, ◌≡◌, ◌++◌, ◌∙◌, List, ℕ, ap, sym, subst, map, length, codes}
use Rattle.std.proofs.lemmas.List.{length-map, take_all}
use Rattle.std.proofs.lemmas.Simd.{map-map}
use Rattle.fd_language.specs.Range.{Range}
use Rattle.fd_language.specs.PostfixRanges.{nodes_of}
use Rattle.fd_language.specs.declared.range_node.RangeNode.{RangeNode}
use Rattle.range_code.specs.Slots.{in_slots}
use Rattle.code_listing.specs.Words.{line_bytes}
use Rattle.code_listing.specs.Texts.{nodes_text}
use Rattle.code_listing.proofs.JoinedTexts.{lines_step, counted_done}
use Rattle.code_listing.proofs.write.put_ranges.Goals as goal

abbrev slots : Range → List RangeNode
slots r = nodes_of (in_slots r)

pub loop-index-preserved : goal.loop-index-preserved
loop-index-preserved c =
    let r = c.index-ranges-index.result in
    let t0 = c.loop-index.text.items in
    let t1 = c.put_range.new.text.items in
    lines_step (λ x. nodes_text (slots x.value)) c.args.ranges.now c.loop-index.index r (search rules) c.put_count.new.text.items t0 t1 c.loop-index.invariant
    (subst (λ x. t1 ≡ t0 ++ (nodes_text (slots x.value) ++ codes "\n")) c.index-ranges-index.is
    (subst (λ (x : Range). t1 ≡ t0 ++ (nodes_text (slots x) ++ codes "\n")) c.deref.ensures c.in_ok-put_range.ensures))

pub returns : goal.returns
returns c =
    let rs = c.args.ranges.now in
    let values : List Range = map (λ r. r.value) rs in
    let nodes : List (List RangeNode) = map slots values in
    counted_done (codes "ranges") c.args.text.now.items c.put_count.new.text.items c.loop-index.text.items (length rs) (map nodes_text nodes)
    (sym (length-map rs (λ r. r.value)) ∙ sym (length-map values slots) ∙ sym (length-map nodes nodes_text))
    c.in_ok-put_count.ensures
    (c.loop-index.invariant ∙ ap (λ (l : List (List ℕ)). c.put_count.new.text.items ++ line_bytes l)
    (ap (map (λ r. nodes_text (slots r.value))) (take_all c.loop-index.index rs c.loop-index-test.false)
    ∙ sym (ap (map nodes_text) (map-map slots (λ r. r.value) rs) ∙ map-map nodes_text (λ r. slots r.value) rs)))
