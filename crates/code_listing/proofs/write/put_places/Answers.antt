use Rattle.std.proofs.Common.{rules, ◌≡◌, ◌++◌, ◌∙◌, ◌≤◌, List, ap, sym, subst, map, take, length, codes}
use Rattle.std.proofs.lemmas.List.{length-map, take_all}
use Rattle.wam_code.specs.declared.instruction.Code.{Code}
use Rattle.code_listing.specs.declared.states.PlaceState.{PlaceState}
use Rattle.code_listing.specs.Words.{line_bytes}
use Rattle.code_listing.specs.Texts.{place_text}
use Rattle.code_listing.specs.Listing.{table_of, places_text}
use Rattle.code_listing.specs.States.{state_of, states_of}
use Rattle.code_listing.proofs.JoinedTexts.{places_step, places_count, counted_done}
use Rattle.code_listing.proofs.write.put_places.Goals as goal

pub loop-index-preserved : goal.loop-index-preserved
loop-index-preserved c =
    let s = c.index-states-index.result in
    let i = c.code_at.result.now in
    let ts = c.args.area.now.tables in
    let t0 = c.loop-index.text.items in
    let t1 = c.put_place.new.text.items in
    places_step state_of ts c.args.states.now c.args.area.now.code c.loop-index.index s i c.put_count.new.text.items t0 t1 (search rules) c.requires c.code_at.ensures.holds c.loop-index.invariant
    (subst (λ (x : PlaceState). t1 ≡ t0 ++ (place_text (table_of ts i) (state_of x) i ++ codes "\n")) c.index-states-index.is c.in_ok-put_place.ensures)

pub returns : goal.returns
returns c =
    let ss = c.args.states.now in
    let is = c.args.area.now.code in
    let ts = c.args.area.now.tables in
    let n = c.loop-index.index in
    let size : length (states_of ss) ≡ length is = length-map ss state_of ∙ c.requires in
    let long : length is ≤ n = subst (λ k. k ≤ n) c.requires c.loop-index-test.false in
    counted_done (codes "code") c.args.text.now.items c.put_count.new.text.items c.loop-index.text.items (length ss) (places_text ts (states_of ss) is)
    (sym (length-map ss state_of) ∙ sym (places_count ts (states_of ss) is size))
    c.in_ok-put_count.ensures
    (c.loop-index.invariant ∙ ap (λ (l : List PlaceState). c.put_count.new.text.items ++ line_bytes (places_text ts (map state_of l) (take n is))) (take_all n ss c.loop-index-test.false)
    ∙ ap (λ (l : List Code). c.put_count.new.text.items ++ line_bytes (places_text ts (states_of ss) l)) (take_all n is long))
