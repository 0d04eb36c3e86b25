use Rattle.std.proofs.Common.{rules, ◌≡◌, ◌∙◌, ◌++◌, [], ◌∷◌, List, ap, map, length, subst, sym, zero-add}
use Rattle.std.proofs.lemmas.Iterator.Adapters.{YieldsList-from_vec}
use Rattle.std.proofs.lemmas.Iterator.Consumers.{YieldsList-end}
use Rattle.std.proofs.lemmas.List.{length-map, map-id}
use Rattle.wam_code.specs.declared.instruction.Code.{Code}
use Rattle.wam_code.specs.Area.{State, Table}
use Rattle.code_listing.specs.States.{state_of, states_of}
use Rattle.listing_reader.specs.declared.places.Place.{Place}
use Rattle.listing_reader.specs.declared.places.Parts.{Parts}
use Rattle.listing_reader.specs.Lists.{Placed}
use Rattle.listing_reader.specs.TableNumbers.{codes_of, numbered, states_in, tables_of, tables_with}
use Rattle.listing_reader.specs.Places.{AreParts, place_in}
use Rattle.listing_reader.proofs.LinePrefixes.{map_join}
use Rattle.listing_reader.proofs.TableNumbers.{codes_next, states_next, tables_next}
use Rattle.listing_reader.proofs.places.apart.Goals as goal

pub loop-place-preserved : goal.loop-place-preserved
loop-place-preserved c =
    let p = c.in-Some.place in
    let ps = map place_in c.loop-place.yielded in
    let inv = c.loop-place.invariant in
    let more : map place_in (c.loop-place.yielded ++ p ∷ []) ≡ ps ++ place_in p ∷ [] = map_join place_in c.loop-place.yielded (p ∷ []) in
    record {
      states = ap states_of c.in_ok-push.ensures.items ∙ map_join state_of c.loop-place.states.items (p.state ∷ [])
          ∙ states_next ps (place_in p) (states_of c.loop-place.states.items) inv.states ∙ ap states_in (sym more);
      code = c.in_ok-push-2.ensures.items ∙ codes_next (λ t. t.items) ps (place_in p) c.loop-place.code.items c.loop-place.tables.items
          c.in_ok-instruction.instruction inv.code inv.tables c.in_ok-instruction.ensures.code ∙ ap (codes_of 0) (sym more);
      tables = c.in_ok-instruction.ensures.tables ∙ tables_next ps (place_in p) (map (λ t. t.items) c.loop-place.tables.items) inv.tables ∙ ap tables_of (sym more);
    }

pub returns : goal.returns
returns c =
    let all = YieldsList-end (YieldsList-from_vec {s = c.into_iter-place-iterator.result} c.args.places.items (search rules) (search rules))
    c.loop-place.yielded c.loop-place.place-iterator c.loop-place.yielded_by c.next.result c.next.new.self c.in-None.is c.next.ensures.steps in
    let whole : c.loop-place.yielded ≡ c.args.places.items = sym (map-id c.loop-place.yielded) ∙ all.0 in
    let inv = c.loop-place.invariant in
    record {
      states = inv.states ∙ ap (λ (l : List Place). states_in (map place_in l)) whole;
      code = inv.code ∙ ap (λ (l : List Place). codes_of 0 (map place_in l)) whole;
      tables = inv.tables ∙ ap (λ (l : List Place). tables_of (map place_in l)) whole;
    }
