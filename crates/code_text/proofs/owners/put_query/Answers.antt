use Rattle.std.proofs.Common.{◌≡◌, ◌↔◌, ◌<◌, ◌≤◌, ℕ, List, Option, None, IsTrue, true, false, Some, refl, rules, arith, subst, sym, length}
use Rattle.code_flow.specs.PlaceConditions.{FitsAt}
use Rattle.code_text.specs.Owners.{owner_at}
use Rattle.std.proofs.lemmas.List.{length-set}
use Rattle.wam_code.specs.Area.{area_of, span_of}
use Rattle.code_text.proofs.PlaceOwners.{begins_skip, begins_put, begins_told, begins_clash, empty_query, late_query, taken}
use Rattle.code_text.proofs.PlaceConditions.{failed}
use Rattle.code_text.proofs.FaultPlaces.{faults_same, faults_by}
use Rattle.code_text.proofs.owners.put_query.Goals as goal

pub returns-then-query : goal.returns-then-query
returns-then-query c =
    let a = area_of c.args.parts.now in
    let q = span_of c.args.query.now in
    record {
      begins = begins_skip a c.args.number c.args.first.now.place c.args.begins.now.items
          (empty_query a c.args.number q c.requires.query (search rules));
      tells = λ ss b. faults_same a ss c.args.first.now.place;
      len = refl;
    }

pub returns-then-query-len : goal.returns-then-query-len
returns-then-query-len c =
    let a = area_of c.args.parts.now in
    let q = span_of c.args.query.now in
    let late : length a.code ≤ q.at = omega (arith, c.requires.size) in
    record {
      begins = begins_skip a c.args.number c.args.first.now.place c.args.begins.now.items (late_query a c.args.number q c.requires.query late);
      tells = λ ss b. faults_same a ss c.args.first.now.place;
      len = refl;
    }

pub returns-then-not-is_free : goal.returns-then-not-is_free
returns-then-not-is_free c =
    let a = area_of c.args.parts.now in
    let q = span_of c.args.query.now in
    let told = c.args.first.now.place in
    let new = c.tell.new.self.place in
    let begins = c.args.begins.now.items in
    let some : q.at < q.end = omega arith in
    let within : q.at < length begins = omega arith in
    let f : c.is_free.result ≡ false = search rules in
    let free : IsTrue c.is_free.result ↔ (owner_at begins q.at ≡ None) = subst (λ (l : List (Option ℕ)). IsTrue c.is_free.result ↔ (owner_at l q.at ≡ None)) c.deref.ensures.value c.is_free.ensures in
    let m = taken (owner_at begins q.at) (failed c.is_free.result (owner_at begins q.at ≡ None) free f) in
    record {
      begins = λ b. begins_told a c.args.number told begins q c.requires.query some within c.requires.size b m.0 m.1 new c.tell.ensures.told c.tell.ensures.tells.kept;
      tells = λ ss b. faults_by a ss (λ p. p ≡ q.at) told new c.tell.ensures.tells
          (λ p e never. subst (λ x. ¬ FitsAt a ss x) (sym e)
          (begins_clash a c.args.number told begins q c.requires.query some within c.requires.size b m.0 m.1 ss));
      len = refl;
    }

pub returns : goal.returns
returns c =
    let a = area_of c.args.parts.now in
    let q = span_of c.args.query.now in
    let told = c.args.first.now.place in
    let begins = c.args.begins.now.items in
    let some : q.at < q.end = omega arith in
    let within : q.at < length begins = omega arith in
    let t : c.is_free.result ≡ true = search rules in
    let free : IsTrue c.is_free.result ↔ (owner_at begins q.at ≡ None) = subst (λ (l : List (Option ℕ)). IsTrue c.is_free.result ↔ (owner_at l q.at ≡ None)) c.deref.ensures.value c.is_free.ensures in
    record {
      begins = λ b. begins_put a c.args.number told begins q c.requires.query some within c.requires.size b (free.0 t);
      tells = λ ss b. faults_same a ss told;
      len = length-set begins q.at (Some c.args.number);
    }
