use Rattle.std.proofs.Common.{◌≡◌, None, length, subst, sym, ◌∙◌, ap, arith, rules}
use Rattle.std.proofs.lemmas.List.{length-map, length-replicate}
use Rattle.wam_code.specs.Area.{area_of, span_of}
use Rattle.code_text.specs.Owners.{AreBegins}
use Rattle.code_text.proofs.PlaceOwners.{no_begins}
use Rattle.code_text.proofs.FaultPlaces.{faults_same, faults_then}
use Rattle.code_text.proofs.owners.begins_of.Goals as goal

pub loop-number-init : goal.loop-number-init
loop-number-init c =
    let a = area_of c.args.parts.now in
    let told = c.args.first.now.place in
    record {
      size = ap length c.in_ok-begins.ensures ∙ length-replicate _ None ∙ search rules;
      begins = subst (λ l. AreBegins a 0 told l) (sym c.in_ok-begins.ensures) (no_begins a told _);
      tells = λ ss. faults_same a ss told;
    }

pub loop-number-preserved : goal.loop-number-preserved
loop-number-preserved c =
    let a = area_of c.args.parts.now in
    let inv = c.loop-number.invariant in
    record {
      size = c.put_begin.ensures.len ∙ inv.size;
      begins = c.put_begin.ensures.begins inv.begins;
      tells = λ ss. faults_then a ss c.args.first.now.place c.loop-number.first.place c.put_begin.new.first.place (inv.tells ss) (c.put_begin.ensures.tells ss inv.begins);
    }

pub returns : goal.returns
returns c =
    let a = area_of c.args.parts.now in
    let inv = c.loop-number.invariant in
    let all : c.loop-number.number ≡ length a.queries = omega (arith, c.loop-number-test.false, length-map c.args.parts.now.queries.items span_of) in
    record { begins = subst (λ n. AreBegins a n c.loop-number.first.place c.loop-number.begins.items) all inv.begins; tells = inv.tells; len = inv.size }
