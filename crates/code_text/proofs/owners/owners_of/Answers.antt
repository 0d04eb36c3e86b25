use Rattle.std.proofs.Common.{◌≡◌, ◌<◌, ◌+◌, ◌∷◌, [], ℕ, Some, List, length, subst, sym, ◌∙◌, ap, arith, rules, length-append}
use Rattle.wam_code.specs.Area.{area_of}
use Rattle.code_text.specs.Owners.{AreOwners, IsOwnersPlace}
use Rattle.code_text.proofs.PlaceOwners.{no_owner, begins_kept, owners_step, before_step, owner_clash, IsBefore, IsFound}
use Rattle.code_text.proofs.FaultPlaces.{faults_same, faults_then, faults_by}
use Rattle.code_text.proofs.owners.owners_of.Goals as goal

pub loop-at-init : goal.loop-at-init
loop-at-init c =
    let a = area_of c.args.parts.now in
    let told = c.args.first.now.place in
    record {
      size = search rules;
      owners = subst (λ (l : List _). AreOwners a 0 told l) (search rules) (no_owner a told);
      last = record { none = λ e. search rules; some = λ p e. absurd (omega (arith, e)) };
      tells = λ ss. faults_same a ss told;
    }

pub loop-at-preserved : goal.loop-at-preserved
loop-at-preserved c =
    let a = area_of c.args.parts.now in
    let inv = c.loop-at.invariant in
    let first = c.args.first.now.place in
    let told = c.loop-at.first.place in
    let new = c.owner_of-last.new.first.place in
    let begins = c.args.begins.now in
    let own = c.loop-at.owners.items in
    let last = c.loop-at.last in
    let stays = c.going_on-stays.result in
    let x = c.owner_of-last.result in
    let at = c.loop-at.at in
    let b = begins_kept a (length a.queries) first told begins ((inv.tells []).kept) c.requires.begins in
    let found : IsFound a told new begins own last stays x at = record {
      begun = λ n e. c.owner_of-last.ensures.begun n (c.owner_at-begun.ensures ∙ e);
      stayed = λ e. c.owner_of-last.ensures.stays (c.owner_at-begun.ensures ∙ e);
      tells = λ n e. c.owner_of-last.ensures.told n (c.owner_at-begun.ensures ∙ e);
      kept = c.owner_of-last.ensures.tells.kept;
    } in
    let there : at < length a.code = omega (arith, c.loop-at-test.true, c.requires.size) in
    let step = owners_step a told new begins own last stays x at inv.size there b inv.owners inv.last c.going_on-stays.ensures found in
    let before = before_step a told new begins own last stays x at inv.size there b inv.owners inv.last c.going_on-stays.ensures found in
    record {
      size = omega (arith, inv.size, ap length c.in_ok-push.ensures.items, length-append own (x ∷ []));
      owners = subst (λ l. AreOwners a (at + 1) new l) (sym c.in_ok-push.ensures.items) step;
      last = subst (λ l. IsBefore l (at + 1) x) (sym c.in_ok-push.ensures.items) before;
      tells = λ ss. faults_then a ss first told new (inv.tells ss)
          (faults_by a ss (λ p. ((n : ℕ) × (c.owner_at-begun.result ≡ Some n)) × IsOwnersPlace a stays p) told new c.owner_of-last.ensures.tells
          (λ p z never. owner_clash a told new begins own last stays x at inv.size there b inv.owners inv.last c.going_on-stays.ensures found ss p
          ((z.0.0, sym c.owner_at-begun.ensures ∙ z.0.1), z.1)));
    }
