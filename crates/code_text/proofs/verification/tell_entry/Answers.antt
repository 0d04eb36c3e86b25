use Rattle.std.proofs.Common.{rules, ◌≡◌, true, false, refl, subst, inl, inr, length}
use Rattle.std.proofs.lemmas.Option.{slice_get_read}
use Rattle.wam_code.specs.Area.{HasEntry, area_of}
use Rattle.code_flow.specs.PlaceConditions.{FitsEntry}
use Rattle.code_text.specs.Owners.{owner_at, IsOwnersPlace, IsOwnerTold}
use Rattle.code_listing.specs.States.{states_of}
use Rattle.code_text.specs.FaultPlaces.{Tells}
use Rattle.code_text.proofs.Faults.{entry_told, entry_fault, owner_fault}
use Rattle.code_text.proofs.PlaceConditions.{failed}
use Rattle.code_text.proofs.CrossingFaults.{owner_kept}
use Rattle.code_text.proofs.FaultPlaces.{faults_then}
use Rattle.code_text.proofs.verification.tell_entry.Goals as goal

pub returns-then-not-fits_entry : goal.returns-then-not-fits_entry
returns-then-not-fits_entry c =
    let a = area_of c.args.parts.now in
    let ss = states_of c.args.states.now in
    let own = c.args.owners.now in
    let n = c.args.number in
    let x = c.index-entry.result.now in
    let h : HasEntry a n x = slice_get_read a.entries (length a.entries) n x refl c.requires.number c.index-entry.ensures in
    let old = c.args.first.now.place in
    let mid = c.tell_owner.new.first.place in
    let new = c.tell.new.self.place in
    let f : c.fits_entry.result ≡ false = search rules in
    let o = subst (λ y. IsOwnerTold a y mid) c.owner_at.ensures c.tell_owner.ensures.told in
    let t = subst (λ y. Tells (IsOwnersPlace a y) old mid) c.owner_at.ensures c.tell_owner.ensures.tells in
    record {
      found = entry_told a ss n x h own new (inr c.tell.ensures.told) (owner_kept a own mid new c.tell.ensures.tells.kept (owner_at own x.at) o);
      tells = faults_then a ss old mid new (owner_fault a ss n x h own old mid c.requires.owners t)
          (entry_fault a ss n x h mid new (failed c.fits_entry.result (FitsEntry a ss x) c.fits_entry.ensures f) c.tell.ensures.tells);
    }

pub returns-else-not-fits_entry : goal.returns-else-not-fits_entry
returns-else-not-fits_entry c =
    let a = area_of c.args.parts.now in
    let ss = states_of c.args.states.now in
    let own = c.args.owners.now in
    let n = c.args.number in
    let x = c.index-entry.result.now in
    let h : HasEntry a n x = slice_get_read a.entries (length a.entries) n x refl c.requires.number c.index-entry.ensures in
    let old = c.args.first.now.place in
    let mid = c.tell_owner.new.first.place in
    let t : c.fits_entry.result ≡ true = search rules in
    let o = subst (λ y. IsOwnerTold a y mid) c.owner_at.ensures c.tell_owner.ensures.told in
    let s = subst (λ y. Tells (IsOwnersPlace a y) old mid) c.owner_at.ensures c.tell_owner.ensures.tells in
    record { found = entry_told a ss n x h own mid (inl (c.fits_entry.ensures.0 t)) o; tells = owner_fault a ss n x h own old mid c.requires.owners s }
