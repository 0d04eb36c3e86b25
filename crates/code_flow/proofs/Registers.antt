-- Argument registers and slots of a state.
use Rattle.std.proofs.Common.{◌≡◌, ℕ, zero, suc, ◌<◌, true, false, ◌&&◌, List, map, length, get_or, Some, None, option_map, sym, ap, ◌∙◌, arith}
use Rattle.std.proofs.lemmas.List.{length-map}
use Rattle.std.proofs.lemmas.Option.{slice_get-map, slice_get-get_or, slice_get_past}
use Rattle.fd_language.specs.Family.{has}
use Rattle.wam_code.specs.Effect.{are_set, slot_at}
use Rattle.code_listing.specs.declared.states.Slot.{Slot}
use Rattle.code_listing.specs.States.{slot_of}

-- ---- registers from 1 on

pub are_set_step : (rs : List ℕ) (k : ℕ) → has rs (suc k) ≡ true → are_set rs (suc k) ≡ are_set rs k
are_set_step rs k h = ap (λ b. b && are_set rs k) h

pub are_set_not : (rs : List ℕ) (k : ℕ) → has rs (suc k) ≡ false → are_set rs (suc k) ≡ false
are_set_not rs k h = ap (λ b. b && are_set rs k) h

-- ---- slots

pub slot_there : (xs : List Slot) (n : ℕ) (d : Slot) → n < length xs → Some (slot_of (get_or xs n d)) ≡ slot_at (Some (map slot_of xs)) (suc n)
slot_there xs n d h = ap (option_map slot_of) (sym (slice_get-get_or xs n d h)) ∙ sym (slice_get-map slot_of xs n)

pub slot_past : (xs : List Slot) (n : ℕ) → length xs < n → None ≡ slot_at (Some (map slot_of xs)) n
slot_past xs zero h = absurd (omega (arith, h))
slot_past xs (suc n) h = sym (slice_get_past (map slot_of xs) n (omega (arith, h, length-map xs slot_of)))
