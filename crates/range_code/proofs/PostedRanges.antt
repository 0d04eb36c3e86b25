-- The range that is posted, where its arguments fit.
use Rattle.std.proofs.Common.{◌≡◌, ℕ, ℤ, ◌<◌, Bool, true, cond, ◌&&◌, ◌==◌, List, [], ◌∷◌, map, Some, None, refl, sym, ◌∙◌, ap, subst, inl, inr, eqb-true}
use Rattle.std.proofs.Common.{eq-eqb}
use Rattle.std.specs.List.{list_all}
use Rattle.std.proofs.lemmas.Bool.{true≢false, or_left, or_right, or_cases, and_parts}
use Rattle.std.proofs.lemmas.List.Folds.{list_all-map}
use Rattle.fd_language.specs.declared.TheConstants.{INFINITY}
use Rattle.fd_language.specs.declared.range_node.Need.{Need}
use Rattle.fd_language.specs.Family.{has}
use Rattle.fd_language.specs.Range.{Range, reads}
use Rattle.fd_language.specs.Needs.{meets, asks, parameters, need_of, meets_needs}
use Rattle.fd_language.specs.Check.{fill_range, range_fits}
use Rattle.fd_language.specs.Range.{params}
use Rattle.fd_language.specs.RangeVerdict.{range_within, is_accepted, has_one_use}
use Rattle.fd_language.specs.Monotonicity.{IsMonotone}
use Rattle.fd_language.proofs.Lemmas.{of_asks, range_asked, has_once, accepted_is_monotone, two, reads_map, monotone_renamed}
use Rattle.range_code.specs.declared.frame.Arg.{Arg}
use Rattle.range_code.specs.declared.frame.Arg.TheVariants.{Var, Int}
use Rattle.range_code.specs.Slots.{slot_of}
use Rattle.range_code.specs.Frames.{IsArg, IsArgumentFrame, arg_integer, arg_at, slot_variable, slot_integer, posted}
use Rattle.range_code.proofs.Frames.{params_occur, slotted, reads_seen}
use Rattle.range_code.proofs.Standings.{reads_filled}

all_of : (t : ℕ → Bool) (xs : List ℕ) → ((x : ℕ) → has xs x ≡ true → t x ≡ true) → list_all t xs ≡ true
all_of t [] h = refl
all_of t (x ∷ xs) h = two (λ a b. a && b) (h x (or_left (x == x) (has xs x) (eq-eqb x x refl))) (all_of t xs (λ y k. h y (or_right (x == y) (has xs y) k)))

meets_arg : (count : ℕ) (n : Need) (a : Arg) → IsArg count (Some n) a → meets n (arg_integer a) ≡ true
meets_arg count n (Int z) h = h
meets_arg count n (Var k) h = absurd h

has_back : (f : ℕ → ℕ) (P : ℕ → Type 0) (xs : List ℕ) → ((x : ℕ) → has xs x ≡ true → P (f x)) → (y : ℕ) → has (map f xs) y ≡ true → P y
has_back f P [] h y k = absurd (true≢false (sym k))
has_back f P (x ∷ xs) h y k = elim (or_cases (f x == y) (has (map f xs) y) k) [
  | inl e ↦ subst P (eqb-true (f x) y e) (h x (or_left (x == x) (has xs x) (eq-eqb x x refl)))
  | inr e ↦ has_back f P xs (λ z j. h z (or_right (x == z) (has xs z) j)) y e
]

-- an accepted range keeps the direction table, and no variable has two uses
pub fits_table : (r : Range) → is_accepted INFINITY r ≡ true → range_fits INFINITY r true ≡ true
fits_table r h = (and_parts (range_fits INFINITY r true) (has_one_use r) ((and_parts (range_within INFINITY r) (range_fits INFINITY r true && has_one_use r) h).1)).0

pub one_use : (r : Range) → is_accepted INFINITY r ≡ true → has_one_use r ≡ true
one_use r h = (and_parts (range_fits INFINITY r true) (has_one_use r) ((and_parts (range_within INFINITY r) (range_fits INFINITY r true && has_one_use r) h).1)).1

module _ (count : ℕ) (r : Range) (args : List Arg) (accepted : is_accepted INFINITY r ≡ true) (frame : IsArgumentFrame count r args) where
  abbrev by_variable : ℕ → ℤ
  by_variable y = slot_integer args (slot_of r y)

  -- each parameter's integer meets its need
  pub frame_meets : meets_needs by_variable r ≡ true
  frame_meets = list_all-map (λ d. meets d.1 (by_variable d.0)) (λ x. (x, need_of r x)) (parameters r) ∙ all_of (λ x. meets (need_of r x) (by_variable x)) (parameters r) each where
    each : (x : ℕ) → has (parameters r) x ≡ true → meets (need_of r x) (by_variable x) ≡ true
    each x h =
        let p : has (params r) x ≡ true = sym (has_once (of_asks (asks r)) x ∙ ap (λ l. has l x) (range_asked r)) ∙ h in
        let a = slotted count r args frame (one_use r accepted) x (params_occur r x p) in
        meets_arg count (need_of r x) (arg_at args (slot_of r x)) (subst (λ n. IsArg count n (arg_at args (slot_of r x))) (ap (λ b. cond b (Some (need_of r x)) None) p) a.fitting)

  -- the posted range only shrinks when domains shrink, and names variables below the count
  pub posted_monotone : IsMonotone INFINITY (posted r args)
  posted_monotone = monotone_renamed INFINITY (λ y. slot_variable args (slot_of r y)) (fill_range by_variable r) (accepted_is_monotone INFINITY r by_variable (fits_table r accepted) frame_meets)

  pub posted_below : (y : ℕ) → has (reads (posted r args)) y ≡ true → y < count
  posted_below y h =
      has_back (λ z. slot_variable args (slot_of r z)) (λ k. k < count) (reads r) (λ z k. (reads_seen count r args frame (one_use r accepted) z k).1) y
      (subst (λ l. has l y ≡ true) (reads_map (λ z. slot_variable args (slot_of r z)) (fill_range by_variable r) ∙ ap (map (λ z. slot_variable args (slot_of r z))) (reads_filled by_variable r)) h)
