-- Choice points that are dropped: what is current stays, and so do the older ones.
use Rattle.std.proofs.Common.{◌≡◌, ℕ, zero, suc, ◌-◌, ◌<◌, ◌≤◌, List, [], ◌∷◌, ◌++◌, length, take, drop, reverse, refl, ap, sym, ◌∙◌, arith, get_or}
use Rattle.std.proofs.Common.{length-take, length-drop}
use Rattle.std.proofs.lemmas.List.{take-take, reverse-append, length-reverse, take-append-drop, get_or-reverse}
use Rattle.std.proofs.Math.Seq.{drop-append_seam}
use Rattle.code_areas.specs.declared.Mark.{Mark}
use Rattle.code_areas.specs.Areas.{Places}
use Rattle.code_areas.specs.AreaFields.{Stack, kept_by, points_of, slots_kept, frames_kept, IsLevel, AreMarks}
use Rattle.code_areas.proofs.Levels.{Keeps, marks_kept, points_kept, slots_below, frames_below}

-- The newest mark goes: the next one is below what is current too.
module _ (r q : ℕ) (saved : Places) (s : Stack) (l : IsLevel s) (m : Mark) (ms : List Mark) (a : AreMarks (m ∷ ms) r q saved s) where
  abbrev t : Stack
  t = kept_by m s.slots s.frames

  next_keeps : Keeps ms r q r q t s
  next_keeps =
      let x = slots_below ms r q (take m.first saved) t a.2 in
      let y = frames_below ms r q (take m.first saved) t a.2 in
      let xe = length-take m.slots s.slots in
      let ye = length-take m.frames s.frames in
      record {
        registers = omega arith;
        room = omega arith;
        slots_same = take-take (slots_kept ms) m.slots s.slots (omega (arith, x, xe));
        frames_same = take-take (frames_kept ms) m.frames s.frames (omega (arith, y, ye));
        slots_in = omega (arith, x, xe);
        frames_in = omega (arith, y, ye);
        roomy = λ b. a.0.roomy (omega (arith, b, x, xe));
      }

  one_marks : AreMarks ms r q (take m.first saved) s
  one_marks = marks_kept r q r q (take m.first saved) t s ms a.2 next_keeps

  one_points : points_of ms (take m.first saved) (take m.slots s.slots) (take m.frames s.frames) ≡ points_of ms (take m.first saved) s.slots s.frames
  one_points = sym (points_kept r q r q (take m.first saved) t s ms next_keeps)

-- what is left of the saved registers when so many marks go
abbrev pub saved_left : ℕ → List Mark → Places → Places
saved_left zero ms saved = saved
saved_left (suc j) [] saved = saved
saved_left (suc j) (m ∷ ms) saved = saved_left j ms (take m.first saved)

-- So many marks go.
pub many_dropped : (j : ℕ) (r q : ℕ) (saved : Places) (s : Stack) → IsLevel s → (ms : List Mark) → AreMarks ms r q saved s
    → AreMarks (drop j ms) r q (saved_left j ms saved) s × (points_of (drop j ms) (saved_left j ms saved) s.slots s.frames ≡ drop j (points_of ms saved s.slots s.frames))
many_dropped zero r q saved s l ms a = (a, refl)
many_dropped (suc j) r q saved s l [] a = (a, refl)
many_dropped (suc j) r q saved s l (m ∷ ms) a =
    let rest = many_dropped j r q (take m.first saved) s l ms (one_marks r q saved s l m ms a) in
    (rest.0, rest.1 ∙ ap (drop j) (sym (one_points r q saved s l m ms a)))

first_low : (j : ℕ) (r q : ℕ) (saved : Places) (s : Stack) (ms : List Mark) → AreMarks ms r q saved s → (d : Mark) → j < length ms → (get_or ms j d).first ≤ length saved
first_low j r q saved s [] a d l = absurd (omega (arith, l))
first_low zero r q saved s (m ∷ ms) a d l = a.0.saved_kept
first_low (suc j) r q saved s (m ∷ ms) a d l =
    let i = first_low j r q (take m.first saved) (kept_by m s.slots s.frames) ms a.2 d (omega (arith, l)) in
    let e = length-take m.first saved in
    omega (arith, i, e)

left_is : (j : ℕ) (r q : ℕ) (saved : Places) (s : Stack) (ms : List Mark) → AreMarks ms r q saved s → (d : Mark) → j < length ms → saved_left (suc j) ms saved ≡ take (get_or ms j d).first saved
left_is j r q saved s [] a d l = absurd (omega (arith, l))
left_is zero r q saved s (m ∷ ms) a d l = refl
left_is (suc j) r q saved s (m ∷ ms) a d l =
    let i = first_low j r q (take m.first saved) (kept_by m s.slots s.frames) ms a.2 d (omega (arith, l)) in
    let e = length-take m.first saved in
    left_is j r q (take m.first saved) (kept_by m s.slots s.frames) ms a.2 d (omega (arith, l)) ∙ take-take (get_or ms j d).first m.first saved (omega (arith, i, e))

-- what is left of them, by the oldest mark that goes
pub saved_to : (k : ℕ) (r q : ℕ) (saved : Places) (s : Stack) (marks : List Mark) → AreMarks (reverse marks) r q saved s → (d : Mark) → k < length marks
    → saved_left (length marks - k) (reverse marks) saved ≡ take (get_or marks k d).first saved
saved_to k r q saved s marks a d l =
    let many : length marks - k ≡ suc (length marks - 1 - k) = omega (arith, l) in
    let back : length marks - 1 - (length marks - 1 - k) ≡ k = omega (arith, l) in
    let size = length-reverse marks in
    ap (λ j. saved_left j (reverse marks) saved) many
    ∙ left_is (length marks - 1 - k) r q saved s (reverse marks) a d (omega (arith, l, size))
    ∙ ap (λ (m : Mark). take m.first saved) (get_or-reverse marks (length marks - 1 - k) d (omega (arith, l)) ∙ ap (λ j. get_or marks j d) back)

-- the marks that are kept, from the newest
pub kept_marks : {A : Type 0} (k : ℕ) (xs : List A) → k ≤ length xs → reverse (take k xs) ≡ drop (length xs - k) (reverse xs)
kept_marks k xs l =
    let gone = drop k xs in
    let whole : reverse xs ≡ reverse gone ++ reverse (take k xs) = ap reverse (sym (take-append-drop k xs)) ∙ reverse-append (take k xs) gone in
    let many : length (reverse gone) ≡ length xs - k = length-reverse gone ∙ length-drop k xs in
    sym (drop-append_seam (reverse gone) (reverse (take k xs))) ∙ ap (drop (length (reverse gone))) (sym whole) ∙ ap (λ n. drop n (reverse xs)) many
