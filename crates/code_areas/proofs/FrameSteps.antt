-- What each call makes of the slots and the frames, and of what is seen of them.
use Rattle.std.proofs.Common.{◌≡◌, ℕ, suc, ◌+◌, ◌-◌, ◌<◌, ◌≤◌, List, [], ◌∷◌, ◌++◌, length, take, drop, slice_set, refl, ap, sym, ◌∙◌, subst, inl, inr, arith}
use Rattle.std.proofs.Common.{length-append, length-take, length-drop}
use Rattle.std.proofs.lemmas.Bool.{cases_lt}
use Rattle.std.proofs.lemmas.List.{take-take, take-append-le, length-set, take-set-le, drop-set-add, length-take-le}
use Rattle.std.proofs.Math.Seq.{take-length, take-append_seam, drop-append_seam, get_or-append_seam, take-set-lt}
use Rattle.code_areas.specs.declared.Frame.{Frame}
use Rattle.code_areas.specs.declared.Mark.{Mark}
use Rattle.code_areas.specs.Areas.{Held, Places, Contents}
use Rattle.code_areas.specs.AreaFields.{Stack, no_frame, frame_at, return_of, returns_of, end_of, slots_of, points_of, seen, frames_kept, slots_kept, IsLevel}
use Rattle.code_areas.specs.AreaFields.{AreMarks, Holds}
use Rattle.code_areas.proofs.Levels.{part_same, frame_same, end_same, frames_of, returns_same, returns_next, Keeps, marks_kept, seen_kept, slots_below}
use Rattle.code_areas.proofs.Levels.{frames_below}

-- places that stand as they are up to some number are as long
whole : (xs : Places) (n : ℕ) → n ≤ length xs → (ys : Places) → take n (xs ++ ys) ≡ take n xs
whole xs n l ys = take-append-le n xs ys l

module _ (noted : ℕ) (held saved : Places) (r q : ℕ) (s : Stack) (ms : List Mark) (h : Holds r q saved s ms) where
  abbrev l : IsLevel s
  l = h.0

  abbrev old : Contents
  old = seen noted held saved s ms

  high : slots_kept ms ≤ length s.slots
  high = slots_below ms r q saved s h.1

  highest : frames_kept ms ≤ length s.frames
  highest = frames_below ms r q saved s h.1

  -- more registers, and more room
  pub more_hold : (r' q' : ℕ) → r ≤ r' → q ≤ q' → Holds r' q' saved s ms
  more_hold r' q' i j = (l, marks_kept r q r' q' saved s s ms h.1 keeps)
    where
      keeps : Keeps ms r q r' q' s s
      keeps = record { registers = i; room = j; slots_same = refl; frames_same = refl; slots_in = high; frames_in = highest; roomy = λ b. (let k = room ms h.1 b in omega (arith, k, j)) }
        where
          room : (ms : List Mark) → AreMarks ms r q saved s → s.base < slots_kept ms → length s.slots + s.size ≤ q
          room [] a b = absurd (omega (arith, b))
          room (m ∷ ms) a b = a.0.roomy b

  -- a frame above all slots
  module _ (q' : ℕ) (more : q ≤ q') (xs : Places) where
    abbrev put : Stack
    put = record { slots = s.slots ++ xs; base = length s.slots; size = length xs; frames = s.frames; newest = s.newest }

    put_keeps : Keeps ms r q r q' s put
    put_keeps =
        let i = high in
        let e = length-append s.slots xs in
        record {
          registers = omega arith;
          room = more;
          slots_same = sym (whole s.slots (slots_kept ms) high xs);
          frames_same = refl;
          slots_in = omega (arith, i, e);
          frames_in = highest;
          roomy = λ b. absurd (omega (arith, i, b));
        }

    pub put_holds : Holds r q' saved put ms
    put_holds =
        let e = length-append s.slots xs in
        let i = l.above in
        let j = l.there in (
          record { there = omega (arith, e); newest_in = l.newest_in; above = omega (arith, i, j); ordered = l.ordered; older = l.older; rising = l.rising },
          marks_kept r q r q' saved s put ms h.1 put_keeps,
        )

    pub put_seen : seen noted held saved put ms ≡ record old { slots = xs }
    put_seen =
        let i = l.above in
        let j = l.there in
        seen_kept r q r q' saved s put noted held xs (returns_of s.slots s.frames s.newest) ms put_keeps
        (ap (take (length xs)) (drop-append_seam s.slots xs) ∙ take-length xs)
        (sym (returns_same s.slots (s.slots ++ xs) s.frames s.frames (length s.slots) (length s.frames) (frames_of s l (length s.frames) (omega arith))
        (sym (whole s.slots (length s.slots) (omega arith) xs)) refl s.newest l.newest_in (omega (arith, i, j))))

  -- a slot of the current frame is set, which no mark keeps
  module _ (own : slots_kept ms ≤ s.base) (n : ℕ) (v : Held) (in_frame : n < s.size) where
    abbrev set : Stack
    set = record s { slots = slice_set s.slots (s.base + n) v }

    same_size : length (slice_set s.slots (s.base + n) v) ≡ length s.slots
    same_size = length-set s.slots (s.base + n) v

    same_front : (k : ℕ) → k ≤ s.base → take k s.slots ≡ take k (slice_set s.slots (s.base + n) v)
    same_front k i = sym (take-set-le k s.slots (s.base + n) v (omega (arith, i)))

    set_keeps : Keeps ms r q r q s set
    set_keeps =
        let e = same_size in
        let i = high in
        record {
          registers = omega arith;
          room = omega arith;
          slots_same = same_front (slots_kept ms) own;
          frames_same = refl;
          slots_in = omega (arith, e, i);
          frames_in = highest;
          roomy = λ b. absurd (omega (arith, b, own));
        }

    pub set_holds : Holds r q saved set ms
    set_holds =
        let e = same_size in
        let i = l.there in (
          record { there = omega (arith, e, i); newest_in = l.newest_in; above = l.above; ordered = l.ordered; older = l.older; rising = l.rising },
          marks_kept r q r q saved s set ms h.1 set_keeps,
        )

    pub set_seen : seen noted held saved set ms ≡ record old { slots = slice_set (slots_of s) n v }
    set_seen =
        seen_kept r q r q saved s set noted held (slice_set (slots_of s) n v) (returns_of s.slots s.frames s.newest) ms set_keeps
        (ap (take s.size) (drop-set-add s.base s.slots n v) ∙ take-set-lt s.size (drop s.base s.slots) n v in_frame)
        (sym (returns_same s.slots (slice_set s.slots (s.base + n) v) s.frames s.frames s.base (length s.frames) (frames_of s l (length s.frames) (omega arith))
        (same_front s.base (omega arith)) refl s.newest l.newest_in l.above))

  -- slots and frames are cut off behind what marks, the current frame and its continuations need
  module _ (most some base size newest : ℕ) (slots_most : slots_kept ms ≤ most) (frames_some : frames_kept ms ≤ some) (within : base + size ≤ most)
      (there : base + size ≤ length s.slots) (few : newest ≤ some) (known : newest ≤ length s.frames)
      (above : end_of s.frames newest ≤ base) (q' : ℕ) (more : q ≤ q') (roomy : base < slots_kept ms → length s.slots + size ≤ q')
    where
      abbrev cut : Stack
      cut = record { slots = take most s.slots; base = base; size = size; frames = take some s.frames; newest = newest }

      front : (k : ℕ) → k ≤ most → take k s.slots ≡ take k (take most s.slots)
      front k i = sym (take-take k most s.slots i)

      first : (k : ℕ) → k ≤ some → take k s.frames ≡ take k (take some s.frames)
      first k i = sym (take-take k some s.frames i)

      cut_keeps : Keeps ms r q r q' s cut
      cut_keeps =
          let e = length-take most s.slots in
          let f = length-take some s.frames in
          let i = high in
          let j = highest in
          record {
            registers = omega arith;
            room = more;
            slots_same = front (slots_kept ms) slots_most;
            frames_same = first (frames_kept ms) frames_some;
            slots_in = omega (arith, e, i, slots_most);
            frames_in = omega (arith, f, j, frames_some);
            roomy = λ b. (let k = roomy b in omega (arith, e, k));
          }

      at : (k : ℕ) → k < length (take some s.frames) → frame_at s.frames k ≡ frame_at (take some s.frames) k
      at k i = let f = length-take some s.frames in frame_same some s.frames (take some s.frames) (first some (omega arith)) k (omega (arith, f, i))

      in_frames : (k : ℕ) → k < length (take some s.frames) → k < length s.frames
      in_frames k i = let f = length-take some s.frames in omega (arith, f, i)

      cut_rises : (k : ℕ) → k < length (take some s.frames) → end_of (take some s.frames) (frame_at (take some s.frames) k).behind ≤ (frame_at (take some s.frames) k).start
      cut_rises k i =
          let f = length-take some s.frames in
          let o = l.older k (in_frames k i) in
          let e = end_same some s.frames (take some s.frames) (first some (omega arith)) (frame_at s.frames k).behind (omega (arith, o, f, i)) in
          subst (λ (x : Frame). end_of (take some s.frames) x.behind ≤ x.start) (at k i) (subst (λ x. x ≤ (frame_at s.frames k).start) e (l.rising k (in_frames k i)))

      pub cut_holds : Holds r q' saved cut ms
      cut_holds =
          let e = length-take most s.slots in
          let f = length-take some s.frames in (
            record {
              there = omega (arith, e, within, there);
              newest_in = omega (arith, f, few, known);
              above = subst (λ x. x ≤ base) (end_same some s.frames (take some s.frames) (first some (omega arith)) newest few) above;
              ordered = λ k i. subst (λ (x : Frame). x.start ≤ x.end) (at k i) (l.ordered k (in_frames k i));
              older = λ k i. subst (λ (x : Frame). x.behind ≤ k) (at k i) (l.older k (in_frames k i));
              rising = cut_rises;
            },
            marks_kept r q r q' saved s cut ms h.1 cut_keeps,
          )

      pub cut_seen : seen noted held saved cut ms ≡ record old { slots = take size (drop base s.slots); returns = returns_of s.slots s.frames newest }
      cut_seen =
          seen_kept r q r q' saved s cut noted held (take size (drop base s.slots)) (returns_of s.slots s.frames newest) ms cut_keeps
          (sym (part_same most s.slots (take most s.slots) (front most (omega arith)) base size within))
          (sym (returns_same s.slots (take most s.slots) s.frames (take some s.frames) base newest (frames_of s l newest known)
          (front base (omega (arith, within))) (first newest few) newest (omega arith) above))

      -- and by what is there then
      pub cut_stays : seen noted held saved cut ms ≡ record old { slots = slots_of cut; returns = returns_of (take most s.slots) (take some s.frames) newest }
      cut_stays = seen_kept r q r q' saved s cut noted held (slots_of cut) (returns_of (take most s.slots) (take some s.frames) newest) ms cut_keeps refl refl

  -- the current frame moves down to what marks and continuations need
  module _ (end : ℕ) (order : end ≤ s.base) (slots_end : slots_kept ms ≤ end) (above : end_of s.frames s.newest ≤ end) where
    abbrev moved : Stack
    moved = record s { slots = take end s.slots ++ drop s.base s.slots; base = end }

    size_front : length (take end s.slots) ≡ end
    size_front = let i = l.there in length-take-le end s.slots (omega (arith, i, order))

    size_moved : length (take end s.slots ++ drop s.base s.slots) ≡ end + (length s.slots - s.base)
    size_moved = let e = size_front in let f = length-append (take end s.slots) (drop s.base s.slots) in let g = length-drop s.base s.slots in omega (arith, e, f, g)

    moved_front : (k : ℕ) → k ≤ end → take k s.slots ≡ take k (take end s.slots ++ drop s.base s.slots)
    moved_front k i = let e = size_front in sym (whole (take end s.slots) k (omega (arith, e, i)) (drop s.base s.slots) ∙ take-take k end s.slots i)

    moved_rest : drop end (take end s.slots ++ drop s.base s.slots) ≡ drop s.base s.slots
    moved_rest = ap (λ k. drop k (take end s.slots ++ drop s.base s.slots)) (sym size_front) ∙ drop-append_seam (take end s.slots) (drop s.base s.slots)

    moved_keeps : Keeps ms r q r q s moved
    moved_keeps =
        let e = size_moved in
        record {
          registers = omega arith;
          room = omega arith;
          slots_same = moved_front (slots_kept ms) slots_end;
          frames_same = refl;
          slots_in = omega (arith, e, slots_end);
          frames_in = highest;
          roomy = λ b. absurd (omega (arith, b, slots_end));
        }

    pub moved_holds : Holds r q saved moved ms
    moved_holds =
        let e = size_moved in
        let i = l.there in (
          record { there = omega (arith, e, i); newest_in = l.newest_in; above = above; ordered = l.ordered; older = l.older; rising = l.rising },
          marks_kept r q r q saved s moved ms h.1 moved_keeps,
        )

    pub moved_seen : seen noted held saved moved ms ≡ old
    moved_seen =
        seen_kept r q r q saved s moved noted held (slots_of s) (returns_of s.slots s.frames s.newest) ms moved_keeps
        (ap (take s.size) moved_rest)
        (sym (returns_same s.slots (take end s.slots ++ drop s.base s.slots) s.frames s.frames end (length s.frames)
        (frames_of s l (length s.frames) (omega arith)) (moved_front end (omega arith)) refl s.newest l.newest_in above))

  -- a call
  module _ (to : ℕ) where
    abbrev f : Frame
    f = record { to = to; start = s.base; end = s.base + s.size; behind = s.newest }

    abbrev frames : List Frame
    frames = s.frames ++ f ∷ []

    abbrev called : Stack
    called = record { slots = s.slots; base = length s.slots; size = 0; frames = frames; newest = suc (length s.frames) }

    size_frames : length frames ≡ suc (length s.frames)
    size_frames = let e = length-append s.frames (f ∷ []) in omega (arith, e)

    front_frames : (k : ℕ) → k ≤ length s.frames → take k s.frames ≡ take k frames
    front_frames k i = sym (take-append-le k s.frames (f ∷ []) i)

    new_at : frame_at frames (length s.frames) ≡ f
    new_at = get_or-append_seam s.frames f [] no_frame

    each : (T : ℕ → Frame → Type 0) → ((k : ℕ) → k < length s.frames → T k (frame_at s.frames k)) → T (length s.frames) f → (k : ℕ) → k < length frames → T k (frame_at frames k)
    each T h g k i = elim (cases_lt k (length s.frames)) [
      | inl j ↦ subst (T k) (frame_same (length s.frames) s.frames frames (front_frames (length s.frames) (omega arith)) k j) (h k j)
      | inr j ↦ (let e = size_frames in let here : length s.frames ≡ k = omega (arith, e, i, j) in subst (λ k. T k (frame_at frames k)) here (subst (T (length s.frames)) (sym new_at) g))
    ]

    ends : (k : ℕ) → k ≤ length s.frames → end_of s.frames k ≡ end_of frames k
    ends k i = end_same (length s.frames) s.frames frames (front_frames (length s.frames) (omega arith)) k i

    call_keeps : Keeps ms r q r q s called
    call_keeps =
        let i = high in
        let j = highest in
        let e = size_frames in
        record {
          registers = omega arith;
          room = omega arith;
          slots_same = refl;
          frames_same = front_frames (frames_kept ms) highest;
          slots_in = i;
          frames_in = omega (arith, e, j);
          roomy = λ b. absurd (omega (arith, i, b));
        }

    call_rises : (k : ℕ) → k < length s.frames → end_of frames (frame_at s.frames k).behind ≤ (frame_at s.frames k).start
    call_rises k i = let o = l.older k i in subst (λ x. x ≤ (frame_at s.frames k).start) (ends (frame_at s.frames k).behind (omega (arith, o, i))) (l.rising k i)

    pub call_holds : Holds r q saved called ms
    call_holds =
        let e = size_frames in
        let i = l.there in (
          record {
            there = omega arith;
            newest_in = omega (arith, e);
            above = subst (λ (x : Frame). x.end ≤ length s.slots) (sym new_at) i;
            ordered = each (λ k (x : Frame). x.start ≤ x.end) l.ordered (omega arith);
            older = each (λ k (x : Frame). x.behind ≤ k) l.older l.newest_in;
            rising = each (λ k (x : Frame). end_of frames x.behind ≤ x.start) call_rises (subst (λ x. x ≤ s.base) (ends s.newest l.newest_in) l.above);
          },
          marks_kept r q r q saved s called ms h.1 call_keeps,
        )

    many : s.base + s.size - s.base ≡ s.size
    many = omega arith

    pub call_seen : seen noted held saved called ms ≡ record old { slots = []; returns = record { to = to; slots = slots_of s } ∷ returns_of s.slots s.frames s.newest }
    call_seen =
        let e = size_frames in
        seen_kept r q r q saved s called noted held [] (record { to = to; slots = slots_of s } ∷ returns_of s.slots s.frames s.newest) ms call_keeps
        refl
        (returns_next s.slots frames (length frames) (frames_of called call_holds.0 (length frames) (omega arith)) (length s.frames) (omega (arith, e))
        ∙ ap (λ (x : Frame). return_of s.slots x ∷ returns_of s.slots frames x.behind) new_at
        ∙ ap (λ k. record { to = to; slots = take k (drop s.base s.slots) } ∷ returns_of s.slots frames s.newest) many
        ∙ ap (λ x. record { to = to; slots = slots_of s } ∷ x)
        (sym (returns_same s.slots s.slots s.frames frames s.base (length s.frames) (frames_of s l (length s.frames) (omega arith)) refl
        (front_frames (length s.frames) (omega arith)) s.newest l.newest_in l.above)))

  -- a choice point
  module _ (place q' : ℕ) (more : q ≤ q') (room : length s.slots + s.size ≤ q') (fits : length held ≤ r) where
    abbrev mark : Mark
    mark = record { place = place; first = length saved; base = s.base; size = s.size; slots = length s.slots; frames = length s.frames; newest = s.newest; noted = noted }

    saved_same : take (length saved) (saved ++ held) ≡ saved
    saved_same = take-append_seam saved held

    pub push_holds : Holds r q' (saved ++ held) s (mark ∷ ms)
    push_holds =
        let e = length-append saved held in
        let below : IsLevel s × AreMarks ms r q' saved s = more_hold r q' (omega arith) more in
        let T : Places → Places → List Frame → Type 0 = λ x y z. IsLevel (record { slots = y; base = s.base; size = s.size; frames = z; newest = s.newest })
        × AreMarks ms r q' x (record { slots = y; base = s.base; size = s.size; frames = z; newest = s.newest }) in
        let all = subst (λ x. T x (take (length s.slots) s.slots) (take (length s.frames) s.frames)) (sym saved_same)
        (subst (λ y. T saved y (take (length s.frames) s.frames)) (sym (take-length s.slots))
        (subst (T saved s.slots) (sym (take-length s.frames)) below)) in
        (l, (record { saved_kept = omega (arith, e); slots_kept = omega arith; frames_kept = omega arith; fitting = omega (arith, e, fits); roomy = λ b. room; again = room }, all.0, all.1))

    pub push_seen : seen noted held (saved ++ held) s (mark ∷ ms) ≡ record old {
      points = record { place = place; registers = held; slots = slots_of s; returns = returns_of s.slots s.frames s.newest; noted = noted } ∷ points_of ms
          saved s.slots s.frames;
    }
    push_seen =
        let point = λ (w x y : Places) (z : List Frame). record old {
          points = record {
            place = place;
            registers = w;
            slots = take s.size (drop s.base y);
            returns = returns_of y z s.newest;
            noted = noted;
          } ∷ points_of ms x y z;
        } in
        ap (λ w. point w (take (length saved) (saved ++ held)) (take (length s.slots) s.slots) (take (length s.frames) s.frames)) (drop-append_seam saved held)
        ∙ ap (λ x. point held x (take (length s.slots) s.slots) (take (length s.frames) s.frames)) saved_same
        ∙ ap (λ y. point held saved y (take (length s.frames) s.frames)) (take-length s.slots)
        ∙ ap (point held saved s.slots) (take-length s.frames)
