-- The same by the fields that the code reads and writes.
use Rattle.std.proofs.Common.{◌≡◌, ℕ, zero, suc, ◌+◌, ◌-◌, ◌<◌, ◌≤◌, List, [], ◌∷◌, ◌++◌, length, take, drop, reverse, slice_range, slice_set, refl, ap, sym}
use Rattle.std.proofs.Common.{◌∙◌, subst, inl, inr, arith, get_or, length-append, length-take, length-drop}
use Rattle.std.proofs.lemmas.Bool.{cases_lt}
use Rattle.std.proofs.lemmas.List.{get_or_default}
use Rattle.std.proofs.Math.Seq.{take-length}
use Rattle.code_areas.specs.declared.Frame.{Frame}
use Rattle.code_areas.specs.declared.Mark.{Mark}
use Rattle.code_areas.specs.Areas.{Held, Places, Contents}
use Rattle.code_areas.specs.AreaFields.{Stack, no_frame, frame_at, returns_of, end_of, slots_of, points_of, seen, frames_kept, slots_kept, AreStored}
use Rattle.code_areas.proofs.Levels.{frames_of, returns_next, slots_below, frames_below, room_there}
use Rattle.code_areas.proofs.DroppedPoints.{saved_left, many_dropped, saved_to, kept_marks}
use Rattle.code_areas.proofs.FrameSteps.{more_hold, put_holds, put_seen, set_holds, set_seen, cut_holds, cut_seen, cut_stays, moved_holds, moved_seen}
use Rattle.code_areas.proofs.FrameSteps.{call_holds, call_seen, push_holds, push_seen}

-- where there is a continuation, there is a newest frame
pub some_newest : (slots : Places) (frames : List Frame) (newest : ℕ) → 0 < length (returns_of slots frames newest) → newest ≡ suc (newest - 1)
some_newest slots frames zero l = absurd (omega (arith, l))
some_newest slots frames (suc k) l = omega arith

module _ (noted held r q floor : ℕ) (now saved : Places) (s : Stack) (ms : List Mark) (a : AreStored held r q saved floor s ms) where
  abbrev old : Contents
  old = seen noted now saved s ms

  -- a return
  module _ (k : ℕ) (is : s.newest ≡ suc k) where
    abbrev g : Frame
    g = frame_at s.frames k

    -- the frame that is read
    pub frame_read : (f : Frame) → f ≡ get_or s.frames k f → f ≡ g
    frame_read f e = let n = a.holds.0.newest_in in e ∙ get_or_default s.frames k f no_frame (omega (arith, n, is))

    in_range : k < length s.frames
    in_range = let n = a.holds.0.newest_in in omega (arith, n, is)

    pub frame_ordered : g.start ≤ g.end
    frame_ordered = a.holds.0.ordered k in_range

    frame_low : g.end ≤ s.base
    frame_low = subst (λ n. end_of s.frames n ≤ s.base) is a.holds.0.above

    abbrev back : Places → List Frame → Frame → Stack
    back ys fs f = record { slots = ys; base = f.start; size = f.end - f.start; frames = fs; newest = f.behind }

    abbrev Returned : ℕ → Places → List Frame → Frame → Type 0
    Returned q' ys fs f =
        AreStored held r q' saved floor (back ys fs f) ms
        × (seen noted now saved (back ys fs f) ms ≡ record old { slots = slots_of (back ys fs f); returns = returns_of ys fs f.behind })
        × (returns_of s.slots s.frames s.newest ≡ record { to = f.to; slots = slots_of (back ys fs f) } ∷ returns_of ys fs f.behind)

    pub return_made : (q' most some : ℕ) → q ≤ q' → (f : Frame) → f ≡ g → floor ≤ most → f.end ≤ most → frames_kept ms ≤ some → k ≤ some → (f.start < floor → length s.slots + (f.end - f.start) ≤ q')
        → (ys : Places) → ys ≡ take most s.slots → (fs : List Frame) → fs ≡ take some s.frames → Returned q' ys fs f
    return_made q' most some more f e i j m n room ys x fs y =
        subst (λ f. Returned q' ys fs f) (sym e) (subst (λ fs. Returned q' ys fs g) (sym y) (subst (λ ys. Returned q' ys (take some s.frames) g) (sym x) here))
      where
        last : g.end ≤ most
        last = subst (λ (f : Frame). f.end ≤ most) e j

        roomy : g.start < slots_kept ms → length s.slots + (g.end - g.start) ≤ q'
        roomy b = subst (λ (f : Frame). f.start < floor → length s.slots + (f.end - f.start) ≤ q') e room (let z = a.floor_is in omega (arith, b, z))

        kept : slots_kept ms ≤ most
        kept = let z = a.floor_is in omega (arith, i, z)

        here : Returned q' (take most s.slots) (take some s.frames) g
        here =
            let o = frame_ordered in
            let w = frame_low in
            let t = a.holds.0.there in
            let b = a.holds.0.older k in_range in
            let c = in_range in
            let up = a.holds.0.rising k in_range in
            let l1 : g.start + (g.end - g.start) ≤ most = omega (arith, o, last) in
            let l2 : g.start + (g.end - g.start) ≤ length s.slots = omega (arith, o, w, t) in
            let l3 : g.behind ≤ some = omega (arith, b, n) in
            let l4 : g.behind ≤ length s.frames = omega (arith, b, c) in
            let see = cut_seen noted now saved r q s ms a.holds most some g.start (g.end - g.start) g.behind kept m l1 l2 l3 l4 up q' more roomy in (
              record {
                held_in = a.held_in;
                floor_is = a.floor_is;
                holds = cut_holds noted now saved r q s ms a.holds most some g.start (g.end - g.start) g.behind kept m l1 l2 l3 l4 up q' more roomy;
              },
              cut_stays noted now saved r q s ms a.holds most some g.start (g.end - g.start) g.behind kept m l1 l2 l3 l4 up q' more roomy,
              ap (returns_of s.slots s.frames) is
                  ∙ returns_next s.slots s.frames (length s.frames) (frames_of s a.holds.0 (length s.frames) (omega arith)) k in_range
                  ∙ ap (λ (c : Contents). record { to = g.to; slots = c.slots } ∷ c.returns) (sym see),
            )

  -- frames and slots that nothing needs are given back
  pub given_back : (most some : ℕ) → floor ≤ most → s.base + s.size ≤ most → frames_kept ms ≤ some → s.newest ≤ some
      → AreStored held r q saved floor (record s { slots = take most s.slots; frames = take some s.frames }) ms
      × (seen noted now saved (record s { slots = take most s.slots; frames = take some s.frames }) ms ≡ old)
  given_back most some i j m n =
      let z = a.floor_is in
      let kept : slots_kept ms ≤ most = omega (arith, i, z) in
      let l = a.holds.0 in
      let roomy = room_there ms r q saved s a.holds.1 in (
        record {
          held_in = a.held_in;
          floor_is = a.floor_is;
          holds = cut_holds noted now saved r q s ms a.holds most some s.base s.size s.newest kept m j l.there n l.newest_in l.above q (omega arith) roomy;
        },
        cut_seen noted now saved r q s ms a.holds most some s.base s.size s.newest kept m j l.there n l.newest_in l.above q (omega arith) roomy,
      )

  -- a call, whose end, place among the frames and length of all slots are what the code has read
  module _ (to end n count : ℕ) (fs : List Frame) (e : end ≡ s.base + s.size)
      (x : fs ≡ s.frames ++ record { to = to; start = s.base; end = end; behind = s.newest } ∷ []) (i : count ≡ length fs) (j : n ≡ length s.slots) where
    abbrev went : ℕ → List Frame → ℕ → Stack
    went n fs count = record { slots = s.slots; base = n; size = 0; frames = fs; newest = count }

    abbrev Called : ℕ → List Frame → ℕ → Type 0
    Called n fs count =
        AreStored held r q saved floor (went n fs count) ms
        × (seen noted now saved (went n fs count) ms ≡ record old { slots = []; returns = record { to = to; slots = slots_of s } ∷ returns_of s.slots s.frames s.newest })

    pub call_made : Called n fs count
    call_made =
        let new : ℕ → List Frame = λ m. s.frames ++ record { to = to; start = s.base; end = m; behind = s.newest } ∷ [] in
        let many : length (new (s.base + s.size)) ≡ suc
        (length s.frames) = (let k = length-append s.frames (record { to = to; start = s.base; end = s.base + s.size; behind = s.newest } ∷ []) in
        omega (arith, k)) in
        let one : Called (length s.slots) (new (s.base + s.size)) (suc (length s.frames)) = (
          record { held_in = a.held_in; floor_is = a.floor_is; holds = call_holds noted now saved r q s ms a.holds to },
          call_seen noted now saved r q s ms a.holds to,
        ) in
        subst (λ n. Called n fs count) (sym j) (subst (λ c. Called (length s.slots) fs c) (sym i) (subst (λ l. Called (length s.slots) l (length l)) (sym x)
        (subst (λ m. Called (length s.slots) (new m) (length (new m))) (sym e) (subst (λ c. Called (length s.slots) (new (s.base + s.size)) c) (sym many) one))))

  -- places above all slots become the current frame
  module _ (q' : ℕ) (more : q ≤ q') (ys xs : Places) (x : ys ≡ s.slots ++ xs) (n : ℕ) (i : n ≡ length s.slots) (k : ℕ) (j : k ≡ length xs) where
    abbrev Put : Places → ℕ → ℕ → Type 0
    Put ys n k =
        AreStored held r q' saved floor (record { slots = ys; base = n; size = k; frames = s.frames; newest = s.newest }) ms
        × (seen noted now saved (record { slots = ys; base = n; size = k; frames = s.frames; newest = s.newest }) ms ≡ record old { slots = xs })

    pub put_made : Put ys n k
    put_made = subst (λ ys. Put ys n k) (sym x) (subst (λ n. Put (s.slots ++ xs) n k) (sym i) (subst (λ k. Put (s.slots ++ xs) (length s.slots) k) (sym j) (
      record { held_in = a.held_in; floor_is = a.floor_is; holds = put_holds noted now saved r q s ms a.holds q' more xs },
      put_seen noted now saved r q s ms a.holds q' more xs,
    )))

  -- the current frame is moved down to `end`
  pub moved_down : (end : ℕ) → floor ≤ end → end_of s.frames s.newest ≤ end → end < s.base
      → AreStored held r q saved floor (record s { slots = take end s.slots ++ drop s.base s.slots; base = end }) ms
      × (seen noted now saved (record s { slots = take end s.slots ++ drop s.base s.slots; base = end }) ms ≡ old)
  moved_down end i j o =
      let z = a.floor_is in
      let kept : slots_kept ms ≤ end = omega (arith, i, z) in
      let order : end ≤ s.base = omega (arith, o) in (
        record { held_in = a.held_in; floor_is = a.floor_is; holds = moved_holds noted now saved r q s ms a.holds end order kept j },
        moved_seen noted now saved r q s ms a.holds end order kept j,
      )

  -- a slot is set that no mark keeps
  pub slot_set : floor ≤ s.base → (n : ℕ) (v : Held) → n < s.size
      → AreStored held r q saved floor (record s { slots = slice_set s.slots (s.base + n) v }) ms
      × (seen noted now saved (record s { slots = slice_set s.slots (s.base + n) v }) ms ≡ record old { slots = slice_set (slots_of s) n v })
  slot_set i n v l =
      let z = a.floor_is in
      let kept : slots_kept ms ≤ s.base = omega (arith, i, z) in (
        record { held_in = a.held_in; floor_is = a.floor_is; holds = set_holds noted now saved r q s ms a.holds kept n v l },
        set_seen noted now saved r q s ms a.holds kept n v l,
      )

  -- the current frame has as many slots as are seen
  pub slots_many : length (slots_of s) ≡ s.size
  slots_many = let t = a.holds.0.there in let e = length-drop s.base s.slots in let f = length-take s.size (drop s.base s.slots) in omega (arith, t, e, f)

  -- the current frame ends
  pub ended : (most : ℕ) → floor ≤ most → s.base ≤ most → AreStored held r q saved floor (record s { slots = take most s.slots; size = 0 }) ms
      × (seen noted now saved (record s { slots = take most s.slots; size = 0 }) ms ≡ record old { slots = [] })
  ended most i j =
      let z = a.floor_is in
      let l = a.holds.0 in
      let t = l.there in
      let kept : slots_kept ms ≤ most = omega (arith, i, z) in
      let high = frames_below ms r q saved s a.holds.1 in
      let room = room_there ms r q saved s a.holds.1 in
      let none : s.base < slots_kept ms → length s.slots + 0 ≤ q = λ b. (let k = room b in omega (arith, k)) in
      let hold = cut_holds noted now saved r q s ms a.holds most (length s.frames) s.base 0 s.newest kept high (omega (arith, j)) (omega (arith, t)) l.newest_in
      l.newest_in l.above q (omega arith) none in
      let see = cut_seen noted now saved r q s ms a.holds most (length s.frames) s.base 0 s.newest kept high (omega (arith, j)) (omega (arith, t)) l.newest_in
      l.newest_in l.above q (omega arith) none in
      let T : List Frame → Type 0 = λ fs. AreStored held r q saved floor (record s { slots = take most s.slots; size = 0; frames = fs }) ms
      × (seen noted now saved (record s { slots = take most s.slots; size = 0; frames = fs }) ms ≡ record old { slots = [] }) in
      subst T (take-length s.frames) (record { held_in = a.held_in; floor_is = a.floor_is; holds = hold }, see)

  -- a choice point
  pub push_made : (place q' : ℕ) → q ≤ q' → length s.slots + s.size ≤ q' → length now ≤ r → (first : ℕ) → first ≡ length saved → (n : ℕ) → n ≡ length s.slots
      → (m : ℕ) → m ≡ length s.frames → (xs : Places) → xs ≡ saved ++ now
      → AreStored held r q' xs n s (record { place = place; first = first; base = s.base; size = s.size; slots = n; frames = m; newest = s.newest; noted = noted } ∷ ms)
      × (seen noted now xs s (record { place = place; first = first; base = s.base; size = s.size; slots = n; frames = m; newest = s.newest; noted = noted } ∷ ms)
      ≡ record old { points = record { place = place; registers = now; slots = slots_of s; returns = returns_of s.slots s.frames s.newest; noted = noted } ∷ points_of ms saved s.slots s.frames })
  push_made place q' more room fits first e n f m g xs x =
      let mark : ℕ → ℕ → ℕ → Mark = λ first n m. record { place = place; first = first; base = s.base; size = s.size; slots = n; frames = m; newest = s.newest; noted = noted } in
      let T : ℕ → ℕ → ℕ → Places → Type 0 = λ first n m xs. AreStored held r q' xs n s (mark first n m ∷ ms)
      × (seen noted now xs s (mark first n m ∷ ms) ≡ record old {
        points = record { place = place; registers = now; slots = slots_of s; returns = returns_of s.slots s.frames s.newest; noted = noted } ∷ points_of ms
            saved s.slots s.frames;
      }) in
      subst (λ first. T first n m xs) (sym e) (subst (λ n. T (length saved) n m xs) (sym f)
      (subst (λ m. T (length saved) (length s.slots) m xs) (sym g) (subst (T (length saved) (length s.slots) (length s.frames)) (sym x) (
        record { held_in = a.held_in; floor_is = refl; holds = push_holds noted now saved r q s ms a.holds place q' more room fits },
        push_seen noted now saved r q s ms a.holds place q' more room fits,
      ))))

-- A slot of the current frame is set in a copy of the frame above all slots.
module _ (noted held r q floor : ℕ) (now saved : Places) (s : Stack) (ms : List Mark) (a : AreStored held r q saved floor s ms) where
  frame_is : slice_range s.slots s.base (s.base + s.size) ≡ slots_of s
  frame_is = let many : s.base + s.size - s.base ≡ s.size = omega arith in ap (λ k. take k (drop s.base s.slots)) many

  frame_size : s.size ≡ length (slice_range s.slots s.base (s.base + s.size))
  frame_size = sym (ap length frame_is ∙ slots_many noted held r q floor now saved s ms a)

  pub copy_set : (q' : ℕ) → q ≤ q' → (ys : Places) → ys ≡ s.slots ++ slice_range s.slots s.base (s.base + s.size) → (m : ℕ) → m ≡ length s.slots → (n : ℕ) (v : Held) → n < s.size
      → AreStored held r q' saved floor (record s { slots = slice_set ys (m + n) v; base = m }) ms
      × (seen noted now saved (record s { slots = slice_set ys (m + n) v; base = m }) ms ≡ record (seen noted now saved s ms) { slots = slice_set (slots_of s) n v })
  copy_set q' more ys x m i n v l =
      let old : Contents = seen noted now saved s ms in
      let xs = slice_range s.slots s.base (s.base + s.size) in
      let t : Stack = record { slots = ys; base = m; size = s.size; frames = s.frames; newest = s.newest } in
      let one = put_made noted held r q floor now saved s ms a q' more ys xs x m i s.size frame_size in
      let high = slots_below ms r q saved s a.holds.1 in
      let z = a.floor_is in
      let two = slot_set noted held r q' floor now saved t ms one.0 (omega (arith, high, z, i)) n v l in (
        two.0,
        two.1 ∙ ap (λ (c : Contents). record c { slots = slice_set c.slots n v }) one.1 ∙ ap (λ y. record old { slots = slice_set y n v }) frame_is,
      )

  -- a slot is set where the frame lies, or in a copy where a choice point keeps it
  pub place_set : (q' : ℕ) → q' ≡ q → (m : ℕ) (ys : Places) (n : ℕ) (v : Held) → n < s.size → (floor ≤ s.base → (m ≡ s.base) × (ys ≡ slice_set s.slots (s.base + n) v))
      → (s.base < floor → (m ≡ length s.slots) × (ys ≡ slice_set (s.slots ++ slice_range s.slots s.base (s.base + s.size)) (m + n) v))
      → AreStored held r q' saved floor (record s { slots = ys; base = m }) ms
      × (seen noted now saved (record s { slots = ys; base = m }) ms ≡ record (seen noted now saved s ms) { slots = slice_set (slots_of s) n v })
  place_set q' e m ys n v l kept copied =
      let T : ℕ → ℕ → Places → Type 0 = λ q m ys. AreStored held r q saved floor (record s { slots = ys; base = m }) ms
      × (seen noted now saved (record s { slots = ys; base = m }) ms ≡ record (seen noted now saved s ms) { slots = slice_set (slots_of s) n v }) in
      let one : T q m ys = elim (cases_lt s.base floor) [
        | inl b ↦ subst (T q m) (sym (copied b).1) (copy_set q (omega arith) (s.slots ++ slice_range s.slots s.base (s.base + s.size)) refl m (copied b).0 n v l)
        | inr b ↦ subst (T q m) (sym (kept b).1) (subst (λ m. T q m (slice_set s.slots (s.base + n) v)) (sym (kept b).0) (slot_set noted held r q floor now saved s ms a b n v l))
      ] in
      subst (λ q. T q m ys) (sym e) one

-- More registers, and more room for slots.
pub more_stored : (held r q floor held' r' q' : ℕ) (saved : Places) (s : Stack) (ms : List Mark) → AreStored held r q saved floor s ms → held' ≤ r' → r ≤ r'
    → q ≤ q' → AreStored held' r' q' saved floor s ms
more_stored held r q floor held' r' q' saved s ms a i j k = record { held_in = i; floor_is = a.floor_is; holds = more_hold 0 [] saved r q s ms a.holds r' q' j k }

-- Choice points are dropped down to the oldest k.
pub points_dropped : (noted held r q : ℕ) (now saved : Places) (s : Stack) (floor : ℕ) (marks : List Mark) → AreStored held r q saved floor s (reverse marks) → (k : ℕ) → k < length marks → (d : Mark)
    → (saved' : Places) → saved' ≡ take (get_or marks k d).first saved → (marks' : List Mark) → marks' ≡ take k marks → (floor' : ℕ) → floor' ≡ slots_kept (reverse marks')
    → AreStored held r q saved' floor' s (reverse marks')
    × (seen noted now saved' s (reverse marks') ≡ record (seen noted now saved s (reverse marks)) { points = drop (length marks - k) (points_of (reverse marks) saved s.slots s.frames) })
points_dropped noted held r q now saved s floor marks a k l d saved' e marks' f floor' g =
    let old : Contents = seen noted now saved s (reverse marks) in
    let j = length marks - k in
    let T : Places → List Mark → Type 0 = λ left ns. AreStored held r q left (slots_kept ns) s ns
    × (seen noted now left s ns ≡ record old { points = drop j (points_of (reverse marks) saved s.slots s.frames) }) in
    let all = many_dropped j r q saved s a.holds.0 (reverse marks) a.holds.1 in
    let one : T (saved_left j (reverse marks) saved) (drop j (reverse marks)) = (
      record { held_in = a.held_in; floor_is = refl; holds = (a.holds.0, all.0) },
      ap (λ x. record old { points = x }) all.1,
    ) in
    let low : k ≤ length marks = omega (arith, l) in
    let two : T saved' (reverse marks') = subst (λ left. T left (reverse marks')) (saved_to k r q saved s marks a.holds.1 d l ∙ sym e)
    (subst (T (saved_left j (reverse marks) saved)) (sym (ap reverse f ∙ kept_marks k marks low)) one) in
    (record { held_in = a.held_in; floor_is = g; holds = two.0.holds }, two.1)
