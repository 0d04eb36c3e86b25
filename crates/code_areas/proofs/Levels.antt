-- What choice points and continuations have stays while the slots and the frames change behind it.
use Rattle.std.proofs.Common.{◌≡◌, ℕ, zero, suc, ◌+◌, ◌-◌, ◌<◌, ◌≤◌, List, [], ◌∷◌, length, take, drop, slice_range, refl, ap, sym, ◌∙◌, subst, arith, get_or}
use Rattle.std.proofs.lemmas.List.{drop-take, take-take, get_or-take}
use Rattle.code_areas.specs.declared.Frame.{Frame}
use Rattle.code_areas.specs.declared.Mark.{Mark}
use Rattle.code_areas.specs.Areas.{Places, Point, Return}
use Rattle.code_areas.specs.AreaFields.{Stack, no_frame, frame_at, return_of, within, returns_of, end_of, kept_by, slots_of, points_of, seen, IsLevel, IsAbove}
use Rattle.code_areas.specs.AreaFields.{frames_kept, slots_kept, AreMarks}

slice_is : (xs : Places) (a b : ℕ) → a ≤ b → slice_range xs a b ≡ drop a (take b xs)
slice_is xs a b l = let e : a + (b - a) ≡ b = omega (arith, l) in sym (drop-take a (b - a) xs) ∙ ap (λ n. drop a (take n xs)) e

-- slots that lie within what is the same
pub slice_same : (n : ℕ) (xs ys : Places) → take n xs ≡ take n ys → (a b : ℕ) → a ≤ b → b ≤ n → slice_range xs a b ≡ slice_range ys a b
slice_same n xs ys e a b o l =
    let one : (zs : Places) → slice_range zs a b ≡ drop a (take b (take n zs)) = λ zs. slice_is zs a b o ∙ ap (drop a) (sym (take-take b n zs l)) in
    one xs ∙ ap (λ zs. drop a (take b zs)) e ∙ sym (one ys)

-- so many slots from a place on that lie within what is the same
pub part_same : (n : ℕ) (xs ys : Places) → take n xs ≡ take n ys → (base size : ℕ) → base + size ≤ n → take size (drop base xs) ≡ take size (drop base ys)
part_same n xs ys e base size l =
    let many : base + size - base ≡ size = omega arith in
    let part : slice_range xs base (base + size) ≡ slice_range ys base (base + size) = slice_same n xs ys e base (base + size) (omega arith) l in
    ap (λ k. take k (drop base xs)) (sym many) ∙ part ∙ ap (λ k. take k (drop base ys)) many

-- a frame among those that are the same
pub frame_same : (m : ℕ) (fs gs : List Frame) → take m fs ≡ take m gs → (k : ℕ) → k < m → frame_at fs k ≡ frame_at gs k
frame_same m fs gs e k l = sym (get_or-take m fs k no_frame l) ∙ ap (λ xs. get_or xs k no_frame) e ∙ get_or-take m gs k no_frame l

-- and where it ends
pub end_same : (m : ℕ) (fs gs : List Frame) → take m fs ≡ take m gs → (k : ℕ) → k ≤ m → end_of fs k ≡ end_of gs k
end_same m fs gs e zero l = refl
end_same m fs gs e (suc k) l = ap (λ (f : Frame). f.end) (frame_same m fs gs e k (omega (arith, l)))

-- each of the first m frames has older ones behind it, and its slots above theirs
pub record AreFrames (fs : List Frame) (m : ℕ) : Type 0 where
  pub ordered : (k : ℕ) → k < m → (frame_at fs k).start ≤ (frame_at fs k).end
  pub older : (k : ℕ) → k < m → (frame_at fs k).behind ≤ k
  pub rising : (k : ℕ) → k < m → end_of fs (frame_at fs k).behind ≤ (frame_at fs k).start

-- the frames of a level, as many as are asked for
pub frames_of : (s : Stack) → IsLevel s → (m : ℕ) → m ≤ length s.frames → AreFrames s.frames m
frames_of s l m n = record {
  ordered = λ k i. l.ordered k (omega (arith, i, n));
  older = λ k i. l.older k (omega (arith, i, n));
  rising = λ k i. l.rising k (omega (arith, i, n));
}

within_same : (xs ys : Places) (fs gs : List Frame) (n m : ℕ) → AreFrames fs m → take n xs ≡ take n ys → take m fs ≡ take m gs → (most k : ℕ) → k ≤ m
    → end_of fs k ≤ n → within xs fs most k ≡ within ys gs most k
within_same xs ys fs gs n m a e f zero k u v = refl
within_same xs ys fs gs n m a e f (suc most) zero u v = refl
within_same xs ys fs gs n m a e f (suc most) (suc k) u v =
    let l : k < m = omega (arith, u) in
    let o = a.older k l in
    let i = a.ordered k l in
    let r = a.rising k l in
    let c = frame_at fs k in
    ap (λ s. record { to = c.to; slots = s } ∷ within xs fs most c.behind) (slice_same n xs ys e c.start c.end i v)
    ∙ ap (λ r. return_of ys c ∷ r) (within_same xs ys fs gs n m a e f most c.behind (omega (arith, o, u)) (omega (arith, i, r, v)))
    ∙ ap (λ (d : Frame). return_of ys d ∷ within ys gs most d.behind) (frame_same m fs gs f k l)

-- continuations whose slots lie within what is the same
pub returns_same : (xs ys : Places) (fs gs : List Frame) (n m : ℕ) → AreFrames fs m → take n xs ≡ take n ys → take m fs ≡ take m gs → (k : ℕ) → k ≤ m
    → end_of fs k ≤ n → returns_of xs fs k ≡ returns_of ys gs k
returns_same xs ys fs gs n m a e f k u v = within_same xs ys fs gs n m a e f k k u v

within_more : (xs : Places) (fs : List Frame) (m : ℕ) → AreFrames fs m → (most some k : ℕ) → k ≤ most → k ≤ some → k ≤ m → within xs fs most k ≡ within xs fs some k
within_more xs fs m a zero zero k l o u = refl
within_more xs fs m a zero (suc some) zero l o u = refl
within_more xs fs m a zero (suc some) (suc k) l o u = absurd (omega (arith, l))
within_more xs fs m a (suc most) zero zero l o u = refl
within_more xs fs m a (suc most) zero (suc k) l o u = absurd (omega (arith, o))
within_more xs fs m a (suc most) (suc some) zero l o u = refl
within_more xs fs m a (suc most) (suc some) (suc k) l o u =
    let old = a.older k (omega (arith, u)) in
    ap (λ r. return_of xs (frame_at fs k) ∷ r) (within_more xs fs m a most some (frame_at fs k).behind (omega (arith, old, l)) (omega (arith, old, o)) (omega (arith, old, u)))

-- a frame, and those behind it
pub returns_next : (xs : Places) (fs : List Frame) (m : ℕ) → AreFrames fs m → (k : ℕ) → k < m → returns_of xs fs (suc k) ≡ return_of xs (frame_at fs k) ∷ returns_of xs fs (frame_at fs k).behind
returns_next xs fs m a k l =
    let o = a.older k l in
    ap (λ r. return_of xs (frame_at fs k) ∷ r) (within_more xs fs m a k (frame_at fs k).behind (frame_at fs k).behind o (omega arith) (omega (arith, o, l)))

-- what the newest mark keeps is the same
abbrev pub SameBelow : List Mark → Stack → Stack → Type 0
SameBelow [] s t = Unit {0}
SameBelow (m ∷ ms) s t = (take m.slots s.slots ≡ take m.slots t.slots) × (take m.frames s.frames ≡ take m.frames t.frames)

-- and it is there
abbrev pub AboveNewest : List Mark → ℕ → ℕ → Places → Stack → Type 0
AboveNewest [] registers room saved s = Unit {0}
AboveNewest (m ∷ ms) registers room saved s = IsAbove m registers room saved s

points_same : (ms : List Mark) (saved : Places) (s t : Stack) → SameBelow ms s t → points_of ms saved s.slots s.frames ≡ points_of ms saved t.slots t.frames
points_same [] saved s t e = refl
points_same (m ∷ ms) saved s t e =
    let all : Places → List Frame → List Point = λ y z. record {
      place = m.place;
      registers = drop m.first saved;
      slots = take m.size (drop m.base y);
      returns = returns_of y z m.newest;
      noted = m.noted;
    } ∷ points_of ms (take m.first saved) y z in
    ap (λ y. all y (take m.frames s.frames)) e.0 ∙ ap (all (take m.slots t.slots)) e.1

marks_grow : (ms : List Mark) (r q r' q' : ℕ) (saved : Places) (s : Stack) → r ≤ r' → q ≤ q' → AreMarks ms r q saved s → AreMarks ms r' q' saved s
marks_grow [] r q r' q' saved s i j a = tt
marks_grow (m ∷ ms) r q r' q' saved s i j a =
    let f = a.0.fitting in
    let g = a.0.again in (
      record {
        saved_kept = a.0.saved_kept;
        slots_kept = a.0.slots_kept;
        frames_kept = a.0.frames_kept;
        fitting = omega (arith, f, i);
        roomy = λ b. (let k = a.0.roomy b in omega (arith, k, j));
        again = omega (arith, g, j);
      },
      a.1,
      marks_grow ms r q r' q' (take m.first saved) (kept_by m s.slots s.frames) i j a.2,
    )

marks_same : (ms : List Mark) (r q r' q' : ℕ) (saved : Places) (s t : Stack) → r ≤ r' → q ≤ q' → AreMarks ms r q saved s → SameBelow ms s t → AboveNewest ms r' q' saved t → AreMarks ms r' q' saved t
marks_same [] r q r' q' saved s t i j a e o = tt
marks_same (m ∷ ms) r q r' q' saved s t i j a e o =
    let at : Places → List Frame → Stack = λ y z. record { slots = y; base = m.base; size = m.size; frames = z; newest = m.newest } in
    let Level : Places → List Frame → Type 0 = λ y z. IsLevel (at y z) × AreMarks ms r q (take m.first saved) (at y z) in
    let all = subst (λ y. Level y (take m.frames t.frames)) e.0 (subst (Level (take m.slots s.slots)) e.1 (a.1, a.2)) in
    (o, all.0, marks_grow ms r q r' q' (take m.first saved) (at (take m.slots t.slots) (take m.frames t.frames)) i j all.1)

-- From one stack to another, what marks keep stays.
pub record Keeps (ms : List Mark) (r q r' q' : ℕ) (s t : Stack) : Type 0 where
  pub registers : r ≤ r'
  pub room : q ≤ q'
  pub slots_same : take (slots_kept ms) s.slots ≡ take (slots_kept ms) t.slots
  pub frames_same : take (frames_kept ms) s.frames ≡ take (frames_kept ms) t.frames
  pub slots_in : slots_kept ms ≤ length t.slots
  pub frames_in : frames_kept ms ≤ length t.frames
  pub roomy : t.base < slots_kept ms → length t.slots + t.size ≤ q'

module _ (r q r' q' : ℕ) (saved : Places) (s t : Stack) where
  below : (ms : List Mark) → Keeps ms r q r' q' s t → SameBelow ms s t
  below [] k = tt
  below (m ∷ ms) k = (k.slots_same, k.frames_same)

  above : (ms : List Mark) → AreMarks ms r q saved s → Keeps ms r q r' q' s t → AboveNewest ms r' q' saved t
  above [] a k = tt
  above (m ∷ ms) a k =
      let f = a.0.fitting in let i = k.registers in
      let g = a.0.again in let j = k.room in
      record { saved_kept = a.0.saved_kept; slots_kept = k.slots_in; frames_kept = k.frames_in; fitting = omega (arith, f, i); roomy = k.roomy; again = omega (arith, g, j) }

  -- the marks are as before
  pub marks_kept : (ms : List Mark) → AreMarks ms r q saved s → Keeps ms r q r' q' s t → AreMarks ms r' q' saved t
  marks_kept ms a k = marks_same ms r q r' q' saved s t k.registers k.room a (below ms k) (above ms a k)

  -- and so are the choice points
  pub points_kept : (ms : List Mark) → Keeps ms r q r' q' s t → points_of ms saved t.slots t.frames ≡ points_of ms saved s.slots s.frames
  points_kept ms k = sym (points_same ms saved s t (below ms k))

  -- what is seen then
  pub seen_kept : (noted : ℕ) (held xs : Places) (rs : List Return) (ms : List Mark) → Keeps ms r q r' q' s t → slots_of t ≡ xs → returns_of t.slots t.frames t.newest ≡ rs
      → seen noted held saved t ms ≡ record (seen noted held saved s ms) { slots = xs; returns = rs }
  seen_kept noted held xs rs ms k e f =
      ap (λ x. record { registers = held; slots = x; returns = returns_of t.slots t.frames t.newest; points = points_of ms saved t.slots t.frames; noted = noted }) e
      ∙ ap (λ x. record { registers = held; slots = xs; returns = x; points = points_of ms saved t.slots t.frames; noted = noted }) f
      ∙ ap (λ x. record { registers = held; slots = xs; returns = rs; points = x; noted = noted }) (points_kept ms k)

-- the marks' lengths are there
pub slots_below : (ms : List Mark) (r q : ℕ) (saved : Places) (s : Stack) → AreMarks ms r q saved s → slots_kept ms ≤ length s.slots
slots_below [] r q saved s a = omega arith
slots_below (m ∷ ms) r q saved s a = a.0.slots_kept

pub frames_below : (ms : List Mark) (r q : ℕ) (saved : Places) (s : Stack) → AreMarks ms r q saved s → frames_kept ms ≤ length s.frames
frames_below [] r q saved s a = omega arith
frames_below (m ∷ ms) r q saved s a = a.0.frames_kept

-- there is room to copy the current frame where a mark keeps it
pub room_there : (ms : List Mark) (r q : ℕ) (saved : Places) (s : Stack) → AreMarks ms r q saved s → s.base < slots_kept ms → length s.slots + s.size ≤ q
room_there [] r q saved s a l = absurd (omega (arith, l))
room_there (m ∷ ms) r q saved s a l = a.0.roomy l
