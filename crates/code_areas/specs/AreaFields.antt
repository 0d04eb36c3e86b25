-- How the fields of a machine's areas are seen.
use Rattle.std.specs.Prelude.{◌≡◌, ℕ, zero, suc, ◌+◌, ◌<◌, ◌≤◌, List, [], ◌∷◌, length, take, drop, slice_range, slice_index_or}
use Rattle.code_areas.specs.declared.Frame.{Frame}
use Rattle.code_areas.specs.declared.Mark.{Mark}
use Rattle.code_areas.specs.Areas.{Places, Return, Point, Contents}

-- The slots of all frames, where those of the current one begin and how many they are, what calls
-- have left, and the newest of that.
pub record Stack : Type 0 where
  pub slots : Places
  pub base : ℕ
  pub size : ℕ
  pub frames : List Frame
  pub newest : ℕ

abbrev pub no_frame : Frame
no_frame = record { to = 0; start = 0; end = 0; behind = 0 }

abbrev pub frame_at : List Frame → ℕ → Frame
frame_at frames k = slice_index_or frames k no_frame

abbrev pub return_of : Places → Frame → Return
return_of slots f = record { to = f.to; slots = slice_range slots f.start f.end }

-- the frames from the one with the number k on, of which there are no more than so many: 0 is none,
-- and suc k is the one at place k
abbrev pub within : Places → List Frame → ℕ → ℕ → List Return
within slots frames zero k = []
within slots frames (suc most) zero = []
within slots frames (suc most) (suc k) = return_of slots (frame_at frames k) ∷ within slots frames most (frame_at frames k).behind

abbrev pub returns_of : Places → List Frame → ℕ → List Return
returns_of slots frames k = within slots frames k k

-- where the slots of the frame with such a number end
abbrev pub end_of : List Frame → ℕ → ℕ
end_of frames zero = 0
end_of frames (suc k) = (frame_at frames k).end

-- what a choice point has kept of the slots and frames
abbrev pub kept_by : Mark → Places → List Frame → Stack
kept_by m slots frames = record { slots = take m.slots slots; base = m.base; size = m.size; frames = take m.frames frames; newest = m.newest }

abbrev pub slots_of : Stack → Places
slots_of s = take s.size (drop s.base s.slots)

-- the choice points of marks, the newest first: each has what its lengths leave
abbrev pub points_of : List Mark → Places → Places → List Frame → List Point
points_of [] saved slots frames = []
points_of (m ∷ ms) saved slots frames =
    record {
      place = m.place;
      registers = drop m.first saved;
      slots = slots_of (kept_by m slots frames);
      returns = returns_of (take m.slots slots) (take m.frames frames) m.newest;
      noted = m.noted;
    }
    ∷ points_of ms (take m.first saved) (take m.slots slots) (take m.frames frames)

-- all that is seen, by marks of which the newest is the first
abbrev pub seen : ℕ → Places → Places → Stack → List Mark → Contents
seen noted registers saved s ms = record { registers = registers; slots = slots_of s; returns = returns_of s.slots s.frames s.newest; points = points_of ms saved s.slots s.frames; noted = noted }

-- Each frame has older ones behind it, and its slots stand above those of the one behind it: so a
-- write to the current frame changes no slot of a frame that is gone back to.
pub record IsLevel (s : Stack) : Type 0 where
  pub there : s.base + s.size ≤ length s.slots
  pub newest_in : s.newest ≤ length s.frames
  pub above : end_of s.frames s.newest ≤ s.base
  pub ordered : (k : ℕ) → k < length s.frames → (frame_at s.frames k).start ≤ (frame_at s.frames k).end
  pub older : (k : ℕ) → k < length s.frames → (frame_at s.frames k).behind ≤ k
  pub rising : (k : ℕ) → k < length s.frames → end_of s.frames (frame_at s.frames k).behind ≤ (frame_at s.frames k).start

-- What a mark keeps is there. There are registers for those that it has saved, and room to copy the
-- current frame where the mark keeps that, and its own when it is gone back to.
pub record IsAbove (m : Mark) (registers room : ℕ) (saved : Places) (s : Stack) : Type 0 where
  pub saved_kept : m.first ≤ length saved
  pub slots_kept : m.slots ≤ length s.slots
  pub frames_kept : m.frames ≤ length s.frames
  pub fitting : length saved ≤ m.first + registers
  pub roomy : s.base < m.slots → length s.slots + s.size ≤ room
  pub again : m.slots + m.size ≤ room

abbrev pub frames_kept : List Mark → ℕ
frames_kept [] = 0
frames_kept (m ∷ ms) = m.frames

abbrev pub slots_kept : List Mark → ℕ
slots_kept [] = 0
slots_kept (m ∷ ms) = m.slots

-- marks, the newest first
abbrev pub AreMarks : List Mark → ℕ → ℕ → Places → Stack → Type 0
AreMarks [] registers room saved s = Unit {0}
AreMarks (m ∷ ms) registers room saved s =
    IsAbove m registers room saved s
    × IsLevel (kept_by m s.slots s.frames)
    × AreMarks ms registers room (take m.first saved) (kept_by m s.slots s.frames)

-- marks, the newest first, over so many registers and slots of such a capacity
abbrev pub Holds : ℕ → ℕ → Places → Stack → List Mark → Type 0
Holds registers room saved s ms = IsLevel s × AreMarks ms registers room saved s

-- So many registers are held, and what is not to be written ends at the floor.
pub record AreStored (held registers room : ℕ) (saved : Places) (floor : ℕ) (s : Stack) (ms : List Mark) : Type 0 where
  pub held_in : held ≤ registers
  pub floor_is : floor ≡ slots_kept ms
  pub holds : Holds registers room saved s ms
