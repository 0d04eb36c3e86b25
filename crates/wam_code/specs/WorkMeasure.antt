-- A number that falls with each instruction that spends no reduction.
use Rattle.std.specs.Prelude.{ℕ, zero, suc, ◌+◌, ◌*◌, List, [], ◌∷◌}

abbrev pub weight : ℕ → ℕ
weight zero = 1
weight (suc d) = suc (weight d + weight d)

-- of the distances of continuations from the code's end
abbrev pub return_work : List ℕ → ℕ
return_work [] = 0
return_work (d ∷ ds) = weight d * suc (return_work ds)

-- a place and its continuations, by their distances from the code's end
pub record Thread : Type 0 where
  pub distance : ℕ
  pub returns : List ℕ

abbrev pub thread_work : Thread → ℕ
thread_work t = weight t.distance * suc (return_work t.returns)

-- the current place and the choice points
abbrev pub work : List Thread → ℕ
work [] = 0
work (t ∷ ts) = thread_work t + work ts
