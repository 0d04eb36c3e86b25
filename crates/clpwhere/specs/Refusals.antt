-- The lines that tell a refusal.
use Rattle.std.specs.Prelude.{◌≡◌, ◌≤◌, ◌==◌, ℕ, List, ◌++◌, length, drop, Option, Some, option_and_then, option_map, codes, decimal}
use Rattle.std.specs.List.{before_first}
use Rattle.clpwhere.specs.declared.reason.Reason.{Reason}
use Rattle.clpwhere.specs.declared.refusal.Refusal as code
use Rattle.clpwhere.specs.Numbers.{behind, last_place, place_in}
use Rattle.clpwhere.specs.Reasons.{reason_of}

-- a refusal: the place of a byte, the words of the reason, and the reason
pub record Refusal : Type 0 where
  pub place : ℕ
  pub words : List ℕ
  pub reason : Reason

-- what the program keeps of a refusal
abbrev pub seen : code.Refusal → Refusal
seen r = record { place = r.place; words = r.words.now; reason = r.reason }

-- the line of a refusal, without its newline
abbrev pub refusal_line : ℕ → List ℕ → List ℕ
refusal_line place words = codes "refused at " ++ (decimal place ++ (codes ": " ++ words))

-- a line tells a refusal
pub record Tells (line : List ℕ) (r : Refusal) : Type 0 where
  pub bytes : line ≡ refusal_line r.place r.words
  pub within : r.place ≤ last_place
  pub known : reason_of r.words ≡ Some r.reason

-- ---- the refusal that a line tells, found from its front

abbrev pub refusal_by : ℕ → List ℕ → Option Reason → Option Refusal
refusal_by place words reason =
    option_map (λ r. record { place = place; words = words; reason = r }) reason

-- of a line's bytes behind `refused at `
abbrev pub refusal_in : List ℕ → Option Refusal
refusal_in rest =
    let digits = before_first (λ b. b == 58) rest in
    option_and_then (λ place. option_and_then (λ words. refusal_by place words (reason_of words))
    (behind (codes ": ") (drop (length digits) rest))) (place_in digits)

abbrev pub refusal_of : List ℕ → Option Refusal
refusal_of line = option_and_then refusal_in (behind (codes "refused at ") line)
