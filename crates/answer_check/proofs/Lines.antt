-- The first line of bytes, and the others.
use Rattle.std.proofs.Common.{◌≡◌, ℕ, zero, suc, ◌+◌, ◌-◌, ◌<◌, ◌≤◌, Bool, true, false, cond, List, [], ◌∷◌, ◌++◌, length, take, drop, get_or, Option, Some}
use Rattle.std.proofs.Common.{None, refl, sym, ap, ◌∙◌, subst, arith, append_assoc, append-nil, length-append, length-drop, true≢false}
use Rattle.std.specs.Prelude.{option_map}
use Rattle.std.specs.Str.{bytes_eq}
use Rattle.std.proofs.lemmas.Slice.Eq.{bytes_eq-Decides}
use Rattle.std.proofs.Math.Seq.{take-add, take-append_seam}
use Rattle.std.proofs.lemmas.List.{drop_all, drop-drop}
use Rattle.byte_ports.specs.Lines.{lines_of, first_line}
use Rattle.byte_ports.proofs.Lemmas.{line_and_rest, line_within, lines_step}
use Rattle.answer_check.specs.Parts.{Parts, with_line, parts_in, parts_of, query_line}
use Rattle.answer_check.specs.InputSplit.{IsSplitAt}
use Rattle.answer_check.proofs.Lists.{take_whole}

-- ---- the lines from a place on

-- an input up to a place, and the parts of what stands behind it
abbrev pub parts_from : List ℕ → ℕ → Option Parts
parts_from input at = option_map (with_line (take at input)) (parts_in (lines_of (drop at input)))

same_parts : (o : Option Parts) → o ≡ option_map (with_line []) o
same_parts None = refl
same_parts (Some p) = refl

pub split_starts : (input : List ℕ) → parts_of input ≡ parts_from input 0
split_starts input = same_parts (parts_of input)

pub split_ends : (input : List ℕ) (at : ℕ) → length input ≤ at → parts_from input at ≡ None
split_ends input at l = ap (λ bs. option_map (with_line (take at input)) (parts_in (lines_of bs))) (drop_all at input l)

pub rest_longer : (input : List ℕ) (at : ℕ) → at < length input → 0 < length (drop at input)
rest_longer input at l = let e = length-drop at input in omega (arith, e)

-- the place behind the line there
pub behind_line : (input : List ℕ) (at : ℕ) → at ≤ length input → at + length (first_line (drop at input)) ≤ length input
behind_line input at l = let e = length-drop at input in let f = line_within (drop at input) in omega (arith, e, f)

line_is_front : (bs : List ℕ) → first_line bs ≡ take (length (first_line bs)) bs
line_is_front bs = sym (take-append_seam (first_line bs) (drop (length (first_line bs)) bs)) ∙ ap (take (length (first_line bs))) (line_and_rest bs)

pub lines_from : (input : List ℕ) (at : ℕ) → at < length input → lines_of (drop at input) ≡ first_line (drop at input) ∷ lines_of (drop (at + length (first_line (drop at input))) input)
lines_from input at l =
    lines_step (drop at input) (rest_longer input at l)
    ∙ ap (λ bs. first_line (drop at input) ∷ lines_of bs) (drop-drop (length (first_line (drop at input))) at input)

module _ (input : List ℕ) (at : ℕ) (l : at < length input) where
  abbrev line : List ℕ
  line = first_line (drop at input)

  abbrev later : List (List ℕ)
  later = lines_of (drop (at + length line) input)

  front_is : take at input ++ line ≡ take (at + length line) input
  front_is = ap (λ xs. take at input ++ xs) (line_is_front (drop at input)) ∙ sym (take-add at (length line) input)

  put_before : (o : Option Parts) → option_map (with_line (take at input)) (option_map (with_line line) o) ≡ option_map (with_line (take (at + length line) input)) o
  put_before None = refl
  put_before (Some p) = ap (λ (t : List ℕ). Some (let q : Parts = record { text = t; lines = p.lines } in q)) (sym (append_assoc (take at input) line p.text) ∙ ap (λ xs. xs ++ p.text) front_is)

  -- another line
  pub split_goes_on : bytes_eq line query_line ≡ false → parts_from input at ≡ parts_from input (at + length line)
  split_goes_on e =
      ap (λ ls. option_map (with_line (take at input)) (parts_in ls)) (lines_from input at l)
      ∙ ap (λ b. option_map (with_line (take at input)) (cond b (Some (let q : Parts = record { text = []; lines = later } in q)) (option_map (with_line line) (parts_in later)))) e
      ∙ put_before (parts_in later)

  -- the line that begins the second part
  pub split_here : bytes_eq line query_line ≡ true → parts_of input ≡ parts_from input at → IsSplitAt input at
  split_here e h =
      let same : line ≡ query_line = (bytes_eq-Decides line query_line).0 e in
      let behind : at + length line ≡ at + length query_line = ap (λ xs. at + length xs) same in
      record {
        stands = sym (line_and_rest (drop at input)) ∙ ap (λ xs. xs ++ drop (length line) (drop at input)) same
            ∙ ap (λ xs. query_line ++ xs) (drop-drop (length line) at input ∙ ap (λ n. drop n input) behind);
        within = (let f = behind_line input at (omega arith) in subst (λ n. n ≤ length input) behind f);
        parts = h ∙ ap (λ ls. option_map (with_line (take at input)) (parts_in ls)) (lines_from input at l)
            ∙ ap (λ b. option_map (with_line (take at input)) (cond b (Some (let q : Parts = record { text = []; lines = later } in q)) (option_map (with_line line) (parts_in later)))) e
            ∙ ap (λ (t : List ℕ). Some (let q : Parts = record { text = t; lines = later } in q)) (append-nil (take at input))
            ∙ ap (λ n. Some (let q : Parts = record { text = take at input; lines = lines_of (drop n input) } in q)) behind;
      }

-- the bytes from a place to the end
pub slice_end : (input : List ℕ) (at : ℕ) → take (length input - at) (drop at input) ≡ drop at input
slice_end input at = take_whole (drop at input) (length input - at) (let e = length-drop at input in omega (arith, e))
