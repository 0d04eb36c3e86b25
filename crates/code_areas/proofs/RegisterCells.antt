-- A cell is put into a register, and read from one.
use Rattle.std.proofs.Common.{◌≡◌, ℕ, ◌+◌, ◌-◌, ◌<◌, ◌≤◌, [], ◌∷◌, ◌++◌, length, take, drop, replicate, slice_set, Some, ap, sym, ◌∙◌, subst, inl, inr, arith}
use Rattle.std.proofs.Common.{get_or, length-take, length-append}
use Rattle.std.proofs.lemmas.Bool.{cases_lt}
use Rattle.std.proofs.lemmas.List.{get_or-take, get_or-drop, get_or_past, get_or_append_left, get_or-replicate, get_or-set_same, get_or-set_other}
use Rattle.std.proofs.lemmas.List.{take_more_set, append_assoc, append-nil, length-replicate}
use Rattle.std.proofs.lemmas.Option.{none-some}
use Rattle.std.proofs.Math.Seq.{get_or-append_right, take-set-lt}
use Rattle.heap_cells.specs.declared.Cell.{Cell}
use Rattle.code_areas.specs.Areas.{Places, nothing_held, holds, cell_of, level_of, cell_at, level_at, IsPut}

-- what is at a number of a front is at it in the whole
pub front_at : (xs : Places) (m n : ℕ) → n < m → get_or (take m xs) n nothing_held ≡ get_or xs n nothing_held
front_at xs m n l = get_or-take m xs n nothing_held l

front_past : (xs : Places) (m n : ℕ) → m ≤ n → get_or (take m xs) n nothing_held ≡ nothing_held
front_past xs m n l = get_or_past (take m xs) n nothing_held (let e = length-take m xs in omega (arith, e, l))

-- a cell of a front is there in the whole
pub cell_there : (xs : Places) (m n : ℕ) (d : Cell) → cell_at (take m xs) n ≡ Some d → cell_at xs n ≡ Some d
cell_there xs m n d e = elim (cases_lt n m) [
  | inl l ↦ sym (ap cell_of (front_at xs m n l)) ∙ e
  | inr l ↦ absurd (none-some d (sym (ap cell_of (front_past xs m n l)) ∙ e))
]

-- and a level
pub level_there : (xs : Places) (m n k : ℕ) → level_at (take m xs) n ≡ Some k → level_at xs n ≡ Some k
level_there xs m n k e = elim (cases_lt n m) [
  | inl l ↦ sym (ap level_of (front_at xs m n l)) ∙ e
  | inr l ↦ absurd (none-some k (sym (ap level_of (front_past xs m n l)) ∙ e))
]

-- a cell among those behind a number
pub cell_behind : (xs : Places) (base m n : ℕ) (d : Cell) → cell_at (take m (drop base xs)) n ≡ Some d → cell_at xs (base + n) ≡ Some d
cell_behind xs base m n d e = sym (ap cell_of (get_or-drop base xs n nothing_held)) ∙ cell_there (drop base xs) m n d e

-- and a level
pub level_behind : (xs : Places) (base m n k : ℕ) → level_at (take m (drop base xs)) n ≡ Some k → level_at xs (base + n) ≡ Some k
level_behind xs base m n k e = sym (ap level_of (get_or-drop base xs n nothing_held)) ∙ level_there (drop base xs) m n k e

put_set : (xs : Places) (n : ℕ) (d : Cell) → n < length xs → IsPut xs n d (slice_set xs n (holds d))
put_set xs n d l = record {
  here = ap cell_of (get_or-set_same xs n (holds d) nothing_held l);
  else = λ k f. ap cell_of (get_or-set_other xs n k (holds d) nothing_held f);
}

-- one of those that are held is overwritten
pub put_within : (xs : Places) (held n : ℕ) (d : Cell) → n < held → held ≤ length xs → IsPut (take held xs) n d (take held (slice_set xs n (holds d)))
put_within xs held n d l m =
    subst (λ ys. IsPut (take held xs) n d ys) (sym (take-set-lt held xs n (holds d) l))
    (put_set (take held xs) n d (let e = length-take held xs in omega (arith, e, l, m)))

-- past the end, and between nothing is set
put_past : (xs : Places) (m : ℕ) (d : Cell) → IsPut xs (length xs + m) d (xs ++ (replicate m nothing_held ++ holds d ∷ []))
put_past xs m d = record { here = ap cell_of at_end; else = λ k f. ap cell_of (other k f) }
  where
    ys : Places
    ys = replicate m nothing_held ++ holds d ∷ []

    size : length (replicate m nothing_held) ≡ m
    size = length-replicate m nothing_held

    at_end : get_or (xs ++ ys) (length xs + m) nothing_held ≡ holds d
    at_end =
        let i : length xs + m - length xs ≡ m = omega arith in
        let s = size in
        let j : m - length (replicate m nothing_held) ≡ 0 = omega (arith, s) in
        get_or-append_right xs ys (length xs + m) nothing_held (omega arith)
        ∙ ap (λ k. get_or ys k nothing_held) i
        ∙ get_or-append_right (replicate m nothing_held) (holds d ∷ []) m nothing_held (omega (arith, s))
        ∙ ap (λ k. get_or (holds d ∷ []) k nothing_held) j

    other : (k : ℕ) → (k ≡ length xs + m → ⊥) → get_or (xs ++ ys) k nothing_held ≡ get_or xs k nothing_held
    other k f = elim (cases_lt k (length xs)) [
      | inl l ↦ get_or_append_left xs ys nothing_held k l
      | inr l ↦ get_or-append_right xs ys k nothing_held l ∙ unset (k - length xs) (λ e. f (omega (arith, e, l))) ∙ sym (get_or_past xs k nothing_held l)
    ]
      where
        unset : (j : ℕ) → (j ≡ m → ⊥) → get_or ys j nothing_held ≡ nothing_held
        unset j g = elim (cases_lt j m) [
          | inl l ↦ get_or_append_left (replicate m nothing_held) (holds d ∷ []) nothing_held j (let s = size in omega (arith, l, s)) ∙ get_or-replicate m j nothing_held nothing_held l
          | inr l ↦ get_or_past ys j nothing_held (let s = size in let e = length-append (replicate m nothing_held) (holds d ∷ []) in let u : m < j = lt_of j g l in omega (arith, s, e, u))
        ]
          where
            lt_of : (j : ℕ) → (j ≡ m → ⊥) → m ≤ j → m < j
            lt_of j g l = elim (cases_lt m j) [
              | inl u ↦ u
              | inr u ↦ absurd (g (omega (arith, l, u)))
            ]

-- one is put past those that are held, between which nothing is set
pub put_above : (xs ys : Places) (held n : ℕ) (d : Cell) → held ≤ length xs → held ≤ n → n < length ys
    → take n ys ≡ take held xs ++ replicate (n - held) nothing_held → IsPut (take held xs) n d (take (n + 1) (slice_set ys n (holds d)))
put_above xs ys held n d l m o e =
    let s : length (take held xs) ≡ held = (let f = length-take held xs in omega (arith, f, l)) in
    let here : length (take held xs) + (n - held) ≡ n = omega (arith, s, m) in
    let new : take (n + 1) (slice_set ys n (holds d)) ≡ take held xs ++ (replicate (n - held) nothing_held ++ holds d ∷ []) = take_more_set ys n (holds d) o
    ∙ ap (λ zs. zs ++ holds d ∷ []) e ∙ append_assoc (take held xs) (replicate (n - held) nothing_held) (holds d ∷ []) in
    subst (λ zs. IsPut (take held xs) n d zs) (sym new)
    (subst (λ k. IsPut (take held xs) k d (take held xs ++ (replicate (n - held) nothing_held ++ holds d ∷ []))) here
    (put_past (take held xs) (n - held) d))

-- one is put right behind those that are held
pub put_next : (xs : Places) (held n : ℕ) (d : Cell) → n ≡ held → n < length xs → IsPut (take held xs) n d (take (n + 1) (slice_set xs n (holds d)))
put_next xs held n d e l =
    let none : n - held ≡ 0 = omega (arith, e) in
    put_above xs xs held n d (omega (arith, e, l)) (omega (arith, e)) l
    (ap (λ k. take k xs) e ∙ sym (append-nil (take held xs)) ∙ ap (λ k. take held xs ++ replicate k nothing_held) (sym none))
