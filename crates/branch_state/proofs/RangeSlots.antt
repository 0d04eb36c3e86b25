-- A goal's range is made ready slot by slot.
use Rattle.std.proofs.Common.{◌≡◌, ℕ, zero, suc, ◌<◌, true, false, List, [], ◌∷◌, ◌++◌, length, take, get_or, map, Option, None, refl, ap, arith}
use Rattle.branch_state.proofs.Arguments.{none_both}
use Rattle.fd_language.specs.declared.range_node.Need.{Need}
use Rattle.fd_language.specs.Family.{has}
use Rattle.fd_language.specs.Term.{Substitution}
use Rattle.fd_model.specs.Posting.{slot, is_integer}
use Rattle.heap_cells.specs.Cells.{Cells}
use Rattle.range_code.specs.declared.frame.Arg.{Arg}
use Rattle.unify_core.specs.declared.Touch.{Touch}
use Rattle.branch_state.specs.StoreVariables.{offence, first_in, named_behind, integers, variable_of, StandsIn, AllStand, IsReady}

pub stand_more : (s : Substitution) (of : ℕ → ℕ) (ys : List ℕ) (ns : List (Option Need)) (as' : List Arg) (y : ℕ) (n : Option Need) (a : Arg)
    → AllStand s of ys ns as' → StandsIn s of y n a → AllStand s of (ys ++ y ∷ []) (ns ++ n ∷ []) (as' ++ a ∷ [])
stand_more s of [] [] [] y n a t u = (u, tt)
stand_more s of [] [] (b ∷ as') y n a t u = absurd t
stand_more s of [] (m ∷ ns) as' y n a t u = absurd t
stand_more s of (x ∷ ys) [] as' y n a t u = absurd t
stand_more s of (x ∷ ys) (m ∷ ns) [] y n a t u = absurd t
stand_more s of (x ∷ ys) (m ∷ ns) (b ∷ as') y n a t u = (t.0, stand_more s of ys ns as' y n a t.1 u)

-- the variables that aren't integers are the clause's
abbrev pub IsLow : Substitution → ℕ → ℕ → Type 0
IsLow s n x = is_integer (s x) ≡ false → x < n

module _ (s : Substitution) (n : ℕ) (h : Cells) (sets : List (List ℕ)) (x : ℕ) (x_low : IsLow s n x) (ys : List ℕ) (ns : List (Option Need))
    (same : length ys ≡ length ns) (slots_low : (z : ℕ) → has ys z ≡ true → z < n) (now : Cells) (S : List (List ℕ)) (fs : List Touch) (k : ℕ) (as' : List Arg)
    (r : IsReady s n h sets x ys ns now S fs k as')
    (y : ℕ) (low : y < n) (new_one : has ys y ≡ false) where
  abbrev xs : List ℕ
  xs = x ∷ named_behind x ys ns

  abbrev of : ℕ → ℕ
  of z = variable_of s n now r.ks (slot n (integers s xs) z)

-- where no slot has an offence, the i-th has none
pub fine_at : (s : Substitution) (ys : List ℕ) (ns : List (Option Need)) (i d : ℕ) (e : Option Need) → i < length ys → i < length ns → first_in s ys ns ≡ None
    → offence (get_or ns i e) (s (get_or ys i d)) ≡ None
fine_at s [] ns i d e l k h = absurd (omega (arith, l))
fine_at s (y ∷ ys) [] i d e l k h = absurd (omega (arith, k))
fine_at s (y ∷ ys) (n ∷ ns) zero d e l k h = (none_both (offence n (s y)) (first_in s ys ns) h).0
fine_at s (y ∷ ys) (n ∷ ns) (suc i) d e l k h = fine_at s ys ns i d e (omega (arith, l)) (omega (arith, k)) (none_both (offence n (s y)) (first_in s ys ns) h).1

pub take_lengths : {X Y : Type 0} (f : X → Y) (zs : List X) (i : ℕ) → length (take i zs) ≡ length (take i (map f zs))
take_lengths f [] zero = refl
take_lengths f [] (suc i) = refl
take_lengths f (z ∷ zs) zero = refl
take_lengths f (z ∷ zs) (suc i) = ap suc (take_lengths f zs i)

pub take_next : {X : Type 0} (xs : List X) (i : ℕ) (d : X) → i < length xs → take (suc i) xs ≡ take i xs ++ get_or xs i d ∷ []
take_next [] i d l = absurd (omega (arith, l))
take_next (x ∷ xs) zero d l = refl
take_next (x ∷ xs) (suc i) d l = ap (λ ys. x ∷ ys) (take_next xs i d (omega (arith, l)))
