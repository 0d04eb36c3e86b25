-- Marks that wait: copies of the current level in front of the levels below.
use Rattle.std.proofs.Common.{◌≡◌, ℕ, zero, suc, ◌+◌, ◌-◌, ◌≤◌, Bool, List, [], ◌∷◌, ◌++◌, length, replicate, drop, refl, ap, sym, ◌∙◌, arith}
use Rattle.std.proofs.lemmas.List.{length-append, length-replicate, drop-replicate, drop-append-le}
use Rattle.std.proofs.Math.Seq.{drop-append-add}
use Rattle.fd_model.specs.Levels.{Level, Levels}

-- one of them is the first
pub one_waits : (w v : ℕ) (l : Level) (ls : List Level) → w ≡ v + 1 → replicate w l ++ ls ≡ l ∷ (replicate v l ++ ls)
one_waits w v l ls e =
    let next : w ≡ suc v = omega arith in
    ap (λ n. replicate n l ++ ls) next

-- one of them made, which is then one of the levels below
pub one_made : (v : ℕ) (l : Level) (ls : List Level) → replicate v l ++ l ∷ ls ≡ l ∷ (replicate v l ++ ls)
one_made zero l ls = refl
one_made (suc v) l ls = ap (λ ms. l ∷ ms) (one_made v l ls)

-- as many levels below as marks wait, at least
pub many_wait : (n w : ℕ) (l : Level) (ls : List Level) → n ≤ suc w → n ≤ suc (length (replicate w l ++ ls))
many_wait n w l ls h = omega (arith, length-append (replicate w l) ls, length-replicate w l, h)

-- some of them dropped, or all and some of the others
pub waiting_dropped : (n w : ℕ) (l : Level) (ls : List Level) → n ≤ w → drop n (replicate w l ++ ls) ≡ replicate (w - n) l ++ ls
waiting_dropped n w l ls h =
    drop-append-le n (replicate w l) ls (omega (arith, length-replicate w l)) ∙ ap (λ ms. ms ++ ls) (drop-replicate n w l)

pub others_dropped : (n w : ℕ) (l : Level) (ls : List Level) → w ≤ n → drop n (replicate w l ++ ls) ≡ drop (n - w) ls
others_dropped n w l ls h =
    let all : n ≡ length (replicate w l) + (n - w) = omega (arith, length-replicate w l) in
    ap (λ k. drop k (replicate w l ++ ls)) all ∙ drop-append-add (replicate w l) ls (n - w)

-- levels with equal ones below
pub same_below : (c : Level) (a b : List Level) (s : Bool) → a ≡ b → ◌≡◌ {A = Levels} (record { current = c; below = a; spent = s }) (record { current = c; below = b; spent = s })
same_below c a b s e = ap (λ (l : List Level). let r : Levels = record { current = c; below = l; spent = s } in r) e
