-- The generator's text, put together piece by piece.
use Rattle.std.proofs.Common.{◌≡◌, ℕ, zero, suc, ◌+◌, List, [], ◌++◌, ap, refl, sym, ◌∙◌, arith, codes, decimal, append_assoc, append-nil}
use Rattle.std.proofs.lemmas.Fmt.{decimal_digit}
use Rattle.fd_model.specs.Generator.{queens_from, queens_text}
use Rattle.fd_model.specs.Lines.{joined}

-- a comma before each of m names from the k-th on
abbrev pub more_names : ℕ → ℕ → List ℕ
more_names k zero = []
more_names k (suc m) = (codes ",_Q" ++ decimal k) ++ more_names (k + 1) m

-- the clauses, and what stands before the first name
abbrev pub before_names : List ℕ
before_names = codes "safe([]).\nsafe([Q|Qs]) :- apart(Q, Qs, 1), safe(Qs).\napart(Q, [], D).\napart(Q, [R|Rs], D) :- Q #\\= R, Q #\\= R + D, Q #\\= R - D, E is D + 1, apart(Q, Rs, E).\nrange([], N).\nrange([Q|Qs], N) :- Q in 1..N, range(Qs, N).\n?- L = ["

joined_names : (k m : ℕ) → joined (codes ",") (queens_from k (suc m)) ≡ (codes "_Q" ++ decimal k) ++ more_names (k + 1) m
joined_names k zero = sym (append-nil (codes "_Q" ++ decimal k))
joined_names k (suc m) = ap (λ (t : List ℕ). (codes "_Q" ++ decimal k) ++ (codes "," ++ t)) (joined_names (k + 1) m)

behind_names : (j r d e nl : List ℕ) → (j ++ (r ++ (d ++ e))) ++ nl ≡ ((j ++ r) ++ d) ++ (e ++ nl)
behind_names j r d e nl =
    append_assoc j (r ++ (d ++ e)) nl ∙ ap (λ (t : List ℕ). j ++ t) (append_assoc r (d ++ e) nl ∙ ap (λ (t : List ℕ). r ++ t) (append_assoc d e nl))
    ∙ sym (append_assoc j r (d ++ (e ++ nl))) ∙ sym (append_assoc (j ++ r) d (e ++ nl))

-- the names, and what stands behind them
pub whole_text : (m : ℕ) (d names : List ℕ) → d ≡ decimal (suc m) → names ≡ codes "_Q1" ++ more_names 2 m
    → before_names ++ (((names ++ codes "], range(L, ") ++ d) ++ codes "), safe(L), fd_labeling(L).\n") ≡ queens_text (suc m)
whole_text m d names same are =
    let first : codes "_Q1" ++ more_names 2 m ≡ joined (codes ",") (queens_from 1 (suc m)) =
    ap (λ (t : List ℕ). (codes "_Q" ++ t) ++ more_names 2 m) (sym (decimal_digit 1 (omega arith))) ∙ sym (joined_names 1 m) in
    ap (λ (t : List ℕ). before_names ++ (((t ++ codes "], range(L, ") ++ d) ++ codes "), safe(L), fd_labeling(L).\n")) (are ∙ first)
    ∙ ap (λ (t : List ℕ). before_names ++ (((joined (codes ",") (queens_from 1 (suc m)) ++ codes "], range(L, ") ++ t) ++ codes "), safe(L), fd_labeling(L).\n")) same
    ∙ ap (λ (t : List ℕ). before_names ++ t) (sym (behind_names (joined (codes ",") (queens_from 1 (suc m))) (codes "], range(L, ") (decimal (suc m))
    (codes "), safe(L), fd_labeling(L).") (codes "\n")))

-- the names so far, and those still to come
pub one_name : (k rest rest2 : ℕ) (text now new all : List ℕ) → rest ≡ suc rest2 → text ++ more_names k rest ≡ all → now ≡ text ++ codes ",_Q"
    → new ≡ now ++ decimal k → new ++ more_names (k + 1) rest2 ≡ all
one_name k rest rest2 text now new all fewer h e f =
    let next = more_names (k + 1) rest2 in
    let here : new ≡ (text ++ codes ",_Q") ++ decimal k = f ∙ ap (λ (t : List ℕ). t ++ decimal k) e in
    ap (λ (t : List ℕ). t ++ next) (here ∙ append_assoc text (codes ",_Q") (decimal k)) ∙ append_assoc text (codes ",_Q" ++ decimal k) next
    ∙ sym (ap (λ (n : ℕ). text ++ more_names k n) fewer) ∙ h

-- no name is still to come
pub no_name : (k rest : ℕ) (text all : List ℕ) → rest ≡ 0 → text ++ more_names k rest ≡ all → text ≡ all
no_name k rest text all e h = sym (append-nil text) ∙ sym (ap (λ (n : ℕ). text ++ more_names k n) e) ∙ h

-- the text by its pieces
pub text_is : (n m : ℕ) (d before now then all : List ℕ) → n ≡ suc m → d ≡ decimal n → before ≡ before_names ++ (codes "_Q1" ++ more_names 2 m)
    → now ≡ before ++ codes "], range(L, " → then ≡ now ++ d → all ≡ then ++ codes "), safe(L), fd_labeling(L).\n" → all ≡ queens_text n
text_is n m d before now then all size same b e f g =
    let names = codes "_Q1" ++ more_names 2 m in
    let whole : all ≡ (((before_names ++ names) ++ codes "], range(L, ") ++ d) ++ codes "), safe(L), fd_labeling(L).\n" =
    g ∙ ap (λ (t : List ℕ). t ++ codes "), safe(L), fd_labeling(L).\n") (f ∙ ap (λ (t : List ℕ). t ++ d) (e ∙ ap (λ (t : List ℕ). t ++ codes "], range(L, ") b)) in
    whole ∙ whole_text m d names (same ∙ ap decimal size) refl ∙ sym (ap queens_text size)
