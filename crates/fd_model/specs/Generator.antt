-- The generator: a text that places n queens on a board of n by n, and the summary of its run.
use Rattle.std.specs.Prelude.{ℕ, zero, suc, ◌+◌, List, [], ◌∷◌, ◌++◌, codes, decimal}
use Rattle.fd_model.specs.Goal.{Event, Answer, End}
use Rattle.fd_model.specs.Lines.{joined, line, event_bytes}

-- the names of n queens from the k-th on
abbrev pub queens_from : ℕ → ℕ → List (List ℕ)
queens_from k zero = []
queens_from k (suc n) = (codes "_Q" ++ decimal k) ∷ queens_from (k + 1) n

abbrev pub queens_query : ℕ → List ℕ
queens_query n = codes "?- L = [" ++ (joined (codes ",") (queens_from 1 n) ++ (codes "], range(L, " ++ (decimal n ++ codes "), safe(L), fd_labeling(L).")))

-- the text for n queens
abbrev pub queens_text : ℕ → List ℕ
queens_text n =
    line (codes "safe([]).")
    ++ (line (codes "safe([Q|Qs]) :- apart(Q, Qs, 1), safe(Qs).")
    ++ (line (codes "apart(Q, [], D).")
    ++ (line (codes "apart(Q, [R|Rs], D) :- Q #\\= R, Q #\\= R + D, Q #\\= R - D, E is D + 1, apart(Q, Rs, E).")
    ++ (line (codes "range([], N).")
    ++ (line (codes "range([Q|Qs], N) :- Q in 1..N, range(Qs, N).")
    ++ line (queens_query n))))))

abbrev pub one_more : Event → ℕ → ℕ
one_more (Answer t) n = suc n
one_more _ n = n

abbrev pub count_answers : List Event → ℕ
count_answers [] = 0
count_answers (e ∷ es) = one_more e (count_answers es)

abbrev pub last_event : Event → List Event → Event
last_event e [] = e
last_event e (f ∷ es) = last_event f es

-- four lines: the size, the number of answers, the reductions, and how the run ended
abbrev pub summary : ℕ → List Event → ℕ → List ℕ
summary n es spent =
    line (codes "gen " ++ decimal n)
    ++ (line (codes "answers " ++ decimal (count_answers es))
    ++ (line (codes "reductions " ++ decimal spent) ++ event_bytes (last_event End es)))
