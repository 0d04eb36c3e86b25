-- The events of a run whose goals write nothing and meet no fault.
use Rattle.std.proofs.Common.{length, ◌≡◌, ℕ, true, ◌==◌, pos, codes, List, [], ◌∷◌, ◌++◌, map, Option, refl, ap, sym, ◌∙◌, subst, inl, inr, eqb-true}
use Rattle.std.proofs.lemmas.Bool.{or_cases, or_right, true≢false}
use Rattle.fd_model.specs.declared.kinds.QueryFault.{QueryFault}
use Rattle.fd_language.specs.Term.{Name, Int, Substitution}
use Rattle.fd_language.specs.Family.{Family, has}
use Rattle.fd_language.specs.TermTexts.{Quoted, term_text}
use Rattle.fd_model.specs.ClosedFamilies.{constrained}
use Rattle.fd_model.specs.Goal.{Goal, Program, Query, Branch, Event, Answer, End, Budget, Limit}
use Rattle.fd_model.specs.BranchViews.{IsView}
use Rattle.fd_model.specs.Children.{kept_by, last_of, Faults, Gives, look_in, Children}
use Rattle.fd_model.specs.Lines.{answer_line, line_of, equals_text, open_text, as_terms, joined, says}
use Rattle.fd_model.proofs.OneView.{one_view}
use Rattle.fd_model.specs.Run.{Run, over, last, fewer, any, spent, faulty, taken}
use Rattle.fd_language.specs.Lists.{Each}
use Rattle.fd_model.specs.Answers.{answers, Shows, EachShows}
use Rattle.fd_model.specs.Satisfaction.{Assignment}
use Rattle.fd_model.specs.FlatLines.{assigned_line, IsLast}
use Rattle.fd_model.proofs.CutBranches.{each_last}
use Rattle.fd_model.proofs.Lists.{each_both}
use Rattle.fd_model.proofs.ModelSubstitutions.{first_member}

-- each branch has its line
abbrev pub EachLine : ℕ → ℕ → Query → List Branch → List (List ℕ) → Type 0
EachLine M N q [] [] = Unit {0}
EachLine M N q [] (l ∷ ls) = ⊥
EachLine M N q (b ∷ bs) [] = ⊥
EachLine M N q (b ∷ bs) (l ∷ ls) = ((s : Substitution) × (D : Family) × IsView M N b.equations b.posted s D × (l ≡ answer_line q s D b)) × EachLine M N q bs ls

-- the lines of the answers, and then the end
pub record AreLines (M N : ℕ) (q : Query) (bs : List Branch) (es : List Event) : Type 0 where
  pub lines : List (List ℕ)
  pub each : EachLine M N q bs lines
  pub last : Event
  pub ends : IsLast last
  pub events : es ≡ map Answer lines ++ last ∷ []

module _ (M N : ℕ) (prog : Program) (q : Query) (Good : Branch → Type 0)
    (children : (m : ℕ) (b : Branch) (g : Goal) (rest : List Goal) (s : Substitution) (D : Family) (cs : List Branch) → Good b → b.goals ≡ g ∷ rest
    → Children M N prog m b g rest s D (Gives cs) → Each Good cs)
    (silent : (b : Branch) (g : Goal) (rest : List Goal) (s : Substitution) (D : Family) → Good b → b.goals ≡ g ∷ rest → says s D b g ≡ [])
    (sound : (m : ℕ) (b : Branch) (g : Goal) (rest : List Goal) (s : Substitution) (D : Family) (f : QueryFault) → Good b → b.goals ≡ g ∷ rest → Children M N prog m b g rest s D (Faults f) → ⊥) where
  one_more : (b : Branch) (bs : List Branch) (es : List Event) (s : Substitution) (D : Family) → IsView M N b.equations b.posted s D → AreLines M N q bs es
      → AreLines M N q (b ∷ bs) (Answer (answer_line q s D b) ∷ es)
  one_more b bs es s D v l = record {
    lines = answer_line q s D b ∷ l.lines;
    each = ((s, D, v, refl), l.each);
    last = l.last;
    ends = l.ends;
    events = ap (λ ds. Answer (answer_line q s D b) ∷ ds) l.events;
  }

  alone : (e : Event) → IsLast e → AreLines M N q [] (e ∷ [])
  alone e h = record { lines = []; each = tt; last = e; ends = h; events = refl }

  pub lines_of : {n : ℕ} {k : Option ℕ} {bs : List Branch} {es : List Event} {r : ℕ} (run : Run M N prog q n k bs es r) → Each Good bs → AreLines M N q (answers run) es
  lines_of over good = alone End (inl refl)
  lines_of (last {b = b} s D e v) good = one_more b [] (Limit ∷ []) s D v (alone Limit (inr (inr refl)))
  lines_of (fewer {b = b} {es = es} s D e v more) good = one_more b (answers more) es s D v (lines_of more good.1)
  lines_of (any {b = b} {es = es} s D e v more) good = one_more b (answers more) es s D v (lines_of more good.1)
  lines_of (spent g rest e) good = alone Budget (inr (inl refl))
  lines_of (faulty {b = b} {bs = bs} {f = f} g rest s D e c) good = absurd (sound (length bs) b g rest s D f good.0 e c)
  lines_of (taken {b = b} {bs = bs} {es = es} g rest s D cs e c more) good =
      subst (λ ds. AreLines M N q (answers more) (ds ++ es)) (sym (silent b g rest s D good.0 e))
      (lines_of more (each_both Good cs (last_of (kept_by (length bs) g) bs) (children (length bs) b g rest s D cs good.0 e c)
      (each_last Good (kept_by (length bs) g) bs good.1)))

-- a line of integers
integers_text : (here there : ℕ → List ℕ) (a : Assignment) (names : List Name) (vs : List ℕ)
    → equals_text here names (map (λ v. Int (pos (a v))) vs) ≡ equals_text there names (map (λ v. Int (pos (a v))) vs)
integers_text here there a [] vs = refl
integers_text here there a (n ∷ names) [] = refl
integers_text here there a (n ∷ names) (v ∷ vs) = ap (λ l. (n ++ (codes " = " ++ term_text Quoted here 699 (Int (pos (a v))))) ∷ l) (integers_text here there a names vs)

integers_line : (here there : ℕ → List ℕ) (a : Assignment) (names : List Name) (vs : List ℕ) → line_of here names (map (λ v. Int (pos (a v))) vs) ≡ line_of there names (map (λ v. Int (pos (a v))) vs)
integers_line here there a [] vs = refl
integers_line here there a (n ∷ names) vs = ap (joined (codes ", ")) (integers_text here there a (n ∷ names) vs)

pub at_both : (f g : Substitution) (ys : List ℕ) (y : ℕ) → map f ys ≡ map g ys → has ys y ≡ true → f y ≡ g y
at_both f g [] y e h = absurd (true≢false (sym h))
at_both f g (x ∷ ys) y e h = elim (or_cases (x == y) (has ys y) h) [
  | inl k ↦ subst (λ w. f w ≡ g w) (eqb-true x y k) (let i : f x ≡ g x = cc in i)
  | inr k ↦ at_both f g ys y (let i : map f ys ≡ map g ys = cc in i) k
]

map_twice : (a : Assignment) (ys : List ℕ) → map (λ n. Int (pos n)) (map a ys) ≡ map (λ y. Int (pos (a y))) ys
map_twice a [] = refl
map_twice a (y ∷ ys) = ap (λ l. Int (pos (a y)) ∷ l) (map_twice a ys)

map_where : (f g : Substitution) (ys : List ℕ) → ((y : ℕ) → has ys y ≡ true → f y ≡ g y) → map f ys ≡ map g ys
map_where f g [] h = refl
map_where f g (y ∷ ys) h = let one = h y (first_member y ys) in let more = map_where f g ys (λ w k. h w (or_right (y == w) (has ys w) k)) in cc

-- the line of a branch that shows the numbers of an assignment
pub shown_line : (M N : ℕ) (q : Query) (vs : List ℕ) (a : Assignment) (b : Branch) → ((v : ℕ) → has q.shown v ≡ true → has vs v ≡ true) → Shows M N vs b (map a vs)
    → (s : Substitution) (D : Family) → IsView M N b.equations b.posted s D → answer_line q s D b ≡ assigned_line q a
shown_line M N q vs a b inside h s D v =
    let one = one_view M N b.equations b.posted h.unifier s h.family D h.view v in
    let values : map (look_in b s D) vs ≡ map (λ y. Int (pos (a y))) vs = subst (λ r. map (look_in b r D) vs ≡ map (λ y. Int (pos (a y))) vs) one.0
    (subst (λ E. map (look_in b h.unifier E) vs ≡ map (λ y. Int (pos (a y))) vs) one.1 (h.values ∙ map_twice a vs)) in
    let shown : map (look_in b s D) q.shown ≡ map (λ y. Int (pos (a y))) q.shown = map_where (look_in b s D) (λ y. Int (pos (a y))) q.shown
    (λ y k. at_both (look_in b s D) (λ y. Int (pos (a y))) vs y values (inside y k)) in
    ap (λ ts. line_of (open_text s D (constrained b.posted) (as_terms ts)) q.names ts) shown
    ∙ integers_line (open_text s D (constrained b.posted) (as_terms (map (λ y. Int (pos (a y))) q.shown))) (λ y. []) a q.names q.shown

-- lines and numbers of the same branches
pub lines_shown : (M N : ℕ) (q : Query) (vs : List ℕ) → ((v : ℕ) → has q.shown v ≡ true → has vs v ≡ true) → (bs : List Branch) (ls : List (List ℕ)) (found : List Assignment)
    → EachLine M N q bs ls → EachShows M N vs bs (map (λ a. map a vs) found) → ls ≡ map (assigned_line q) found
lines_shown M N q vs inside [] [] [] l h = refl
lines_shown M N q vs inside [] [] (a ∷ found) l h = absurd h
lines_shown M N q vs inside [] (x ∷ ls) found l h = absurd l
lines_shown M N q vs inside (b ∷ bs) [] found l h = absurd l
lines_shown M N q vs inside (b ∷ bs) (x ∷ ls) [] l h = absurd h
lines_shown M N q vs inside (b ∷ bs) (x ∷ ls) (a ∷ found) l h =
    let one : x ≡ assigned_line q a = l.0.3 ∙ shown_line M N q vs a b inside h.0 l.0.0 l.0.1 l.0.2 in
    let more = lines_shown M N q vs inside bs ls found l.1 h.1 in
    cc
