-- Answers of a run as branches, the values that they show, and the assignments that a branch allows.
use Rattle.std.specs.Prelude.{◌≡◌, ℕ, ◌<◌, ◌≤◌, pos, false, IsTrue, List, [], ◌∷◌, ◌++◌, map, Option, ◌⊎◌}
use Rattle.fd_model.specs.declared.kinds.Order.{Order}
use Rattle.fd_model.specs.declared.kinds.Order.TheVariants.{Leftmost, FirstFail}
use Rattle.fd_language.specs.Term.{Int, Substitution}
use Rattle.fd_language.specs.Unifier.{Equation, Unifies}
use Rattle.fd_language.specs.Family.{Family, has, IsFamily, IsSubset}
use Rattle.fd_language.specs.Range.{Indexical, set_of}
use Rattle.fd_model.specs.ClosedFamilies.{AllPosted, constrained}
use Rattle.fd_model.specs.Goal.{Branch, Program, Query, Event}
use Rattle.fd_model.specs.BranchViews.{IsView}
use Rattle.fd_model.specs.Satisfaction.{Assignment, singles}
use Rattle.fd_model.specs.Children.{look_in}
use Rattle.fd_model.specs.Run.{Run, over, last, fewer, any, spent, faulty, taken}
use Rattle.fd_language.specs.Lists.{Each}

-- the branches that a run answers with, in order
abbrev pub answers : {M N : ℕ} {prog : Program} {q : Query} {n : ℕ} {k : Option ℕ} {bs : List Branch} {es : List Event} {r : ℕ} → Run M N prog q n k bs es r → List Branch
answers over = []
answers (last {b = b} s D e v) = b ∷ []
answers (fewer {b = b} s D e v more) = b ∷ answers more
answers (any {b = b} s D e v more) = b ∷ answers more
answers (spent g rest e) = []
answers (faulty g rest s D e c) = []
answers (taken g rest s D cs e c more) = answers more

-- the list of events ends with e
abbrev pub EndsWith : Event → List Event → Type 0
EndsWith e [] = ⊥
EndsWith e (d ∷ []) = d ≡ e
EndsWith e (d ∷ c ∷ cs) = EndsWith e (c ∷ cs)

-- An assignment of numbers up to N that agrees with the equations on the constrained variables and on those in vs, and puts each target inside each posted
-- range.
pub record IsSolution (M N : ℕ) (es : List Equation) (ps : List Indexical) (vs : List ℕ) (a : Assignment) : Type 0 where
  pub bounded : (x : ℕ) → a x ≤ N
  pub unifier : Substitution
  pub unifies : Unifies unifier es
  pub given : (x : ℕ) → IsTrue (has (vs ++ constrained ps) x) → unifier x ≡ Int (pos (a x))
  pub posted : AllPosted (λ p. IsTrue (has (set_of M (singles a) p.range) (a p.target))) ps

-- the variables vs are seen as the numbers ns in the branch
pub record Shows (M N : ℕ) (vs : List ℕ) (b : Branch) (ns : List ℕ) : Type 0 where
  pub unifier : Substitution
  pub family : Family
  pub view : IsView M N b.equations b.posted unifier family
  pub values : map (look_in b unifier family) vs ≡ map (λ n. Int (pos n)) ns

-- each branch shows its numbers
abbrev pub EachShows : ℕ → ℕ → List ℕ → List Branch → List (List ℕ) → Type 0
EachShows M N vs [] [] = Unit {0}
EachShows M N vs [] (ns ∷ nss) = ⊥
EachShows M N vs (b ∷ bs) [] = ⊥
EachShows M N vs (b ∷ bs) (ns ∷ nss) = Shows M N vs b ns × EachShows M N vs bs nss

abbrev pub Somewhere : {X : Type 0} → (X → Type 0) → List X → Type 0
Somewhere H [] = ⊥
Somewhere H (x ∷ xs) = H x ⊎ Somewhere H xs

-- R holds of each element and each later one
abbrev pub InOrder : {X : Type 0} → (X → X → Type 0) → List X → Type 0
InOrder R [] = Unit {0}
InOrder R (x ∷ xs) = Each (R x) xs × InOrder R xs

-- the lexicographic order
abbrev pub Precedes : List ℕ → List ℕ → Type 0
Precedes [] ys = ⊥
Precedes (x ∷ xs) [] = ⊥
Precedes (x ∷ xs) (y ∷ ys) = (x < y) ⊎ ((x ≡ y) × Precedes xs ys)

-- the answers of a labelling in that order: each once, and rising where the leftmost member is taken first
abbrev pub Comes : Order → List ℕ → List ℕ → Type 0
Comes Leftmost ms ns = Precedes ms ns
Comes FirstFail ms ns = ms ≡ ns → ⊥

-- What answers show of vs: only what is allowed, in order; what is allowed and not shown comes after all that is shown, and there is none where the answers are
-- whole.
pub record AreAnswers (M N : ℕ) (o : Order) (vs : List ℕ) (Allowed : List ℕ → Type 0) (bs : List Branch) (AreWhole : Type 0) : Type 0 where
  pub values : List (List ℕ)
  pub shown : EachShows M N vs bs values
  pub allowed : Each Allowed values
  pub order : InOrder (Comes o) values
  pub missing : (ns : List ℕ) → Allowed ns → Somewhere (λ ms. ms ≡ ns) values ⊎ Each (λ ms. Comes o ms ns) values
  pub complete : AreWhole → (ns : List ℕ) → Allowed ns → Somewhere (λ ms. ms ≡ ns) values

abbrev pub OneValue : List ℕ → Type 0
OneValue xs = (n : ℕ) × (xs ≡ n ∷ [])

-- Where a family that the ranges don't narrow has one value for each constrained variable but those in ws, and some for these, it has one value for these too.
abbrev pub Settles : ℕ → List Indexical → List ℕ → Type 0
Settles M ps ws =
    (S : Family) → IsFamily M S → AllPosted (λ p. IsSubset (S p.target) (set_of M S p.range)) ps → ((x : ℕ) → IsTrue (has (constrained ps) x) → (n : ℕ) × IsTrue (has (S x) n))
    → ((x : ℕ) → IsTrue (has (constrained ps) x) → has ws x ≡ false → OneValue (S x)) → (x : ℕ) → IsTrue (has (constrained ps) x) → OneValue (S x)
