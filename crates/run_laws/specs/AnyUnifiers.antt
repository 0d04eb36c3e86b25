-- Runs that take any most general unifier at each step.
use Rattle.std.specs.Prelude.{◌≡◌, ℕ, zero, suc, ◌+◌, Bool, false, ℤ, List, [], ◌∷◌, ◌++◌, map, length, Option, Some, None, Ok, codes, decimal}
use Rattle.fd_model.specs.declared.kinds.QueryFault.{QueryFault}
use Rattle.fd_model.specs.declared.kinds.Order.{Order}
use Rattle.fd_language.specs.Term.{Term, Int, Substitution, apply}
use Rattle.fd_language.specs.Unifier.{Equation, IsMostGeneral}
use Rattle.fd_language.specs.Family.{Family, IsInside}
use Rattle.fd_language.specs.Lists.{Each}
use Rattle.fd_language.specs.Range.{Indexical}
use Rattle.fd_model.specs.ClosedFamilies.{IsClosed}
use Rattle.fd_model.specs.Goal.{Goal, Label, Program, Query, Branch, Event, Answer, End, Budget, Limit, Fault, start_of}
use Rattle.fd_model.specs.Members.{Member}
use Rattle.fd_model.specs.Labelling.{read_list, pick, values_by}
use Rattle.fd_model.specs.Branches.{with_goals, by_value, Kept, look_in, sets_in}
use Rattle.fd_model.specs.Leaves.{IsBetter, IsAsGood}
use Rattle.fd_model.specs.Children.{Offer, Faults, Gives, Seeks, offer, kept_by, last_of}
use Rattle.fd_model.specs.Lines.{answer_line, says, line, events_bytes}
use Rattle.fd_model.specs.Output.{is_stop, or_stop}

-- any most general unifier, and the family that Domains gives
pub record IsAnyView (M N : ℕ) (es : List Equation) (ps : List Indexical) (s : Substitution) (D : Family) : Type 0 where
  pub general : IsMostGeneral es s
  pub closed : IsClosed M N s ps D
  pub contains : (S : Family) → IsClosed M N s ps S → IsInside S D

-- Leaves of branches under a labelling of the list t, put together in order, each branch seen by any most general unifier.
pub data AnyLeaves (M N : ℕ) (o : Order) (t : Term) : List Branch → List Branch → Type 0 where
  no_leaves : AnyLeaves M N o t [] []
  leaf : {b : Branch} {bs ls : List Branch} (s : Substitution) (D : Family) (ms : List Member) → IsAnyView M N b.equations b.posted s D → read_list (apply (look_in b s D) t) ≡ Ok ms
      → pick o (λ y. values_by N (sets_in b s D y)) ms ≡ None → AnyLeaves M N o t bs ls → AnyLeaves M N o t (b ∷ bs) (b ∷ ls)
  grows : {b : Branch} {bs ls : List Branch} (s : Substitution) (D : Family) (ms : List Member) (x : ℕ) (cs : List Branch) → IsAnyView M N b.equations b.posted s D
      → read_list (apply (look_in b s D) t) ≡ Ok ms
      → pick o (λ y. values_by N (sets_in b s D y)) ms ≡ Some x → Kept M N (map (by_value b b.goals x) (values_by N (sets_in b s D x))) cs → AnyLeaves M N o t (cs ++ bs) ls
      → AnyLeaves M N o t (b ∷ bs) ls

-- the term is seen as this integer in the branch, by some most general unifier
pub record IsAnySeenAs (M N : ℕ) (b : Branch) (t : Term) (z : ℤ) : Type 0 where
  pub unifier : Substitution
  pub family : Family
  pub view : IsAnyView M N b.equations b.posted unifier family
  pub seen : apply (look_in b unifier family) t ≡ Int z

-- The first of the leaves that have the best cost: it is better than those before it, and as good as those behind it.
pub record IsAnyBest (M N : ℕ) (least : Bool) (c : Term) (ls : List Branch) (b : Branch) : Type 0 where
  pub before : List Branch
  pub behind : List Branch
  pub among : ls ≡ before ++ b ∷ behind
  pub cost : ℤ
  pub costs : IsAnySeenAs M N b c cost
  pub earlier : Each (λ d. (z : ℤ) × IsAnySeenAs M N d c z × IsBetter least cost z) before
  pub later : Each (λ d. (z : ℤ) × IsAnySeenAs M N d c z × IsAsGood least cost z) behind

-- none without leaves, and else the first best leaf, which goes on with these goals
abbrev pub AnyBestLeaf : ℕ → ℕ → Bool → Term → List Goal → List Branch → List Branch → Type 0
AnyBestLeaf M N least c rest [] cs = cs ≡ []
AnyBestLeaf M N least c rest (l ∷ ls) cs = (d : Branch) × IsAnyBest M N least c (l ∷ ls) d × (cs ≡ with_goals d rest ∷ [])

-- the leaves of the labelling of t in the branch, and the best of them
abbrev pub AnySoughtLeaf : ℕ → ℕ → Branch → List Goal → Order → Bool → Term → Term → List Branch → Type 0
AnySoughtLeaf M N b rest o least t c cs = (ls : List Branch) × AnyLeaves M N o t (with_goals b (Label o t ∷ []) ∷ []) ls × AnyBestLeaf M N least c rest ls cs

-- what is kept of an offer: the fault, the consistent ones of the branches, or what is found
abbrev pub AnyKeptOffer : ℕ → ℕ → Offer → Offer → Type 0
AnyKeptOffer M N (Faults f) (Faults g) = f ≡ g
AnyKeptOffer M N (Gives bs) (Gives cs) = Kept M N bs cs
AnyKeptOffer M N (Seeks b rest o least t c) (Gives cs) = AnySoughtLeaf M N b rest o least t c cs
AnyKeptOffer M N _ _ = ⊥

-- what the goal g of the branch b gives by any most general unifier, with the other goals rest and m other branches
pub record AnyChildren (M N : ℕ) (prog : Program) (m : ℕ) (b : Branch) (g : Goal) (rest : List Goal) (s : Substitution) (D : Family) (o : Offer) : Type 0 where
  pub view : IsAnyView M N b.equations b.posted s D
  pub kept : AnyKeptOffer M N (offer M N m prog (look_in b s D) (sets_in b s D) b g rest) o

-- A run in which each step is taken by any most general unifier of its branch: the budget left, the number of answers still allowed, or none, the branches, the
-- events, and the number of reductions spent.
pub data AnyRun (M N : ℕ) (prog : Program) (q : Query) : ℕ → Option ℕ → List Branch → List Event → ℕ → Type 0 where
  over : {n : ℕ} {k : Option ℕ} → AnyRun M N prog q n k [] (End ∷ []) 0
  last : {n : ℕ} {b : Branch} {bs : List Branch} (s : Substitution) (D : Family) → b.goals ≡ [] → IsAnyView M N b.equations b.posted s D
      → AnyRun M N prog q n (Some (suc zero)) (b ∷ bs) (Answer (answer_line q s D b) ∷ Limit ∷ []) 0
  fewer : {n k : ℕ} {b : Branch} {bs : List Branch} {es : List Event} {r : ℕ} (s : Substitution) (D : Family) → b.goals ≡ [] → IsAnyView M N b.equations b.posted s D
      → AnyRun M N prog q n (Some (suc k)) bs es r → AnyRun M N prog q n (Some (suc (suc k))) (b ∷ bs) (Answer (answer_line q s D b) ∷ es) r
  any : {n : ℕ} {b : Branch} {bs : List Branch} {es : List Event} {r : ℕ} (s : Substitution) (D : Family) → b.goals ≡ [] → IsAnyView M N b.equations b.posted s D
      → AnyRun M N prog q n None bs es r → AnyRun M N prog q n None (b ∷ bs) (Answer (answer_line q s D b) ∷ es) r
  spent : {k : Option ℕ} {b : Branch} {bs : List Branch} (g : Goal) (rest : List Goal) → b.goals ≡ g ∷ rest → AnyRun M N prog q zero k (b ∷ bs) (Budget ∷ []) 0
  faulty : {n : ℕ} {k : Option ℕ} {b : Branch} {bs : List Branch} {f : QueryFault} (g : Goal) (rest : List Goal) (s : Substitution) (D : Family) → b.goals ≡ g ∷ rest
      → AnyChildren M N prog (length bs) b g rest s D (Faults f) → AnyRun M N prog q (suc n) k (b ∷ bs) (Fault f ∷ []) 1
  taken : {n : ℕ} {k : Option ℕ} {b : Branch} {bs : List Branch} {es : List Event} {r : ℕ} (g : Goal) (rest : List Goal) (s : Substitution) (D : Family) (cs : List Branch) → b.goals ≡ g ∷ rest
      → AnyChildren M N prog (length bs) b g rest s D (Gives cs) → AnyRun M N prog q n k (cs ++ last_of (kept_by (length bs) g) bs) es r
      → AnyRun M N prog q (suc n) k (b ∷ bs) (says s D b g ++ es) (suc r)

-- what the queries from the n-th on write by such runs, and whether the run of one of them stopped
abbrev pub AnyQueries : ℕ → ℕ → Program → ℕ → Option ℕ → ℕ → List Query → List ℕ → Bool → Type 0
AnyQueries M N prog budget answers n [] out stop = (out ≡ []) × (stop ≡ false)
AnyQueries M N prog budget answers n (q ∷ qs) out stop =
    (es : List Event) × (spent : ℕ) × (rest : List ℕ) × (later : Bool)
    × AnyRun M N prog q budget answers (start_of q ∷ []) es spent
    × AnyQueries M N prog budget answers (n + 1) qs rest later
    × (out ≡ line (codes "query " ++ decimal n) ++ (events_bytes es ++ rest))
    × (stop ≡ or_stop (is_stop es) later)
