-- What the leftmost goal of a branch gives.
use Rattle.std.specs.Prelude.{◌≡◌, ℕ, suc, ◌+◌, ◌-◌, min, Bool, true, false, ◌&&◌, if◌then◌else◌, List, [], ◌∷◌, ◌++◌, map, drop, length, Option, Some, None}
use Rattle.std.specs.Prelude.{Result, Ok, Err}
use Rattle.std.specs.Str.{bytes_eq}
use Rattle.fd_model.specs.declared.kinds.QueryFault.{QueryFault}
use Rattle.fd_model.specs.declared.kinds.QueryFault.TheVariants.{BadType, Parameter}
use Rattle.fd_model.specs.Builtins.{Finding, faulted, decided, equated, finding}
use Rattle.fd_model.specs.declared.kinds.Order.{Order}
use Rattle.fd_model.specs.Labelling.{read_list, pick, values_by, open_ones}
use Rattle.fd_model.specs.Members.{Member}
use Rattle.fd_language.specs.Term.{Term, Terms, Var, Int, Atom, Comp, no_terms, term, Substitution, apply}
use Rattle.fd_language.specs.Unifier.{Equation}
use Rattle.fd_language.specs.Family.{Family, has}
use Rattle.fd_language.specs.Range.{Indexical}
use Rattle.fd_model.specs.Goal.{Goal, Goals, listed, True, Fail, Unify, Post, Constrain, Label, Call, Either, Builtin, Cut, If, IfElse, Not, Best, marked_all}
use Rattle.fd_model.specs.Goal.{Clause, Program, Branch}
use Rattle.fd_model.specs.Renaming.{rename_term, rename_goal}
use Rattle.fd_model.specs.BranchViews.{IsView}
use Rattle.fd_model.specs.LinearRows.{Expansion}
use Rattle.fd_model.specs.ConstraintExpansion.{constrain, equations}
use Rattle.fd_model.specs.Posting.{post, Found, offends, posts}
pub use Rattle.fd_model.specs.Branches.{with_goals, with_equations, is_number, by_value, Kept, look_in, sets_in}
use Rattle.fd_model.specs.Leaves.{SoughtLeaf}

-- A fault; branches of which some may not be consistent; or what a search for the best leaf of a labelling finds, which then goes on with these goals.
pub data Offer : Type 0 where
  Faults : QueryFault → Offer
  Gives : List Branch → Offer
  Seeks : Branch → List Goal → Order → Bool → Term → Term → Offer

-- one more posted range, the equations of its fresh variables, and the next fresh number
abbrev pub with_range : Branch → List Goal → Indexical → List Equation → ℕ → Branch
with_range b gs p es n = record { goals = gs; equations = es ++ b.equations; posted = p ∷ b.posted; fresh = n }

abbrev pub same_count : Terms → Terms → Bool
same_count no_terms no_terms = true
same_count no_terms (term u us) = false
same_count (term t ts) no_terms = false
same_count (term t ts) (term u us) = same_count ts us

-- the head has the goal's name and arity
abbrev pub fits_head : Term → Term → Bool
fits_head (Atom a) (Atom b) = bytes_eq a b
fits_head (Comp f ts) (Comp g us) = bytes_eq f g && same_count ts us
fits_head _ _ = false

-- an equation for each argument
abbrev pub paired : Terms → Terms → List Equation
paired no_terms us = []
paired (term t ts) no_terms = []
paired (term t ts) (term u us) = record { left = t; right = u } ∷ paired ts us

abbrev pub argument_equations : Term → Term → List Equation
argument_equations (Comp f ts) (Comp g us) = paired ts us
argument_equations _ _ = []

-- The clause renamed apart, its body in front, whose cuts keep the m other branches that are there now.
abbrev pub by_clause : ℕ → Branch → Term → List Goal → Clause → Branch
by_clause m b t rest c =
    with_equations b (marked_all m (map (rename_goal (λ x. b.fresh + x)) c.body) ++ rest) (argument_equations t (rename_term (λ x. b.fresh + x) c.head)) (b.fresh + c.variables)

abbrev pub by_clauses : ℕ → List Clause → Branch → Term → List Goal → List Branch
by_clauses m [] b t rest = []
by_clauses m (c ∷ cs) b t rest = if fits_head t c.head then by_clause m b t rest c ∷ by_clauses m cs b t rest else by_clauses m cs b t rest

abbrev pub by_post : Branch → List Goal → Found → Offer
by_post b rest (offends f) = Faults f
by_post b rest (posts p n es) = Gives (with_range b rest p es n ∷ [])

-- more posted ranges, the equations of their fresh variables, and the next fresh number
abbrev pub with_expansion : Branch → List Goal → Expansion → Branch
with_expansion b gs x = record { goals = gs; equations = equations x.equated ++ b.equations; posted = x.ranges ++ b.posted; fresh = x.fresh }

abbrev pub by_constraint : Branch → List Goal → Result Expansion QueryFault → Offer
by_constraint b rest (Err f) = Faults f
by_constraint b rest (Ok x) = Gives (with_expansion b rest x ∷ [])

abbrev pub by_finding : Branch → List Goal → Finding → Offer
by_finding b rest (faulted f) = Faults f
by_finding b rest (decided true) = Gives (with_goals b rest ∷ [])
by_finding b rest (decided false) = Gives []
by_finding b rest (equated l r) = Gives (with_equations b rest (record { left = l; right = r } ∷ []) b.fresh ∷ [])

-- a child for each value of the picked variable
abbrev pub by_pick : (ℕ → List ℕ) → Branch → Goal → List Goal → Option ℕ → Offer
by_pick values b g rest None = Gives (with_goals b rest ∷ [])
by_pick values b g rest (Some x) = Gives (map (by_value b (g ∷ rest) x) (values x))

abbrev pub by_listing : (ℕ → List ℕ) → Branch → Order → Goal → List Goal → Result (List Member) QueryFault → Offer
by_listing values b o g rest (Err f) = Faults f
by_listing values b o g rest (Ok ms) = by_pick values b g rest (pick o values ms)

-- A test, whose own cuts keep k other branches, and then a cut that keeps m: so the first way of the test is the only one.
abbrev pub by_test : ℕ → ℕ → Branch → Goals → List Goal → Branch
by_test k m b test gs = with_goals b (marked_all k (listed test) ++ Cut (Some m) ∷ gs)

-- The fault of a cost as it is seen: an integer and an open member of the list have none.
abbrev pub cost_fault : List Member → Term → Option QueryFault
cost_fault ms (Var x) = if has (open_ones ms) x then None else Some Parameter
cost_fault ms (Int z) = None
cost_fault ms (Atom a) = Some BadType
cost_fault ms (Comp f ts) = Some BadType

abbrev pub unless_fault : Option QueryFault → Offer → Offer
unless_fault (Some f) o = Faults f
unless_fault None o = o

-- the list is read first, and then the cost
abbrev pub by_cost : Term → Offer → Result (List Member) QueryFault → Offer
by_cost c o (Err f) = Faults f
by_cost c o (Ok ms) = unless_fault (cost_fault ms c) o

-- The children of each kind of goal, with m other branches, where look gives each variable as it is seen, and sets its set where it is constrained. M is the
-- greatest number of the universe, N the greatest that a variable may have.
abbrev pub offer : ℕ → ℕ → ℕ → Program → (ℕ → Term) → (ℕ → Option (List ℕ)) → Branch → Goal → List Goal → Offer
offer M N m prog look sets b True rest = Gives (with_goals b rest ∷ [])
offer M N m prog look sets b Fail rest = Gives []
offer M N m prog look sets b (Unify s t) rest = Gives (with_equations b rest (record { left = s; right = t } ∷ []) b.fresh ∷ [])
offer M N m prog look sets b (Post t r) rest = by_post b rest (post look t r b.fresh)
offer M N m prog look sets b (Constrain c t) rest = by_constraint b rest (constrain M look c t b.fresh)
offer M N m prog look sets b (Label o t) rest = by_listing (λ x. values_by N (sets x)) b o (Label o t) rest (read_list (apply look t))
offer M N m prog look sets b (Call t) rest = Gives (by_clauses m prog.clauses b t rest)
offer M N m prog look sets b (Either g h) rest = Gives (with_goals b (listed g ++ rest) ∷ with_goals b (listed h ++ rest) ∷ [])
offer M N m prog look sets b (Builtin k t) rest = by_finding b rest (finding k look sets t)
offer M N m prog look sets b (Cut c) rest = Gives (with_goals b rest ∷ [])
offer M N m prog look sets b (If test holds) rest = Gives (by_test m m b test (listed holds ++ rest) ∷ [])
offer M N m prog look sets b (IfElse test holds other) rest = Gives (by_test (suc m) m b test (listed holds ++ rest) ∷ with_goals b (listed other ++ rest) ∷ [])
offer M N m prog look sets b (Not gs) rest = Gives (by_test (suc m) m b gs (Fail ∷ rest) ∷ with_goals b rest ∷ [])
offer M N m prog look sets b (Best o least t c) rest = by_cost (apply look c) (Seeks b rest o least t c) (read_list (apply look t))

-- How many of m other branches are kept where the goal is taken: all, but at a cut.
abbrev pub kept_by : ℕ → Goal → ℕ
kept_by m (Cut (Some c)) = min c m
kept_by m _ = m

-- the last c of the branches, or all
abbrev pub last_of : ℕ → List Branch → List Branch
last_of c bs = drop (length bs - c) bs

-- what is kept of an offer: the fault, the consistent ones of the branches, or what is found
abbrev pub KeptOffer : ℕ → ℕ → Offer → Offer → Type 0
KeptOffer M N (Faults f) (Faults g) = f ≡ g
KeptOffer M N (Gives bs) (Gives cs) = Kept M N bs cs
KeptOffer M N (Seeks b rest o least t c) (Gives cs) = SoughtLeaf M N b rest o least t c cs
KeptOffer M N _ _ = ⊥

-- What the goal g of the branch b gives, with the other goals rest and m other branches: one fault, or the children. s and D are the branch's view.
pub record Children (M N : ℕ) (prog : Program) (m : ℕ) (b : Branch) (g : Goal) (rest : List Goal) (s : Substitution) (D : Family) (o : Offer) : Type 0 where
  pub view : IsView M N b.equations b.posted s D
  pub kept : KeptOffer M N (offer M N m prog (look_in b s D) (sets_in b s D) b g rest) o
