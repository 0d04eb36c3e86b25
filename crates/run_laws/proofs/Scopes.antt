-- The variables of a branch's goals and equations are below its next fresh number, and so are those of what its goals give.
use Rattle.std.proofs.Common.{◌≡◌, ℕ, suc, ◌+◌, ◌<◌, ◌≤◌, Bool, true, false, cond, ◌||◌, ℤ, List, [], ◌∷◌, ◌++◌, map, Option, Some, None, Result}
use Rattle.std.proofs.Common.{Ok, Err, refl, sym, subst, arith}
use Rattle.std.proofs.Common.{◌==◌}
use Rattle.fd_language.specs.Term.{Term, term, Substitution, apply}
use Rattle.fd_language.specs.Unifier.{Equation}
use Rattle.fd_language.specs.Family.{has}
use Rattle.fd_language.specs.Lists.{Each}
use Rattle.fd_language.specs.Range.{Indexical}
use Rattle.fd_language.specs.Variables.{TermBelow, variables_of}
use Rattle.fd_language.proofs.Lemmas.{each_both}
use Rattle.fd_model.specs.declared.kinds.Order.{Order}
use Rattle.fd_model.specs.declared.kinds.QueryFault.{QueryFault}
use Rattle.fd_model.specs.declared.kinds.ConstraintKind.{ConstraintKind}
use Rattle.fd_model.specs.Builtins.{Finding, faulted, decided, equated, finding, first_argument, second_argument}
use Rattle.fd_model.specs.Goal.{Goal, Goals, listed, True, Fail, Unify, Post, Constrain, Label, Call, Either, Builtin, Cut, If, IfElse, Not, Best, marked_all}
use Rattle.fd_model.specs.Goal.{Clause, Program, Branch}
use Rattle.fd_model.specs.Renaming.{rename_term, rename_goal}
use Rattle.fd_model.specs.RunnablePrograms.{GoalBelow, GoalsBelow, EachBelow, ClausesScoped}
use Rattle.fd_model.specs.ConstraintLaws.{AllFresh}
use Rattle.fd_model.specs.ConstraintExpansion.{constrain, arguments, equations, expand}
use Rattle.fd_model.specs.LinearRows.{Expansion}
use Rattle.fd_model.specs.Posting.{Found, offends, posts, post}
use Rattle.fd_model.specs.Children.{Offer, Faults, Gives, Seeks, offer, with_goals, with_equations, is_number, by_value, by_clause}
use Rattle.fd_model.specs.Children.{by_clauses, by_post}
use Rattle.fd_model.specs.Children.{by_constraint, by_finding, by_test, by_cost, unless_fault, cost_fault, fits_head}
use Rattle.fd_model.specs.Labelling.{read_list, values_by}
use Rattle.fd_model.specs.Members.{Member}
use Rattle.fd_model.proofs.Lemmas.{each_marked, term_renamed, body_renamed, each_wider, each_both_below, listed_below, scoped_rows}
use Rattle.fd_model.proofs.Lemmas.{IsFindingBelow, found_below}
use Rattle.fd_model.proofs.Lemmas.{first_below, second_below}
use Rattle.branch_meaning.specs.Labelling.{Labelled, faults, done, labels, labelled, by_labelled}
use Rattle.branch_meaning.proofs.Lemmas.{row_by, label_in, of_below, variables_on}
use Rattle.fd_model.proofs.Lemmas.{EquationsBelow, equations_wider, wider}
use Rattle.fd_model.proofs.Lemmas.{IsPostBelow, arguments_below, below_under, post_below}

pub record IsScoped (b : Branch) : Type 0 where
  pub goals : EachBelow b.fresh b.goals
  pub equations : EquationsBelow b.fresh b.equations

abbrev pub AllScoped : List Branch → Type 0
AllScoped bs = Each IsScoped bs

pub variable_below : (n : ℕ) (t : Term) → TermBelow n t → (y : ℕ) → has (variables_of t) y ≡ true → y < n
variable_below n t b y h = variables_on (λ x. x < n) t (of_below n t b) y h

-- ---- the children of a goal

fresh_below : (n m : ℕ) (ps : List Indexical) (es : List (ℕ × ℤ)) → AllFresh n m ps es → EquationsBelow m (equations es)
fresh_below n m ps [] f = tt
fresh_below n m ps (e ∷ es) f = ((f.0.1, tt), fresh_below n m ps es f.1)

module _ (M N m : ℕ) (prog : Program) (scoped : ClausesScoped prog.clauses) (b : Branch) (rest : List Goal) (others : EachBelow b.fresh rest) (own : EquationsBelow b.fresh b.equations)
    (look : Substitution) (seen : (x : ℕ) → x < b.fresh → TermBelow b.fresh (look x)) where
  -- An offer of scoped branches. A search for the best leaf is of a term below the fresh number, and goes on with the other goals.
  abbrev pub OffersScoped : Offer → Type 0
  OffersScoped (Faults f) = Unit {0}
  OffersScoped (Gives cs) = AllScoped cs
  OffersScoped (Seeks d gs o least t c) = (gs ≡ rest) × TermBelow b.fresh t

  same_goals : (gs : List Goal) → EachBelow b.fresh gs → IsScoped (with_goals b gs)
  same_goals gs h = record { goals = h; equations = own }

  more_equations : (gs : List Goal) (es : List Equation) (n : ℕ) → b.fresh ≤ n → EachBelow n gs → EquationsBelow n es → IsScoped (with_equations b gs es n)
  more_equations gs es n l h k = record {
    goals = h;
    equations = each_both (λ d. TermBelow n d.left × TermBelow n d.right) es b.equations k (equations_wider b.fresh n l b.equations own);
  }

  clause_scoped : (t : Term) (c : Clause) → TermBelow b.fresh t → TermBelow c.variables c.head → EachBelow c.variables c.body → IsScoped (by_clause m b t rest c)
  clause_scoped t c h i k =
      let shift : (x : ℕ) → x < c.variables → b.fresh + x < b.fresh + c.variables = λ x l. omega arith in
      more_equations _ _ (b.fresh + c.variables) (omega arith)
      (each_both_below (b.fresh + c.variables) (marked_all m (map (rename_goal (λ x. b.fresh + x)) c.body)) rest
      (each_marked (b.fresh + c.variables) m (map (rename_goal (λ x. b.fresh + x)) c.body)
      (body_renamed c.variables (b.fresh + c.variables) (λ x. b.fresh + x) shift c.body k))
      (each_wider b.fresh (b.fresh + c.variables) (omega arith) rest others))
      (arguments_below (b.fresh + c.variables) t (rename_term (λ x. b.fresh + x) c.head) (wider b.fresh (b.fresh + c.variables) (omega arith) t h)
      (term_renamed c.variables (b.fresh + c.variables) (λ x. b.fresh + x) shift c.head i))

  by_head : (fits : Bool) (c : Branch) (cs : List Branch) → IsScoped c → AllScoped cs → AllScoped (cond fits (c ∷ cs) cs)
  by_head true c cs h k = (h, k)
  by_head false c cs h k = k

  clauses_scoped : (t : Term) (cs : List Clause) → TermBelow b.fresh t → ClausesScoped cs → AllScoped (by_clauses m cs b t rest)
  clauses_scoped t [] h k = tt
  clauses_scoped t (c ∷ cs) h k = by_head (fits_head t c.head) (by_clause m b t rest c) (by_clauses m cs b t rest) (clause_scoped t c h k.0.0 k.0.1) (clauses_scoped t cs h k.1)

  posting_scoped : (f : Found) → ((p : Indexical) (n : ℕ) (es : List Equation) → f ≡ posts p n es → IsPostBelow look b.fresh n p es) → OffersScoped (by_post b rest f)
  posting_scoped (offends f) h = tt
  posting_scoped (posts p n es) h =
      let k = h p n es refl in (
        record {
          goals = each_wider b.fresh n k.fresh rest others;
          equations = each_both (λ d. TermBelow n d.left × TermBelow n d.right) es b.equations k.equations (equations_wider b.fresh n k.fresh b.equations own);
        },
        tt,
      )

  row_scoped : (kind : ConstraintKind) (t : Term) (r : Result Expansion QueryFault) → expand M kind (arguments t) b.fresh ≡ r → OffersScoped (by_constraint b rest r)
  row_scoped kind t (Err f) e = tt
  row_scoped kind t (Ok x) e =
      let k = scoped_rows M kind (arguments t) b.fresh x e in (
        record {
          goals = each_wider b.fresh x.fresh k.grows rest others;
          equations = each_both (λ d. TermBelow x.fresh d.left × TermBelow x.fresh d.right) (equations x.equated) b.equations
              (fresh_below b.fresh x.fresh x.ranges x.equated k.equated) (equations_wider b.fresh x.fresh k.grows b.equations own);
        },
        tt,
      )

  finding_scoped : (f : Finding) → IsFindingBelow b.fresh f → OffersScoped (by_finding b rest f)
  finding_scoped (faulted f) h = tt
  finding_scoped (decided true) h = (same_goals rest others, tt)
  finding_scoped (decided false) h = tt
  finding_scoped (equated l r) h = (more_equations rest (record { left = l; right = r } ∷ []) b.fresh (omega arith) others (h, tt), tt)

  tested : (k : ℕ) (test : Goals) (gs : List Goal) → GoalsBelow b.fresh test → EachBelow b.fresh gs → IsScoped (by_test k m b test gs)
  tested k test gs h i = same_goals (marked_all k (listed test) ++ Cut (Some m) ∷ gs)
      (each_both_below b.fresh (marked_all k (listed test)) (Cut (Some m) ∷ gs) (each_marked b.fresh k (listed test) (listed_below b.fresh test h)) (tt, i))

  pub values_scoped : (g : Goal) → GoalBelow b.fresh g → (x : ℕ) → x < b.fresh → (ns : List ℕ) → AllScoped (map (by_value b (g ∷ rest) x) ns)
  values_scoped g h x l [] = tt
  values_scoped g h x l (n ∷ ns) = (more_equations (g ∷ rest) (is_number x n ∷ []) b.fresh (omega arith) (h, others) ((l, tt), tt), values_scoped g h x l ns)

  labelled_scoped : (g : Goal) → GoalBelow b.fresh g → (l : Labelled) → ((x : ℕ) (ns : List ℕ) → l ≡ labels x ns → x < b.fresh) → OffersScoped (by_labelled b g rest l)
  labelled_scoped g h (faults f) i = tt
  labelled_scoped g h done i = (same_goals rest others, tt)
  labelled_scoped g h (labels x ns) i = values_scoped g h x (i x ns refl) ns

  cost_scoped : (o : Order) (least : Bool) (t c u : Term) → TermBelow b.fresh t → (l : Result (List Member) QueryFault) → OffersScoped (by_cost u (Seeks b rest o least t c) l)
  cost_scoped o least t c u k (Err f) = tt
  cost_scoped o least t c u k (Ok ms) = unless (cost_fault ms u)
    where
      unless : (f : Option QueryFault) → OffersScoped (unless_fault f (Seeks b rest o least t c))
      unless (Some f) = tt
      unless None = (refl, k)

  pub offer_scoped : (sets : ℕ → Option (List ℕ)) (g : Goal) → GoalBelow b.fresh g → OffersScoped (offer M N m prog look sets b g rest)
  offer_scoped sets True i = (same_goals rest others, tt)
  offer_scoped sets Fail i = tt
  offer_scoped sets (Unify s t) i = (more_equations rest (record { left = s; right = t } ∷ []) b.fresh (omega arith) others (i, tt), tt)
  offer_scoped sets (Post t r) i = posting_scoped (post look t r b.fresh) (λ p n es e. post_below look t r b.fresh n p es i.0 i.1 e)
  offer_scoped sets (Constrain c t) i = row_scoped c (apply look t) (constrain M look c t b.fresh) refl
  offer_scoped sets (Label o t) i =
      let values : ℕ → List ℕ = λ x. values_by N (sets x) in
      subst OffersScoped (sym (row_by M b o (Label o t) rest values (read_list (apply look t))))
      (labelled_scoped (Label o t) i (labelled o values (apply look t))
      (λ x ns e. variable_below b.fresh (apply look t) (below_under b.fresh b.fresh look seen t i) x (label_in o values (apply look t) x ns e)))
  offer_scoped sets (Call t) i = clauses_scoped t prog.clauses i scoped
  offer_scoped sets (Either x y) i = (
    same_goals (listed x ++ rest) (each_both_below b.fresh (listed x) rest (listed_below b.fresh x i.0) others),
    (same_goals (listed y ++ rest) (each_both_below b.fresh (listed y) rest (listed_below b.fresh y i.1) others), tt),
  )
  offer_scoped sets (Builtin k t) i =
      finding_scoped (finding k look sets t)
      (found_below b.fresh k sets (first_argument t) (second_argument t) (apply look (first_argument t)) (apply look (second_argument t)) (first_below b.fresh t i) (second_below b.fresh t i))
  offer_scoped sets (Cut c) i = (same_goals rest others, tt)
  offer_scoped sets (If test holds) i = (tested m test (listed holds ++ rest) i.0 (each_both_below b.fresh (listed holds) rest (listed_below b.fresh holds i.1) others), tt)
  offer_scoped sets (IfElse test holds other) i = (
    tested (suc m) test (listed holds ++ rest) i.0 (each_both_below b.fresh (listed holds) rest (listed_below b.fresh holds i.1) others),
    (same_goals (listed other ++ rest) (each_both_below b.fresh (listed other) rest (listed_below b.fresh other i.2) others), tt),
  )
  offer_scoped sets (Not gs) i = (tested (suc m) gs (Fail ∷ rest) i (tt, others), (same_goals rest others, tt))
  offer_scoped sets (Best o least t c) i = cost_scoped o least t c (apply look c) i.0 (read_list (apply look t))
