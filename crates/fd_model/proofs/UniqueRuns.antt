-- There is one list of children, and one run.
use Rattle.std.proofs.Common.{◌≡◌, ℕ, suc, ◌+◌, Bool, codes, decimal, List, [], ◌∷◌, ◌++◌, length, Option, refl, ap, sym, ◌∙◌, subst}
use Rattle.fd_language.specs.Term.{Substitution}
use Rattle.fd_language.specs.Family.{Family}
use Rattle.fd_model.specs.declared.kinds.QueryFault.{QueryFault}
use Rattle.fd_model.specs.Goal.{Goal, Branch, Program, Query, Event, Answer, Limit, Fault}
use Rattle.fd_model.specs.BranchViews.{IsView}
use Rattle.fd_model.specs.Children.{Children, Offer, Faults, Gives, Seeks, KeptOffer, kept_by, last_of, offer, look_in, sets_in}
use Rattle.fd_model.specs.Lines.{answer_line, says, line, events_bytes}
use Rattle.fd_model.specs.Output.{Queries, is_stop, or_stop}
use Rattle.fd_model.specs.Run.{Run, over, last, fewer, any, spent, faulty, taken}
use Rattle.fd_model.proofs.OneView.{kept_once, from_view}
use Rattle.fd_model.proofs.OneLeaf.{sought_once}

offer_once : (M N : ℕ) (o p q : Offer) → KeptOffer M N o p → KeptOffer M N o q → p ≡ q
offer_once M N (Faults f) (Faults g) (Faults h) a b = ap Faults (sym a ∙ b)
offer_once M N (Faults f) (Faults g) (Gives cs) a b = absurd b
offer_once M N (Gives bs) (Gives cs) (Faults g) a b = absurd b
offer_once M N (Gives bs) (Gives cs) (Gives ds) a b = ap Gives (kept_once M N bs cs ds a b)
offer_once M N (Seeks d rest o least t c) (Gives cs) (Gives ds) a b = ap Gives (sought_once M N d rest o least t c cs ds a b)
offer_once M N (Seeks d rest o least t c) (Gives cs) (Faults f) a b = absurd b
offer_once M N (Faults f) (Faults g) (Seeks d rest o least t c) a b = absurd b
offer_once M N (Gives bs) (Gives cs) (Seeks d rest o least t c) a b = absurd b
offer_once M N (Seeks d rest o least t c) (Gives cs) (Seeks e more p most u v) a b = absurd b
offer_once _ _ _ _ q a b = absurd a

module _ (M N : ℕ) (prog : Program) (m : ℕ) (b : Branch) (s u : Substitution) (D E : Family) where
  pub children_once : (g h : Goal) (rest others : List Goal) (o p : Offer) → g ∷ rest ≡ h ∷ others → Children M N prog m b g rest s D o → Children M N prog m b h others u E p → o ≡ p
  children_once g h rest others o p e c d =
      let goals : g ≡ h = cc in
      let more : rest ≡ others = cc in
      let same : offer M N m prog (look_in b s D) (sets_in b s D) b g rest ≡ offer M N m prog (look_in b u E) (sets_in b u E) b h others =
      from_view M N b s u D E (λ x X. offer M N m prog (look_in b x X) (sets_in b x X) b g rest) c.view d.view
      ∙ ap (λ x. offer M N m prog (look_in b u E) (sets_in b u E) b x rest) goals ∙ ap (λ x. offer M N m prog (look_in b u E) (sets_in b u E) b h x) more in
      offer_once M N (offer M N m prog (look_in b u E) (sets_in b u E) b h others) o p (subst (λ x. KeptOffer M N x o) same c.kept) d.kept

  fault_once : (g h : Goal) (rest others : List Goal) (f e : QueryFault) → g ∷ rest ≡ h ∷ others → Children M N prog m b g rest s D (Faults f)
      → Children M N prog m b h others u E (Faults e) → Fault f ∷ [] ≡ Fault e ∷ []
  fault_once g h rest others f e same c d = let one = children_once g h rest others (Faults f) (Faults e) same c d in cc

  no_both : (g h : Goal) (rest others : List Goal) (f : QueryFault) (cs : List Branch) → g ∷ rest ≡ h ∷ others → Children M N prog m b g rest s D (Faults f)
      → Children M N prog m b h others u E (Gives cs) → ⊥
  no_both g h rest others f cs same c d = let one = children_once g h rest others (Faults f) (Gives cs) same c d in cc

  gives_once : (g h : Goal) (rest others : List Goal) (cs ds : List Branch) → g ∷ rest ≡ h ∷ others → Children M N prog m b g rest s D (Gives cs)
      → Children M N prog m b h others u E (Gives ds) → cs ≡ ds
  gives_once g h rest others cs ds same c d = let one = children_once g h rest others (Gives cs) (Gives ds) same c d in cc

  says_once : (g h : Goal) (rest others : List Goal) → g ∷ rest ≡ h ∷ others → IsView M N b.equations b.posted s D → IsView M N b.equations b.posted u E → says s D b g ≡ says u E b h
  says_once g h rest others e v w = let goals : g ≡ h = cc in from_view M N b s u D E (λ x X. says x X b g) v w ∙ ap (says u E b) goals

module _ (M N : ℕ) (prog : Program) (q : Query) where
  pub run_once : {n : ℕ} {k : Option ℕ} {bs : List Branch} {es ds : List Event} {r m : ℕ} → Run M N prog q n k bs es r → Run M N prog q n k bs ds m → (es ≡ ds) × (r ≡ m)
  run_once over over = (refl, refl)
  run_once (last {b = b} s D e v) (last u E f w) = (ap (λ t. Answer t ∷ Limit ∷ []) (from_view M N b s u D E (λ x X. answer_line q x X b) v w), refl)
  run_once (last s D e v) (spent g rest f) = absurd (cc)
  run_once (last s D e v) (faulty g rest u E f c) = absurd (cc)
  run_once (last s D e v) (taken g rest u E cs f c more) = absurd (cc)
  run_once (fewer {b = b} s D e v more) (fewer u E f w later) = let tails = run_once more later in let heads = from_view M N b s u D E (λ x X. answer_line q x X b) v w in (cc, tails.1)
  run_once (fewer s D e v more) (spent g rest f) = absurd (cc)
  run_once (fewer s D e v more) (faulty g rest u E f c) = absurd (cc)
  run_once (fewer s D e v more) (taken g rest u E cs f c later) = absurd (cc)
  run_once (any {b = b} s D e v more) (any u E f w later) = let tails = run_once more later in let heads = from_view M N b s u D E (λ x X. answer_line q x X b) v w in (cc, tails.1)
  run_once (any s D e v more) (spent g rest f) = absurd (cc)
  run_once (any s D e v more) (faulty g rest u E f c) = absurd (cc)
  run_once (any s D e v more) (taken g rest u E cs f c later) = absurd (cc)
  run_once (spent g rest e) (last s D f v) = absurd (cc)
  run_once (spent g rest e) (fewer s D f v more) = absurd (cc)
  run_once (spent g rest e) (any s D f v more) = absurd (cc)
  run_once (spent g rest e) (spent h others f) = (refl, refl)
  run_once (faulty g rest u E e c) (last s D f v) = absurd (cc)
  run_once (faulty g rest u E e c) (fewer s D f v more) = absurd (cc)
  run_once (faulty g rest u E e c) (any s D f v more) = absurd (cc)
  run_once (faulty {b = b} {bs = bs} g rest s D e c) (faulty h others u E f d) = (fault_once M N prog (length bs) b s u D E g h rest others _ _ (sym e ∙ f) c d, refl)
  run_once (faulty {b = b} {bs = bs} g rest s D e c) (taken h others u E cs f d later) = absurd (no_both M N prog (length bs) b s u D E g h rest others _ cs (sym e ∙ f) c d)
  run_once (taken g rest u E cs e c more) (last s D f v) = absurd (cc)
  run_once (taken g rest u E cs e c more) (fewer s D f v later) = absurd (cc)
  run_once (taken g rest u E cs e c more) (any s D f v later) = absurd (cc)
  run_once (taken {b = b} {bs = bs} g rest s D cs e c more) (faulty h others u E f d) = absurd (no_both M N prog (length bs) b u s E D h g others rest _ cs (sym f ∙ e) d c)
  run_once (taken {n = n} {k = k} {b = b} {bs = bs} {es = es} {r = r} g rest s D cs e c more) (taken {es = fs} {r = m} h others u E ds f d later) =
      let heads : g ∷ rest ≡ h ∷ others = sym e ∙ f in
      let one : g ≡ h = cc in
      let spoken : says s D b g ≡ says u E b h = says_once M N prog (length bs) b s u D E g h rest others heads c.view d.view in
      let kids : cs ≡ ds = gives_once M N prog (length bs) b s u D E g h rest others cs ds heads c d in
      let tails : (es ≡ fs) × (r ≡ m) = run_once more
      (subst (λ x. Run M N prog q n k (x ++ last_of (kept_by (length bs) g) bs) fs m) (sym kids)
      (subst (λ i. Run M N prog q n k (ds ++ last_of (kept_by (length bs) i) bs) fs m) (sym one) later)) in
      (ap (λ x. x ++ es) spoken ∙ ap (λ x. says u E b h ++ x) tails.0, ap suc tails.1)

-- what is written for the queries is one
module _ (M N : ℕ) (prog : Program) (budget : ℕ) (answers : Option ℕ) where
  same_output : (n : ℕ) (es ds : List Event) (rest others out more : List ℕ) → es ≡ ds → rest ≡ others
      → out ≡ line (codes "query " ++ decimal n) ++ (events_bytes es ++ rest) → more ≡ line (codes "query " ++ decimal n) ++ (events_bytes ds ++ others)
      → out ≡ more
  same_output n es ds rest others out more e f g h = g ∙ ap (λ x. line (codes "query " ++ decimal n) ++ (events_bytes x ++ rest)) e
      ∙ ap (λ x. line (codes "query " ++ decimal n) ++ (events_bytes ds ++ x)) f ∙ sym h

  same_stop : (es ds : List Event) (later later' stop stop' : Bool) → es ≡ ds → later ≡ later' → stop ≡ or_stop (is_stop es) later → stop' ≡ or_stop (is_stop ds) later' → stop ≡ stop'
  same_stop es ds later later' stop stop' e f g h = g ∙ ap (λ x. or_stop (is_stop x) later) e ∙ ap (or_stop (is_stop ds)) f ∙ sym h

  pub queries_once : (n : ℕ) (qs : List Query) (out other : List ℕ) (stop stop' : Bool) → Queries M N prog budget answers n qs out stop
      → Queries M N prog budget answers n qs other stop' → (out ≡ other) × (stop ≡ stop')
  queries_once n [] out other stop stop' a b = (a.0 ∙ sym b.0, a.1 ∙ sym b.1)
  queries_once n (q ∷ qs) out other stop stop' (es, r, rest, later, run, more, o, t) (ds, m, others, later', run', more', p, u) =
      let runs = run_once M N prog q run run' in
      let tails = queries_once (n + 1) qs rest others later later' more more' in
      (same_output n es ds rest others out other runs.0 tails.0 o p, same_stop es ds later later' stop stop' runs.0 tails.1 t u)
