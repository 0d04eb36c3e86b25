-- The member that a labelling takes of a list, as the list is walked.
use Rattle.std.proofs.Common.{◌≡◌, ℕ, ℤ, ◌<◌, ◌≤◌, Bool, true, false, cond, ltb, List, [], ◌∷◌, ◌++◌, length, Option, Some, None, Ok, Err, refl, ap, sym, ◌∙◌}
use Rattle.std.proofs.Common.{subst, arith}
use Rattle.std.proofs.lemmas.Bool.{true≢false, ltb-true, ltb-false, lt-ltb, le-ltb}
use Rattle.fd_language.specs.Family.{universe}
use Rattle.fd_model.specs.declared.kinds.Order.{Order}
use Rattle.fd_model.specs.declared.kinds.Order.TheVariants.{Leftmost, FirstFail}
use Rattle.fd_model.specs.declared.kinds.QueryFault.{QueryFault}
use Rattle.fd_model.specs.Labelling.{first_open, fewest, unless_fewer, pick}
use Rattle.fd_model.specs.Members as seen
use Rattle.heap_cells.specs.declared.Cell.{Cell}
use Rattle.heap_cells.specs.Cells.{Cells, IsOf}
use Rattle.heap_cells.specs.Terms.{Naming}
use Rattle.label_search.specs.declared.Member.{Member}
use Rattle.label_search.specs.declared.Member.TheVariants as member
use Rattle.label_search.specs.Picks.{IsThere}
use Rattle.range_code.specs.Frames.{family_of}
use Rattle.branch_goals.specs.declared.lists.ListNode.TheVariants.{Pair, Empty, Broken}
use Rattle.branch_goals.specs.declared.variable_selection.Taken.{Taken}
use Rattle.branch_goals.specs.Lists.{IsListNaming, IsNode, IsSeenMember, IsMemberAt, IsMemberOf}
use Rattle.branch_goals.specs.VariableSelection.{betters, open_count, HaveCounts, IsTaken, Takes, IsFound}
use Rattle.branch_goals.proofs.ListNodes.{IsWalked, more_front, start_front, walk_bad, walk_broken, walk_end, walk_more, walk_start}

-- ---- one member more behind those of which one is picked

first_known : (ss : List seen.Member) (z : ℤ) → first_open (ss ++ seen.Known z ∷ []) ≡ first_open ss
first_known [] z = refl
first_known (seen.Known y ∷ ss) z = first_known ss z
first_known (seen.Open x ∷ ss) z = refl

first_kept : (ss : List seen.Member) (s : seen.Member) (x : ℕ) → first_open ss ≡ Some x → first_open (ss ++ s ∷ []) ≡ Some x
first_kept [] s x e = absurd (cc)
first_kept (seen.Known y ∷ ss) s x e = first_kept ss s x e
first_kept (seen.Open y ∷ ss) s x e = e

first_new : (ss : List seen.Member) (x : ℕ) → first_open ss ≡ None → first_open (ss ++ seen.Open x ∷ []) ≡ Some x
first_new [] x e = refl
first_new (seen.Known y ∷ ss) x e = first_new ss x e
first_new (seen.Open y ∷ ss) x e = absurd (cc)

module _ (values : ℕ → List ℕ) where
  fewest_known : (ss : List seen.Member) (z : ℤ) → fewest values (ss ++ seen.Known z ∷ []) ≡ fewest values ss
  fewest_known [] z = refl
  fewest_known (seen.Known y ∷ ss) z = fewest_known ss z
  fewest_known (seen.Open x ∷ ss) z = ap (λ p. Some (unless_fewer values x p)) (fewest_known ss z)

  fewest_new : (ss : List seen.Member) (x : ℕ) → fewest values ss ≡ None → fewest values (ss ++ seen.Open x ∷ []) ≡ Some x
  fewest_new [] x e = refl
  fewest_new (seen.Known y ∷ ss) x e = fewest_new ss x e
  fewest_new (seen.Open y ∷ ss) x e = absurd (cc)

  -- of two the later one, where it has fewer values, and else the earlier one
  later_taken : (y x : ℕ) → length (values x) < length (values y) → unless_fewer values y (Some x) ≡ x
  later_taken y x l = ap (λ b. cond b x y) (lt-ltb (length (values x)) (length (values y)) l)

  earlier_taken : (y x : ℕ) → length (values y) ≤ length (values x) → unless_fewer values y (Some x) ≡ y
  earlier_taken y x l = ap (λ b. cond b x y) (le-ltb (length (values x)) (length (values y)) l)

  three : (z w x : ℕ) → unless_fewer values z (Some (unless_fewer values w (Some x))) ≡ unless_fewer values (unless_fewer values z (Some w)) (Some x)
  three z w x = go (ltb (length (values w)) (length (values z))) (ltb (length (values x)) (length (values w))) refl refl
    where
      go : (a b : Bool) → ltb (length (values w)) (length (values z)) ≡ a → ltb (length (values x)) (length (values w)) ≡ b
          → unless_fewer values z (Some (unless_fewer values w (Some x))) ≡ unless_fewer values (unless_fewer values z (Some w)) (Some x)
      go true true a b =
          let l = ltb-true (length (values w)) (length (values z)) a in
          let m = ltb-true (length (values x)) (length (values w)) b in
          ap (λ v. unless_fewer values z (Some v)) (later_taken w x m)
          ∙ later_taken z x (omega (arith, l, m))
          ∙ sym (ap (λ v. unless_fewer values v (Some x)) (later_taken z w l) ∙ later_taken w x m)
      go true false a b =
          let l = ltb-true (length (values w)) (length (values z)) a in
          let m = ltb-false (length (values x)) (length (values w)) b in
          ap (λ v. unless_fewer values z (Some v)) (earlier_taken w x m)
          ∙ later_taken z w l
          ∙ sym (ap (λ v. unless_fewer values v (Some x)) (later_taken z w l) ∙ earlier_taken w x m)
      go false true a b =
          let l = ltb-false (length (values w)) (length (values z)) a in
          let m = ltb-true (length (values x)) (length (values w)) b in
          ap (λ v. unless_fewer values z (Some v)) (later_taken w x m)
          ∙ sym (ap (λ v. unless_fewer values v (Some x)) (earlier_taken z w l))
      go false false a b =
          let l = ltb-false (length (values w)) (length (values z)) a in
          let m = ltb-false (length (values x)) (length (values w)) b in
          ap (λ v. unless_fewer values z (Some v)) (earlier_taken w x m)
          ∙ earlier_taken z w l
          ∙ sym (ap (λ v. unless_fewer values v (Some x)) (earlier_taken z w l) ∙ earlier_taken z x (omega (arith, l, m)))

  fewest_more : (ss : List seen.Member) (x y : ℕ) → fewest values ss ≡ Some y → fewest values (ss ++ seen.Open x ∷ []) ≡ Some (unless_fewer values y (Some x))
  fewest_more [] x y e = absurd (cc)
  fewest_more (seen.Known z ∷ ss) x y e = fewest_more ss x y e
  fewest_more (seen.Open z ∷ ss) x y e = go (λ w q. fewest_more ss x w q) (fewest values ss) refl e
    where
      go : ((w : ℕ) → fewest values ss ≡ Some w → fewest values (ss ++ seen.Open x ∷ []) ≡ Some (unless_fewer values w (Some x))) → (p : Option ℕ)
          → fewest values ss ≡ p → Some (unless_fewer values z p) ≡ Some y
          → Some (unless_fewer values z (fewest values (ss ++ seen.Open x ∷ []))) ≡ Some (unless_fewer values y (Some x))
      go more None q f =
          let g : z ≡ y = cc in
          ap (λ v. Some (unless_fewer values z v)) (fewest_new ss x q) ∙ ap (λ v. Some (unless_fewer values v (Some x))) g
      go more (Some w) q f =
          let g : unless_fewer values z (Some w) ≡ y = cc in
          ap (λ v. Some (unless_fewer values z v)) (more w q) ∙ ap Some (three z w x) ∙ ap (λ v. Some (unless_fewer values v (Some x))) g

  known_more : (o : Order) (ss : List seen.Member) (z : ℤ) → pick o values (ss ++ seen.Known z ∷ []) ≡ pick o values ss
  known_more Leftmost ss z = first_known ss z
  known_more FirstFail ss z = fewest_known ss z

  new_more : (o : Order) (ss : List seen.Member) (x : ℕ) → pick o values ss ≡ None → pick o values (ss ++ seen.Open x ∷ []) ≡ Some x
  new_more Leftmost ss x e = first_new ss x e
  new_more FirstFail ss x e = fewest_new ss x e

-- ---- members as they are seen

module _ (N : ℕ) (h : Cells) (sets : List (List ℕ)) where
  open_known : (m : Member) (s : seen.Member) → IsSeenMember h sets m s → open_count N sets m ≡ None → (z : ℤ) × (s ≡ seen.Known z)
  open_known (member.Fixed z) s i e = (z, i)
  open_known (member.Var k) s i e = absurd (cc)
  open_known member.Free s i e = absurd (cc)

  open_seen : (m : Member) (s : seen.Member) (n : ℕ) → IsSeenMember h sets m s → open_count N sets m ≡ Some n
      → (x : ℕ) × (s ≡ seen.Open x) × ((values : ℕ → List ℕ) → HaveCounts N h sets values → length (values x) ≡ n)
  open_seen (member.Fixed z) s n i e = absurd (cc)
  open_seen (member.Var k) s n i e =
      let f : length (family_of sets k) ≡ n = cc in
      (i.0, i.1, λ values c. c.linked i.0 k i.2 i.4 ∙ f)
  open_seen member.Free s n i e =
      let f : length (universe N) ≡ n = cc in
      (i.0, i.1, λ values c. c.free i.0 i.2 ∙ f)

-- what is no number is none
pub none_of : (o : Option ℕ) → ((n : ℕ) → o ≡ Some n → ⊥) → o ≡ None
none_of None f = refl
none_of (Some n) f = absurd (f n refl)

-- ---- what is taken

module _ (N : ℕ) (name : Naming) (h : Cells) (sets : List (List ℕ)) (ss : List seen.Member) (c : Cell) (m : Member) (s : seen.Member) (own : IsOf h c) (at : IsMemberAt name h sets c m s) where
  -- nothing else is taken where the member is an integer
  pub known_taken : (o : Order) (before : Option Taken) → open_count N sets m ≡ None → Takes N name h sets o ss before → Takes N name h sets o (ss ++ s ∷ []) before
  known_taken o before e t values counts =
      let k = open_known N h sets m s at.1 e in
      let more : pick o values (ss ++ s ∷ []) ≡ pick o values ss = ap (λ v. pick o values (ss ++ v ∷ [])) k.1 ∙ known_more values o ss k.0 in
      go before more (t values counts)
    where
      go : (before : Option Taken) → pick o values (ss ++ s ∷ []) ≡ pick o values ss → IsTaken name h sets values o ss before → IsTaken name h sets values o (ss ++ s ∷ []) before
      go None more t = more ∙ t
      go (Some b) more t = record { variable = t.variable; picked = more ∙ t.picked; own = t.own; member = t.member; at = t.at; count = t.count }

  -- nor where one is taken by `Leftmost`
  pub left_taken : (b : Taken) → Takes N name h sets Leftmost ss (Some b) → Takes N name h sets Leftmost (ss ++ s ∷ []) (Some b)
  left_taken b t values counts =
      let u = t values counts in
      record { variable = u.variable; picked = first_kept ss s u.variable u.picked; own = u.own; member = u.member; at = u.at; count = u.count }

  module _ (n : ℕ) (e : open_count N sets m ≡ Some n) where
    -- the first open member is taken
    pub new_taken : (o : Order) → Takes N name h sets o ss None → Takes N name h sets o (ss ++ s ∷ []) (Some (record { cell = c; count = n }))
    new_taken o t values counts =
        let k = open_seen N h sets m s n at.1 e in
        record {
          variable = k.0;
          picked = ap (λ v. pick o values (ss ++ v ∷ [])) k.1 ∙ new_more values o ss k.0 (t values counts);
          own = own;
          member = m;
          at = subst (IsMemberAt name h sets c m) k.1 at;
          count = k.2 values counts;
        }

    -- by `FirstFail` a later one is, where it has fewer values
    pub fewer_taken : (b : Taken) → n < b.count → Takes N name h sets FirstFail ss (Some b) → Takes N name h sets FirstFail (ss ++ s ∷ []) (Some (record { cell = c; count = n }))
    fewer_taken b l t values counts =
        let k = open_seen N h sets m s n at.1 e in
        let u = t values counts in
        let x = k.2 values counts in
        let y = u.count in
        record {
          variable = k.0;
          picked = ap (λ v. fewest values (ss ++ v ∷ [])) k.1 ∙ fewest_more values ss k.0 u.variable u.picked ∙ ap Some (later_taken values u.variable k.0 (omega (arith, l, x, y)));
          own = own;
          member = m;
          at = subst (IsMemberAt name h sets c m) k.1 at;
          count = x;
        }

    -- and else the earlier one stays
    pub earlier_stays : (b : Taken) → b.count ≤ n → Takes N name h sets FirstFail ss (Some b) → Takes N name h sets FirstFail (ss ++ s ∷ []) (Some b)
    earlier_stays b l t values counts =
        let k = open_seen N h sets m s n at.1 e in
        let u = t values counts in
        let x = k.2 values counts in
        let y = u.count in
        record {
          variable = u.variable;
          picked = ap (λ v. fewest values (ss ++ v ∷ [])) k.1 ∙ fewest_more values ss k.0 u.variable u.picked ∙ ap Some (earlier_taken values u.variable k.0 (omega (arith, l, x, y)));
          own = u.own;
          member = u.member;
          at = u.at;
          count = y;
        }

    -- by how many values it has
    pub better_taken : (o : Order) (before : Option Taken) → betters o before n ≡ true → Takes N name h sets o ss before → Takes N name h sets o (ss ++ s ∷ []) (Some (record { cell = c; count = n }))
    better_taken o None b t = new_taken o t
    better_taken Leftmost (Some x) b t = absurd (true≢false (sym b))
    better_taken FirstFail (Some x) b t = fewer_taken x (ltb-true n x.count b) t

    pub before_taken : (o : Order) (before : Option Taken) → betters o before n ≡ false → Takes N name h sets o ss before → Takes N name h sets o (ss ++ s ∷ []) before
    before_taken o None b t = absurd (true≢false b)
    before_taken Leftmost (Some x) b t = left_taken x t
    before_taken FirstFail (Some x) b t = earlier_stays x (ltb-false n x.count b) t

  -- by `Leftmost` the one before stays
  pub leftmost_taken : (o : Order) (before : Option Taken) (b : Taken) → o ≡ Leftmost → before ≡ Some b → Takes N name h sets o ss before → Takes N name h sets o (ss ++ s ∷ []) before
  leftmost_taken o before b e f t =
      subst (λ q. Takes N name h sets q (ss ++ s ∷ []) before) (sym e)
      (subst (λ d. Takes N name h sets Leftmost (ss ++ s ∷ []) d) (sym f)
      (left_taken b (subst (λ d. Takes N name h sets Leftmost ss d) f (subst (λ q. Takes N name h sets q ss before) e t))))

-- a variable of the store is there
pub one_there : (h : Cells) (sets : List (List ℕ)) (m : Member) (s : seen.Member) → IsSeenMember h sets m s → IsThere (length sets) m
one_there h sets (member.Fixed z) s i = tt
one_there h sets (member.Var k) s i = i.3
one_there h sets member.Free s i = tt

-- ---- the walk

-- Of the list in a cell the front was walked, and this is taken of it.
pub record IsTakenTo (N : ℕ) (name : Naming) (h : Cells) (sets : List (List ℕ)) (o : Order) (list at : Cell) (taken : Option Taken) : Type 0 where
  pub cells : List Cell
  pub members : List Member
  pub walked : IsWalked name h sets list cells members at
  pub takes : Takes N name h sets o walked.front taken

module _ (N : ℕ) (name : Naming) (h : Cells) (sets : List (List ℕ)) (o : Order) (list : Cell) where
  none_picked : (o : Order) (values : ℕ → List ℕ) → pick o values [] ≡ None
  none_picked Leftmost values = refl
  none_picked FirstFail values = refl

  pub taking_start : IsOf h list → IsTakenTo N name h sets o list list None
  taking_start own = record {
    cells = [];
    members = [];
    walked = walk_start name h sets list own;
    takes = subst (λ (ss : List seen.Member). Takes N name h sets o ss None) (sym (start_front name h sets list own))
        (λ values counts. none_picked o values);
  }

  module _ (names : IsListNaming name) (at : Cell) (taken : Option Taken) (w : IsTakenTo N name h sets o list at taken) where
    pub taking_more : (a b : Cell) (m : Member) (next : Option Taken) → IsNode name h sets at (Pair a b) → IsMemberOf name h sets a (Ok m)
        → ((ss : List seen.Member) (s : seen.Member) → IsOf h a → IsMemberAt name h sets a m s → Takes N name h sets o ss taken → Takes N name h sets o (ss ++ s ∷ []) next)
        → IsTakenTo N name h sets o list b next
    taking_more a b m next n i take = record {
      cells = w.cells ++ a ∷ [];
      members = w.members ++ m ∷ [];
      walked = walk_more name h sets list w.cells w.members at a b m names w.walked n i;
      takes = subst (λ (ss : List seen.Member). Takes N name h sets o ss next) (sym (more_front name h sets list w.cells w.members at a b m names w.walked n i))
          (take w.walked.front i.0 n.0 i.1 w.takes);
    }

    pub taking_end : IsNode name h sets at Empty → IsFound N name h sets o list (Ok taken)
    taking_end n = (w.walked.front, walk_end name h sets list w.cells w.members at names w.walked n, w.takes)

    pub taking_broken : (f : QueryFault) → IsNode name h sets at (Broken f) → IsFound N name h sets o list (Err f)
    taking_broken f n = walk_broken name h sets list w.cells w.members at f w.walked n

    pub taking_bad : (a b : Cell) (f : QueryFault) → IsNode name h sets at (Pair a b) → IsMemberOf name h sets a (Err f) → IsFound N name h sets o list (Err f)
    taking_bad a b f n i = walk_bad name h sets list w.cells w.members at a b f names w.walked n i
