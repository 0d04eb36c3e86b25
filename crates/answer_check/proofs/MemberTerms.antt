-- Lists of variables and integers: their members, what these are worth, and what the definitions read.
use Rattle.std.proofs.Common.{◌≡◌, ℕ, ◌≤◌, length, arith, Bool, true, false, cond, ◌&&◌, List, [], ◌∷◌, ◌++◌, map, Option, Some, None, Result, Ok, Err, Vec}
use Rattle.std.proofs.Common.{Global, refl, sym, ap, ◌∙◌, subst, append_assoc, append-nil}
use Rattle.std.specs.Prelude.{codes, is_some, option_map}
use Rattle.std.specs.Bool.{then_some}
use Rattle.std.specs.List.{list_all}
use Rattle.std.specs.Str.{bytes_eq}
use Rattle.std.proofs.lemmas.Option.{same_Some}
use Rattle.fd_language.specs.Term.{Term, Var, Int, Atom, Comp, no_terms, term}
use Rattle.fd_model.specs.declared.kinds.QueryFault.{QueryFault}
use Rattle.fd_model.specs.declared.kinds.QueryFault.TheVariants.{BadType}
use Rattle.fd_model.specs.Builtins.{is_integer}
use Rattle.fd_model.specs.FlatConstraints.{is_place, is_list_of}
use Rattle.fd_model.specs.Labelling.{read_list, open_ones}
use Rattle.fd_model.specs.Linear.{of_both}
use Rattle.fd_model.specs.Members as model
use Rattle.fd_model.specs.Members.{as_member, prepend}
use Rattle.fd_model.specs.Satisfaction.{Assignment, worth, worths}
use Rattle.term_pool.specs.declared.TermId.{TermId}
use Rattle.term_pool.specs.Terms.{terms_by}
use Rattle.answer_check.specs.declared.members.Member.{Member}
use Rattle.answer_check.specs.declared.members.Member.TheVariants.{Open, Known}
use Rattle.answer_check.specs.Members.{model_of, is_known, worth_of, worths_of, member_in, is_nil, cell_in, onto, members_in, known_in, open_in}

-- members in front of others
abbrev pub behind_members : List Member → Option (List Member) → Option (List Member)
behind_members ms None = None
behind_members ms (Some ns) = Some (ms ++ ns)

pub none_before : (o : Option (List Member)) → behind_members [] o ≡ o
none_before None = refl
none_before (Some ms) = refl

pub more_before : (ms : List Member) (m : Member) (o : Option (List Member)) → behind_members ms (onto (Some m) o) ≡ behind_members (ms ++ m ∷ []) o
more_before ms m None = refl
more_before ms m (Some ns) = ap Some (sym (append_assoc ms (m ∷ []) ns))

pair_same : (v w : Term × Term) → Some v ≡ Some w → (v.0 ≡ w.0) × (v.1 ≡ w.1)
pair_same v w e = let p = same_Some v w e in (ap (λ (q : Term × Term). q.0) p, ap (λ (q : Term × Term). q.1) p)

-- a cell's members
pub cell_members : (t h u : Term) → cell_in t ≡ Some (h, u) → members_in t ≡ onto (member_in h) (members_in u)
cell_members (Var x) h u e = absurd (cc (e))
cell_members (Int z) h u e = absurd (cc (e))
cell_members (Atom a) h u e = absurd (cc (e))
cell_members (Comp f no_terms) h u e = absurd (cc (e))
cell_members (Comp f (term s no_terms)) h u e = absurd (cc (e))
cell_members (Comp f (term s (term t no_terms))) h u e = by (bytes_eq f (codes ".")) e where
  by : (b : Bool) → cond {A = Option (Term × Term)} b (Some (s, t)) None ≡ Some (h, u) → cond b (onto (member_in s) (members_in t)) None ≡ onto (member_in h) (members_in u)
  by true e = let q = pair_same (s, t) (h, u) e in ap (λ p. onto (member_in p) (members_in t)) q.0 ∙ ap (λ p. onto (member_in h) (members_in p)) q.1
  by false e = absurd (cc (e))
cell_members (Comp f (term s (term t (term v vs)))) h u e = absurd (cc (e))

-- no cell: the empty list has no members, and anything else is none
pub last_members : (t : Term) → cell_in t ≡ None → members_in t ≡ cond (is_nil t) (Some []) None
last_members (Var x) e = refl
last_members (Int z) e = refl
last_members (Atom a) e = refl
last_members (Comp f no_terms) e = refl
last_members (Comp f (term s no_terms)) e = refl
last_members (Comp f (term s (term t no_terms))) e = by (bytes_eq f (codes ".")) e where
  by : (b : Bool) → cond {A = Option (Term × Term)} b (Some (s, t)) None ≡ None → cond b (onto (member_in s) (members_in t)) None ≡ None
  by true e = absurd (cc (e))
  by false e = refl
last_members (Comp f (term s (term t (term v vs)))) e = refl

-- ---- one member

pub place_member : (t : Term) → is_place t ≡ is_some (member_in t)
place_member (Var x) = refl
place_member (Int z) = refl
place_member (Atom a) = refl
place_member (Comp f ts) = refl

pub member_worth : (a : Assignment) (t : Term) (m : Member) → member_in t ≡ Some m → worth a t ≡ worth_of a m
member_worth a (Var x) m e = let f : Open x ≡ m = cc in ap (worth_of a) f
member_worth a (Int z) m e = let f : Known z ≡ m = cc in ap (worth_of a) f
member_worth a (Atom b) m e = absurd (cc (e))
member_worth a (Comp f ts) m e = absurd (cc (e))

member_read : (t : Term) (m : Member) → member_in t ≡ Some m → as_member t ≡ Ok (model_of m)
member_read (Var x) m e = let f : Open x ≡ m = cc in ap (λ k. Ok (model_of k)) f
member_read (Int z) m e = let f : Known z ≡ m = cc in ap (λ k. Ok (model_of k)) f
member_read (Atom b) m e = absurd (cc (e))
member_read (Comp f ts) m e = absurd (cc (e))

member_unread : (t : Term) → member_in t ≡ None → as_member t ≡ Err BadType
member_unread (Var x) e = absurd (cc (e))
member_unread (Int z) e = absurd (cc (e))
member_unread (Atom b) e = refl
member_unread (Comp f ts) e = refl

pub known_place : (t : Term) → is_integer t ≡ is_some (known_in t)
known_place (Var x) = refl
known_place (Int z) = refl
known_place (Atom a) = refl
known_place (Comp f ts) = refl

pub known_member : (t : Term) (m : Member) → known_in t ≡ Some m → member_in t ≡ Some m
known_member (Var x) m e = absurd (cc (e))
known_member (Int z) m e = e
known_member (Atom a) m e = absurd (cc (e))
known_member (Comp f ts) m e = absurd (cc (e))

-- ---- their lists

record IsOnto (o : Option Member) (p : Option (List Member)) (ms : List Member) : Type 0 where
  first : Member
  others : List Member
  one : o ≡ Some first
  rest : p ≡ Some others
  is : ms ≡ first ∷ others

onto_is : (o : Option Member) (p : Option (List Member)) (ms : List Member) → onto o p ≡ Some ms → IsOnto o p ms
onto_is None p ms e = absurd (cc (e))
onto_is (Some m) None ms e = absurd (cc (e))
onto_is (Some m) (Some ns) ms e = record { first = m; others = ns; one = refl; rest = refl; is = (let f : m ∷ ns ≡ ms = cc in sym f) }

-- what holds of the empty list and of each cell holds of each list of members
lists : (P : Term → List Member → Type 0) → ((a : List ℕ) → bytes_eq a (codes "[]") ≡ true → P (Atom a) [])
    → ((f : List ℕ) (h t : Term) (m : Member) (ms : List Member) → bytes_eq f (codes ".") ≡ true → member_in h ≡ Some m → P t ms → P (Comp f (term h (term t no_terms))) (m ∷ ms))
    → (t : Term) (ms : List Member) → members_in t ≡ Some ms → P t ms
lists P nil cell (Var x) ms e = absurd (cc (e))
lists P nil cell (Int z) ms e = absurd (cc (e))
lists P nil cell (Atom a) ms e = by (bytes_eq a (codes "[]")) refl e where
  by : (b : Bool) → bytes_eq a (codes "[]") ≡ b → cond b (Some []) None ≡ Some ms → P (Atom a) ms
  by true f g = let h : [] ≡ ms = cc in subst (P (Atom a)) h (nil a f)
  by false f g = absurd (cc (g))
lists P nil cell (Comp f no_terms) ms e = absurd (cc (e))
lists P nil cell (Comp f (term h no_terms)) ms e = absurd (cc (e))
lists P nil cell (Comp f (term h (term t no_terms))) ms e = by (bytes_eq f (codes ".")) refl e (lists P nil cell t) where
  by : (b : Bool) → bytes_eq f (codes ".") ≡ b → cond b (onto (member_in h) (members_in t)) None ≡ Some ms
      → ((ns : List Member) → members_in t ≡ Some ns → P t ns) → P (Comp f (term h (term t no_terms))) ms
  by true g e i = let o = onto_is (member_in h) (members_in t) ms e in subst (P (Comp f (term h (term t no_terms)))) (sym o.is) (cell f h t o.first o.others g o.one (i o.others o.rest))
  by false g e i = absurd (cc (e))
lists P nil cell (Comp f (term h (term t (term u us)))) ms e = absurd (cc (e))

pub members_worths : (a : Assignment) (t : Term) (ms : List Member) → members_in t ≡ Some ms → worths a t ≡ worths_of a ms
members_worths a t ms e = lists (λ t ms. worths a t ≡ worths_of a ms) (λ b f. refl) (λ f h t m ms g one i. ap (λ z. z ∷ worths a t) (member_worth a h m one) ∙ ap (λ zs. worth_of a m ∷ zs) i) t ms e

pub members_read : (t : Term) (ms : List Member) → members_in t ≡ Some ms → read_list t ≡ Ok (map model_of ms)
members_read t ms e = lists (λ t ms. read_list t ≡ Ok (map model_of ms)) (λ b f. rw f refl)
    (λ f h t m ms g one i. rw g (ap (λ r. of_both prepend r (read_list t)) (member_read h m one) ∙ ap (of_both prepend (Ok (model_of m))) i)) t ms e

pub members_listed : (t : Term) (ms : List Member) → members_in t ≡ Some ms → is_list_of is_place t ≡ true
members_listed t ms e = lists (λ t ms. is_list_of is_place t ≡ true) (λ b f. f)
    (λ f h t m ms g one i. ap (λ b. b && (is_place h && is_list_of is_place t)) g ∙ ap (λ b. b && is_list_of is_place t) (place_member h ∙ ap is_some one) ∙ i) t ms e

pub known_listed : (t : Term) (ms : List Member) → members_in t ≡ Some ms → is_list_of is_integer t ≡ list_all is_known ms
known_listed t ms e = lists (λ t ms. is_list_of is_integer t ≡ list_all is_known ms) (λ b f. f)
    (λ f h t m ms g one i. ap (λ b. b && (is_integer h && is_list_of is_integer t)) g ∙ ap (λ b. b && is_list_of is_integer t) (known_is h m one) ∙ ap (λ b. is_known m && b) i) t ms e
  where
    known_is : (h : Term) (m : Member) → member_in h ≡ Some m → is_integer h ≡ is_known m
    known_is (Var x) m e = let f : Open x ≡ m = cc in ap is_known f
    known_is (Int z) m e = let f : Known z ≡ m = cc in ap is_known f
    known_is (Atom b) m e = absurd (cc (e))
    known_is (Comp f ts) m e = absurd (cc (e))

-- ---- and what is none

onto_none : (o : Option Member) (p : Option (List Member)) → onto o p ≡ None → (p ≡ None → ⊥) → o ≡ None
onto_none None p e h = refl
onto_none (Some m) None e h = absurd (h refl)
onto_none (Some m) (Some ms) e h = absurd (cc (e))

pub members_unlisted : (t : Term) → members_in t ≡ None → is_list_of is_place t ≡ false
members_unlisted (Var x) e = refl
members_unlisted (Int z) e = refl
members_unlisted (Atom a) e = by (bytes_eq a (codes "[]")) e where
  by : (b : Bool) → cond {A = Option (List Member)} b (Some []) None ≡ None → b ≡ false
  by true e = let f : Some [] ≡ None = e in absurd (cc (f))
  by false e = refl
members_unlisted (Comp f no_terms) e = refl
members_unlisted (Comp f (term h no_terms)) e = refl
members_unlisted (Comp f (term h (term t no_terms))) e = by (bytes_eq f (codes ".")) e (member_in h) refl (members_in t) refl (members_unlisted t) where
  by : (b : Bool) → cond b (onto (member_in h) (members_in t)) None ≡ None → (o : Option Member) → member_in h ≡ o → (p : Option (List Member)) → members_in t ≡ p
      → (members_in t ≡ None → is_list_of is_place t ≡ false) → (b && (is_place h && is_list_of is_place t)) ≡ false
  by false e o g p k i = refl
  by true e None g p k i = ap (λ b. b && is_list_of is_place t) (place_member h ∙ ap is_some g)
  by true e (Some m) g None k i = ap (λ b. b && is_list_of is_place t) (place_member h ∙ ap is_some g) ∙ i k
  by true e (Some m) g (Some ms) k i = absurd (let x : onto (Some m) (Some ms) ≡ None = (λ j. onto (sym g j) (sym k j)) ∙ e in cc (x))
members_unlisted (Comp f (term h (term t (term u us)))) e = refl

pub members_unread : (t : Term) (ns : List model.Member) → members_in t ≡ None → read_list t ≡ Ok ns → ⊥
members_unread (Var x) ns e r = cc (r)
members_unread (Int z) ns e r = cc (r)
members_unread (Atom a) ns e r = by (bytes_eq a (codes "[]")) e r where
  by : (b : Bool) → cond {A = Option (List Member)} b (Some []) None ≡ None → cond b (Ok []) (Err BadType) ≡ Ok ns → ⊥
  by true e r = let f : Some [] ≡ None = e in cc (f)
  by false e r = cc (r)
members_unread (Comp f no_terms) ns e r = cc (r)
members_unread (Comp f (term h no_terms)) ns e r = cc (r)
members_unread (Comp f (term h (term t no_terms))) ns e r = by (bytes_eq f (codes ".")) e r (member_in h) refl (members_in t) refl (members_unread t) where
  both_ok : (x : Result model.Member QueryFault) (y : Result (List model.Member) QueryFault) → of_both prepend x y ≡ Ok ns → ((ms : List model.Member) → y ≡ Ok ms → ⊥) → ⊥
  both_ok (Ok m) (Ok ms) e h = h ms refl
  both_ok (Ok m) (Err f) e h = cc (e)
  both_ok (Err f) (Ok ms) e h = cc (e)
  both_ok (Err f) (Err g) e h = cc (e)

  first_ok : (x : Result model.Member QueryFault) (y : Result (List model.Member) QueryFault) → of_both prepend x y ≡ Ok ns → x ≡ Err BadType → ⊥
  first_ok (Ok m) y e h = cc (h)
  first_ok (Err f) (Ok ms) e h = cc (e)
  first_ok (Err f) (Err g) e h = cc (e)

  by : (b : Bool) → cond b (onto (member_in h) (members_in t)) None ≡ None → cond b (of_both prepend (as_member h) (read_list t)) (Err BadType) ≡ Ok ns
      → (o : Option Member) → member_in h ≡ o → (p : Option (List Member)) → members_in t ≡ p
      → ((ms : List model.Member) → members_in t ≡ None → read_list t ≡ Ok ms → ⊥) → ⊥
  by false e r o g p k i = cc (r)
  by true e r None g p k i = first_ok (as_member h) (read_list t) r (member_unread h g)
  by true e r (Some m) g None k i = both_ok (as_member h) (read_list t) r (λ ms s. i ms k s)
  by true e r (Some m) g (Some ms) k i = let x : onto (Some m) (Some ms) ≡ None = (λ j. onto (sym g j) (sym k j)) ∙ e in cc (x)
members_unread (Comp f (term h (term t (term u us)))) ns e r = cc (r)

pub open_same : (ms : List Member) → open_ones (map model_of ms) ≡ open_in ms
open_same [] = refl
open_same (Open x ∷ ms) = ap (λ xs. x ∷ xs) (open_same ms)
open_same (Known z ∷ ms) = open_same ms

pub open_more : (ms : List Member) (m : Member) → open_in (ms ++ m ∷ []) ≡ open_in ms ++ open_in (m ∷ [])
open_more [] m = refl
open_more (Open x ∷ ms) m = ap (λ xs. x ∷ xs) (open_more ms m)
open_more (Known z ∷ ms) m = open_more ms m

-- a term of three parts or more is no cell
pub many_no_cell : (x : Term) (f : List ℕ) (by : TermId → Term) (ts : List TermId) → x ≡ Comp f (terms_by by ts) → 3 ≤ length ts → cell_in x ≡ None
many_no_cell x f by ts e h = subst (λ y. cell_in y ≡ None) (sym e) (go ts h) where
  go : (ts : List TermId) → 3 ≤ length ts → cell_in (Comp f (terms_by by ts)) ≡ None
  go [] h = absurd (omega arith)
  go (a ∷ []) h = absurd (omega arith)
  go (a ∷ b ∷ []) h = absurd (omega arith)
  go (a ∷ b ∷ d ∷ ts) h = refl

pub none_onto : (ms : List Member) (o : Option (List Member)) → behind_members ms (onto None o) ≡ None
none_onto ms None = refl
none_onto ms (Some ns) = refl

-- where the list ends
pub last_list : (ms : List Member) (b : Bool) → behind_members ms (cond {A = Option (List Member)} b (Some []) None) ≡ cond {A = Option (List Member)} b (Some ms) None
last_list ms true = ap Some (append-nil ms)
last_list ms false = refl

pub kept_items : (v : Vec Member Global) (b : Bool) → option_map (λ (w : Vec Member Global). w.items) (then_some b v) ≡ cond {A = Option (List Member)} b (Some v.items) None
kept_items v true = refl
kept_items v false = refl
