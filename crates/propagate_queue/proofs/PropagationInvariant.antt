-- What holds while agents are activated.
use Rattle.std.proofs.Common.{◌≡◌, ℕ, zero, suc, ◌+◌, ◌*◌, ◌<◌, ◌≤◌, Bool, true, false, cond, ◌||◌, ◌&&◌, ◌==◌, List, [], ◌∷◌, filter, length, get_or, set}
use Rattle.std.proofs.Common.{refl, ap, sym, ◌∙◌, subst, inl, inr, arith, eqb-true, Contains, All, mul-le-mul}
use mathlib.Core.Path.{fun_ext}
use Rattle.std.proofs.lemmas.Bool.{cases_Bool, true≢false, eqb-false, or_cases, or_parts}
use Rattle.std.proofs.lemmas.List.{length-map, get_or-set_same, get_or-set_other, get_or-map}
use Rattle.std.specs.List.{list_any}
use Rattle.std.specs.Cmp.{first_so}
use Rattle.fd_language.specs.declared.TheConstants.{INFINITY}
use Rattle.fd_language.specs.Term.{Var}
use Rattle.fd_language.specs.Family.{has, IsFamily, universe}
use Rattle.fd_language.specs.Range.{Indexical, set_of, is_none_left}
use Rattle.fd_language.specs.Features.{range_features}
use Rattle.fd_model.specs.ClosedFamilies.{AllPosted}
use Rattle.fd_model.specs.Activation.{activate}
use Rattle.fd_model.specs.Laws.{ContainsDomains}
use Rattle.fd_language.specs.Monotonicity.{IsMonotone}
use Rattle.fd_language.proofs.Lemmas.{has-filter_back, identity}
use Rattle.fd_model.proofs.Lemmas.{all_keep, whole as closed_whole, unread}
use Rattle.range_code.specs.Frames.{family_of}
use Rattle.dependency_chains.specs.AgentReads.{AgentRead}
use Rattle.dependency_chains.specs.WokenAgents.{change_of, is_woken}
use Rattle.propagate_queue.specs.Postings.{Posting, ranged, ranges_of}
use Rattle.propagate_queue.specs.Queues.{flag_at}
use Rattle.propagate_queue.specs.PropagationInvariant.{IsAtRest, narrowed, IsRunning, AreDomains, HasNone}
use Rattle.propagate_queue.proofs.Changes.{seen_is_woken}

-- the family after a set is written
pub written : (sets : List (List ℕ)) (k x : ℕ) (d : List ℕ) → k < length sets → family_of (set sets k d) x ≡ cond (k == x) d (family_of sets x)
written sets k x d h = elim (cases_Bool (k == x)) [
  | inl e ↦ ap (λ j. family_of (set sets k d) j) (sym (eqb-true k x e)) ∙ get_or-set_same sets k d (universe INFINITY) h ∙ sym (ap (λ b. cond b d (family_of sets x)) e)
  | inr e ↦ get_or-set_other sets k x d (universe INFINITY) (λ q. eqb-false k x e (sym q)) ∙ sym (ap (λ b. cond b d (family_of sets x)) e)
]

pub written_there : (sets : List (List ℕ)) (k : ℕ) (d : List ℕ) → k < length sets → family_of (set sets k d) k ≡ d
written_there sets k d h = get_or-set_same sets k d (universe INFINITY) h

pub unwritten : (sets : List (List ℕ)) (k : ℕ) (d : List ℕ) (y : ℕ) → (y ≡ k → ⊥) → family_of sets y ≡ family_of (set sets k d) y
unwritten sets k d y n = sym (get_or-set_other sets k y d (universe INFINITY) n)

activated : (sets : List (List ℕ)) (p : Indexical) → p.target < length sets → family_of (set sets p.target (narrowed p sets)) ≡ activate INFINITY p (family_of sets)
activated sets p h = fun_ext (λ x. written sets p.target x (narrowed p sets) h ∙ same (p.target == x) x (eqb-true p.target x)) where
  same : (b : Bool) (x : ℕ) → (b ≡ true → p.target ≡ x)
      → cond b (narrowed p sets) (family_of sets x) ≡ cond b (filter (has (set_of INFINITY (family_of sets) p.range)) (family_of sets x)) (family_of sets x)
  same true x e = ap (λ y. filter (has (set_of INFINITY (family_of sets) p.range)) (family_of sets y)) (e refl)
  same false x e = refl

-- an activation keeps what Domains gives
kept : (ps : List Indexical) (p : Indexical) (sets : List (List ℕ)) → AllPosted (λ q. IsMonotone INFINITY q.range) ps → Contains ps p → p.target < length sets
    → IsFamily INFINITY (family_of sets) → ContainsDomains INFINITY ps (family_of sets)
    → IsFamily INFINITY (family_of (set sets p.target (narrowed p sets))) × ContainsDomains INFINITY ps (family_of (set sets p.target (narrowed p sets)))
kept ps p sets m here h f c = subst (λ S. IsFamily INFINITY S × ContainsDomains INFINITY ps S) (sym (activated sets p h)) (all_keep INFINITY ps m (p ∷ []) (family_of sets) (here, tt) f c)

shrinks : (p : Indexical) (sets : List (List ℕ)) (n : ℕ) → has (narrowed p sets) n ≡ true → has (family_of sets p.target) n ≡ true
shrinks p sets n h = (has-filter_back (has (set_of INFINITY (family_of sets) p.range)) (family_of sets p.target) n h).0

inside : (p : Indexical) (sets : List (List ℕ)) → p.target < length sets → (y n : ℕ) → has (family_of (set sets p.target (narrowed p sets)) y) n ≡ true → has (family_of sets y) n ≡ true
inside p sets h y n m = step (p.target == y) (eqb-true p.target y) (subst (λ l. has l n ≡ true) (written sets p.target y (narrowed p sets) h) m) where
  step : (b : Bool) → (b ≡ true → p.target ≡ y) → has (cond b (narrowed p sets) (family_of sets y)) n ≡ true → has (family_of sets y) n ≡ true
  step true e k = subst (λ z. has (family_of sets z) n ≡ true) (e refl) (shrinks p sets n k)
  step false e k = k

pub no_longer : (p : Indexical) (sets : List (List ℕ)) → p.target < length sets → length (narrowed p sets) < length (family_of sets p.target) → (y : ℕ)
    → length (family_of (set sets p.target (narrowed p sets)) y) ≤ length (family_of sets y)
no_longer p sets h l y = elim (cases_Bool (p.target == y)) [
  | inl e ↦ let is : p.target ≡ y = eqb-true p.target y e in
      subst (λ z. length (family_of (set sets p.target (narrowed p sets)) z) ≤ length (family_of sets z)) is
      (omega (arith, ap length (written_there sets p.target (narrowed p sets) h), l))
  | inr e ↦ omega (arith, ap length (unwritten sets p.target (narrowed p sets) y (λ q. eqb-false p.target y e (sym q))))
]

-- the agent was taken, and its target didn't change
pub rests : (ps : List Indexical) (sets : List (List ℕ)) (flags flags' : List Bool) (a : ℕ) (p : Indexical) → ((d : Indexical) → get_or ps a d ≡ p)
    → ((k : ℕ) → flag_at flags' k ≡ cond (a == k) false (flag_at flags k)) → IsAtRest sets p → IsRunning ps sets flags → IsRunning ps sets flags'
rests ps sets flags flags' a p at f here r = record {
  family = r.family;
  contains = r.contains;
  some = r.some;
  rest = λ k d less e. elim (cases_Bool (a == k)) [
    | inl q ↦ subst (λ j. IsAtRest sets (get_or ps j d)) (eqb-true a k q) (subst (IsAtRest sets) (sym (at d)) here)
    | inr q ↦ r.rest k d less (sym (f k ∙ ap (λ b. cond b false (flag_at flags k)) q) ∙ e)
  ];
}

-- the agent was taken, its target changed, and the readers of the change were put on the agenda
pub moves : (ps : List Indexical) (sets : List (List ℕ)) (flags flags' : List Bool) (woken : ℕ → Bool) (a : ℕ) (p : Indexical)
    → AllPosted (λ q. IsMonotone INFINITY q.range) ps → Contains ps p → p.target < length sets → ((d : Indexical) → get_or ps a d ≡ p)
    → is_none_left (narrowed p sets) ≡ false → length (narrowed p sets) < length (family_of sets p.target)
    → ((k : ℕ) → flag_at flags' k ≡ (cond (a == k) false (flag_at flags k) || woken k))
    → ((k : ℕ) (d : Indexical) → k < length ps → woken k ≡ is_woken (change_of (family_of sets p.target) (narrowed p sets)) p.target (range_features (get_or ps k d).range))
    → IsRunning ps sets flags → IsRunning ps (set sets p.target (narrowed p sets)) flags'
moves ps sets flags flags' woken a p m here h at some less f w r =
    let new : List (List ℕ) = set sets p.target (narrowed p sets) in
    let x : ℕ = p.target in
    let there : family_of new x ≡ narrowed p sets = written_there sets x (narrowed p sets) h in
    let k1 = kept ps p sets m here h r.family r.contains in
    let none_new : is_none_left (family_of new x) ≡ false = ap is_none_left there ∙ some in
    let same_sets : (q : Indexical) → is_woken (change_of (family_of sets x) (narrowed p sets)) x (range_features q.range) ≡ false
    → set_of INFINITY (family_of sets) q.range ≡ set_of INFINITY (family_of new) q.range = (λ q e.
    unread INFINITY (family_of sets) (family_of new) q.range x (λ y n. unwritten sets x (narrowed p sets) y n) (r.some x) none_new (omega (arith, ap length there, less)) (λ n. inside p sets h x n)
    (seen_is_woken (family_of sets x) (family_of new x) x (range_features q.range) ∙ subst (λ l. is_woken (change_of (family_of sets x) l) x (range_features q.range) ≡ false) (sym there) e)) in
    record {
      family = k1.0;
      contains = k1.1;
      some = λ y. elim (cases_Bool (y == x)) [
        | inl e ↦ subst (λ z. is_none_left (family_of new z) ≡ false) (sym (eqb-true y x e)) none_new
        | inr e ↦ ap is_none_left (sym (unwritten sets x (narrowed p sets) y (eqb-false y x e))) ∙ r.some y
      ];
      rest = λ k d low e.
          let parts = or_parts (cond (a == k) false (flag_at flags k)) (woken k) (sym (f k) ∙ e) in
          let q : Indexical = get_or ps k d in
          let alike = same_sets q (sym (w k d low) ∙ parts.1) in
          elim (cases_Bool (a == k)) [
            | inl s ↦ let is : q ≡ p = ap (λ j. get_or ps j d) (sym (eqb-true a k s)) ∙ at d in
                subst (IsAtRest new) (sym is) (record {
                  each = λ n g. subst (λ l. has l n ≡ true) (subst (λ z. set_of INFINITY (family_of sets) z.range ≡ set_of INFINITY (family_of new) z.range) is alike)
                      (has-filter_back (has (set_of INFINITY (family_of sets) p.range)) (family_of sets p.target) n (subst (λ l. has l n ≡ true) there g)).1;
                })
            | inr s ↦ let old = r.rest k d low (sym (ap (λ b. cond b false (flag_at flags k)) s) ∙ parts.0) in
                record { each = λ n g. subst (λ l. has l n ≡ true) alike (old.each n (inside p sets h q.target n g)) }
          ];
    }

-- all are at rest
all_rest : (ps : List Indexical) (sets : List (List ℕ)) → ((a : ℕ) (d : Indexical) → a < length ps → IsAtRest sets (get_or ps a d)) → AllPosted (IsAtRest sets) ps
all_rest [] sets h = tt
all_rest (p ∷ ps) sets h = (h zero p (omega arith), all_rest ps sets (λ a d l. h (suc a) d (omega (arith, l))))

pub ended : (ps : List Indexical) (sets : List (List ℕ)) (flags : List Bool) → ((a : ℕ) → flag_at flags a ≡ false) → IsRunning ps sets flags → AreDomains ps sets
ended ps sets flags f r = record {
  family = r.family;
  domains = λ x n. (
    (λ m. record {
      unifier = Var;
      general = identity;
      family = family_of sets;
      closed = closed_whole INFINITY ps (family_of sets) r.family (all_rest ps sets (λ a d l. r.rest a d l (f a)));
      member = m;
    }),
    (λ d. r.contains x n d),
  );
  closed = all_rest ps sets (λ a d l. r.rest a d l (f a));
  some = r.some;
}

-- a set would be empty
pub none_left_at : (ps : List Indexical) (p : Indexical) (sets : List (List ℕ)) (flags : List Bool) → AllPosted (λ q. IsMonotone INFINITY q.range) ps
    → Contains ps p → p.target < length sets → narrowed p sets ≡ [] → IsRunning ps sets flags → HasNone ps (length sets)
none_left_at ps p sets flags m here h e r = (
  p.target,
  h,
  λ n d.
      let k = kept ps p sets m here h r.family r.contains in
      let there : has (narrowed p sets) n ≡ true = subst (λ l. has l n ≡ true) (written_there sets p.target (narrowed p sets) h) (k.1 p.target n d) in
      true≢false (sym (ap (λ l. has l n) (sym e) ∙ there)),
)

-- the posted range of an instance
pub posted_at : (is : List Posting) (a : ℕ) (i : Posting) → a < length is → i ≡ get_or is a i → (d : Indexical) → get_or (ranges_of is) a d ≡ ranged i
posted_at is a i l e d = get_or-map ranged is a i d l ∙ ap ranged (sym e)

pub posted_there : (is : List Posting) (a : ℕ) (i : Posting) → a < length is → i ≡ get_or is a i → Contains (ranges_of is) (ranged i)
posted_there is a i l e = (a, omega (arith, l, length-map is ranged), posted_at is a i l e (ranged i))

-- only agents that are there wake
pub wakes_known : (n a : ℕ) (p : AgentRead → Bool) (reads : List AgentRead) → All (λ r. r.agent < n) reads → list_any (λ r. (r.agent == a) && p r) reads ≡ true → a < n
wakes_known n a p [] h e = absurd (true≢false (sym e))
wakes_known n a p (r ∷ rs) h e = elim (or_cases ((r.agent == a) && p r) (list_any (λ q. (q.agent == a) && p q) rs) e) [
  | inl f ↦ omega (arith, h zero r (omega arith), eqb-true r.agent a (first_so (r.agent == a) (p r) f))
  | inr f ↦ wakes_known n a p rs (λ k d l. h (suc k) d (omega (arith, l))) f
]

-- how many values the sets have together
abbrev pub total : List (List ℕ) → ℕ
total [] = 0
total (d ∷ ds) = length d + total ds

pub total_less : (sets : List (List ℕ)) (k : ℕ) (d : List ℕ) → k < length sets → length d < length (family_of sets k) → total (set sets k d) < total sets
total_less [] k d h l = absurd (omega (arith, h))
total_less (x ∷ xs) zero d h l = omega (arith, l)
total_less (x ∷ xs) (suc k) d h l = omega (arith, total_less xs k d (omega (arith, h)) l)

pub measure_less : (t t' n m m' : ℕ) → t' < t → m' ≤ n → t' * (n + 1) + m' < t * (n + 1) + m
measure_less t t' n m m' h l = let k : (t' + 1) * (n + 1) ≤ t * (n + 1) = mul-le-mul (omega (arith, h)) (omega arith) in
    let e : (t' + 1) * (n + 1) ≡ t' * (n + 1) + (n + 1) = step t' (n + 1) in omega (arith, k, e, l)
  where
    step : (a b : ℕ) → (a + 1) * b ≡ a * b + b
    step a b = omega arith
