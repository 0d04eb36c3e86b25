-- The levels of a store.
use Rattle.std.proofs.Common.{◌≡◌, ℕ, zero, suc, ◌+◌, ◌-◌, ◌<◌, ◌≤◌, Bool, true, false, cond, ◌||◌, ◌&&◌, ◌==◌, List, [], ◌∷◌, ◌++◌, map, filter, take, drop}
use Rattle.std.proofs.Common.{reverse, length, get_or, refl, ap, sym, ◌∙◌, subst, inl, inr, ◌⊎◌, arith, eqb-true, not, IsTrue, ◌↔◌, Option, Some, None, All}
use Rattle.std.proofs.Common.{nat_lt, ltb-true, lt-ltb}
use Rattle.std.proofs.lemmas.Bool.{cases_Bool, true≢false}
use Rattle.std.proofs.lemmas.List.{length-append, length-map, length-reverse, length-take-le, length-drop, get_or-take, take-take, take_all, take-map}
use Rattle.std.proofs.lemmas.List.{take-append-drop, reverse-append, drop_at, get_or_append_left, map-append}
use Rattle.std.proofs.lemmas.Simd.{map-map}
use Rattle.std.proofs.lemmas.List.Elements.{All-head, All-tail, All-cons, All-nil}
use Rattle.std.specs.List.{list_any}
use Rattle.range_code.proofs.Lemmas.{universe_some}
use Rattle.fd_language.specs.declared.TheConstants.{INFINITY}
use Rattle.fd_language.specs.Term.{Var}
use Rattle.fd_language.specs.Family.{Family, has, IsFamily, IsSubset, universe}
use Rattle.fd_language.specs.declared.range_node.Need.{Need}
use Rattle.fd_language.specs.Needs.{once}
use Rattle.range_code.specs.declared.frame.Arg.{Arg}
use Rattle.range_code.specs.declared.frame.Arg.TheVariants as arg
use Rattle.range_code.specs.Slots.{slot_needs}
use Rattle.range_code.specs.Frames.{AreArgs}
use mathlib.Core.Path.{fun_ext}
use Rattle.fd_model.specs.Weights.{reads_more, weight, sum_over, weights, whole_weight, whole_weights}
use Rattle.fd_language.specs.Range.{Indexical, is_none_left, is_several, set_of, reads}
use Rattle.fd_language.specs.Features.{range_features}
use Rattle.fd_model.specs.ClosedFamilies.{AllPosted}
use Rattle.fd_model.specs.Domains.{Domains}
use Rattle.fd_language.specs.Monotonicity.{IsMonotone}
use Rattle.fd_language.proofs.Lemmas.{universe_rising, rising_inside, identity}
use Rattle.fd_model.proofs.Lemmas.{whole as closed_whole}
use Rattle.range_code.specs.Frames.{family_of}
use Rattle.dependency_chains.specs.AgentReads.{AgentRead, AgentReads}
use Rattle.dependency_chains.specs.WokenAgents.{wakes, is_woken}
use Rattle.domain_trail.specs.Stores.{Stores}
use Rattle.propagate_queue.specs.declared.instance.Instance.{Instance}
use Rattle.propagate_queue.specs.Instances.{posting, posted_by}
use Rattle.propagate_queue.specs.Postings.{Posting, ranged, ranges_of, IsPosting, AreReaders}
use Rattle.propagate_queue.specs.Queues.{times, flag_at, flagged, AreQueued}
use Rattle.propagate_queue.specs.PropagationInvariant.{IsAtRest, IsRunning, AreDomains, HasNone}
use Rattle.fd_model.specs.Levels.{Level, Levels}
use Rattle.propagate_queue.specs.StoreFields.{levels_below, AreBelow, IsStore}
use Rattle.propagate_queue.proofs.Queues.{no_flags}

-- nothing posted, and no variables
pub no_domains : AreDomains [] []
no_domains = record {
  family = everything;
  domains = λ x n. (
    (λ m. record { unifier = Var; general = identity; family = family_of []; closed = closed_whole INFINITY [] (family_of []) everything tt; member = m }),
    (λ d. (rising_inside INFINITY (d.family x) (d.closed.family.rising x)).each n d.member),
  );
  closed = tt;
  some = λ x. universe_some INFINITY;
} where
  everything : IsFamily INFINITY (family_of [])
  everything = record { rising = λ x. universe_rising INFINITY }

-- no agents, no flags
pub empty_queue : (spare : ℕ) → AreQueued [] [] spare
empty_queue spare = record { once = λ k. refl; all = refl; room = omega arith }

pub new_store : (is : List Posting) (flags : List Bool) (agenda : List ℕ) (spare : ℕ) (readings : AgentReads) (trail : Stores) (ms : List ℕ) → is ≡ []
    → flags ≡ [] → agenda ≡ [] → readings ≡ record { vars = 0; reads = [] } → trail ≡ record { current = []; below = [] } → ms ≡ []
    → IsStore is flags agenda spare readings trail (reverse ms) false false
new_store is flags agenda spare readings trail ms e f g h i j =
    subst (λ x. IsStore x flags agenda spare readings trail (reverse ms) false false) (sym e)
    (subst (λ x. IsStore [] x agenda spare readings trail (reverse ms) false false) (sym f)
    (subst (λ x. IsStore [] [] x spare readings trail (reverse ms) false false) (sym g)
    (subst (λ x. IsStore [] [] [] spare x trail (reverse ms) false false) (sym h)
    (subst (λ x. IsStore [] [] [] spare (record { vars = 0; reads = [] }) x (reverse ms) false false) (sym i)
    (subst (λ x. IsStore [] [] [] spare (record { vars = 0; reads = [] }) (record { current = []; below = [] }) (reverse x) false false) (sym j) (record {
      instances = All-nil (IsPosting 0);
      monotone = tt;
      readers = record { known = All-nil (λ r. r.agent < 0); same = λ a d x c l. absurd (omega (arith, l)) };
      vars = omega arith;
      same_vars = λ h. refl;
      within = All-nil (λ r. r.var < 0);
      flagged = refl;
      quiet = λ s. (empty_queue spare, refl);
      settled = λ s l. no_domains;
      failed = λ s l. absurd (true≢false (sym l));
      below = tt;
    }))))))

-- as many levels as marks
pub same_marks : (is : List Posting) (reads : List AgentRead) (posted vars : ℕ) (ms : List ℕ) (ss : List (List (List ℕ))) → AreBelow is reads posted vars ms ss → length ms ≡ length ss
same_marks is reads posted vars [] [] b = refl
same_marks is reads posted vars [] (s ∷ ss) b = absurd b
same_marks is reads posted vars (m ∷ ms) [] b = absurd b
same_marks is reads posted vars (m ∷ ms) (s ∷ ss) b = ap suc (same_marks is reads m (length s) ms ss b.5)

pub length-levels : (is : List Posting) (reads : List AgentRead) (posted vars : ℕ) (ms : List ℕ) (ss : List (List (List ℕ))) (ps : List Indexical)
    → AreBelow is reads posted vars ms ss → length (levels_below ms ss ps) ≡ length ms
length-levels is reads posted vars [] [] ps b = refl
length-levels is reads posted vars [] (s ∷ ss) ps b = absurd b
length-levels is reads posted vars (m ∷ ms) [] ps b = absurd b
length-levels is reads posted vars (m ∷ ms) (s ∷ ss) ps b = ap suc (length-levels is reads m (length s) ms ss ps b.5)

-- more may be posted, and there may be more variables
pub below_more : (is : List Posting) (reads : List AgentRead) (k n k' n' : ℕ) (ms : List ℕ) (ss : List (List (List ℕ))) → k ≤ k' → n ≤ n' → AreBelow is reads k n ms ss → AreBelow is reads k' n' ms ss
below_more is reads k n k' n' [] [] h l b = tt
below_more is reads k n k' n' [] (s ∷ ss) h l b = absurd b
below_more is reads k n k' n' (m ∷ ms) [] h l b = absurd b
below_more is reads k n k' n' (m ∷ ms) (s ∷ ss) h l b = (omega (arith, b.0, h), omega (arith, b.1, l), b.2, b.3, b.4, b.5)

pub below_dropped : (n : ℕ) (is : List Posting) (reads : List AgentRead) (k v : ℕ) (ms : List ℕ) (ss : List (List (List ℕ))) → AreBelow is reads k v ms ss
    → AreBelow is reads k v (drop n ms) (drop n ss)
below_dropped zero is reads k v ms ss b = b
below_dropped (suc n) is reads k v [] [] b = tt
below_dropped (suc n) is reads k v [] (s ∷ ss) b = absurd b
below_dropped (suc n) is reads k v (m ∷ ms) [] b = absurd b
below_dropped (suc n) is reads k v (m ∷ ms) (s ∷ ss) b = below_more is reads m (length s) k v (drop n ms) (drop n ss) b.0 b.1 (below_dropped n is reads m (length s) ms ss b.5)

pub levels_dropped : (n : ℕ) (is : List Posting) (reads : List AgentRead) (k v : ℕ) (ms : List ℕ) (ss : List (List (List ℕ))) (ps : List Indexical)
    → AreBelow is reads k v ms ss → levels_below (drop n ms) (drop n ss) ps ≡ drop n (levels_below ms ss ps)
levels_dropped zero is reads k v ms ss ps b = refl
levels_dropped (suc n) is reads k v [] [] ps b = refl
levels_dropped (suc n) is reads k v [] (s ∷ ss) ps b = absurd b
levels_dropped (suc n) is reads k v (m ∷ ms) [] ps b = absurd b
levels_dropped (suc n) is reads k v (m ∷ ms) (s ∷ ss) ps b = levels_dropped n is reads m (length s) ms ss ps b.5

-- the agents that stay, and what they read
filter_filter : (m k : ℕ) (rs : List AgentRead) → m ≤ k → filter (λ r. nat_lt r.agent m) (filter (λ r. nat_lt r.agent k) rs) ≡ filter (λ r. nat_lt r.agent m) rs
filter_filter m k [] h = refl
filter_filter m k (r ∷ rs) h = elim (cases_Bool (nat_lt r.agent k)) [
  | inl e ↦ ap (λ b. filter (λ q. nat_lt q.agent m) (cond b (r ∷ filter (λ q. nat_lt q.agent k) rs) (filter (λ q. nat_lt q.agent k) rs))) e
      ∙ ap (λ l. cond (nat_lt r.agent m) (r ∷ l) l) (filter_filter m k rs h)
  | inr e ↦ ap (λ b. filter (λ q. nat_lt q.agent m) (cond b (r ∷ filter (λ q. nat_lt q.agent k) rs) (filter (λ q. nat_lt q.agent k) rs))) e ∙ filter_filter m k rs h
      ∙ sym (ap (λ b. cond b (r ∷ filter (λ q. nat_lt q.agent m) rs) (filter (λ q. nat_lt q.agent m) rs)) (out (cases_Bool (nat_lt r.agent m)) e))
] where
  out : (nat_lt r.agent m ≡ true) ⊎ (nat_lt r.agent m ≡ false) → nat_lt r.agent k ≡ false → nat_lt r.agent m ≡ false
  out (inl q) e = absurd (true≢false (sym (lt-ltb r.agent k (omega (arith, ltb-true r.agent m q, h))) ∙ e))
  out (inr q) e = q

pub below_cut : (is : List Posting) (reads : List AgentRead) (j k v : ℕ) (ms : List ℕ) (ss : List (List (List ℕ))) → k ≤ j → AreBelow is reads k v ms ss
    → AreBelow (take j is) (filter (λ r. nat_lt r.agent j) reads) k v ms ss
below_cut is reads j k v [] [] h b = tt
below_cut is reads j k v [] (s ∷ ss) h b = absurd b
below_cut is reads j k v (m ∷ ms) [] h b = absurd b
below_cut is reads j k v (m ∷ ms) (s ∷ ss) h b =
    let same : take m (take j is) ≡ take m is = take-take m j is (omega (arith, b.0, h)) in (
      b.0,
      b.1,
      subst (λ (l : List Posting). All (IsPosting (length s)) l) (sym same) b.2,
      subst (λ (l : List AgentRead). All (λ r. r.var < length s) l) (sym (filter_filter m j reads (omega (arith, b.0, h)))) b.3,
      subst (λ (l : List Posting). AreDomains (ranges_of l) s) (sym same) b.4,
      below_cut is reads j m (length s) ms ss (omega (arith, b.0, h)) b.5,
    )

pub levels_cut : (is : List Posting) (reads : List AgentRead) (j k v : ℕ) (ms : List ℕ) (ss : List (List (List ℕ))) (ps : List Indexical) → k ≤ j
    → AreBelow is reads k v ms ss → levels_below ms ss (take j ps) ≡ levels_below ms ss ps
levels_cut is reads j k v [] [] ps h b = refl
levels_cut is reads j k v [] (s ∷ ss) ps h b = absurd b
levels_cut is reads j k v (m ∷ ms) [] ps h b = absurd b
levels_cut is reads j k v (m ∷ ms) (s ∷ ss) ps h b =
    let same : take m (take j ps) ≡ take m ps = take-take m j ps (omega (arith, b.0, h)) in
    let later = levels_cut is reads j m (length s) ms ss ps (omega (arith, b.0, h)) b.5 in
    both same later
  where
    both : {a c : List Indexical} {l n : List Level} → a ≡ c → l ≡ n → ◌≡◌ {A = List Level} (record { posted = a; sets = s; failed = false } ∷ l) (record { posted = c; sets = s; failed = false } ∷ n)
    both e f = cc

-- what stays of the readings
pub stays : (m v : ℕ) (rs : List AgentRead) → All (λ r. r.var < v) (filter (λ r. nat_lt r.agent m) rs) → All (λ r. r.agent < m → r.var < v) rs
stays m v [] h = All-nil (λ r. r.agent < m → r.var < v)
stays m v (r ∷ rs) h = elim (cases_Bool (nat_lt r.agent m)) [
  | inl e ↦ let k : All (λ q. q.var < v) (r ∷ filter (λ q. nat_lt q.agent m) rs) = subst
      (λ b. All (λ q. q.var < v) (cond b (r ∷ filter (λ q. nat_lt q.agent m) rs) (filter (λ q. nat_lt q.agent m) rs))) e h in
      All-cons (λ q. q.agent < m → q.var < v) r rs (λ l. All-head (λ q. q.var < v) r (filter (λ q. nat_lt q.agent m) rs) k)
      (stays m v rs (All-tail (λ q. q.var < v) r (filter (λ q. nat_lt q.agent m) rs) k))
  | inr e ↦ let k : All (λ q. q.var < v) (filter (λ q. nat_lt q.agent m) rs) = subst
      (λ b. All (λ q. q.var < v) (cond b (r ∷ filter (λ q. nat_lt q.agent m) rs) (filter (λ q. nat_lt q.agent m) rs))) e h in
      All-cons (λ q. q.agent < m → q.var < v) r rs (λ l. absurd (true≢false (sym (lt-ltb r.agent m l) ∙ e))) (stays m v rs k)
]

filter_below : (m : ℕ) (rs : List AgentRead) → All (λ r. r.agent < m) (filter (λ r. nat_lt r.agent m) rs)
filter_below m [] = All-nil (λ r. r.agent < m)
filter_below m (r ∷ rs) = elim (cases_Bool (nat_lt r.agent m)) [
  | inl e ↦ subst (λ b. All (λ q. q.agent < m) (cond b (r ∷ filter (λ q. nat_lt q.agent m) rs) (filter (λ q. nat_lt q.agent m) rs))) (sym e)
      (All-cons (λ q. q.agent < m) r (filter (λ q. nat_lt q.agent m) rs) (ltb-true r.agent m e) (filter_below m rs))
  | inr e ↦ subst (λ b. All (λ q. q.agent < m) (cond b (r ∷ filter (λ q. nat_lt q.agent m) rs) (filter (λ q. nat_lt q.agent m) rs))) (sym e) (filter_below m rs)
]

any_filtered : (m a : ℕ) (p : AgentRead → Bool) (rs : List AgentRead) → a < m → list_any (λ r. (r.agent == a) && p r) (filter (λ r. nat_lt r.agent m) rs) ≡ list_any (λ r. (r.agent == a) && p r) rs
any_filtered m a p [] h = refl
any_filtered m a p (r ∷ rs) h = elim (cases_Bool (nat_lt r.agent m)) [
  | inl e ↦ ap (λ b. list_any (λ q. (q.agent == a) && p q) (cond b (r ∷ filter (λ q. nat_lt q.agent m) rs) (filter (λ q. nat_lt q.agent m) rs))) e
      ∙ ap (λ b. ((r.agent == a) && p r) || b) (any_filtered m a p rs h)
  | inr e ↦ ap (λ b. list_any (λ q. (q.agent == a) && p q) (cond b (r ∷ filter (λ q. nat_lt q.agent m) rs) (filter (λ q. nat_lt q.agent m) rs))) e
      ∙ any_filtered m a p rs h ∙ sym (off (r.agent == a) (p r) (list_any (λ q. (q.agent == a) && p q) rs)
      (λ q. true≢false (sym (lt-ltb r.agent m (omega (arith, h, eqb-true r.agent a q))) ∙ e)))
] where
  off : (b c d : Bool) → (b ≡ true → ⊥) → ((b && c) || d) ≡ d
  off true c d h = absurd (h refl)
  off false c d h = refl

pub readers_cut : (m : ℕ) (is : List Posting) (reads : List AgentRead) → m ≤ length is → AreReaders (ranges_of is) reads → AreReaders (ranges_of (take m is)) (filter (λ r. nat_lt r.agent m) reads)
readers_cut m is reads h r =
    let size : length (ranges_of (take m is)) ≡ m = length-map (take m is) ranged ∙ length-take-le m is h in
    let same : ranges_of (take m is) ≡ take m (ranges_of is) = sym (take-map ranged m is) in
    record {
      known = λ k d l. omega (arith, filter_below m reads k d l, size);
      same = λ a d x c l. let low : a < m = omega (arith, l, size) in any_filtered m a (λ q. (q.var == x) && wakes c q.feature) reads low ∙ r.same a d x c (omega (arith, low, h, length-map is ranged))
          ∙ ap (λ q. is_woken c x (range_features q.range)) (sym (ap (λ ps. get_or ps a d) same ∙ get_or-take m (ranges_of is) a d low));
    }

pub posted_cut : (H : Indexical → Type 0) (m : ℕ) (is : List Posting) → AllPosted H (ranges_of is) → AllPosted H (ranges_of (take m is))
posted_cut H zero is h = tt
posted_cut H (suc m) [] h = h
posted_cut H (suc m) (i ∷ is) h = (h.0, posted_cut H m is h.1)

flag_cut : (m : ℕ) (flags : List Bool) → ((a : ℕ) → flag_at flags a ≡ false) → (a : ℕ) → flag_at (take m flags) a ≡ false
flag_cut zero flags h a = refl
flag_cut (suc m) [] h a = refl
flag_cut (suc m) (b ∷ bs) h zero = h zero
flag_cut (suc m) (b ∷ bs) h (suc a) = flag_cut m bs (λ k. h (suc k)) a

flagged_none : (flags : List Bool) → ((a : ℕ) → flag_at flags a ≡ false) → flagged flags ≡ 0
flagged_none [] h = refl
flagged_none (true ∷ bs) h = absurd (true≢false (h zero))
flagged_none (false ∷ bs) h = omega (arith, flagged_none bs (λ a. h (suc a)))

queue_cut : (m : ℕ) (flags : List Bool) (agenda : List ℕ) (spare : ℕ) → m ≤ length flags → AreQueued flags agenda spare → agenda ≡ [] → AreQueued (take m flags) agenda spare
queue_cut m flags agenda spare l q e =
    let off = flag_cut m flags (no_flags flags agenda spare q e) in
    record {
      once = λ k. ap (times k) e ∙ ap (λ b. cond b 1 0) (sym (off k));
      all = ap length e ∙ sym (flagged_none (take m flags) off);
      room = omega (arith, q.room, length-take-le m flags l, l);
    }

-- the store at the newest mark
pub popped : (is : List Posting) (flags : List Bool) (agenda : List ℕ) (spare : ℕ) (readings : AgentReads) (trail trail' : Stores) (m : ℕ) (ms : List ℕ)
    (lost spent : Bool) → IsStore is flags agenda spare readings trail (m ∷ ms) lost spent → trail.below ≡ trail'.current ∷ trail'.below
    → IsStore (take m is) (take m flags) agenda spare (record { vars = length trail'.current; reads = filter (λ r. nat_lt r.agent m) readings.reads }) trail' ms false spent
popped is flags agenda spare readings trail trail' m ms lost spent s e =
    let b : AreBelow is readings.reads (length is) (length trail.current) (m ∷ ms) (trail'.current ∷ trail'.below) = subst
    (AreBelow is readings.reads (length is) (length trail.current) (m ∷ ms)) e s.below in
    record {
      instances = b.2;
      monotone = posted_cut (λ p. IsMonotone INFINITY p.range) m is s.monotone;
      readers = readers_cut m is readings.reads b.0 s.readers;
      vars = omega arith;
      same_vars = λ h. refl;
      within = b.3;
      flagged = length-take-le m flags (omega (arith, b.0, s.flagged)) ∙ sym (length-take-le m is b.0);
      quiet = λ h. (queue_cut m flags agenda spare (omega (arith, b.0, s.flagged)) (s.quiet h).0 (s.quiet h).1, (s.quiet h).1);
      settled = λ h l. b.4;
      failed = λ h l. absurd (true≢false (sym l));
      below = below_more (take m is) (filter (λ r. nat_lt r.agent m) readings.reads) m (length trail'.current) (length (take m is)) (length trail'.current) ms
          trail'.below (omega (arith, length-take-le m is b.0)) (omega arith)
          (below_cut is readings.reads m m (length trail'.current) ms trail'.below (omega arith) b.5);
    }

pub popped_levels : (is : List Posting) (flags : List Bool) (agenda : List ℕ) (spare : ℕ) (readings : AgentReads) (trail trail' : Stores) (m : ℕ) (ms : List ℕ)
    (lost spent : Bool) → IsStore is flags agenda spare readings trail (m ∷ ms) lost spent → trail.below ≡ trail'.current ∷ trail'.below
    → levels_below (m ∷ ms) trail.below (ranges_of is) ≡ record { posted = ranges_of (take m is); sets = trail'.current; failed = false } ∷ levels_below ms trail'.below (ranges_of (take m is))
popped_levels is flags agenda spare readings trail trail' m ms lost spent s e =
    let b : AreBelow is readings.reads (length is) (length trail.current) (m ∷ ms) (trail'.current ∷ trail'.below) = subst
    (AreBelow is readings.reads (length is) (length trail.current) (m ∷ ms)) e s.below in
    ap (λ l. levels_below (m ∷ ms) l (ranges_of is)) e
    ∙ ap (λ l. record { posted = take m (ranges_of is); sets = trail'.current; failed = false } ∷ l)
    (sym (levels_cut is readings.reads m m (length trail'.current) ms trail'.below (ranges_of is) (omega arith) b.5))
    ∙ ap (λ (ps : List Indexical). record { posted = ps; sets = trail'.current; failed = false } ∷ levels_below ms trail'.below ps) (take-map ranged m is)

-- one more mark
filter_all : (m : ℕ) (rs : List AgentRead) → All (λ r. r.agent < m) rs → filter (λ r. nat_lt r.agent m) rs ≡ rs
filter_all m [] h = refl
filter_all m (r ∷ rs) h = ap (λ b. cond b (r ∷ filter (λ q. nat_lt q.agent m) rs) (filter (λ q. nat_lt q.agent m) rs))
    (lt-ltb r.agent m (All-head (λ q. q.agent < m) r rs h)) ∙ ap (λ l. r ∷ l) (filter_all m rs (All-tail (λ q. q.agent < m) r rs h))

pub pushed : (is : List Posting) (flags : List Bool) (agenda : List ℕ) (spare : ℕ) (readings : AgentReads) (trail trail' : Stores) (m : ℕ) (ms : List ℕ)
    → IsStore is flags agenda spare readings trail ms false false → m ≡ length is → trail' ≡ record trail { below = trail.current ∷ trail.below }
    → IsStore is flags agenda spare readings trail' (m ∷ ms) false false
pushed is flags agenda spare readings trail trail' m ms s e f = subst (λ t. IsStore is flags agenda spare readings t (m ∷ ms) false false) (sym f)
    (subst (λ k. IsStore is flags agenda spare readings (record trail { below = trail.current ∷ trail.below }) (k ∷ ms) false false) (sym e) (record {
      instances = s.instances;
      monotone = s.monotone;
      readers = s.readers;
      vars = s.vars;
      same_vars = s.same_vars;
      within = s.within;
      flagged = s.flagged;
      quiet = s.quiet;
      settled = s.settled;
      failed = s.failed;
      below = (
        omega arith,
        omega arith,
        subst (λ (l : List Posting). All (IsPosting (length trail.current)) l) (sym (take_all (length is) is (omega arith))) s.instances,
        subst (λ (l : List AgentRead). All (λ r. r.var < length trail.current) l)
            (sym (filter_all (length is) readings.reads (λ k d l. omega (arith, s.readers.known k d l, length-map is ranged)))) s.within,
        subst (λ (l : List Posting). AreDomains (ranges_of l) trail.current) (sym (take_all (length is) is (omega arith))) (s.settled refl refl),
        s.below,
      );
    }))

-- marks from the newest
pub newest : (ms ms' : List ℕ) (m : ℕ) → ms ≡ ms' ++ m ∷ [] → reverse ms ≡ m ∷ reverse ms'
newest ms ms' m e = ap reverse e ∙ reverse-append ms' (m ∷ [])

reverse-take : (n : ℕ) (ms : List ℕ) → n ≤ length ms → reverse (take (length ms - n) ms) ≡ drop n (reverse ms)
reverse-take n ms l =
    let whole : reverse ms ≡ reverse (drop (length ms - n) ms) ++ reverse (take (length ms - n) ms) = ap reverse (sym (take-append-drop (length ms - n) ms))
    ∙ reverse-append (take (length ms - n) ms) (drop (length ms - n) ms) in
    sym (ap (drop n) whole ∙ drop_at (reverse (drop (length ms - n) ms)) (reverse (take (length ms - n) ms)) n
    (length-reverse (drop (length ms - n) ms) ∙ length-drop (length ms - n) ms ∙ omega (arith, l)))

pub fewer_marks : (n left : ℕ) (ms ms' : List ℕ) → n ≤ length ms → left ≡ length ms - n → ms' ≡ take left ms → reverse ms' ≡ drop n (reverse ms)
fewer_marks n left ms ms' l e f = ap reverse (f ∙ ap (λ k. take k ms) e) ∙ reverse-take n ms l

pub without_marks : (n : ℕ) (is : List Posting) (flags : List Bool) (agenda : List ℕ) (spare : ℕ) (readings : AgentReads) (trail trail' : Stores)
    (ms ms' : List ℕ) (lost spent : Bool) → IsStore is flags agenda spare readings trail ms lost spent → ms' ≡ drop n ms
    → trail' ≡ record trail { below = drop n trail.below }
    → IsStore is flags agenda spare readings trail' ms' lost spent × (levels_below ms' trail'.below (ranges_of is) ≡ drop n (levels_below ms trail.below (ranges_of is)))
without_marks n is flags agenda spare readings trail trail' ms ms' lost spent s e f =
    subst (λ t. IsStore is flags agenda spare readings t ms' lost spent × (levels_below ms' t.below (ranges_of is) ≡ drop n (levels_below ms trail.below (ranges_of is)))) (sym f)
    (subst (λ k. IsStore is flags agenda spare readings (record trail { below = drop n trail.below }) k lost spent
    × (levels_below k (drop n trail.below) (ranges_of is) ≡ drop n (levels_below ms trail.below (ranges_of is)))) (sym e) (
      record {
        instances = s.instances;
        monotone = s.monotone;
        readers = s.readers;
        vars = s.vars;
        same_vars = s.same_vars;
        within = s.within;
        flagged = s.flagged;
        quiet = s.quiet;
        settled = s.settled;
        failed = s.failed;
        below = below_dropped n is readings.reads (length is) (length trail.current) ms trail.below s.below;
      },
      levels_dropped n is readings.reads (length is) (length trail.current) ms trail.below (ranges_of is) s.below,
    ))

pub popped_stay : (is : List Posting) (flags : List Bool) (agenda : List ℕ) (spare : ℕ) (readings : AgentReads) (trail trail' : Stores) (m : ℕ) (ms : List ℕ)
    (lost spent : Bool) (vars : ℕ) → IsStore is flags agenda spare readings trail (m ∷ ms) lost spent → trail.below ≡ trail'.current ∷ trail'.below
    → vars ≡ length trail'.current
    → All (λ r. r.agent < m → r.var < vars) readings.reads × (vars ≤ readings.vars)
popped_stay is flags agenda spare readings trail trail' m ms lost spent vars s e v =
    let b : AreBelow is readings.reads (length is) (length trail.current) (m ∷ ms) (trail'.current ∷ trail'.below) = subst
    (AreBelow is readings.reads (length is) (length trail.current) (m ∷ ms)) e s.below in
    (subst (λ n. All (λ r. r.agent < m → r.var < n) readings.reads) (sym v) (stays m (length trail'.current) readings.reads b.3), omega (arith, v, b.1, s.vars))

pub popped_store : (is is' : List Posting) (flags flags' : List Bool) (agenda : List ℕ) (spare : ℕ) (readings readings' : AgentReads) (trail trail' : Stores)
    (m vars : ℕ) (ms : List ℕ) (lost spent : Bool) → IsStore is flags agenda spare readings trail (m ∷ ms) lost spent
    → trail.below ≡ trail'.current ∷ trail'.below
    → is' ≡ take m is → flags' ≡ take m flags → readings' ≡ record { vars = vars; reads = filter (λ r. nat_lt r.agent m) readings.reads } → vars ≡ length trail'.current
    → IsStore is' flags' agenda spare readings' trail' ms false spent
    × (levels_below (m ∷ ms) trail.below (ranges_of is) ≡ record { posted = ranges_of is'; sets = trail'.current; failed = false } ∷ levels_below ms
    trail'.below (ranges_of is'))
popped_store is is' flags flags' agenda spare readings readings' trail trail' m vars ms lost spent s e f g h v =
    let cut : readings' ≡ record { vars = length trail'.current; reads = filter (λ r. nat_lt r.agent m) readings.reads } = h
    ∙ ap (λ n. record { vars = n; reads = filter (λ r. nat_lt r.agent m) readings.reads }) v in (
      subst (λ x. IsStore x flags' agenda spare readings' trail' ms false spent) (sym f)
          (subst (λ x. IsStore (take m is) x agenda spare readings' trail' ms false spent) (sym g)
          (subst (λ x. IsStore (take m is) (take m flags) agenda spare x trail' ms false spent) (sym cut) (popped is flags agenda spare readings trail trail' m ms lost spent s e))),
      popped_levels is flags agenda spare readings trail trail' m ms lost spent s e
          ∙ ap (λ (l : List Posting). record { posted = ranges_of l; sets = trail'.current; failed = false } ∷ levels_below ms trail'.below
          (ranges_of l)) (sym f),
    )

pub same_levels : {ps : List Indexical} {a b : List (List ℕ)} {c d : List Level} {f s : Bool} → a ≡ b → c ≡ d
    → ◌≡◌ {A = Levels} (record { current = record { posted = ps; sets = a; failed = f }; below = c; spent = s })
    (record { current = record { posted = ps; sets = b; failed = f }; below = d; spent = s })
same_levels e f = cc

-- one more variable
args_more : (n m : ℕ) → n ≤ m → (ns : List (Option Need)) (as' : List Arg) → AreArgs n ns as' → AreArgs m ns as'
args_more n m h [] [] a = tt
args_more n m h [] (x ∷ xs) a = absurd a
args_more n m h (k ∷ ks) [] a = absurd a
args_more n m h (Some k ∷ ks) (arg.Int z ∷ xs) a = (a.0, args_more n m h ks xs a.1)
args_more n m h (Some k ∷ ks) (arg.Var x ∷ xs) a = absurd a.0
args_more n m h (None ∷ ks) (arg.Int z ∷ xs) a = absurd a.0
args_more n m h (None ∷ ks) (arg.Var x ∷ xs) a = (omega (arith, a.0, h), args_more n m h ks xs a.1)

pub instance_more : (n m : ℕ) → n ≤ m → (i : Posting) → IsPosting n i → IsPosting m i
instance_more n m h i a = (omega (arith, a.0, h), args_more n m h (slot_needs i.range) i.args a.1)

one_more : (ds : List (List ℕ)) (u : List ℕ) (x : ℕ) → get_or (ds ++ u ∷ []) x u ≡ get_or ds x u
one_more [] u zero = refl
one_more [] u (suc x) = refl
one_more (d ∷ ds) u zero = refl
one_more (d ∷ ds) u (suc x) = one_more ds u x

domains_more : (ps : List Indexical) (sets : List (List ℕ)) → AreDomains ps sets → AreDomains ps (sets ++ universe INFINITY ∷ [])
domains_more ps sets d =
    let same : family_of sets ≡ family_of (sets ++ universe INFINITY ∷ []) = fun_ext (λ x. sym (one_more sets (universe INFINITY) x)) in
    record {
      family = subst (λ (S : Family). IsFamily INFINITY S) same d.family;
      domains = subst (λ (S : Family). (x n : ℕ) → IsTrue (has (S x) n) ↔ Domains INFINITY INFINITY [] ps x n) same d.domains;
      closed = subst (λ (S : Family). AllPosted (λ p. IsSubset (S p.target) (set_of INFINITY S p.range)) ps) same d.closed;
      some = subst (λ (S : Family). (x : ℕ) → is_none_left (S x) ≡ false) same d.some;
    }

pub with_var : (is : List Posting) (flags : List Bool) (agenda : List ℕ) (spare : ℕ) (readings readings' : AgentReads) (trail trail' : Stores) (ms : List ℕ)
    (lost : Bool) → IsStore is flags agenda spare readings trail ms lost false → readings' ≡ record readings { vars = readings.vars + 1 }
    → trail' ≡ record trail { current = trail.current ++ universe INFINITY ∷ [] }
    → IsStore is flags agenda spare readings' trail' ms lost false
with_var is flags agenda spare readings readings' trail trail' ms lost s e f =
    let n : ℕ = length trail.current in
    let size : length (trail.current ++ universe INFINITY ∷ []) ≡ n + 1 = length-append trail.current (universe INFINITY ∷ []) in
    let more : n ≤ length (trail.current ++ universe INFINITY ∷ []) = omega (arith, size) in
    subst (λ r. IsStore is flags agenda spare r trail' ms lost false) (sym e)
    (subst (λ t. IsStore is flags agenda spare (record readings { vars = readings.vars + 1 }) t ms lost false) (sym f) (record {
      instances = λ k d l. instance_more n (length (trail.current ++ universe INFINITY ∷ [])) more (get_or is k d) (s.instances k d l);
      monotone = s.monotone;
      readers = s.readers;
      vars = omega (arith, s.vars, size);
      same_vars = λ h. omega (arith, s.same_vars h, size);
      within = λ k d l. omega (arith, s.within k d l, more);
      flagged = s.flagged;
      quiet = s.quiet;
      settled = λ h l. domains_more (ranges_of is) trail.current (s.settled h l);
      failed = λ h l. (let none = s.failed h l in (none.0, omega (arith, none.1, more), none.2));
      below = below_more is readings.reads (length is) n (length is) (length (trail.current ++ universe INFINITY ∷ [])) ms trail.below (omega arith) more s.below;
    }))

-- more is posted
domains_fewer : (ps qs : List Indexical) (x n : ℕ) → Domains INFINITY INFINITY [] (ps ++ qs) x n → Domains INFINITY INFINITY [] ps x n
domains_fewer ps qs x n d = record {
  unifier = Var;
  general = identity;
  family = d.family;
  closed = closed_whole INFINITY ps d.family d.closed.family (front ps d.closed.posted);
  member = d.member;
} where
  front : (rs : List Indexical) → AllPosted (λ p. IsSubset (d.family p.target) (set_of INFINITY d.family p.range)) (rs ++ qs)
      → AllPosted (λ p. IsSubset (d.family p.target) (set_of INFINITY d.family p.range)) rs
  front [] h = tt
  front (p ∷ rs) h = (h.0, front rs h.1)

pub none_more : (is list is' : List Posting) (n : ℕ) → is' ≡ is ++ list → HasNone (ranges_of is) n → HasNone (ranges_of is') n
none_more is list is' n e h = subst (λ ps. HasNone ps n) (sym (ap ranges_of e ∙ map-append ranged is list)) (h.0, h.1, λ k d. h.2 k (domains_fewer (ranges_of is) (ranges_of list) h.0 k d))

flag_at_old : (flags : List Bool) (n : ℕ) (list : List Posting) (a : ℕ) → a < n → n ≡ length flags + length list → flag_at (flags ++ map (λ _. true) list) a ≡ false → a < length flags
flag_at_old [] n [] a l e f = absurd (omega (arith, l, e))
flag_at_old [] n (i ∷ is) zero l e f = absurd (true≢false f)
flag_at_old [] n (i ∷ is) (suc a) l e f = absurd (omega (arith, flag_at_old [] (length is) is a (omega (arith, l, e)) (omega arith) f))
flag_at_old (b ∷ bs) n list zero l e f = omega arith
flag_at_old (b ∷ bs) n list (suc a) l e f = omega (arith, flag_at_old bs (length bs + length list) list a (omega (arith, l, e)) refl f)

at_posted : (H : Indexical → Type 0) (ps : List Indexical) (a : ℕ) (d : Indexical) → AllPosted H ps → a < length ps → H (get_or ps a d)
at_posted H [] a d h l = absurd (omega (arith, l))
at_posted H (p ∷ ps) zero d h l = h.0
at_posted H (p ∷ ps) (suc a) d h l = at_posted H ps a d h.1 (omega (arith, l))

pub starts : (is list is' : List Posting) (sets : List (List ℕ)) (flags flags' : List Bool) → AreDomains (ranges_of is) sets → is' ≡ is ++ list
    → flags' ≡ flags ++ map (λ _. true) list → length flags ≡ length is → IsRunning (ranges_of is') sets flags'
starts is list is' sets flags flags' d e f size =
    let ps : List Indexical = ranges_of is in
    let qs : List Indexical = ranges_of list in
    let all : ranges_of is' ≡ ps ++ qs = ap ranges_of e ∙ map-append ranged is list in
    subst (λ l. IsRunning l sets flags') (sym all) (subst (IsRunning (ps ++ qs) sets) (sym f) (record {
      family = d.family;
      contains = λ x n m. (d.domains x n).1 (domains_fewer ps qs x n m);
      some = d.some;
      rest = λ a q l g.
          let low : a < length flags = flag_at_old flags (length (ps ++ qs)) list a l (omega (arith, length-append ps qs, length-map is ranged, length-map list ranged, size)) g in
          let within : a < length ps = omega (arith, low, size, length-map is ranged) in
          subst (IsAtRest sets) (sym (get_or_append_left ps qs q a within)) (at_posted (IsAtRest sets) ps a q d.closed within);
    }))

flagged_all : (flags : List Bool) (list : List Posting) → flagged (flags ++ map (λ _. true) list) ≡ flagged flags + length list
flagged_all [] [] = refl
flagged_all [] (i ∷ is) = omega (arith, flagged_all [] is)
flagged_all (true ∷ bs) list = omega (arith, flagged_all bs list)
flagged_all (false ∷ bs) list = omega (arith, flagged_all bs list)

pub flagged_new : (flags flags' : List Bool) (list : List Posting) (agenda : List ℕ) (spare : ℕ) → AreQueued flags agenda spare → agenda ≡ []
    → flags' ≡ flags ++ map (λ _. true) list → flagged flags' ≡ length list
flagged_new flags flags' list agenda spare q e f = ap flagged f ∙ flagged_all flags list ∙ omega (arith, q.all, ap length e)

pub below_added : (is is' : List Posting) (reads reads' : List AgentRead) (k v : ℕ) (ms : List ℕ) (ss : List (List (List ℕ))) → k ≤ length is
    → take (length is) is' ≡ is → ((m : ℕ) → m ≤ length is → filter (λ r. nat_lt r.agent m) reads' ≡ filter (λ r. nat_lt r.agent m) reads)
    → AreBelow is reads k v ms ss → AreBelow is' reads' k v ms ss
below_added is is' reads reads' k v [] [] h e f b = tt
below_added is is' reads reads' k v [] (s ∷ ss) h e f b = absurd b
below_added is is' reads reads' k v (m ∷ ms) [] h e f b = absurd b
below_added is is' reads reads' k v (m ∷ ms) (s ∷ ss) h e f b =
    let low : m ≤ length is = omega (arith, b.0, h) in
    let same : take m is' ≡ take m is = sym (take-take m (length is) is' low) ∙ ap (take m) e in (
      b.0,
      b.1,
      subst (λ (l : List Posting). All (IsPosting (length s)) l) (sym same) b.2,
      subst (λ (l : List AgentRead). All (λ r. r.var < length s) l) (sym (f m low)) b.3,
      subst (λ (l : List Posting). AreDomains (ranges_of l) s) (sym same) b.4,
      below_added is is' reads reads' m (length s) ms ss low e f b.5,
    )

pub levels_added : (is is' : List Posting) (reads : List AgentRead) (v : ℕ) (ms : List ℕ) (ss : List (List (List ℕ))) → take (length is) is' ≡ is
    → AreBelow is reads (length is) v ms ss → levels_below ms ss (ranges_of is') ≡ levels_below ms ss (ranges_of is)
levels_added is is' reads v ms ss e b = sym (levels_cut is reads (length is) (length is) v ms ss (ranges_of is') (omega arith) b)
    ∙ ap (levels_below ms ss) (take-map ranged (length is) is' ∙ ap ranges_of e)

-- the weights are never more than the whole
weight_whole : (b s0 s : Bool) (n0 n : ℕ) → cond b (n0 - n) (cond (s0 && not s) 1 0) ≤ cond b n0 1
weight_whole true s0 s n0 n = omega arith
weight_whole false true true n0 n = omega arith
weight_whole false true false n0 n = omega arith
weight_whole false false s n0 n = omega arith

pub sum_whole : (ys : List ℕ) (f g : ℕ → ℕ) → ((y : ℕ) → f y ≤ g y) → sum_over ys f ≤ sum_over ys g
sum_whole [] f g h = omega arith
sum_whole (y ∷ ys) f g h = omega (arith, h y, sum_whole ys f g h)

pub whole : (ps : List Indexical) (old new : Family) → weights ps old new ≤ whole_weights ps old
whole [] old new = omega arith
whole (p ∷ ps) old new = omega (
  arith,
  sum_whole (once (reads p.range)) (weight p.range old new) (whole_weight p.range old)
      (λ y. weight_whole (reads_more p.range y) (is_several (old y)) (is_several (new y)) (length (old y)) (length (new y))),
  whole ps old new,
)

-- ranges that are posted on a part of what is posted weigh no more
whole_part : (ps qs : List Indexical) (old : Family) → whole_weights ps old ≤ whole_weights (ps ++ qs) old
whole_part [] qs old = omega arith
whole_part (p ∷ ps) qs old = omega (arith, whole_part ps qs old)

pub whole_of_parts : (old is' rest new : List Posting) (S T : Family) → is' ++ rest ≡ old ++ new → weights (ranges_of is') S T ≤ whole_weights (ranges_of old ++ ranges_of new) S
whole_of_parts old is' rest new S T e =
    let all : ranges_of is' ++ ranges_of rest ≡ ranges_of old ++ ranges_of new = sym (map-append ranged is' rest) ∙ (ap ranges_of e ∙ map-append ranged old new) in
    let a = whole (ranges_of is') S T in
    let b = whole_part (ranges_of is') (ranges_of rest) S in
    let c = ap (λ l. whole_weights l S) all in
    omega arith

pub whole_of_part : (old is' rest : List Posting) (list : List Instance) (S T : Family) → is' ++ rest ≡ old ++ map posting list
    → weights (ranges_of is') S T ≤ whole_weights (ranges_of old ++ posted_by list) S
whole_of_part old is' rest list S T e = subst (λ l. weights (ranges_of is') S T ≤ whole_weights (ranges_of old ++ l) S) (map-map ranged posting list)
    (whole_of_parts old is' rest (map posting list) S T e)

-- the store once more is posted
pub posted_store : (is is' : List Posting) (flags flags' : List Bool) (agenda agenda' : List ℕ) (spare spare' : ℕ) (readings readings' : AgentReads)
    (trail trail' : Stores) (ms : List ℕ) (lost lost' spent spent' : Bool) → IsStore is flags agenda spare readings trail ms lost spent
    → All (IsPosting (length trail.current)) is' → AllPosted (λ p. IsMonotone INFINITY p.range) (ranges_of is') → AreReaders (ranges_of is') readings'.reads
    → readings'.vars ≡ length trail.current → All (λ r. r.var < length trail.current) readings'.reads → length flags' ≡ length is'
    → length is ≤ length is' → take (length is) is' ≡ is
    → ((m : ℕ) → m ≤ length is → filter (λ r. nat_lt r.agent m) readings'.reads ≡ filter (λ r. nat_lt r.agent m) readings.reads)
    → trail'.below ≡ trail.below → length trail'.current ≡ length trail.current
    → (spent' ≡ false → AreQueued flags' agenda' spare' × (agenda' ≡ [])) → (spent' ≡ false → lost' ≡ false → AreDomains (ranges_of is') trail'.current)
    → (spent' ≡ false → lost' ≡ true → HasNone (ranges_of is') (length trail'.current))
    → IsStore is' flags' agenda' spare' readings' trail' ms lost' spent'
posted_store is is' flags flags' agenda agenda' spare spare' readings readings' trail trail' ms lost lost' spent spent' s instances monotone readers vars within
    flag_size more front kept below size quiet settled failed = record {
      instances = subst (λ n. All (IsPosting n) is') (sym size) instances;
      monotone = monotone;
      readers = readers;
      vars = omega (arith, vars, size);
      same_vars = λ h. omega (arith, vars, size);
      within = λ k d l. omega (arith, within k d l, size);
      flagged = flag_size;
      quiet = quiet;
      settled = settled;
      failed = failed;
      below = subst (λ ss. AreBelow is' readings'.reads (length is') (length trail'.current) ms ss) (sym below)
          (below_more is' readings'.reads (length is) (length trail.current) (length is') (length trail'.current) ms trail.below more (omega (arith, size))
          (below_added is is' readings.reads readings'.reads (length is) (length trail.current) ms trail.below (omega arith) front kept s.below));
    }
