-- One more agent.
use Rattle.std.proofs.Common.{◌≡◌, ℕ, zero, suc, ◌+◌, ◌<◌, ◌≤◌, Bool, true, false, cond, ◌||◌, ◌&&◌, ◌==◌, List, [], ◌∷◌, ◌++◌, map, filter, take, length}
use Rattle.std.proofs.Common.{get_or, Option, refl, ap, sym, ◌∙◌, subst, inl, inr, arith, eqb-true, eq-eqb, All, nat_lt, le-ltb}
use Rattle.std.proofs.lemmas.Bool.{true≢false}
use Rattle.std.proofs.lemmas.List.{length-append, length-map, get_or_append_left, get_or_at, get_or_past, map-append, take_more, take_all, take-append-le}
use Rattle.std.proofs.lemmas.List.{append-nil}
use Rattle.std.proofs.lemmas.List.Elements.{All-append, All-map, All-tail, filter-append}
use Rattle.std.proofs.lemmas.List.Folds.{list_any-append}
use Rattle.std.specs.List.{list_any}
use Rattle.std.proofs.Math.Bool.{or-false}
use Rattle.dependency_chains.proofs.Lemmas.{last_or_older}
use Rattle.fd_language.specs.declared.range_node.Feature.{Feature}
use Rattle.fd_language.specs.declared.range_node.Need.{Need}
use Rattle.range_code.specs.declared.frame.Arg.{Arg}
use Rattle.range_code.specs.Frames.{AreArgs, IsArg}
use Rattle.fd_language.specs.Range.{Indexical}
use Rattle.fd_model.specs.ClosedFamilies.{AllPosted}
use Rattle.fd_language.specs.Features.{range_features}
use Rattle.dependency_chains.specs.declared.Change.{Change}
use Rattle.dependency_chains.specs.AgentReads.{AgentRead, read_by}
use Rattle.dependency_chains.specs.WokenAgents.{wakes, is_woken}
use Rattle.propagate_queue.specs.Postings.{Posting, ranged, ranges_of, AreReaders, IsAdded}
use Rattle.propagate_queue.specs.declared.instance.Instance.{Instance}
use Rattle.propagate_queue.specs.Instances.{posting}
use Rattle.propagate_queue.specs.Queues.{times, flag_at, flagged, AreQueued}

flag_more : (flags : List Bool) (k : ℕ) → flag_at (flags ++ true ∷ []) k ≡ cond (length flags == k) true (flag_at flags k)
flag_more [] zero = refl
flag_more [] (suc k) = ap (λ b. cond b true false) (sym (late k)) where
  late : (k : ℕ) → (0 == suc k) ≡ false
  late k = grind arith
flag_more (b ∷ bs) zero = ap (λ c. cond c true b) (sym (early (length bs))) where
  early : (n : ℕ) → (suc n == 0) ≡ false
  early n = grind arith
flag_more (b ∷ bs) (suc k) = flag_more bs k ∙ ap (λ e. cond e true (flag_at bs k)) (same (length bs) k) where
  same : (n k : ℕ) → (n == k) ≡ (suc n == suc k)
  same n k = grind arith

flagged_more : (flags : List Bool) → flagged (flags ++ true ∷ []) ≡ suc (flagged flags)
flagged_more [] = refl
flagged_more (true ∷ bs) = omega (arith, flagged_more bs)
flagged_more (false ∷ bs) = omega (arith, flagged_more bs)

pub was_added : (flags flags' : List Bool) (agents agents' : List ℕ) (spare spare' a : ℕ) → AreQueued flags agents spare → a ≡ length flags
    → flags' ≡ flags ++ true ∷ [] → length flags + 1 ≤ spare + length agents
    → ((k : ℕ) → times k agents' ≡ times k (a ∷ agents)) → length agents' ≡ length agents + 1 → spare ≤ spare' + 1 → AreQueued flags' agents' spare'
was_added flags flags' agents agents' spare spare' a q e f room counts len spare_is = subst (λ l. AreQueued l agents' spare') (sym f) (record {
  once = λ k. counts k ∙ step (a == k) (flag_at flags k) (times k agents) (q.once k) (λ g. get_or_past flags k false (omega (arith, e, eqb-true a k g)))
      ∙ ap (λ b. cond b 1 0) (ap (λ n. cond (n == k) true (flag_at flags k)) e ∙ sym (flag_more flags k));
  all = omega (arith, len, q.all, flagged_more flags);
  room = omega (arith, room, len, spare_is, length-append flags (true ∷ []));
}) where
  step : (b f : Bool) (n : ℕ) → n ≡ cond f 1 0 → (b ≡ true → f ≡ false) → cond b (suc n) n ≡ cond (cond b true f) 1 0
  step true true n e g = absurd (true≢false (g refl))
  step true false n e g = ap suc e
  step false f n e g = e

any_other : (n a : ℕ) (p : AgentRead → Bool) (fs : List (ℕ × Feature)) → (n ≡ a → ⊥) → list_any (λ r. (r.agent == a) && p r) (read_by n fs) ≡ false
any_other n a p [] h = refl
any_other n a p (d ∷ ds) h = step (n == a) (p (record { agent = n; var = d.0; feature = d.1 })) _ (λ e. h (eqb-true n a e)) (any_other n a p ds h) where
  step : (b c d : Bool) → (b ≡ true → ⊥) → d ≡ false → ((b && c) || d) ≡ false
  step true c d h e = absurd (h refl)
  step false c d h e = e

any_own : (n x : ℕ) (c : Change) (fs : List (ℕ × Feature)) → list_any (λ r. (r.agent == n) && ((r.var == x) && wakes c r.feature)) (read_by n fs) ≡ is_woken c x fs
any_own n x c [] = refl
any_own n x c (d ∷ ds) = step (n == n) ((d.0 == x) && wakes c d.1) _ _ (eq-eqb n n refl) (any_own n x c ds) where
  step : (b p d e : Bool) → b ≡ true → d ≡ e → ((b && p) || d) ≡ (p || e)
  step b p d e h g = grind (arith, h, g)

any_none : (n a : ℕ) (p : AgentRead → Bool) (rs : List AgentRead) → All (λ r. r.agent < n) rs → n ≤ a → list_any (λ r. (r.agent == a) && p r) rs ≡ false
any_none n a p [] h l = refl
any_none n a p (r ∷ rs) h l = step (r.agent == a) (p r) _ (λ e. omega (arith, eqb-true r.agent a e, h zero r (omega arith), l)) (any_none n a p rs (All-tail (λ q. q.agent < n) r rs h) l) where
  step : (b c d : Bool) → (b ≡ true → ⊥) → d ≡ false → ((b && c) || d) ≡ false
  step true c d h e = absurd (h refl)
  step false c d h e = e

readers_more : (ps : List Indexical) (p : Indexical) (reads : List AgentRead) (fs : List (ℕ × Feature)) → AreReaders ps reads
    → ((x : ℕ) (c : Change) → is_woken c x fs ≡ is_woken c x (range_features p.range)) → AreReaders (ps ++ p ∷ []) (reads ++ read_by (length ps) fs)
readers_more ps p reads fs r w =
    let size : length (ps ++ p ∷ []) ≡ suc (length ps) = omega (arith, length-append ps (p ∷ [])) in
    record {
      known = All-append (λ q. q.agent < length (ps ++ p ∷ [])) reads (read_by (length ps) fs)
          (λ k d l. omega (arith, r.known k d l, size))
          (All-map (λ q. q.agent < length (ps ++ p ∷ [])) (λ (d : ℕ × Feature). record { agent = length ps; var = d.0; feature = d.1 }) fs (λ k d l. omega (arith, size)));
      same = λ a d x c less. list_any-append (λ q. (q.agent == a) && ((q.var == x) && wakes c q.feature)) reads (read_by (length ps) fs) ∙
          elim (last_or_older a (length ps) (omega (arith, less, size))) [
            | inl o ↦ ap (λ b. list_any (λ q. (q.agent == a) && ((q.var == x) && wakes c q.feature)) reads || b)
                (any_other (length ps) a (λ q. (q.var == x) && wakes c q.feature) fs (λ e. omega (arith, e, o)))
                ∙ or-false _ ∙ r.same a d x c o ∙ ap (λ q. is_woken c x (range_features q.range)) (sym (get_or_append_left ps (p ∷ []) d a o))
            | inr o ↦ ap (λ b. b || list_any (λ q. (q.agent == a) && ((q.var == x) && wakes c q.feature)) (read_by (length ps) fs))
                (any_none (length ps) a (λ q. (q.var == x) && wakes c q.feature) reads r.known (omega (arith, o)))
                ∙ ap (λ j. list_any (λ q. (q.agent == a) && ((q.var == x) && wakes c q.feature)) (read_by j fs)) (sym o) ∙ any_own a x c fs ∙ w x c
                ∙ ap (λ q. is_woken c x (range_features q.range)) (sym (ap (λ j. get_or (ps ++ p ∷ []) j d) o ∙ get_or_at ps p [] d (length ps) refl))
          ];
    }

pub agent_readers : (is is' : List Posting) (i : Posting) (a : ℕ) (reads reads' : List AgentRead) (fs : List (ℕ × Feature)) → AreReaders (ranges_of is) reads
    → is' ≡ is ++ i ∷ [] → a ≡ length is → reads' ≡ reads ++ read_by a fs
    → ((x : ℕ) (c : Change) → is_woken c x fs ≡ is_woken c x (range_features (ranged i).range)) → AreReaders (ranges_of is') reads'
agent_readers is is' i a reads reads' fs r e n f w =
    subst (λ l. AreReaders l reads') (sym (ap ranges_of e ∙ map-append ranged is (i ∷ [])))
    (subst (AreReaders (ranges_of is ++ ranged i ∷ [])) (sym (f ∙ ap (λ j. reads ++ read_by j fs) (n ∙ sym (length-map is ranged)))) (readers_more (ranges_of is) (ranged i) reads fs r w))

pub agent_within : (vars a : ℕ) (reads reads' : List AgentRead) (fs : List (ℕ × Feature)) → All (λ r. r.var < vars) reads → All (λ d. d.0 < vars) fs
    → reads' ≡ reads ++ read_by a fs → All (λ r. r.var < vars) reads'
agent_within vars a reads reads' fs h k e = subst (λ (l : List AgentRead). All (λ r. r.var < vars) l) (sym e)
    (All-append (λ r. r.var < vars) reads (read_by a fs) h
    (All-map (λ r. r.var < vars) (λ (d : ℕ × Feature). record { agent = a; var = d.0; feature = d.1 }) fs k))

filter_later : (m a : ℕ) (fs : List (ℕ × Feature)) → m ≤ a → filter (λ r. nat_lt r.agent m) (read_by a fs) ≡ []
filter_later m a [] h = refl
filter_later m a (d ∷ ds) h = ap (λ b. cond b (record { agent = a; var = d.0; feature = d.1 } ∷ filter (λ r. nat_lt r.agent m) (read_by a ds))
    (filter (λ r. nat_lt r.agent m) (read_by a ds))) (le-ltb a m h) ∙ filter_later m a ds h

pub agent_kept : (m a n : ℕ) (reads reads' : List AgentRead) (fs : List (ℕ × Feature)) → m ≤ n → a ≡ n → reads' ≡ reads ++ read_by a fs
    → filter (λ r. nat_lt r.agent m) reads' ≡ filter (λ r. nat_lt r.agent m) reads
agent_kept m a n reads reads' fs h e f =
    ap (filter (λ r. nat_lt r.agent m)) f ∙ filter-append (λ r. nat_lt r.agent m) reads (read_by a fs)
    ∙ ap (λ l. filter (λ r. nat_lt r.agent m) reads ++ l) (filter_later m a fs (omega (arith, h, e))) ∙ append-nil (filter (λ r. nat_lt r.agent m) reads)

pub posted_more : (H : Indexical → Type 0) (is is' : List Posting) (i : Posting) → is' ≡ is ++ i ∷ [] → AllPosted H (ranges_of is) → H (ranged i) → AllPosted H (ranges_of is')
posted_more H is is' i e h k = subst (λ l. AllPosted H l) (sym (ap ranges_of e ∙ map-append ranged is (i ∷ []))) (more (ranges_of is) h) where
  more : (ps : List Indexical) → AllPosted H ps → AllPosted H (ps ++ ranged i ∷ [])
  more [] g = (k, tt)
  more (p ∷ ps) g = (g.0, more ps g.1)

-- all were added, and none
pub all_added : (more old new : List Posting) → new ≡ old ++ more → IsAdded more old new
all_added more old new e = record {
  part = ([], append-nil new ∙ e);
  many = omega (arith, ap length e, length-append old more);
  front = ap (take (length old)) e ∙ (take-append-le (length old) old more (omega arith) ∙ take_all (length old) old (omega arith));
}

pub none_added : (more old new : List Posting) → new ≡ old → IsAdded more old new
none_added more old new e = record {
  part = (more, ap (λ l. l ++ more) e);
  many = omega (arith, ap length e);
  front = ap (take (length old)) e ∙ take_all (length old) old (omega arith);
}

-- a flag for each
pub same_flags : (list : List Instance) → map (λ (i : Instance). true) list ≡ map (λ (p : Posting). true) (map posting list)
same_flags [] = refl
same_flags (i ∷ is) = ap (λ l. true ∷ l) (same_flags is)

args_last : (n : ℕ) (ns : List (Option Need)) (as' : List Arg) (k : Option Need) (a : Arg) → AreArgs n ns as' → IsArg n k a → AreArgs n (ns ++ k ∷ []) (as' ++ a ∷ [])
args_last n [] [] k a h i = (i, tt)
args_last n [] (x ∷ xs) k a h i = absurd h
args_last n (m ∷ ms) [] k a h i = absurd h
args_last n (m ∷ ms) (x ∷ xs) k a h i = (h.0, args_last n ms xs k a h.1 i)

pub args_more : (n i : ℕ) (ns : List (Option Need)) (as' : List Arg) (k : Option Need) (a : Arg) → i < length as' → length ns ≡ length as'
    → AreArgs n (take i ns) (take i as') → IsArg n (get_or ns i k) (get_or as' i a) → AreArgs n (take (i + 1) ns) (take (i + 1) as')
args_more n i ns as' k a l e h j =
    subst (λ x. AreArgs n x (take (i + 1) as')) (sym (take_more ns i k (omega (arith, l, e))))
    (subst (AreArgs n (take i ns ++ get_or ns i k ∷ [])) (sym (take_more as' i a l)) (args_last n (take i ns) (take i as') (get_or ns i k) (get_or as' i a) h j))

-- arguments that fit are as many as their needs, and each fits its own
pub args_length : (n : ℕ) (ns : List (Option Need)) (as' : List Arg) → AreArgs n ns as' → length ns ≡ length as'
args_length n [] [] h = refl
args_length n [] (x ∷ xs) h = absurd h
args_length n (k ∷ ks) [] h = absurd h
args_length n (k ∷ ks) (x ∷ xs) h = ap suc (args_length n ks xs h.1)

pub arg_at : (n i : ℕ) (ns : List (Option Need)) (as' : List Arg) (k : Option Need) (a : Arg) → AreArgs n ns as' → i < length as' → IsArg n (get_or ns i k) (get_or as' i a)
arg_at n i [] [] k a h l = absurd (let e : ⊥ = omega (arith, l) in e)
arg_at n i [] (x ∷ xs) k a h l = absurd h
arg_at n i (m ∷ ms) [] k a h l = absurd h
arg_at n zero (m ∷ ms) (x ∷ xs) k a h l = h.0
arg_at n (suc i) (m ∷ ms) (x ∷ xs) k a h l = arg_at n i ms xs k a h.1 (omega (arith, l))
