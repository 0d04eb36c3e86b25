-- One turn of propagation: an agent is taken and activated.
use Rattle.std.proofs.Common.{◌≡◌, ℕ, ◌+◌, ◌<◌, ◌≤◌, ◌-◌, ◌^◌, min, Bool, true, false, ◌||◌, ◌&&◌, ◌==◌, List, [], length, get_or, set, ap, sym, ◌∙◌, subst}
use Rattle.std.proofs.Common.{arith, All}
use Rattle.std.proofs.lemmas.List.{length-set, length-map, get_or_default}
use Rattle.std.specs.List.{list_any}
use Rattle.fd_language.specs.declared.TheConstants.{INFINITY}
use Rattle.fd_language.specs.Family.{has}
use Rattle.fd_language.specs.Range.{Indexical, Dom}
use Rattle.fd_language.specs.Features.{range_features}
use Rattle.fd_model.specs.ClosedFamilies.{AllPosted}
use Rattle.fd_language.specs.Monotonicity.{IsMonotone}
use Rattle.range_code.specs.Frames.{family_of}
use Rattle.dependency_chains.specs.declared.Change.{Change}
use Rattle.dependency_chains.specs.AgentReads.{AgentRead}
use Rattle.dependency_chains.specs.WokenAgents.{change_of, wakes, is_woken}
use Rattle.domain_trail.specs.Stores.{Stores}
use Rattle.domain_ranges.specs.Narrowing.{AreEnds}
use Rattle.domain_trail.specs.declared.Cut.{Cut}
use Rattle.domain_trail.specs.declared.Cut.TheVariants.{Same, Empty, Changed}
use Rattle.propagate_queue.specs.Postings.{Posting, posting_at, ranged, ranges_of, AreReaders, IsPosting}
use Rattle.fd_model.specs.Weights.{weights}
use Rattle.propagate_queue.specs.Queues.{flag_at, flagged}
use Rattle.propagate_queue.specs.PropagationInvariant.{narrowed, IsRunning, Activated, HasNone}
use Rattle.propagate_queue.proofs.Queues.{flag_within, flagged_off, flag_set}
use Rattle.propagate_queue.proofs.AgentWeights.{paid}
use Rattle.propagate_queue.proofs.PropagationInvariant.{rests, moves, posted_at, posted_there, written_there, no_longer, total, total_less, none_left_at}

-- what holds at the head of the loop, but for the agenda
pub record IsTurn (is : List Posting) (start now : Stores) (flags flags' : List Bool) (n n' : ℕ) : Type 0 where
  pub below : now.below ≡ start.below
  pub vars : length now.current ≡ length start.current
  pub running : IsRunning (ranges_of is) now.current flags'
  pub sizes : (x : ℕ) → length (family_of now.current x) ≤ length (family_of start.current x)
  pub count : n' + flagged flags' ≤ n + (flagged flags + weights (ranges_of is) (family_of start.current) (family_of now.current))

pub same_turn : (is : List Posting) (start old new : Stores) (flags0 flags : List Bool) (n0 n n' a : ℕ) (i : Posting) (o : Cut) → a < length is
    → i ≡ get_or is a i → flag_at flags a ≡ true → o ≡ Same → Activated (ranged i) old new o
    → n' ≡ min (n + 1) (2 ^ 64 - 1) → IsTurn is start old flags0 flags n0 n → IsTurn is start new flags0 (set flags a false) n0 n'
same_turn is start old new flags0 flags n0 n n' a i o l e there f done c t =
    let d : Activated (ranged i) old new Same = subst (Activated (ranged i) old new) f done in
    subst (λ s. IsTurn is start s flags0 (set flags a false) n0 n') (sym d.0) (record {
      below = t.below;
      vars = t.vars;
      running = rests (ranges_of is) old.current flags (set flags a false) a (ranged i) (posted_at is a i l e) (λ k. flag_set flags a k false (flag_within flags a there)) d.1 t.running;
      sizes = t.sizes;
      count = omega (arith, t.count, c, flagged_off flags a there);
    })

pub moved_turn : (is : List Posting) (reads : List AgentRead) (start old new : Stores) (flags0 flags flags' : List Bool) (woken : List ℕ) (n0 n n' a : ℕ)
    (i : Posting) (o : Cut) (before after : ℕ × ℕ) (c : Change) → AllPosted (λ q. IsMonotone INFINITY q.range) (ranges_of is) → AreReaders (ranges_of is) reads
    → length is ≡ length flags → length flags' ≡ length flags
    → a < length is → i ≡ get_or is a i → i.target < length old.current → flag_at flags a ≡ true → o ≡ Changed before after → Activated (ranged i) old new o
    → ((xs ys : List ℕ) → AreEnds before xs → AreEnds after ys → length ys < length xs → c ≡ change_of xs ys)
    → ((k : ℕ) → flag_at flags' k ≡ (flag_at (set flags a false) k || has woken k)) → ((k : ℕ) → has woken k ≡ list_any (λ r. (r.agent == k) && ((r.var == i.target) && wakes c r.feature)) reads)
    → n' ≡ min (n + 1) (2 ^ 64 - 1) → IsTurn is start old flags0 flags n0 n → IsTurn is start new flags0 flags' n0 n'
moved_turn is reads start old new flags0 flags flags' woken n0 n n' a i o before after c m readers size size' l e h there f done tell g w cnt t =
    let p : Indexical = ranged i in
    let d : Activated p old new (Changed before after) = subst (Activated p old new) f done in
    let told : c ≡ change_of (family_of old.current p.target) (narrowed p old.current) = tell (family_of old.current p.target) (narrowed p old.current) d.2 d.3 d.1 in
    let within : a < length flags = flag_within flags a there in
    let known : (k : ℕ) (q : Indexical) → k < length (ranges_of is)
    → has woken k ≡ is_woken (change_of (family_of old.current p.target) (narrowed p old.current)) p.target
    (range_features (get_or (ranges_of is) k q).range) = (λ k q low.
    w k ∙ readers.same k q p.target c low ∙ ap (λ z. is_woken z p.target (range_features (get_or (ranges_of is) k q).range)) told) in
    let sets : List (List ℕ) = set old.current p.target (narrowed p old.current) in
    let no_more : (y : ℕ) → length (family_of sets y) ≤ length (family_of old.current y) = no_longer p old.current h d.1 in
    let at : family_of sets p.target ≡ narrowed p old.current = written_there old.current p.target (narrowed p old.current) h in
    let pays : flagged flags' + weights (ranges_of is) (family_of start.current) (family_of old.current) ≤ flagged (set flags a false) + weights (ranges_of is)
    (family_of start.current) (family_of sets) =
    paid (family_of start.current) (family_of old.current) (family_of sets) p.target t.sizes no_more (omega (arith, ap length at, d.1)) (ranges_of is) (set flags a false) flags' (λ k. has woken k)
    (omega (arith, length-set flags a false, size, length-map is ranged)) (omega (arith, size', size, length-map is ranged)) g
    (λ k q low y. sym (known k q low ∙ ap (λ z. is_woken (change_of (family_of old.current p.target) z) p.target (range_features (get_or (ranges_of is) k q).range)) (sym at)) ∙ y) in
    subst (λ s. IsTurn is start s flags0 flags' n0 n') (sym d.0) (record {
      below = t.below;
      vars = length-set old.current p.target (narrowed p old.current) ∙ t.vars;
      running = moves (ranges_of is) old.current flags flags' (λ k. has woken k) a p m (posted_there is a i l e) h (posted_at is a i l e) d.3.some d.1
          (λ k. g k ∙ ap (λ b. b || has woken k) (flag_set flags a k false within)) known t.running;
      sizes = λ x. omega (arith, no_more x, t.sizes x);
      count = omega (arith, t.count, cnt, flagged_off flags a there, pays);
    })

pub moved_total : (i : Posting) (old new : Stores) (o : Cut) (before after : ℕ × ℕ) → i.target < length old.current → o ≡ Changed before after
    → Activated (ranged i) old new o → total new.current < total old.current
moved_total i old new o before after h f done =
    let p : Indexical = ranged i in
    let d : Activated p old new (Changed before after) = subst (Activated p old new) f done in
    omega (arith, ap (λ s. total s.current) d.0, total_less old.current p.target (narrowed p old.current) h d.1)

pub empty_turn : (is : List Posting) (old new : Stores) (flags : List Bool) (a : ℕ) (i : Posting) (o : Cut)
    → AllPosted (λ q. IsMonotone INFINITY q.range) (ranges_of is) → a < length is → i ≡ get_or is a i → i.target < length old.current → o ≡ Empty
    → Activated (ranged i) old new o
    → IsRunning (ranges_of is) old.current flags → HasNone (ranges_of is) (length old.current)
empty_turn is old new flags a i o m l e h f done r = let d : Activated (ranged i) old new Empty = subst (Activated (ranged i) old new) f done in
    none_left_at (ranges_of is) (ranged i) old.current flags m (posted_there is a i l e) h d.1 r

pub instance_at : (count : ℕ) (is : List Posting) (a : ℕ) (i : Posting) → All (IsPosting count) is → a < length is → i ≡ get_or is a i → IsPosting count i
instance_at count is a i h l e = subst (IsPosting count) (sym e) (h a i l)

pub posting_is : (is : List Posting) (a : ℕ) → a < length is → posting_at is a ≡ get_or is a (posting_at is a)
posting_is is a l = get_or_default is a (record { range = Dom 0; target = 0; args = [] }) (posting_at is a) l
