-- What a choice leaves out, and where it leads.
use Rattle.std.proofs.Common.{◌≡◌, ℕ, suc, ◌<◌, IsTrue, List, [], ◌∷◌, ◌++◌, length, Option, Some, None, refl, ap, sym, ◌∙◌, subst, inl, inr, append_assoc}
use Rattle.std.proofs.Common.{append-nil}
use Rattle.fd_language.specs.declared.TheConstants.{INFINITY}
use Rattle.fd_language.specs.Family.{has}
use Rattle.fd_language.specs.Range.{Indexical}
use Rattle.fd_language.proofs.Lemmas.{first_member}
use Rattle.fd_model.specs.Children.{Kept}
use Rattle.fd_model.specs.Goal.{Branch, Program, Query, Event}
use Rattle.heap_cells.specs.Cells.{Cells}
use Rattle.heap_cells.specs.Terms.{Naming}
use Rattle.branch_meaning.specs.RemainingEvents.{AreFit, Ahead}
use Rattle.branch_meaning.proofs.Lemmas.{gone_by}
use Rattle.branch_state.specs.States as branch
use Rattle.branch_state.specs.States.{with_pair}
use Rattle.wam_code.specs.declared.instruction.Code.{Code}
use Rattle.wam_code.specs.declared.instruction.Code.TheVariants.{TryMeElse, RetryMeElse, TrustMe, Try, Retry, Trust}
use Rattle.wam_code.specs.declared.parts.Entry.{Entry}
use Rattle.wam_code.specs.Area.{Area, Holds}
use Rattle.wam_code.specs.Effect.{plain_effect}
use Rattle.wam_code.specs.CodeRegions.{distance}
use Rattle.wam_code.specs.VerifiedCode.{named, goes_on}
use Rattle.code_areas.specs.Areas.{Contents}
use Rattle.code_meaning.specs.Registers.{Registers, Saved}
use Rattle.code_meaning.specs.ClauseChoices.{TriesBoth}
use Rattle.code_meaning.specs.ClauseChoices.{IsChoice as IsStep}
use Rattle.code_meaning.proofs.Lemmas.{goes_before, trying_pushed, step_try_me_else, step_retry_me_else, step_try, step_retry, step_trust_me, step_trust}
use Rattle.code_safety.specs.Choices.{point_of}
use Rattle.code_safety.specs.Machine.{registers_of, stack_of}
use Rattle.code_safety.specs.Queries.{StaysInside}
use Rattle.code_safety.specs.Safety.{IsThread, IsSafe}
use Rattle.code_safety.specs.RemainingEvents.{KeepsRunning, GoesBack, LeavesChoice}
use Rattle.code_safety.proofs.Lemmas.{next_inside, named_inside}
use Rattle.code_control.specs.declared.clause_selection.Tried.{Tried}
use Rattle.code_control.specs.declared.clause_selection.Tried.TheVariants.{Both, Last, Other}
use Rattle.code_control.specs.ClauseSelection.{tried_by, first_of, behind_of, IsTried, IsRuledOut, AreGone, TriesAt, LeavesOut}
use Rattle.code_control.proofs.HeadClashes.{ruled_out_gone}
use Rattle.code_control.proofs.Threads.{named_thread, next_thread}
use Rattle.code_control.proofs.Work.{named_near, next_near}
use Rattle.branch_meaning.proofs.Lemmas.{later_kept}

-- ---- branches without a model, among others

fit_within : (M : ℕ) (xs gone ys : List Branch) → AreFit M (xs ++ (gone ++ ys)) → AreFit M (xs ++ ys)
fit_within M [] [] ys f = f
fit_within M [] (b ∷ gone) ys f = fit_within M [] gone ys f.1
fit_within M (x ∷ xs) gone ys f = (f.0, fit_within M xs gone ys f.1)

kept_within : (N : ℕ) (xs gone ys cs : List Branch) → AreGone N gone → AreFit INFINITY (xs ++ (gone ++ ys)) → Kept INFINITY N (xs ++ (gone ++ ys)) cs → Kept INFINITY N (xs ++ ys) cs
kept_within N [] [] ys cs g f k = k
kept_within N [] (b ∷ gone) ys cs g f (inl k) = absurd (gone_by INFINITY N b g.0 f.0 k.0)
kept_within N [] (b ∷ gone) ys cs g f (inr k) = kept_within N [] gone ys cs g.1 f.1 k.1
kept_within N (x ∷ xs) gone ys cs g f (inl k) = inl (k.0, (k.1.0, k.1.1, kept_within N xs gone ys k.1.0 g f.1 k.1.2))
kept_within N (x ∷ xs) gone ys cs g f (inr k) = inr (k.0, kept_within N xs gone ys cs g f.1 k.1)

-- What is ahead stays so without them.
ahead_within : (N : ℕ) (prog : Program) (q : Query) (n : ℕ) (k : Option ℕ) (xs gone ys : List Branch) (es : List Event) (r : ℕ) → AreGone N gone
    → Ahead INFINITY N prog q n k (xs ++ (gone ++ ys)) es r → Ahead INFINITY N prog q n k (xs ++ ys) es r
ahead_within N prog q n k xs gone ys es r g a = record { fit = fit_within INFINITY xs gone ys a.fit; branches = a.branches; kept = kept_within N xs gone ys a.branches g a.fit a.kept; run = a.run }

gone_both : (N : ℕ) (xs ys : List Branch) → AreGone N xs → AreGone N ys → AreGone N (xs ++ ys)
gone_both N [] ys g h = h
gone_both N (x ∷ xs) ys g h = (g.0, gone_both N xs ys g.1 h)

-- What tries something is a choice.
pub choice_of : (i : Code) (at : ℕ) → (tried_by i at ≡ Other → ⊥) → IsStep i
choice_of (TryMeElse o) at n = tt
choice_of (RetryMeElse o) at n = tt
choice_of (Try to) at n = tt
choice_of (Retry to) at n = tt
choice_of TrustMe at n = tt
choice_of (Trust to) at n = tt
choice_of _ at n = absurd (n refl)

module _ (area : Area) (s : branch.State) (at : ℕ) (c : Contents) where
  abbrev h : Cells
  h = s.heaps.now

  abbrev qs : List Indexical
  qs = s.levels.current.posted

  abbrev regs : Registers
  regs = registers_of c

  abbrev stack : List Saved
  stack = stack_of c

  -- ---- places that a choice leads to

  module _ (safe : IsSafe area s at 0 c) where
    abbrev pub Place : ℕ → Type 0
    Place to = IsThread area safe.states s to 0 c.registers c.slots c.returns × (distance area to < distance area at) × StaysInside area at to

    abbrev pub Places : Tried → Type 0
    Places (Both to other) = Place to × Place other
    Places (Last to) = Place to
    Places Other = Unit {0}

    by_name : (i : Code) → Holds area at i → plain_effect area.entries i safe.here.reached.state ≡ Some safe.here.reached.state → (to : ℕ) → IsTrue (has (named area i) to) → Place to
    by_name i f quiet to n = (named_thread area s at c safe i f quiet to n, named_near area safe.states safe.verified at c i f to n, named_inside area s at 0 c safe i f to n)

    by_next : (i : Code) → Holds area at i → plain_effect area.entries i safe.here.reached.state ≡ Some safe.here.reached.state → IsTrue (goes_on i) → Place (suc at)
    by_next i f quiet on = (next_thread area s at c safe i f quiet on, next_near area safe.states safe.verified at c i f on, next_inside area s at 0 c safe i f on)

    -- They are safe, nearer to the code's end, and of the same query.
    pub places_of : (i : Code) → Holds area at i → Places (tried_by i at)
    places_of (TryMeElse o) f = (by_next (TryMeElse o) f refl refl, by_name (TryMeElse o) f refl o (first_member o []))
    places_of (RetryMeElse o) f = (by_next (RetryMeElse o) f refl refl, by_name (RetryMeElse o) f refl o (first_member o []))
    places_of (Try to) f = (by_name (Try to) f refl to (first_member to []), by_next (Try to) f refl refl)
    places_of (Retry to) f = (by_name (Retry to) f refl to (first_member to []), by_next (Retry to) f refl refl)
    places_of TrustMe f = by_next TrustMe f refl refl
    places_of (Trust to) f = by_name (Trust to) f refl to (first_member to [])
    places_of _ f = tt

  -- ---- clauses that a choice tries

  abbrev pub Tries : List ℕ → List ℕ → Naming → Entry → Branch → List Branch → Tried → Type 0
  Tries marks shown name e b kids (Both to other) = TriesBoth INFINITY s.infinity marks area shown name h qs to other e regs stack b kids
  Tries marks shown name e b kids (Last to) = TriesAt marks area shown name s to c e b kids
  Tries marks shown name e b kids Other = Unit {0}

  pub tries_of : (marks : List ℕ) (shown : List ℕ) (name : Naming) (e : Entry) (b : Branch) (kids : List Branch) → TriesAt marks area shown name s at c e b kids
      → (i : Code) → Holds area at i → Tries marks shown name e b kids (tried_by i at)
  tries_of marks shown name e b kids m (TryMeElse o) f = step_try_me_else INFINITY s.infinity marks area shown name h qs at e regs stack b kids m o f
  tries_of marks shown name e b kids m (RetryMeElse o) f = step_retry_me_else INFINITY s.infinity marks area shown name h qs at e regs stack b kids m o f
  tries_of marks shown name e b kids m (Try to) f = step_try INFINITY s.infinity marks area shown name h qs at e regs stack b kids m to f
  tries_of marks shown name e b kids m (Retry to) f = step_retry INFINITY s.infinity marks area shown name h qs at e regs stack b kids m to f
  tries_of marks shown name e b kids m TrustMe f = step_trust_me INFINITY s.infinity marks area shown name h qs at e regs stack b kids m f
  tries_of marks shown name e b kids m (Trust to) f = step_trust INFINITY s.infinity marks area shown name h qs at e regs stack b kids m to f
  tries_of marks shown name e b kids m _ f = tt

  -- ---- what is still to come

  -- Nothing but branches without a model is left out.
  module _ (i : Code) (choice : IsStep i) (f : Holds area at i) where
    pub skipped_runs : (to : ℕ) → LeavesOut area s at c (Some to) → KeepsRunning area s at c s to c
    skipped_runs to out t ls u naming m =
        let now = goes_before INFINITY s.infinity m.marks area t.query.shown t.name h qs at regs stack m.first m.here i choice f in
        let k = out m.marks t.query.shown t.name now.0 now.1 m.first naming now.2 in
        record {
          first = k.kept;
          others = m.others;
          marks = m.marks;
          here = inr (now.0, now.1, k.tries);
          wait = m.wait;
          ahead = ahead_within s.infinity t.program t.query u.budget u.answers [] k.gone (k.kept ++ m.others) u.events u.reductions k.none
              (subst (λ l. Ahead INFINITY s.infinity t.program t.query u.budget u.answers l u.events u.reductions) (ap (λ l. l ++ m.others) k.both ∙ append_assoc k.gone k.kept m.others) m.ahead);
        }

    pub skipped_back : LeavesOut area s at c None → GoesBack area s at c s c
    skipped_back out t ls u naming m =
        let now = goes_before INFINITY s.infinity m.marks area t.query.shown t.name h qs at regs stack m.first m.here i choice f in
        let k = out m.marks t.query.shown t.name now.0 now.1 m.first naming now.2 in
        record {
          others = m.others;
          marks = m.marks;
          wait = m.wait;
          ahead = subst (λ l. Ahead INFINITY s.infinity t.program t.query u.budget u.answers (l ++ m.others) u.events u.reductions) k.tries
              (ahead_within s.infinity t.program t.query u.budget u.answers [] k.gone (k.kept ++ m.others) u.events u.reductions k.none
              (subst (λ l. Ahead INFINITY s.infinity t.program t.query u.budget u.answers l u.events u.reductions) (ap (λ l. l ++ m.others) k.both ∙ append_assoc k.gone k.kept m.others) m.ahead));
        }

    -- the clauses at two places, some of the other one left out
    module _ (to other : ℕ) (is : Both to other ≡ tried_by i at) where
      split_at : (marks : List ℕ) (shown : List ℕ) (name : Naming) (e : Entry) (b : Branch) (kids : List Branch) → TriesAt marks area shown name s at c e b kids
          → TriesBoth INFINITY s.infinity marks area shown name h qs to other e regs stack b kids
      split_at marks shown name e b kids m = subst (Tries marks shown name e b kids) (sym is) (tries_of marks shown name e b kids m i f)

      four : (xs gone kept ys all behind : List Branch) → all ≡ xs ++ behind → behind ≡ gone ++ kept → all ++ ys ≡ xs ++ (gone ++ (kept ++ ys))
      four xs gone kept ys all behind e g = ap (λ l. l ++ ys) (e ∙ ap (λ l. xs ++ l) g) ∙ append_assoc xs (gone ++ kept) ys ∙ ap (λ l. xs ++ l) (append_assoc gone kept ys)

      pub left_runs : (later : ℕ) → LeavesOut area s other c (Some later) → LeavesChoice area s at c (with_pair s) to (record c { points = point_of c later ∷ c.points }) later
      left_runs later out t ls u naming m =
          let now = goes_before INFINITY s.infinity m.marks area t.query.shown t.name h qs at regs stack m.first m.here i choice f in
          let two = split_at m.marks t.query.shown t.name now.0 now.1 m.first now.2 in
          let k = out m.marks t.query.shown t.name now.0 now.1 two.behind naming two.later in
          let ahead = ahead_within s.infinity t.program t.query u.budget u.answers two.before k.gone (k.kept ++ m.others) u.events u.reductions k.none
          (subst (λ l. Ahead INFINITY s.infinity t.program t.query u.budget u.answers l u.events u.reductions) (four two.before k.gone k.kept m.others m.first two.behind two.both k.both) m.ahead) in
          let behind = later_kept INFINITY s.infinity two.before (k.kept ++ m.others) ahead.branches ahead.kept in
          record {
            first = two.before;
            others = k.kept ++ m.others;
            marks = length behind.0 ∷ m.marks;
            here = inr (now.0, now.1, trying_pushed INFINITY s.infinity (length behind.0) m.marks area t.query.shown t.name h qs to now.0 regs stack now.1 two.before two.now);
            wait = (k.kept, m.others, m.marks, behind.0, inr (now.0, now.1, k.tries), m.wait, refl, behind.1, refl);
            ahead = ahead;
          }

      pub alone_runs : LeavesOut area s other c None → KeepsRunning area s at c s to c
      alone_runs out t ls u naming m =
          let now = goes_before INFINITY s.infinity m.marks area t.query.shown t.name h qs at regs stack m.first m.here i choice f in
          let two = split_at m.marks t.query.shown t.name now.0 now.1 m.first now.2 in
          let k = out m.marks t.query.shown t.name now.0 now.1 two.behind naming two.later in
          record {
            first = two.before;
            others = m.others;
            marks = m.marks;
            here = inr (now.0, now.1, two.now);
            wait = m.wait;
            ahead = subst (λ l. Ahead INFINITY s.infinity t.program t.query u.budget u.answers (two.before ++ (l ++ m.others)) u.events u.reductions) k.tries
                (ahead_within s.infinity t.program t.query u.budget u.answers two.before k.gone (k.kept ++ m.others) u.events u.reductions k.none
                (subst (λ l. Ahead INFINITY s.infinity t.program t.query u.budget u.answers l u.events u.reductions)
                (four two.before k.gone k.kept m.others m.first two.behind two.both k.both) m.ahead));
          }

    pub last_runs : (to : ℕ) → Last to ≡ tried_by i at → KeepsRunning area s at c s to c
    last_runs to is t ls u naming m =
        let now = goes_before INFINITY s.infinity m.marks area t.query.shown t.name h qs at regs stack m.first m.here i choice f in
        record {
          first = m.first;
          others = m.others;
          marks = m.marks;
          here = inr (
            now.0,
            now.1,
            subst (Tries m.marks t.query.shown t.name now.0 now.1 m.first) (sym is)
                (tries_of m.marks t.query.shown t.name now.0 now.1 m.first now.2 i f),
          );
          wait = m.wait;
          ahead = m.ahead;
        }

-- ---- one choice after another

module _ (area : Area) (s : branch.State) (from at : ℕ) (c : Contents) (sofar : LeavesOut area s from c (Some at)) (i : Code) (f : Holds area at i) (to : ℕ)
    (safe : IsSafe area s to 0 c) (out : IsRuledOut area s to c) where
  -- a clause that is ruled out, before others
  pub leaves_more : (other : ℕ) → Both to other ≡ tried_by i at → LeavesOut area s from c (Some other)
  leaves_more other is = λ marks shown name e b kids naming m.
      let k = sofar marks shown name e b kids naming m in
      let two = subst (Tries area s at c marks shown name e b k.kept) (sym is) (tries_of area s at c marks shown name e b k.kept k.tries i f) in
      record {
        gone = k.gone ++ two.before;
        kept = two.behind;
        both = k.both ∙ ap (λ l. k.gone ++ l) two.both ∙ sym (append_assoc k.gone two.before two.behind);
        none = gone_both s.infinity k.gone two.before k.none (ruled_out_gone area s to c safe out marks shown name naming e b two.before two.now);
        tries = two.later;
      }

  -- and as the last one
  pub leaves_all : Last to ≡ tried_by i at → LeavesOut area s from c None
  leaves_all is = λ marks shown name e b kids naming m.
      let k = sofar marks shown name e b kids naming m in
      let one = subst (Tries area s at c marks shown name e b k.kept) (sym is) (tries_of area s at c marks shown name e b k.kept k.tries i f) in
      record {
        gone = k.gone ++ k.kept;
        kept = [];
        both = k.both ∙ sym (append-nil (k.gone ++ k.kept));
        none = gone_both s.infinity k.gone k.kept k.none (ruled_out_gone area s to c safe out marks shown name naming e b k.kept one);
        tries = refl;
      }

-- and where no choice stands
pub leaves_here : (area : Area) (s : branch.State) (from at : ℕ) (c : Contents) → LeavesOut area s from c (Some at) → IsSafe area s at 0 c → IsRuledOut area s at c → LeavesOut area s from c None
leaves_here area s from at c sofar safe out = λ marks shown name e b kids naming m.
    let k = sofar marks shown name e b kids naming m in
    record {
      gone = k.gone ++ k.kept;
      kept = [];
      both = k.both ∙ sym (append-nil (k.gone ++ k.kept));
      none = gone_both s.infinity k.gone k.kept k.none (ruled_out_gone area s at c safe out marks shown name naming e b k.kept k.tries);
      tries = refl;
    }

-- and at any place, whatever is tried there
pub leaves_tried : (area : Area) (s : branch.State) (from at : ℕ) (c : Contents) → LeavesOut area s from c (Some at) → (t : Tried) → IsTried area at t
    → IsSafe area s (first_of t at) 0 c → IsRuledOut area s (first_of t at) c → LeavesOut area s from c (behind_of t)
leaves_tried area s from at c sofar (Both to other) is safe out = leaves_more area s from at c sofar is.0 is.1 to safe out other is.2
leaves_tried area s from at c sofar (Last to) is safe out = leaves_all area s from at c sofar is.0 is.1 to safe out is.2
leaves_tried area s from at c sofar Other is safe out = leaves_here area s from at c sofar safe out
