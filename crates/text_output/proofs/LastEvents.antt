-- The last events of queries, one after another.
use Rattle.std.proofs.Common.{◌≡◌, ◌⊎◌, ℕ, ◌+◌, Bool, true, false, List, [], ◌∷◌, ◌++◌, length, slice_get, Some, refl, ap, sym, ◌∙◌, subst, inl, inr}
use Rattle.std.proofs.Common.{length-append}
use Rattle.std.specs.Prelude.{◌||◌, Result, Ok, Err, IfOk}
use Rattle.std.specs.List.{list_any}
use Rattle.std.proofs.lemmas.List.Folds.{list_any-append}
use Rattle.fd_language.specs.declared.TheConstants.{INFINITY}
use Rattle.fd_model.specs.Goal.{Event, Program, Query, start_of}
use Rattle.fd_model.specs.Output.{or_stop}
use Rattle.fd_model.specs.Run.{Run}
use Rattle.term_pool.proofs.Lemmas.{pushed_at}
use Rattle.machine_events.specs.declared.Limits.{Limits}
use Rattle.machine_events.specs.declared.MachineEvent.{MachineEvent}
use Rattle.machine_events.specs.Events.{event_of}
use Rattle.branch_meaning.specs.NextEvent.{is_final}
use Rattle.wam_code.specs.Area.{Area}
use Rattle.code_machine.specs.States.{State, MayRun, StandsFor}
use Rattle.text_output.specs.declared.fault.Fault.{Fault}
use Rattle.text_output.specs.Endings.{AreLast, EndsBy, GivesEvent, HasLast, IsNew, LastBy, LastFrom, Reaches, stops}

-- those of the first queries, so many of them
pub record AreSome (area : Area) (limits : Limits) (count : ℕ) (stop : Bool) : Type 0 where
  pub events : List MachineEvent
  pub all : length events ≡ count
  pub last : AreLast area limits events stop

pub none_yet : (area : Area) (limits : Limits) → AreSome area limits 0 false
none_yet area limits = record { events = []; all = refl; last = record { each = λ k e there. absurd (cc (there)); is = refl } }

or_none : (b : Bool) → (b || false) ≡ b
or_none true = refl
or_none false = refl

-- the next query has ended
one_more : (area : Area) (limits : Limits) (count : ℕ) (before here now : Bool) (e : MachineEvent) → AreSome area limits count before
    → EndsBy area count limits e → here ≡ stops e → now ≡ (before || here) → AreSome area limits (count + 1) now
one_more area limits count before here now e some ends is joined = record {
  events = some.events ++ e ∷ [];
  all = length-append some.events (e ∷ []) ∙ ap (λ (n : ℕ). n + 1) some.all;
  last = record {
    each = λ k x there. each k x (pushed_at some.events e x k there);
    is = joined ∙ ap (λ (b : Bool). b || here) some.last.is ∙ ap (λ (b : Bool). list_any stops some.events || b) (is ∙ sym (or_none (stops e))) ∙ sym (list_any-append stops some.events (e ∷ []));
  };
}
  where
    each : (k : ℕ) (x : MachineEvent) → (slice_get some.events k ≡ Some x) ⊎ ((length some.events ≡ k) × (e ≡ x)) → EndsBy area k limits x
    each k x (inl there) = some.last.each k x there
    each k x (inr there) = subst (λ (y : MachineEvent). EndsBy area k limits y) there.1 (subst (λ (n : ℕ). EndsBy area n limits e) (sym some.all ∙ there.0) ends)

or_same : (a b : Bool) → or_stop a b ≡ (a || b)
or_same true b = refl
or_same false b = refl

-- the next query has ended, which runs over the same code
pub next_last : (area shared : Area) → shared ≡ area → (limits : Limits) (count : ℕ) (before here now : Bool) → AreSome area limits count before
    → LastBy shared count limits here → now ≡ or_stop before here → AreSome area limits (count + 1) now
next_last area shared same limits count before here now some last joined =
    one_more area limits count before here now last.0 some (subst (λ (a : Area). EndsBy a count limits last.0) same last.1) last.2 (joined ∙ or_same before here)

-- all queries have ended
pub all_last : (area : Area) (limits : Limits) (count : ℕ) (stop : Bool) → count ≡ length area.queries → AreSome area limits count stop → HasLast area limits stop
all_last area limits count stop e some = (some.events, some.all ∙ e, some.last)

-- ---- one query

-- one event more, and not the last one
pub reach_more : (a b c : State) (es : List MachineEvent) (e : MachineEvent) → Reaches a es b → GivesEvent b e c → is_final (event_of [] e) ≡ false → Reaches a (es ++ e ∷ []) c
reach_more a b c [] e h g more = subst (λ (m : State). Reaches m (e ∷ []) c) h (c, g, more, refl)
reach_more a b c (x ∷ es) e h g more = (h.0, h.1, h.2, reach_more h.0 b c es e h.3 g more)

-- the machine that was made for it has come to its end
pub last_of : (r : Result Bool Fault) (area : Area) (number : ℕ) (limits : Limits) (m : State) → IsNew area number limits m → IfOk r (LastFrom m) → IfOk r (LastBy area number limits)
last_of (Ok stopped) area number limits m made h = (h.0, (m, made, h.1), h.2)
last_of (Err f) area number limits m made h = tt

-- what `Machine::new` gives, where its code has the area
pub is_new : {E : Type 0} (r : Result State E) (shared area : Area) → shared ≡ area → (number : ℕ) (limits : Limits)
    → IfOk r (λ m. (m.area ≡ shared) × (m.query ≡ number)) → IfOk r (λ m. (m.limits ≡ limits) × (m.answers ≡ 0)) → IfOk r (λ m. m.spent ≡ 0) → IfOk r (λ m. m.lost ≡ false)
    → IfOk r (λ m. (prog : Program) (q : Query) → MayRun m.area number prog q → (es : List Event) (total : ℕ)
    → Run INFINITY limits.infinity prog q limits.steps limits.answers (start_of q ∷ []) es total → StandsFor m es total)
    → IfOk r (IsNew area number limits)
is_new (Ok m) shared area same number limits code limit spent whole stands = record {
  own = (code.0 ∙ same, code.1, limit.0);
  unspent = (spent, limit.1, whole);
  stands = λ es total h. stands h.0 h.1 (subst (λ (a : Area). MayRun a number h.0 h.1) (sym (code.0 ∙ same)) h.2) es total h.3;
}
is_new (Err e) shared area same number limits code limit spent whole stands = tt
