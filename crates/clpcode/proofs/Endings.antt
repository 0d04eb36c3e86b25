-- How a run ends, from what its last call says.
use Rattle.std.proofs.Common.{◌≡◌, ℕ, ◌<◌, ◌≤◌, ◌⊎◌, inl, inr, List, [], Option, Some, None, refl, ap, sym, subst, ◌∙◌, arith, Bool, true, false}
use Rattle.fd_model.specs.declared.Status.{Status}
use Rattle.fd_model.specs.declared.Status.TheVariants.{Done, Usage, Refused, Stopped, ReadFault, WriteFault, NoMemory}
use Rattle.fd_model.specs.Output.{stop_status}
use Rattle.fd_model.specs.Verdict as model
use Rattle.byte_ports.specs.Ends.{Ends, SinkState, sink_of}
use Rattle.byte_ports.specs.Ports.{Took, Rose}
use Rattle.text_output.specs.Endings.{Ending}
use Rattle.text_output.proofs.Lemmas.{no_memory}
use Rattle.listing_loader.specs.declared.fault.LoadFault.{LoadFault}
use Rattle.listing_loader.specs.declared.fault.LoadFault.TheVariants as why
use Rattle.clpcode.specs.declared.command.Task.{Task}
use Rattle.clpcode.specs.declared.command.Task.TheVariants.{List as ListIt, Load}
use Rattle.clpcode.specs.Words.{task_of}
use Rattle.clpcode.specs.Lines.{usage}
use Rattle.clpcode.specs.Headline.{Headline, Answers, Lists, ListsVerdict, Loads, Refuses, RefusesFault, Runs, IsText, IsUnanswered, IsWhole}
use Rattle.clpcode.specs.Parts.{IsShort}
use Rattle.byte_ports.proofs.Lemmas.{none_took}

-- ---- some output is given for each text

record GivesSome (Gives : Status → List ℕ → Type 0) : Type 0 where
  pub out : List ℕ
  pub status : Status
  pub whole : IsWhole status
  pub asked : status ≡ Usage → ⊥
  pub gives : Gives status out

module _ (Gives : Status → List ℕ → Type 0) where
  some_refused : (out : List ℕ) → Gives Refused out → GivesSome Gives
  some_refused out h = record { out = out; status = Refused; whole = tt; asked = λ e. absurd (cc (e)); gives = h }

  some_stopped : (out : List ℕ) (stop : Bool) → Gives (stop_status stop) out → GivesSome Gives
  some_stopped out true h = record { out = out; status = Stopped; whole = tt; asked = λ e. absurd (cc (e)); gives = h }
  some_stopped out false h = record { out = out; status = Done; whole = tt; asked = λ e. absurd (cc (e)); gives = h }

  some_verdict : (v : model.Verdict) → ListsVerdict Gives v → GivesSome Gives
  some_verdict (model.refused place reason) h = some_refused _ h
  some_verdict (model.accepted prog) h = some_stopped h.0 false h.4

  some_fault : (f : LoadFault) → RefusesFault Gives f → GivesSome Gives
  some_fault (why.BadLine n) h = some_refused _ h
  some_fault (why.BadNumber n) h = some_refused _ h
  some_fault (why.BadRange n) h = some_refused _ h
  some_fault (why.NotVerified n) h = some_refused _ h
  some_fault why.NoMemory h = absurd h

  some_loaded : (result : Status) (text : List ℕ) → Loads Gives result text → GivesSome Gives
  some_loaded result text (inl h) = some_refused _ h.1
  some_loaded result text (inr h) = elim h.1 [ inl r ↦ some_fault r.fault r.line | inr r ↦ some_stopped r.output.0 r.output.1 r.output.2 ]

  some_answer : (t : Task) (result : Status) (text : List ℕ) → Answers t Gives result text → GivesSome Gives
  some_answer ListIt result text h = some_verdict h.0 h.2
  some_answer Load result text h = some_loaded result text h

-- ---- counts of faults

record Counts (old new : Ends) (result : Status) : Type 0 where
  pub read_fault : result ≡ ReadFault → Rose old.source_faults new.source_faults × (sink_of new ≡ sink_of old)
  pub read_told : old.source_faults < new.source_faults → result ≡ ReadFault
  pub write_fault : result ≡ WriteFault → Rose old.sink_faults new.sink_faults
  pub write_told : old.sink_faults < new.sink_faults → result ≡ WriteFault
  pub no_fault : ¬ Rose old.source_faults new.source_faults → ¬ Rose old.sink_faults new.sink_faults → IsWhole result ⊎ (result ≡ NoMemory)
  pub source_later : old.source_faults ≤ new.source_faults
  pub sink_later : old.sink_faults ≤ new.sink_faults

rose_not : (a b : ℕ) → b ≡ a → a < b → ⊥
rose_not a b e l = omega arith

counts_of : (old new : Ends) (result st : Status) (out : List ℕ) → IsWhole st → new.source_faults ≡ old.source_faults → Ending (sink_of old) (sink_of new) result st out → Counts old new result
counts_of old new result st out whole kept (inl h) =
    let faults = h.1.faults in record {
      read_fault = λ e. absurd (subst IsWhole (sym h.0 ∙ e) whole);
      read_told = λ l. absurd (rose_not old.source_faults new.source_faults kept l);
      write_fault = λ e. absurd (subst IsWhole (sym h.0 ∙ e) whole);
      write_told = λ l. absurd (rose_not old.sink_faults new.sink_faults faults l);
      no_fault = λ a b. inl (subst IsWhole (sym h.0) whole);
      source_later = omega (arith, kept);
      sink_later = omega (arith, faults);
    }
counts_of old new result st out whole kept (inr (inl h)) = record {
  read_fault = λ e. absurd (cc (e, h.0));
  read_told = λ l. absurd (rose_not old.source_faults new.source_faults kept l);
  write_fault = λ e. h.1.rose;
  write_told = λ l. h.0;
  no_fault = λ a b. absurd (b h.1.rose);
  source_later = omega (arith, kept);
  sink_later = h.1.later;
}
counts_of old new result st out whole kept (inr (inr h)) =
    let faults = h.1.faults in record {
      read_fault = λ e. absurd (cc (e, h.0));
      read_told = λ l. absurd (rose_not old.source_faults new.source_faults kept l);
      write_fault = λ e. absurd (cc (e, h.0));
      write_told = λ l. absurd (rose_not old.sink_faults new.sink_faults faults l);
      no_fault = λ a b. inr h.0;
      source_later = omega (arith, kept);
      sink_later = omega (arith, faults);
    }

counts_short : (old new : Ends) (result : Status) → new.source_faults ≡ old.source_faults → IsShort (sink_of old) (sink_of new) result → Counts old new result
counts_short old new result kept short =
    counts_of old new result Done [] tt kept (subst (λ (r : Status). Ending (sink_of old) (sink_of new) r Done []) (sym short.0)
    (subst (λ (s : SinkState). Ending (sink_of old) s NoMemory Done []) (sym short.1) (no_memory (sink_of old) Done [])))

counts_fault : (old new : Ends) → sink_of new ≡ sink_of old → Rose old.source_faults new.source_faults → old.source_faults ≤ new.source_faults → Counts old new ReadFault
counts_fault old new same rose later =
    let faults : new.sink_faults ≡ old.sink_faults = ap (λ (s : SinkState). s.faults) same in record {
      read_fault = λ e. (rose, same);
      read_told = λ l. refl;
      write_fault = λ e. absurd (cc (e));
      write_told = λ l. absurd (rose_not old.sink_faults new.sink_faults faults l);
      no_fault = λ a b. absurd (a rose);
      source_later = later;
      sink_later = omega (arith, faults);
    }

not_usage : (a b : SinkState) (result st : Status) (out : List ℕ) → (st ≡ Usage → ⊥) → Ending a b result st out → result ≡ Usage → ⊥
not_usage a b result st out other (inl h) e = other (sym h.0 ∙ e)
not_usage a b result st out other (inr (inl h)) e = cc (e, h.0)
not_usage a b result st out other (inr (inr h)) e = cc (e, h.0)

-- ---- the headline

not_both : {P : Type 0} (words : List (List ℕ)) (t : Task) → task_of words ≡ Some t → task_of words ≡ None → P
not_both words t e f = absurd (let g : Some t ≡ None = sym e ∙ f in cc (g))

-- refused words
pub with_usage : (words : List (List ℕ)) (old new : Ends) (result : Status) → task_of words ≡ None → new.left ≡ old.left → new.source_faults ≡ old.source_faults
    → Ending (sink_of old) (sink_of new) result Usage usage → Headline words old new result
with_usage words old new result none same kept h =
    let k = counts_of old new result Usage usage tt kept h in record {
      usage = λ e. h;
      untouched = λ e. (same, kept);
      usage_only = λ e. none;
      answers = λ t e. not_both words t e none;
      read_fault = k.read_fault;
      read_told = k.read_told;
      write_fault = k.write_fault;
      write_told = k.write_told;
      no_fault = k.no_fault;
      source_later = k.source_later;
      sink_later = k.sink_later;
      rest = subst (λ (l : Option (List ℕ)). (front : List ℕ) × Took old.left l front) (sym same) (none_took old.left);
    }

module _ (words : List (List ℕ)) (t : Task) (asks : task_of words ≡ Some t) (old new : Ends) (result : Status) (rest : (front : List ℕ) × Took old.left new.left front) where
  headline : (result ≡ Usage → ⊥) → (IsUnanswered old new result
      ⊎ ((text : List ℕ) × IsText old new text × Answers t (Ending (sink_of old) (sink_of new) result) result text)) → Counts old new result
      → Headline words old new result
  headline other answers k = record {
    usage = λ e. not_both words t asks e;
    untouched = λ e. not_both words t asks e;
    usage_only = λ e. absurd (other e);
    answers = λ u e. subst (λ (x : Task). IsUnanswered old new result
        ⊎ ((text : List ℕ) × IsText old new text × Answers x (Ending (sink_of old) (sink_of new) result) result text))
        (let f : Some t ≡ Some u = sym asks ∙ e in let g : t ≡ u = cc (f) in g) answers;
    read_fault = k.read_fault;
    read_told = k.read_told;
    write_fault = k.write_fault;
    write_told = k.write_told;
    no_fault = k.no_fault;
    source_later = k.source_later;
    sink_later = k.sink_later;
    rest = rest;
  }

  -- memory was wanting before the first byte was written
  pub with_short : new.source_faults ≡ old.source_faults → IsShort (sink_of old) (sink_of new) result → Headline words old new result
  with_short kept short = headline (λ e. absurd (let f : NoMemory ≡ Usage = sym short.0 ∙ e in cc (f))) (inl (record { status = inr short.0; sink = short.1 })) (counts_short old new result kept short)

  -- what was asked for was written, or a front of it
  pub with_answer : (text : List ℕ) → IsText old new text → new.source_faults ≡ old.source_faults → Answers t (Ending (sink_of old) (sink_of new) result) result text → Headline words old new result
  with_answer text is kept h =
      let s = some_answer (Ending (sink_of old) (sink_of new) result) t result text h in
      headline (not_usage (sink_of old) (sink_of new) result s.status s.out s.asked s.gives) (inr (text, is, h)) (counts_of old new result s.status s.out s.whole kept s.gives)

  -- either
  pub with_read : (text : List ℕ) → IsText old new text → new.source_faults ≡ old.source_faults
      → IsShort (sink_of old) (sink_of new) result ⊎ Answers t (Ending (sink_of old) (sink_of new) result) result text → Headline words old new result
  with_read text is kept (inl h) = with_short kept h
  with_read text is kept (inr h) = with_answer text is kept h

-- reading failed
pub with_fault : (words : List (List ℕ)) (t : Task) (asks : task_of words ≡ Some t) (old new : Ends) (rest : (front : List ℕ) × Took old.left new.left front)
    → sink_of new ≡ sink_of old → Rose old.source_faults new.source_faults → old.source_faults ≤ new.source_faults → Headline words old new ReadFault
with_fault words t asks old new rest same rose later =
    headline words t asks old new ReadFault rest (λ e. absurd (cc (e))) (inl (record { status = inl (refl, rose); sink = same })) (counts_fault old new same rose later)
