-- How a run ends, from what its last call says.
use Rattle.std.proofs.Common.{◌≡◌, ℕ, ◌+◌, ◌<◌, ◌≤◌, ◌⊎◌, inl, inr, List, [], ◌++◌, length, Option, Some, None, IsSome, refl, ap, sym, subst, ◌∙◌, arith, codes}
use Rattle.std.proofs.Common.{Bool, true, false, true≢false}
use Rattle.std.specs.Prelude.{Result, Ok, Err, IfOk, is_none}
use Rattle.fd_language.specs.declared.NoMemory.{NoMemory as OutOfMemory}
use Rattle.fd_language.specs.declared.TheConstants.{INFINITY}
use Rattle.fd_model.specs.declared.Status.{Status}
use Rattle.fd_model.specs.declared.Status.TheVariants.{Done, Usage, Refused, Stopped, ReadFault, WriteFault, NoMemory}
use Rattle.fd_model.specs.Verdict as model
use Rattle.fd_model.specs.Verdict.{max_text}
use Rattle.fd_model.specs.Output.{Options, Output, TextOutput, VerdictOutput, IsSummary, refusal, usage, is_stop, stop_status}
use Rattle.command_words.specs.declared.Options as command
use Rattle.command_words.specs.Words.{asked, options_of}
use Rattle.byte_ports.specs.Ends.{Ends, SinkState, sink_of}
use Rattle.byte_ports.specs.Ports.{Put, Handed, Took, IsAtEnd, ReadJust, ReadWithin, Rose}
use Rattle.byte_ports.proofs.Lemmas.{handed_none, put_none}
use Rattle.term_pool.specs.Contents.{Contents}
use Rattle.answer_text.specs.declared.reason.Reason.TheVariants.{TooLarge}
use Rattle.text_verdict.specs.declared.judgement.Verdict.{Verdict}
use Rattle.text_verdict.specs.declared.judgement.Verdict.TheVariants as verdict
use Rattle.top_level.specs.Headline.{Headline, IsDecided, IsText, reads_source}
use Rattle.top_level.specs.OutputPieces.{OutputPieces, TextPieces}
use Rattle.text_output.specs.Endings.{Ending}
use Rattle.byte_ports.specs.Lines.{lines_of}
use Rattle.text_output.specs.Pieces.{HandedEnding, VerdictPieces}
use Rattle.text_output.proofs.Lemmas.{no_memory, no_pieces}
use Rattle.text_verdict.specs.Verdicts.{verdict_of, IsVerdictOn}
use Rattle.text_verdict.proofs.Lemmas.{large_verdict}
use Rattle.top_level.proofs.OneOutput.{one_output, verdict_output, large_output}
use Rattle.top_level.proofs.OutputPieces.{of_output, verdict_pieces}
use Rattle.std.specs.List.{concat}
use Rattle.byte_ports.proofs.Lemmas.{whole_text, front_text, just_front, within_front, none_took}

-- ---- verdicts

pub verdict_outputs : (words : List (List ℕ)) (o : command.Options) (text : List ℕ) (v : Result Verdict OutOfMemory) (out : List ℕ) (st : Status)
    → options_of words ≡ Some (asked o) → o.generate ≡ None
    → IfOk v (IsVerdictOn o.infinity text) → Output INFINITY (options_of words) text out st → IfOk v (λ v. VerdictOutput INFINITY o.infinity (verdict_of v) o.steps o.answers out st)
verdict_outputs words o text (Ok v) out st e read h p =
    verdict_output INFINITY (asked o) text (verdict_of v) out st read h.verdict (subst (λ (a : Option Options). Output INFINITY a text out st) e p)
verdict_outputs words o text (Err f) out st e read h p = tt

pub verdicts_pieces : (words : List (List ℕ)) (o : command.Options) (text : List ℕ) (v : Result Verdict OutOfMemory) (ps : List (List ℕ))
    → options_of words ≡ Some (asked o) → o.generate ≡ None
    → IfOk v (IsVerdictOn o.infinity text) → OutputPieces INFINITY (options_of words) text ps → IfOk v (λ v. VerdictPieces INFINITY o.infinity (verdict_of v) o.steps o.answers ps)
verdicts_pieces words o text (Ok v) ps e read h p =
    verdict_pieces INFINITY (asked o) text (verdict_of v) ps read h.verdict (subst (λ (a : Option Options). OutputPieces INFINITY a text ps) e p)
verdicts_pieces words o text (Err f) ps e read h p = tt

pub large_verdicts : (N : ℕ) (text : List ℕ) (v : Result Verdict OutOfMemory) → max_text < length text
    → IfOk v (λ v. (pool : Contents) × (v ≡ verdict.Refused max_text TooLarge pool)) → IfOk v (IsVerdictOn N text)
large_verdicts N text (Ok v) l h = subst (IsVerdictOn N text) (sym h.1) (record { names = tt; verdict = large_verdict INFINITY N text l })
large_verdicts N text (Err e) l h = tt

-- ---- the headline

-- the statuses of an output
decided_stop : (b : Bool) → IsDecided (stop_status b)
decided_stop true = tt
decided_stop false = tt

decided_verdict : (o : Options) (v : model.Verdict) (out : List ℕ) (st : Status) → VerdictOutput INFINITY o.infinity v o.steps o.answers out st → IsDecided st
decided_verdict o (model.refused place reason) out st p = subst IsDecided (sym p.1) tt
decided_verdict o (model.accepted prog) out st p = subst IsDecided (sym p.2) (decided_stop p.0)

decided_text : (o : Options) (size : Option ℕ) (text out : List ℕ) (st : Status) → TextOutput INFINITY o size text out st → IsDecided st
decided_text o None text out st t = decided_verdict o t.0 out st t.2
decided_text o (Some n) text out st s = subst IsDecided (sym s.status) (decided_stop (is_stop s.events))

decided_output : (a : Option Options) (text out : List ℕ) (st : Status) → Output INFINITY a text out st → IsDecided st
decided_output None text out st p = subst IsDecided (sym p.1) tt
decided_output (Some o) text out st p = decided_text o o.generate text out st p

usage_stop : (b : Bool) → stop_status b ≡ Usage → ⊥
usage_stop true e = cc
usage_stop false e = cc

usage_text : (o : Options) (size : Option ℕ) (text out : List ℕ) (st : Status) → TextOutput INFINITY o size text out st → st ≡ Usage → ⊥
usage_text o None text out st t e = by_verdict t.0 t.2
  where
    by_verdict : (v : model.Verdict) → VerdictOutput INFINITY o.infinity v o.steps o.answers out st → ⊥
    by_verdict (model.refused place reason) p = cc (e, p.1)
    by_verdict (model.accepted prog) p = usage_stop p.0 (sym p.2 ∙ e)
usage_text o (Some n) text out st s e = usage_stop (is_stop s.events) (sym s.status ∙ e)

usage_output : (a : Option Options) (text out : List ℕ) (st : Status) → Output INFINITY a text out st → st ≡ Usage → a ≡ None
usage_output None text out st p e = refl
usage_output (Some o) text out st p e = absurd (usage_text o o.generate text out st p e)

-- ---- which words have the source read

pub refused_words : (a : Option Options) → a ≡ None → reads_source a ≡ false
refused_words a e = ap reads_source e

pub source_words : (a : Option Options) (o : Options) → a ≡ Some o → o.generate ≡ None → reads_source a ≡ true
source_words a o e read = ap reads_source e ∙ ap is_none read

size_words : (a : Option Options) (o : Options) (n : ℕ) → a ≡ Some o → o.generate ≡ Some n → reads_source a ≡ false
size_words a o n e size = ap reads_source e ∙ ap is_none size

-- words don't both have the source read and not
pub not_both : {P : Type 0} (a : Option Options) → reads_source a ≡ true → reads_source a ≡ false → P
not_both a r n = absurd (true≢false (sym r ∙ n))

rose_not : (a b : ℕ) → b ≡ a → a < b → ⊥
rose_not a b e l = omega arith

abbrev Told : Type 0
Told = Option (List (List ℕ))

-- with a decided status all pieces were handed over
all_handed : (a b : Told) (st : Status) (ps : List (List ℕ)) → IsDecided st → HandedEnding a b st ps → Handed a b ps
all_handed a b Done ps d h = h
all_handed a b Usage ps d h = h
all_handed a b Refused ps d h = h
all_handed a b Stopped ps d h = h
all_handed a b ReadFault ps d h = h
all_handed a b WriteFault ps d h = absurd d
all_handed a b NoMemory ps d h = absurd d

-- the last call wrote the output of a text of the run
module _ (words : List (List ℕ)) (old new : Ends) (before after : Told) (result : Status) (text : List ℕ) (out : List ℕ) (st : Status)
    (output : Output INFINITY (options_of words) text out st)
    (handed : (ps : List (List ℕ)) → OutputPieces INFINITY (options_of words) text ps → HandedEnding before after result ps) (is : IsText (options_of words) old.left new.left text)
    (kept : new.source_faults ≡ old.source_faults) (rest : (front : List ℕ) × Took old.left new.left front) (whole_read : reads_source (options_of words) ≡ true
    → (result ≡ Done) ⊎ (result ≡ Stopped) → (st ≡ Done) ⊎ (st ≡ Stopped) → IsAtEnd new.left)
    (same : reads_source (options_of words) ≡ false → (new.left ≡ old.left) × (new.source_faults ≡ old.source_faults)) where
  abbrev source_stays : old.source_faults < new.source_faults → ⊥
  source_stays l = rose_not old.source_faults new.source_faults kept l

  source_after : old.source_faults ≤ new.source_faults
  source_after = omega (arith, kept)

  decided : IsDecided st
  decided = decided_output (options_of words) text out st output

  -- its pieces
  abbrev pieces : (ps : List (List ℕ)) × OutputPieces INFINITY (options_of words) text ps × (out ≡ concat ps)
  pieces = of_output INFINITY (options_of words) text out st output

  pub ended : Ending (sink_of old) (sink_of new) result st out → Headline words old new before after result
  ended (inl h) = record {
    whole = λ d. (text, out, pieces.0, st, is, output, pieces.1, pieces.2, (sym h.0, h.1.put, all_handed before after result pieces.0 d (handed pieces.0 pieces.1)));
    cut = λ c. absurd (elim c [ inl e ↦ subst IsDecided (sym h.0 ∙ e) decided | inr e ↦ subst IsDecided (sym h.0 ∙ e) decided ]);
    read_fault = λ e. absurd (subst IsDecided (sym h.0 ∙ e) decided);
    read_told = λ l. absurd (source_stays l);
    write_fault = λ e. absurd (subst IsDecided (sym h.0 ∙ e) decided);
    write_told = λ l. absurd (rose_not old.sink_faults new.sink_faults h.1.faults l);
    no_fault = λ a b. inl (subst IsDecided (sym h.0) decided);
    source_later = source_after;
    sink_later = (let f = h.1.faults in omega (arith, f));
    rest = rest;
    usage_only = λ e. usage_output (options_of words) text out st output (sym h.0 ∙ e);
    untouched = same;
    read_whole = λ r c. whole_read r c (elim c [ inl e ↦ inl (sym h.0 ∙ e) | inr e ↦ inr (sym h.0 ∙ e) ]);
  }
  ended (inr (inl h)) = record {
    whole = λ d. absurd (subst IsDecided h.0 d);
    cut = λ c. (text, out, pieces.0, st, is, output, pieces.1, pieces.2, (h.1.put, subst (λ (s : Status). HandedEnding before after s pieces.0) h.0 (handed pieces.0 pieces.1)));
    read_fault = λ e. absurd (cc (e, h.0));
    read_told = λ l. absurd (source_stays l);
    write_fault = λ e. h.1.rose;
    write_told = λ l. h.0;
    no_fault = λ a b. absurd (b h.1.rose);
    source_later = source_after;
    sink_later = h.1.later;
    rest = rest;
    usage_only = λ e. absurd (cc (e, h.0));
    untouched = same;
    read_whole = λ r c. absurd (elim c [ inl e ↦ (let f : Done ≡ WriteFault = sym e ∙ h.0 in cc) | inr e ↦ (let f : Stopped ≡ WriteFault = sym e ∙ h.0 in cc) ]);
  }
  ended (inr (inr h)) = record {
    whole = λ d. absurd (subst IsDecided h.0 d);
    cut = λ c. (text, out, pieces.0, st, is, output, pieces.1, pieces.2, (h.1.put, subst (λ (s : Status). HandedEnding before after s pieces.0) h.0 (handed pieces.0 pieces.1)));
    read_fault = λ e. absurd (cc (e, h.0));
    read_told = λ l. absurd (source_stays l);
    write_fault = λ e. absurd (cc (e, h.0));
    write_told = λ l. absurd (rose_not old.sink_faults new.sink_faults h.1.faults l);
    no_fault = λ a b. inr h.0;
    source_later = source_after;
    sink_later = (let f = h.1.faults in omega (arith, f));
    rest = rest;
    usage_only = λ e. absurd (cc (e, h.0));
    untouched = same;
    read_whole = λ r c. absurd (elim c [ inl e ↦ (let f : Done ≡ NoMemory = sym e ∙ h.0 in cc) | inr e ↦ (let f : Stopped ≡ NoMemory = sym e ∙ h.0 in cc) ]);
  }

-- nothing was read
module _ (words : List (List ℕ)) (old new : Ends) (before after : Told) (result : Status) (none : reads_source (options_of words) ≡ false)
    (same : new.left ≡ old.left) (count : new.source_faults ≡ old.source_faults) where
  unread : (out : List ℕ) (st : Status) → Output INFINITY (options_of words) [] out st → Ending (sink_of old) (sink_of new) result st out
      → ((ps : List (List ℕ)) → OutputPieces INFINITY (options_of words) [] ps → HandedEnding before after result ps) → Headline words old new before after result
  unread out st output h handed =
      ended words old new before after result [] out st output handed (λ r. not_both (options_of words) r none) count
      (subst (λ (l : Option (List ℕ)). (front : List ℕ) × Took old.left l front) (sym same) (none_took old.left))
      (λ r. not_both (options_of words) r none) (λ n. (same, count)) h

-- refused words
pub with_refused : (words : List (List ℕ)) (old new : Ends) (before after : Told) (result : Status) → options_of words ≡ None → new.left ≡ old.left
    → new.source_faults ≡ old.source_faults → Ending (sink_of old) (sink_of new) result Usage usage → HandedEnding before after result (lines_of usage)
    → Headline words old new before after result
with_refused words old new before after result none same count h handed =
    unread words old new before after result (refused_words (options_of words) none) same count usage Usage
    (subst (λ (a : Option Options). Output INFINITY a [] usage Usage) (sym none) (refl, refl)) h
    (λ ps p. subst (HandedEnding before after result) (sym (subst (λ (a : Option Options). OutputPieces INFINITY a [] ps) none p)) handed)

-- the summary of a generated text was written
pub with_summary : (words : List (List ℕ)) (o : Options) (n : ℕ) (old new : Ends) (before after : Told) (result : Status) → options_of words ≡ Some o → o.generate ≡ Some n
    → new.left ≡ old.left → new.source_faults ≡ old.source_faults
    → ((out : List ℕ) (st : Status) → IsSummary INFINITY n o out st → Ending (sink_of old) (sink_of new) result st out)
    → ((out : List ℕ) (st : Status) → IsSummary INFINITY n o out st → HandedEnding before after result (lines_of out)) → Headline words old new before after result
with_summary words o n old new before after result some size same count h handed =
    let one = one_output INFINITY words [] in
    let output : Output INFINITY (Some o) [] one.0 one.1 = subst (λ (a : Option Options). Output INFINITY a [] one.0 one.1) some one.2 in
    let is : IsSummary INFINITY n o one.0 one.1 = subst (λ (g : Option ℕ). TextOutput INFINITY o g [] one.0 one.1) size output in
    unread words old new before after result (size_words (options_of words) o n some size) same count one.0 one.1 one.2 (h one.0 one.1 is) (λ ps p.
    let t : TextPieces INFINITY o (Some n) [] ps =
    subst (λ (g : Option ℕ). TextPieces INFINITY o g [] ps) size (subst (λ (a : Option Options). OutputPieces INFINITY a [] ps) some p) in
    subst (HandedEnding before after result) (sym t.3) (handed t.0 t.1 t.2))

-- the text was read, and its output written
pub with_read : (words : List (List ℕ)) (o : Options) (old new : Ends) (before after : Told) (result : Status) (text : List ℕ) → options_of words ≡ Some o → o.generate ≡ None
    → Took old.left new.left text → IsAtEnd new.left → new.source_faults ≡ old.source_faults
    → ((out : List ℕ) (st : Status) → Output INFINITY (options_of words) text out st → Ending (sink_of old) (sink_of new) result st out)
    → ((ps : List (List ℕ)) → OutputPieces INFINITY (options_of words) text ps → HandedEnding before after result ps) → Headline words old new before after result
with_read words o old new before after result text some read took end count h handed =
    let one = one_output INFINITY words text in
    ended words old new before after result text one.0 one.1 one.2 handed (λ r s. whole_text old.left new.left text took end s) count (text, took) (λ r c d. end)
    (not_both (options_of words) (source_words (options_of words) o some read)) (h one.0 one.1 one.2)

-- the text was too large
pub with_large : (words : List (List ℕ)) (o : Options) (old new : Ends) (before after : Told) (result : Status) → options_of words ≡ Some o → o.generate ≡ None
    → ReadJust old.left new.left (max_text + 1) → new.source_faults ≡ old.source_faults
    → ((text : List ℕ) → max_text < length text → (out : List ℕ) (st : Status) → Output INFINITY (options_of words) text out st
    → Ending (sink_of old) (sink_of new) result st out)
    → ((text : List ℕ) → max_text < length text → (ps : List (List ℕ)) → OutputPieces INFINITY (options_of words) text ps → HandedEnding before after result ps)
    → Headline words old new before after result
with_large words o old new before after result some read just count h handed =
    let text = front_text old.left new.left (max_text + 1) just in
    let long : max_text < length text.0 = (let l = text.2 in omega (arith, l)) in
    let output = subst (λ (a : Option Options). Output INFINITY a text.0 (refusal max_text (codes "too large")) Refused) (sym some) (large_output INFINITY o text.0 read long) in
    ended words old new before after result text.0 (refusal max_text (codes "too large")) Refused output (handed text.0 long) (λ r s. text.1 s) count (just_front old.left new.left (max_text + 1) just)
    (λ r c d. absurd (elim d [ inl e ↦ (let f : Refused ≡ Done = e in cc) | inr e ↦ (let f : Refused ≡ Stopped = e in cc) ]))
    (not_both (options_of words) (source_words (options_of words) o some read))
    (h text.0 long (refusal max_text (codes "too large")) Refused output)

-- reading failed
pub with_fault : (words : List (List ℕ)) (o : Options) (old new : Ends) (told : Told) → options_of words ≡ Some o → o.generate ≡ None → sink_of new ≡ sink_of old
    → ReadWithin old.left new.left max_text → Rose old.source_faults new.source_faults → old.source_faults ≤ new.source_faults
    → Headline words old new told told ReadFault
with_fault words o old new told some source same read rose later =
    let put : Put old.written new.written [] = subst (λ (s : SinkState). Put old.written s.written []) (sym same) (put_none old.written) in
    let faults : new.sink_faults ≡ old.sink_faults = ap (λ (s : SinkState). s.faults) same in
    record {
      whole = λ d. absurd d;
      cut = λ c. absurd (elim c [ inl e ↦ (let f : ReadFault ≡ WriteFault = e in cc) | inr e ↦ (let f : ReadFault ≡ NoMemory = e in cc) ]);
      read_fault = λ e. (rose, put, handed_none told);
      read_told = λ l. refl;
      write_fault = λ e. absurd (cc);
      write_told = λ l. absurd (rose_not old.sink_faults new.sink_faults faults l);
      no_fault = λ a b. absurd (a rose);
      source_later = later;
      sink_later = omega (arith, faults);
      rest = within_front old.left new.left max_text read;
      usage_only = λ e. absurd (cc);
      untouched = not_both (options_of words) (source_words (options_of words) o some source);
      read_whole = λ r c. absurd (elim c [ inl e ↦ (let f : ReadFault ≡ Done = e in cc) | inr e ↦ (let f : ReadFault ≡ Stopped = e in cc) ]);
    }

left_text : (a b : Option (List ℕ)) (front : List ℕ) → Took a b front → (text : List ℕ) × (IsSome b → a ≡ Some text)
left_text a None front t = ([], λ s. absurd (cc (s)))
left_text a (Some rest) front t = (front ++ rest, λ s. t)

-- memory was wanting after a front of the source was read, or before
short_of_memory : (words : List (List ℕ)) (old new : Ends) (told : Told) → sink_of new ≡ sink_of old → (front : List ℕ) × Took old.left new.left front → new.source_faults ≡ old.source_faults
    → (reads_source (options_of words) ≡ false → (new.left ≡ old.left) × (new.source_faults ≡ old.source_faults)) → Headline words old new told told NoMemory
short_of_memory words old new told same front count untouched =
    let text = left_text old.left new.left front.0 front.1 in
    let one = one_output INFINITY words text.0 in
    ended words old new told told NoMemory text.0 one.0 one.1 one.2 (λ ps p. no_pieces told ps) (λ r s. text.1 s) count front
    (λ r c d. absurd (elim c [ inl e ↦ (let f : NoMemory ≡ Done = e in cc) | inr e ↦ (let f : NoMemory ≡ Stopped = e in cc) ])) untouched
    (subst (λ (s : SinkState). Ending (sink_of old) s NoMemory one.1 one.0) (sym same) (no_memory (sink_of old) one.1 one.0))

-- memory was wanting while reading
pub with_memory : (words : List (List ℕ)) (o : Options) (old new : Ends) (told : Told) → options_of words ≡ Some o → o.generate ≡ None → sink_of new ≡ sink_of old
    → ReadWithin old.left new.left max_text → new.source_faults ≡ old.source_faults → Headline words old new told told NoMemory
with_memory words o old new told some source same read count =
    short_of_memory words old new told same (within_front old.left new.left max_text read) count (not_both (options_of words) (source_words (options_of words) o some source))

-- memory was wanting for the words
pub words_short : (words : List (List ℕ)) (ends : Ends) (told : Told) → Headline words ends ends told told NoMemory
words_short words ends told = short_of_memory words ends ends told refl (none_took ends.left) refl (λ n. (refl, refl))
