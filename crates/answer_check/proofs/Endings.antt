-- How a check ends, from what its last call says.
use Rattle.std.proofs.Common.{◌≡◌, ℕ, ◌+◌, ◌<◌, ◌≤◌, ◌⊎◌, inl, inr, List, [], ◌∷◌, ◌++◌, map, length, Option, refl, ap, sym, subst, ◌∙◌}
use Rattle.std.proofs.Common.{arith, codes, Bool, true, false}
use Rattle.std.specs.Prelude.{is_none, ◌&&◌}
use Rattle.std.specs.List.{list_all}
use Rattle.fd_language.specs.declared.TheConstants.{INFINITY}
use Rattle.fd_model.specs.Verdict.{max_text}
use Rattle.byte_ports.specs.Ends.{Ends, SinkState, sink_of}
use Rattle.byte_ports.specs.Ports.{Put, Took, IsAtEnd, ReadJust, ReadWithin, Rose}
use Rattle.byte_ports.proofs.Lemmas.{put_none}
use Rattle.answer_check.specs.declared.outcome.CheckStatus.{CheckStatus}
use Rattle.answer_check.specs.declared.outcome.CheckStatus.TheVariants.{Good, Bad, Usage, Refused, ReadFault, WriteFault, NoMemory}
use Rattle.answer_check.specs.Headline.{IsDecided, usage, CheckOutput, IsInput, Ending, Headline}
use Rattle.answer_check.specs.Inputs.{Checks, PutsRefusal}
use Rattle.answer_check.specs.Judgement.{Judgement, refused, judged, is_in_order, good_status, judgement_output, judgement_status}
use Rattle.byte_ports.proofs.Lemmas.{whole_text, front_text, just_front, within_front, none_took}

-- ---- the statuses of an output

good_decided : (b : Bool) → IsDecided (good_status b)
good_decided true = tt
good_decided false = tt

decided_judgement : (j : Judgement) → IsDecided (judgement_status j)
decided_judgement (refused place reason) = tt
decided_judgement (judged vs v) = good_decided (list_all is_none vs && is_in_order v)

decided_output : (words : List (List ℕ)) (input out : List ℕ) (st : CheckStatus) → CheckOutput INFINITY words input out st → IsDecided st
decided_output [] input out st p = subst IsDecided (sym p.3) (decided_judgement p.0)
decided_output (w ∷ ws) input out st p = subst IsDecided (sym p.1) tt

good_usage : (b : Bool) → good_status b ≡ Usage → ⊥
good_usage true e = cc
good_usage false e = cc

judgement_usage : (j : Judgement) → judgement_status j ≡ Usage → ⊥
judgement_usage (refused place reason) e = cc
judgement_usage (judged vs v) e = good_usage (list_all is_none vs && is_in_order v) e

usage_output : (words : List (List ℕ)) (input out : List ℕ) (st : CheckStatus) → CheckOutput INFINITY words input out st → st ≡ Usage → words ≡ [] → ⊥
usage_output [] input out st p e w = judgement_usage p.0 (sym p.3 ∙ e)
usage_output (v ∷ ws) input out st p e w = cc (w)

rose_not : (a b : ℕ) → b ≡ a → a < b → ⊥
rose_not a b e l = omega (arith, e)

-- ---- the headline

-- the last call wrote the output of an input
module _ (words : List (List ℕ)) (old new : Ends) (result : CheckStatus) (input out : List ℕ) (st : CheckStatus)
    (output : CheckOutput INFINITY words input out st) (is : IsInput words old.left new.left input)
    (kept : new.source_faults ≡ old.source_faults) (rest : (front : List ℕ) × Took old.left new.left front) (end : (st ≡ Good) ⊎ (st ≡ Bad) → IsAtEnd new.left)
    (same : (words ≡ [] → ⊥) → (new.left ≡ old.left) × (new.source_faults ≡ old.source_faults)) where
  decided : IsDecided st
  decided = decided_output words input out st output

  pub ended : Ending (sink_of old) (sink_of new) result st out → Headline words old new result
  ended (inl h) = record {
    whole = λ d. (input, out, is, subst (CheckOutput INFINITY words input out) (sym h.0) output, h.1.put);
    cut = λ e. absurd (subst IsDecided (sym h.0 ∙ e) decided);
    short = λ e. absurd (subst IsDecided (sym h.0 ∙ e) decided);
    read_fault = λ e. absurd (subst IsDecided (sym h.0 ∙ e) decided);
    read_told = λ l. absurd (rose_not old.source_faults new.source_faults kept l);
    write_fault = λ e. absurd (subst IsDecided (sym h.0 ∙ e) decided);
    write_told = λ l. absurd (rose_not old.sink_faults new.sink_faults h.1.faults l);
    no_fault = λ a b. inl (subst IsDecided (sym h.0) decided);
    source_later = omega (arith, kept);
    sink_later = (let f = h.1.faults in omega (arith, f));
    rest = rest;
    usage_only = λ e. usage_output words input out st output (sym h.0 ∙ e);
    untouched = same;
    read_whole = λ c. end (elim c [ inl e ↦ inl (sym h.0 ∙ e) | inr e ↦ inr (sym h.0 ∙ e) ]);
  }
  ended (inr (inl h)) = record {
    whole = λ d. absurd (subst IsDecided h.0 d);
    cut = λ e. (input, out, st, is, output, h.1.put);
    short = λ e. absurd (let f : WriteFault ≡ NoMemory = sym h.0 ∙ e in cc);
    read_fault = λ e. absurd (let f : WriteFault ≡ ReadFault = sym h.0 ∙ e in cc);
    read_told = λ l. absurd (rose_not old.source_faults new.source_faults kept l);
    write_fault = λ e. h.1.rose;
    write_told = λ l. h.0;
    no_fault = λ a b. absurd (b h.1.rose);
    source_later = omega (arith, kept);
    sink_later = h.1.later;
    rest = rest;
    usage_only = λ e. absurd (let f : WriteFault ≡ Usage = sym h.0 ∙ e in cc);
    untouched = same;
    read_whole = λ c. absurd (elim c [ inl e ↦ (let f : Good ≡ WriteFault = sym e ∙ h.0 in cc) | inr e ↦ (let f : Bad ≡ WriteFault = sym e ∙ h.0 in cc) ]);
  }
  ended (inr (inr h)) = record {
    whole = λ d. absurd (subst IsDecided h.0 d);
    cut = λ e. absurd (let f : NoMemory ≡ WriteFault = sym h.0 ∙ e in cc);
    short = λ e. inr (input, out, st, is, output, h.1.put);
    read_fault = λ e. absurd (let f : NoMemory ≡ ReadFault = sym h.0 ∙ e in cc);
    read_told = λ l. absurd (rose_not old.source_faults new.source_faults kept l);
    write_fault = λ e. absurd (let f : NoMemory ≡ WriteFault = sym h.0 ∙ e in cc);
    write_told = λ l. absurd (rose_not old.sink_faults new.sink_faults h.1.faults l);
    no_fault = λ a b. inr h.0;
    source_later = omega (arith, kept);
    sink_later = (let f = h.1.faults in omega (arith, f));
    rest = rest;
    usage_only = λ e. absurd (let f : NoMemory ≡ Usage = sym h.0 ∙ e in cc);
    untouched = same;
    read_whole = λ c. absurd (elim c [ inl e ↦ (let f : Good ≡ NoMemory = sym e ∙ h.0 in cc) | inr e ↦ (let f : Bad ≡ NoMemory = sym e ∙ h.0 in cc) ]);
  }

-- any word has the usage line
words_output : (words : List (List ℕ)) → (words ≡ [] → ⊥) → CheckOutput INFINITY words [] usage Usage
words_output [] h = absurd (h refl)
words_output (w ∷ ws) h = (refl, refl)

pub with_words : (words : List (List ℕ)) (old new : Ends) (result : CheckStatus) → (words ≡ [] → ⊥) → new.left ≡ old.left
    → new.source_faults ≡ old.source_faults → Ending (sink_of old) (sink_of new) result Usage usage → Headline words old new result
with_words words old new result some same count h =
    ended words old new result [] usage Usage (words_output words some) (λ w. absurd (some w)) count
    (subst (λ (l : Option (List ℕ)). (front : List ℕ) × Took old.left l front) (sym same) (none_took old.left))
    (λ c. absurd (elim c [ inl e ↦ (let f : Usage ≡ Good = e in cc) | inr e ↦ (let f : Usage ≡ Bad = e in cc) ])) (λ n. (same, count)) h

-- nothing was written
module _ (words : List (List ℕ)) (old new : Ends) (none : words ≡ []) (same : sink_of new ≡ sink_of old)
    (rest : (front : List ℕ) × Took old.left new.left front) (later : old.source_faults ≤ new.source_faults) where
  put : Put old.written new.written []
  put = subst (λ (s : SinkState). Put old.written s.written []) (sym same) (put_none old.written)

  faults : new.sink_faults ≡ old.sink_faults
  faults = ap (λ (s : SinkState). s.faults) same

  -- memory was wanting
  pub ran_short : new.source_faults ≡ old.source_faults → Headline words old new NoMemory
  ran_short kept = record {
    whole = λ d. absurd d;
    cut = λ e. absurd (let f : NoMemory ≡ WriteFault = e in cc);
    short = λ e. inl put;
    read_fault = λ e. absurd (let f : NoMemory ≡ ReadFault = e in cc);
    read_told = λ l. absurd (rose_not old.source_faults new.source_faults kept l);
    write_fault = λ e. absurd (let f : NoMemory ≡ WriteFault = e in cc);
    write_told = λ l. absurd (rose_not old.sink_faults new.sink_faults faults l);
    no_fault = λ a b. inr refl;
    source_later = later;
    sink_later = omega (arith, faults);
    rest = rest;
    usage_only = λ e. absurd (let f : NoMemory ≡ Usage = e in cc);
    untouched = λ n. absurd (n none);
    read_whole = λ c. absurd (elim c [ inl e ↦ (let f : NoMemory ≡ Good = e in cc) | inr e ↦ (let f : NoMemory ≡ Bad = e in cc) ]);
  }

  -- a read failed
  pub read_failed : Rose old.source_faults new.source_faults → Headline words old new ReadFault
  read_failed rose = record {
    whole = λ d. absurd d;
    cut = λ e. absurd (let f : ReadFault ≡ WriteFault = e in cc);
    short = λ e. absurd (let f : ReadFault ≡ NoMemory = e in cc);
    read_fault = λ e. (rose, put);
    read_told = λ l. refl;
    write_fault = λ e. absurd (let f : ReadFault ≡ WriteFault = e in cc);
    write_told = λ l. absurd (rose_not old.sink_faults new.sink_faults faults l);
    no_fault = λ a b. absurd (a rose);
    source_later = later;
    sink_later = omega (arith, faults);
    rest = rest;
    usage_only = λ e. absurd (let f : ReadFault ≡ Usage = e in cc);
    untouched = λ n. absurd (n none);
    read_whole = λ c. absurd (elim c [ inl e ↦ (let f : ReadFault ≡ Good = e in cc) | inr e ↦ (let f : ReadFault ≡ Bad = e in cc) ]);
  }

-- the judgement of an input was written, or memory was wanting before
checked : (words : List (List ℕ)) (old new : Ends) (result : CheckStatus) (input : List ℕ) → words ≡ [] → IsInput words old.left new.left input
    → new.source_faults ≡ old.source_faults → (front : List ℕ) × Took old.left new.left front → IsAtEnd new.left
    → Checks (sink_of old) (sink_of new) result input → Headline words old new result
checked words old new result input none is count rest end (inl c) =
    ended words old new result input (judgement_output c.0) (judgement_status c.0)
    (subst (λ (ws : List (List ℕ)). CheckOutput INFINITY ws input (judgement_output c.0) (judgement_status c.0)) (sym none) (c.0, c.1, refl, refl))
    is count rest (λ x. end) (λ n. absurd (n none)) c.2
checked words old new result input none is count rest end (inr p) =
    subst (Headline words old new) (sym p.0) (ran_short words old new none p.1 rest (omega (arith, count)) count)

-- the input was read to its end
pub with_read : (words : List (List ℕ)) (old new : Ends) (result : CheckStatus) (input : List ℕ) → words ≡ [] → Took old.left new.left input → IsAtEnd new.left → new.source_faults ≡ old.source_faults
    → Checks (sink_of old) (sink_of new) result input → Headline words old new result
with_read words old new result input none took end count c = checked words old new result input none (λ w s. whole_text old.left new.left input took end s) count (input, took) end c

-- it was too large
pub with_large : (words : List (List ℕ)) (old new : Ends) (result : CheckStatus) → words ≡ [] → ReadJust old.left new.left (max_text + 1) → new.source_faults ≡ old.source_faults
    → PutsRefusal (sink_of old) (sink_of new) result max_text (codes "too large") → Headline words old new result
with_large words old new result none just count h =
    let text = front_text old.left new.left (max_text + 1) just in
    let long : max_text < length text.0 = (let l = text.2 in omega (arith, l)) in
    let j : Judgement = refused max_text (codes "too large") in
    ended words old new result text.0 (judgement_output j) (judgement_status j)
    (subst (λ (ws : List (List ℕ)). CheckOutput INFINITY ws text.0 (judgement_output j) (judgement_status j)) (sym none) (j, inl (long, refl), refl, refl))
    (λ w s. text.1 s) count (just_front old.left new.left (max_text + 1) just)
    (λ c. absurd (elim c [ inl e ↦ (let f : Refused ≡ Good = e in cc) | inr e ↦ (let f : Refused ≡ Bad = e in cc) ])) (λ n. absurd (n none)) h

-- reading failed
pub with_fault : (words : List (List ℕ)) (old new : Ends) → words ≡ [] → sink_of new ≡ sink_of old → ReadWithin old.left new.left max_text
    → Rose old.source_faults new.source_faults → old.source_faults ≤ new.source_faults → Headline words old new ReadFault
with_fault words old new none same read rose later = read_failed words old new none same (within_front old.left new.left max_text read) later rose

-- memory was wanting while reading
pub with_memory : (words : List (List ℕ)) (old new : Ends) → words ≡ [] → sink_of new ≡ sink_of old → ReadWithin old.left new.left max_text
    → new.source_faults ≡ old.source_faults → Headline words old new NoMemory
with_memory words old new none same read count = ran_short words old new none same (within_front old.left new.left max_text read) (omega (arith, count)) count

-- words by their bytes
pub no_words : {A B : Type 0} (f : A → B) (xs : List A) → xs ≡ [] → map f xs ≡ []
no_words f xs e = ap (map f) e

pub some_words : {A B : Type 0} (f : A → B) (xs : List A) → (xs ≡ [] → ⊥) → map f xs ≡ [] → ⊥
some_words f [] h e = h refl
some_words f (x ∷ xs) h e = cc (e)
