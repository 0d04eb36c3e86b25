-- What is written for a text, from what its parts say.
use Rattle.std.proofs.Common.{◌≡◌, ℕ, ◌<◌, ◌≤◌, ◌⊎◌, inl, inr, List, Bool, length, Option, Some, None, refl, ap, sym, subst, ◌∙◌, codes}
use Rattle.std.specs.Prelude.{Result, Ok, Err, IfOk}
use Rattle.fd_language.specs.declared.NoMemory.{NoMemory as OutOfMemory}
use Rattle.fd_language.specs.declared.TheConstants.{INFINITY}
use Rattle.fd_model.specs.Goal.{Program}
use Rattle.fd_model.specs.declared.Status.{Status}
use Rattle.fd_model.specs.declared.Status.TheVariants.{Refused}
use Rattle.fd_model.specs.Output.{Queries, VerdictOutput, refusal, stop_status}
use Rattle.fd_model.specs.Verdict as model
use Rattle.fd_model.specs.Verdict.{max_text}
use Rattle.term_pool.specs.Contents.{Contents}
use Rattle.answer_text.specs.declared.reason.Reason.TheVariants.{TooLarge}
use Rattle.text_verdict.specs.declared.judgement.Verdict.{Verdict}
use Rattle.text_verdict.specs.declared.judgement.Verdict.TheVariants as verdict
use Rattle.text_verdict.specs.Verdicts.{verdict_of}
use Rattle.text_output.specs.Endings.{RunsProgram, HasLast}
use Rattle.code_listing.specs.Listing.{listing, IsSameCode}
use Rattle.code_listing.specs.Sheets.{Listed}
use Rattle.listing_loader.specs.declared.fault.LoadFault.{LoadFault}
use Rattle.listing_loader.specs.declared.fault.LoadFault.TheVariants as why
use Rattle.listing_loader.specs.LoadedCode.{IsHeld, IsLoadFault}
use Rattle.listing_laws.proofs.Lemmas.{same_listing}
use Rattle.clpcode.specs.declared.command.Task.{Task}
use Rattle.clpcode.specs.declared.command.Task.TheVariants.{List as ListIt, Load}
use Rattle.clpcode.specs.Headline.{limits, Answers, Refuses, RefusesFault, Runs}

-- ---- refused texts

-- a text that is too large
pub large : (t : Task) (Gives : Status → List ℕ → Type 0) (result : Status) (text : List ℕ) → max_text < length text
    → Gives Refused (refusal max_text (codes "too large")) → Answers t Gives result text
large ListIt Gives result text long h = (model.refused max_text (codes "too large"), inl (long, refl), h)
large Load Gives result text long h = inl (long, h)

pub large_output : (v : Result Verdict OutOfMemory) → IfOk v (λ v. (pool : Contents) × (v ≡ verdict.Refused max_text TooLarge pool))
    → IfOk v (λ v. VerdictOutput INFINITY INFINITY (verdict_of v) limits.steps limits.answers (refusal max_text (codes "too large")) Refused)
large_output (Ok v) h = subst (λ (v : Verdict). VerdictOutput INFINITY INFINITY (verdict_of v) limits.steps limits.answers (refusal max_text (codes "too large")) Refused) (sym h.1) (refl, refl)
large_output (Err e) h = tt

-- ---- loaded texts

-- Each code with the text as its listing stands for the same programs as the loaded one.
pub runs_loaded : (Gives : Status → List ℕ → Type 0) (result : Status) (text : List ℕ) (m : Listed) → IsHeld m → listing m.area m.states ≡ text
    → ((l : Listed) → IsHeld l → listing l.area l.states ≡ text → IsSameCode l.area m.area)
    → ((prog : Program) (out : List ℕ) (stop : Bool) → RunsProgram m.area prog
    → Queries INFINITY limits.infinity prog limits.steps limits.answers 1 prog.queries out stop → Gives (stop_status stop) out)
    → ((out : List ℕ) × (stop : Bool) × Gives (stop_status stop) out) → ((stop : Bool) → result ≡ stop_status stop → HasLast m.area limits stop) → Runs Gives result text
runs_loaded Gives result text m held bytes same output front last = record {
  code = m;
  is = record { held = held; bytes = bytes };
  programs = λ l prog is runs out stop h. output prog out stop (record {
    stands = same_listing l.area m.area prog (same l is.held is.bytes) is.held.pool held.pool runs.stands;
    scoped = runs.scoped;
    runnable = runs.runnable;
  }) h;
  output = front;
  last = last;
}

-- A text that `load` refuses is no listing, or memory was wanting.
pub refused_text : (Gives : Status → List ℕ → Type 0) (text : List ℕ) (f : LoadFault) → IsLoadFault text f
    → ((l : Listed) → IsHeld l → listing l.area l.states ≡ text → f ≡ why.NoMemory) → RefusesFault Gives f → Refuses Gives text
refused_text Gives text f is known line = record {
  none = λ l k. never (subst (RefusesFault Gives) (known l k.held k.bytes) line);
  fault = f;
  is = is;
  line = line;
}
  where
    never : RefusesFault Gives why.NoMemory → ⊥
    never h = h

-- The text isn't too large.
pub short_or_loaded : (Gives : Status → List ℕ → Type 0) (result : Status) (text : List ℕ) (Short : Type 0) → length text ≤ max_text
    → Short ⊎ (Refuses Gives text ⊎ Runs Gives result text) → Short ⊎ Answers Load Gives result text
short_or_loaded Gives result text Short size (inl s) = inl s
short_or_loaded Gives result text Short size (inr h) = inr (inr (size, h))
