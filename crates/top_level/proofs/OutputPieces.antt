-- The pieces of an output.
use Rattle.std.proofs.Common.{◌≡◌, ℕ, List, Option, Some, None, refl, sym, ◌∙◌, subst}
use Rattle.std.specs.List.{concat}
use Rattle.fd_model.specs.declared.Status.{Status}
use Rattle.fd_model.specs.Output.{Options, Output, TextOutput, VerdictOutput, refusal, usage}
use Rattle.fd_model.specs.Verdict.{Verdict, accepted, refused, IsVerdict}
use Rattle.text_verdict.proofs.Lemmas.{one_verdict}
use Rattle.byte_ports.specs.Lines.{lines_of}
use Rattle.text_output.specs.Pieces.{VerdictPieces}
use Rattle.byte_ports.proofs.Lemmas.{joined_lines}
use Rattle.text_output.proofs.Lemmas.{query_pieces}
use Rattle.top_level.specs.OutputPieces.{OutputPieces, TextPieces}

-- ---- each output has its pieces

abbrev pub Joined : (List (List ℕ) → Type 0) → List ℕ → Type 0
Joined P out = (ps : List (List ℕ)) × P ps × (out ≡ concat ps)

of_verdict : (M N : ℕ) (v : Verdict) (budget : ℕ) (answers : Option ℕ) (out : List ℕ) (st : Status) → VerdictOutput M N v budget answers out st → Joined (VerdictPieces M N v budget answers) out
of_verdict M N (refused place reason) budget answers out st h = (lines_of (refusal place reason), refl, h.0 ∙ sym (joined_lines (refusal place reason)))
of_verdict M N (accepted prog) budget answers out st h = let p = query_pieces M N prog budget answers 1 prog.queries out h.0 h.1 in (p.0, (h.0, p.1), sym p.2)

of_text : (M : ℕ) (o : Options) (size : Option ℕ) (text out : List ℕ) (st : Status) → TextOutput M o size text out st → Joined (TextPieces M o size text) out
of_text M o None text out st h = let p = of_verdict M o.infinity h.0 o.steps o.answers out st h.2 in (p.0, (h.0, h.1, p.1), p.2)
of_text M o (Some n) text out st h = (lines_of out, (out, st, h, refl), sym (joined_lines out))

pub of_output : (M : ℕ) (a : Option Options) (text out : List ℕ) (st : Status) → Output M a text out st → Joined (OutputPieces M a text) out
of_output M None text out st h = (lines_of usage, refl, h.0 ∙ sym (joined_lines usage))
of_output M (Some o) text out st h = of_text M o o.generate text out st h

-- ---- which they are

-- the pieces of a text that is read are those of its verdict
pub verdict_pieces : (M : ℕ) (o : Options) (text : List ℕ) (v : Verdict) (ps : List (List ℕ)) → o.generate ≡ None → IsVerdict M o.infinity text v
    → OutputPieces M (Some o) text ps → VerdictPieces M o.infinity v o.steps o.answers ps
verdict_pieces M o text v ps read i h =
    let t : TextPieces M o None text ps = subst (λ (size : Option ℕ). TextPieces M o size text ps) read h in
    subst (λ (w : Verdict). VerdictPieces M o.infinity w o.steps o.answers ps) (one_verdict M o.infinity text t.0 v t.1 i) t.2
