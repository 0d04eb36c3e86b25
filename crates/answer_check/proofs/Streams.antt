-- A report that is written piece by piece.
use Rattle.std.proofs.Common.{◌≡◌, ℕ, suc, ◌+◌, ◌<◌, ◌≤◌, Bool, true, ◌&&◌, List, [], ◌∷◌, ◌++◌, length, take, drop, get_or, Option, is_none, codes, refl, sym}
use Rattle.std.proofs.Common.{ap, ◌∙◌, subst, arith, append_assoc, append-nil, take-append-drop}
use Rattle.std.specs.Prelude.{All, Result, Ok, Err}
use Rattle.std.specs.List.{list_all}
use Rattle.fd_language.specs.declared.TheConstants.{INFINITY}
use Rattle.fd_model.specs.declared.kinds.Order.{Order}
use Rattle.fd_model.specs.Goal.{Goal}
use Rattle.fd_model.specs.Labelling.{open_ones}
use Rattle.fd_model.specs.Lines.{line}
use Rattle.byte_ports.specs.Ends.{SinkState, WroteAll, WroteFront, WrotePart}
use Rattle.byte_ports.proofs.Lemmas.{all_front, all_then, front_then, longer_front, longer_part, wrote_nothing}
use Rattle.answer_check.specs.declared.goals.Constraint.{Constraint}
use Rattle.answer_check.specs.declared.outcome.CheckStatus.{CheckStatus}
use Rattle.answer_check.specs.declared.outcome.Fault.{Fault}
use Rattle.answer_check.specs.declared.outcome.Fault.TheVariants as fault
use Rattle.answer_check.specs.declared.report.Lines.{Lines}
use Rattle.answer_check.specs.AnswerLines.{assigned}
use Rattle.answer_check.specs.Checks.{AreFirstBroken}
use Rattle.answer_check.specs.FlatForm.{FlatQuery}
use Rattle.answer_check.specs.Goals.{EachSays}
use Rattle.answer_check.specs.Judgement.{EachFirstBroken, OrderVerdict, IsOrderOf, answer_line, answer_lines, good_status, order_text}
use Rattle.answer_check.specs.Reports.{Waits, CutBy, PutsLines, PutsOrder, PutsReport}
use Rattle.answer_check.proofs.AnswerReports.{IsReported, none_missing, reported_more, reported_none}
use Rattle.answer_check.proofs.Decidability.{each_breaks, has_order}
use Rattle.answer_check.proofs.Lists.{take_whole}
use Rattle.answer_check.proofs.AnswerOrder.{all_drop}

-- ---- a text that waits

module _ (old now : SinkState) (text rest : List ℕ) (w : Waits old now text rest) where
  -- it grows
  waits_more : (more : List ℕ) → Waits old now (text ++ more) (rest ++ more)
  waits_more more = record { front = w.front; wrote = w.wrote; is = ap (λ t. t ++ more) w.is ∙ append_assoc w.front rest more }

  -- some of it is written
  waits_then : (new : SinkState) (left : List ℕ) → Waits now new rest left → Waits old new text left
  waits_then new left v = record {
    front = w.front ++ v.front;
    wrote = all_then old now new w.front v.front w.wrote v.wrote;
    is = w.is ∙ ap (λ t. w.front ++ t) v.is ∙ sym (append_assoc w.front v.front left);
  }

  -- all of it, or a front
  waits_all : (new : SinkState) → WroteAll now new rest → WroteAll old new text
  waits_all new h = subst (WroteAll old new) (sym w.is) (all_then old now new w.front rest w.wrote h)

  waits_cut : (new : SinkState) → WroteFront now new rest → WroteFront old new text
  waits_cut new h = subst (WroteFront old new) (sym w.is) (front_then old now new w.front rest w.wrote h)

  -- memory is wanting before
  waits_short : WrotePart old now text
  waits_short = subst (WrotePart old now) (sym w.is) (all_front old now w.front rest w.wrote)

-- what is written at once
pub written_now : (old new : SinkState) (text rest : List ℕ) → WroteAll old new text → rest ≡ [] → Waits old new text rest
written_now old new text rest h e = record { front = text; wrote = h; is = sym (append-nil text) ∙ ap (λ t. text ++ t) (sym e) }

pub nothing_now : (s : SinkState) (text : List ℕ) → Waits s s text text
nothing_now s text = record { front = []; wrote = wrote_nothing s; is = refl }

-- ---- the lines of all answers

each_append : (gs : List Goal) (nss mss : List (List ℕ)) (vs ws : List (Option ℕ)) → EachFirstBroken INFINITY gs nss vs → EachFirstBroken INFINITY gs mss ws
    → EachFirstBroken INFINITY gs (nss ++ mss) (vs ++ ws)
each_append gs [] mss vs ws h g = subst (λ us. EachFirstBroken INFINITY gs mss (us ++ ws)) (sym h) g
each_append gs (ns ∷ nss) mss [] ws h g = absurd h
each_append gs (ns ∷ nss) mss (v ∷ vs) ws h g = (h.0, each_append gs nss mss vs ws h.1 g)

lines_append : (k : ℕ) (vs ws : List (Option ℕ)) → answer_lines k (vs ++ ws) ≡ answer_lines k vs ++ answer_lines (k + length vs) ws
lines_append k [] ws = let e : k ≡ k + 0 = omega arith in ap (λ n. answer_lines n ws) e
lines_append k (v ∷ vs) ws =
    let e : suc k + length vs ≡ k + suc (length vs) = omega arith in
    ap (λ t. answer_line k v ++ t) (lines_append (suc k) vs ws) ∙ sym (append_assoc (answer_line k v) (answer_lines (suc k) vs) (answer_lines (suc k + length vs) ws))
    ∙ ap (λ n. (answer_line k v ++ answer_lines (suc k) vs) ++ answer_lines n ws) e

-- the first so many answers are reported, and some of it waits
pub record IsStreamed (gs : List Goal) (nss : List (List ℕ)) (old now : SinkState) (number : ℕ) (text : List ℕ) (are_good : Bool) : Type 0 where
  pub whole : List ℕ
  pub reported : IsReported gs nss number whole are_good
  pub waits : Waits old now whole text

pub streamed_none : (gs : List Goal) (nss : List (List ℕ)) (s : SinkState) → IsStreamed gs nss s s 0 [] true
streamed_none gs nss s = record { whole = []; reported = reported_none gs nss; waits = nothing_now s [] }

module _ (gs : List Goal) (ks : List Constraint) (nss : List (List ℕ)) (says : EachSays gs ks) (small : All (All (λ k. k ≤ INFINITY)) nss) (old now : SinkState)
    (number : ℕ) (text : List ℕ) (are_good : Bool) (s : IsStreamed gs nss old now number text are_good) where
  -- one answer more
  pub streamed_more : (new : List ℕ) (row : List ℕ) (o : Option ℕ) → number < length nss → row ≡ get_or nss number [] → AreFirstBroken (assigned row) 1 ks o
      → new ≡ text ++ answer_line (number + 1) o → IsStreamed gs nss old now (number + 1) new (are_good && is_none o)
  streamed_more new row o l is first e = record {
    whole = s.whole ++ answer_line (number + 1) o;
    reported = reported_more gs ks nss number s.whole (s.whole ++ answer_line (number + 1) o) are_good row o l says is
        (subst (All (λ (m : ℕ). m ≤ INFINITY)) (sym is) (small number [] l)) first refl s.reported;
    waits = subst (Waits old now (s.whole ++ answer_line (number + 1) o)) (sym e) (waits_more old now s.whole text s.waits (answer_line (number + 1) o));
  }

  pub streamed_flushed : (new : SinkState) (left : List ℕ) → Waits now new text left → IsStreamed gs nss old new number left are_good
  streamed_flushed new left w = record { whole = s.whole; reported = s.reported; waits = waits_then old now s.whole text s.waits new left w }

  -- the lines that are still to come
  completed : (vs : List (Option ℕ)) × EachFirstBroken INFINITY gs nss vs × ((rest : List ℕ) × (answer_lines 1 vs ≡ s.whole ++ rest))
  completed =
      let r = s.reported in
      let later = each_breaks gs ks (drop number nss) says (all_drop (All (λ k. k ≤ INFINITY)) number nss small) in (
        r.broken ++ later.0,
        subst (λ ms. EachFirstBroken INFINITY gs ms (r.broken ++ later.0)) (take-append-drop number nss) (each_append gs (take number nss) (drop number nss) r.broken later.0 r.each later.1),
        (answer_lines (1 + length r.broken) later.0, lines_append 1 r.broken later.0 ∙ ap (λ t. t ++ answer_lines (1 + length r.broken) later.0) (sym r.written)),
      )

  pub lines_short : (result : Result Lines Fault) → result ≡ Err fault.NoMemory → PutsLines gs nss old now result
  lines_short result e =
      let c = completed in
      subst (PutsLines gs nss old now) (sym e) (c.0, c.1, subst (WrotePart old now) (sym c.2.1) (longer_part old now s.whole c.2.0 (waits_short old now s.whole text s.waits)))

  pub lines_cut : (new : SinkState) (result : Result Lines Fault) → WroteFront now new text → result ≡ Err fault.WriteFault → PutsLines gs nss old new result
  lines_cut new result h e =
      let c = completed in
      subst (PutsLines gs nss old new) (sym e) (c.0, c.1, subst (WroteFront old new) (sym c.2.1) (longer_front old new s.whole c.2.0 (waits_cut old now s.whole text s.waits new h)))

  pub lines_end : length nss ≤ number → (l : Lines) → l.text.items ≡ text → l.are_good ≡ are_good → PutsLines gs nss old now (Ok l)
  lines_end m l same good = (
    s.reported.broken,
    none_missing gs nss number s.whole are_good (take_whole nss number m) s.reported,
    subst (λ t. Waits old now t l.text.items) s.reported.written (subst (Waits old now s.whole) (sym same) s.waits),
    good ∙ s.reported.good,
  )

-- ---- the whole report

longer_cut : (old new : SinkState) (e : Fault) (text more : List ℕ) → CutBy old new e text → CutBy old new e (text ++ more)
longer_cut old new fault.WriteFault text more h = longer_front old new text more h
longer_cut old new fault.NoMemory text more h = longer_part old new text more h

module _ (f : FlatQuery) (nss : List (List ℕ)) (old now : SinkState) where
  abbrev order_line : OrderVerdict → List ℕ
  order_line v = line (codes "order: " ++ order_text v)

  pub report_cut : (e : Fault) (result : Result CheckStatus Fault) → PutsLines f.constraints nss old now (Err e) → result ≡ Err e → PutsReport f nss old now result
  report_cut e result p is =
      let v = has_order f.order (open_ones f.members) nss in
      subst (PutsReport f nss old now) (sym is) (p.0, v.0, record { each = p.1; rising = v.1 }, longer_cut old now e (answer_lines 1 p.0) (order_line v.0) p.2)

  module _ (l : Lines) (p : PutsLines f.constraints nss old now (Ok l)) where
    pub report_short : (result : Result CheckStatus Fault) → result ≡ Err fault.NoMemory → PutsReport f nss old now result
    report_short result is =
        let v = has_order f.order (open_ones f.members) nss in
        subst (PutsReport f nss old now) (sym is) (
          p.0,
          v.0,
          record { each = p.1; rising = v.1 },
          longer_part old now (answer_lines 1 p.0) (order_line v.0) (waits_short old now (answer_lines 1 p.0) l.text.items p.2),
        )

    module _ (order : Order) (xs : List ℕ) (same : order ≡ f.order) (labelled : xs ≡ open_ones f.members) (text : List ℕ) (b : Bool) (q : PutsOrder order xs nss l.text.items text b) where
      rising : IsOrderOf f.order (open_ones f.members) nss q.0
      rising = subst (λ (o : Order). IsOrderOf o (open_ones f.members) nss q.0) same (subst (λ (ys : List ℕ). IsOrderOf order ys nss q.0) labelled q.1)

      last_waits : Waits old now (answer_lines 1 p.0 ++ order_line q.0) text
      last_waits = subst (Waits old now (answer_lines 1 p.0 ++ order_line q.0)) (sym q.2) (waits_more old now (answer_lines 1 p.0) l.text.items p.2 (order_line q.0))

      pub report_failed : (new : SinkState) (result : Result CheckStatus Fault) → WroteFront now new text → result ≡ Err fault.WriteFault → PutsReport f nss old new result
      report_failed new result h is = subst (PutsReport f nss old new) (sym is) (
        p.0,
        q.0,
        record { each = p.1; rising = rising },
        waits_cut old now (answer_lines 1 p.0 ++ order_line q.0) text last_waits new h,
      )

      pub report_written : (new : SinkState) (st : CheckStatus) → WroteAll now new text → st ≡ good_status (l.are_good && b) → PutsReport f nss old new (Ok st)
      report_written new st h is = (
        p.0,
        q.0,
        record { each = p.1; rising = rising },
        is ∙ ap (λ x. good_status (x && b)) p.3 ∙ ap (λ x. good_status (list_all is_none p.0 && x)) q.3,
        waits_all old now (answer_lines 1 p.0 ++ order_line q.0) text last_waits new h,
      )
