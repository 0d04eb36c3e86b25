use Rattle.std.proofs.Common.{rules, ◌≡◌, ◌+◌, ◌<◌, ◌≤◌, ◌++◌, ◌∙◌, ℕ, List, length, map, take, codes, append_assoc, refl, sym, ap, subst, arith}
use Rattle.std.proofs.Common.{slice_index_or}
use Rattle.std.proofs.lemmas.List.{length-map, take_all}
use Rattle.fd_language.specs.Term.{Name, Term, as_terms}
use Rattle.fd_language.specs.Variables.{variables_of, distinct}
use Rattle.fd_language.specs.TermTexts.{Quoted, term_text}
use Rattle.fd_model.specs.Lines.{equals_text, joined}
use Rattle.machine_events.specs.Events.{set_in, terms_in, variable_text}
use Rattle.term_pool.specs.declared.AtomId.{AtomId}
use Rattle.term_pool.specs.declared.TermId.{TermId}
use Rattle.term_pool.specs.Contents.{atom_name}
use Rattle.term_pool.specs.Terms.{term_of}
use Rattle.answer_text.specs.Pieces.{inserted, separator_at}
use Rattle.answer_text.specs.Variables.{open_by, set_by}
use Rattle.answer_text.proofs.JoinedTexts.{entry_step, one_more}
use Rattle.answer_text.proofs.VariableNumbers.{variables_in, numbers_more, numbers_front}
use Rattle.answer_text.proofs.Texts.{text_by_same}
use Rattle.answer_text.proofs.answer.put_entries_by.Goals as goal

pub returns : goal.returns
returns c =
    let shown = c.args.shown.now in
    let ids = c.args.names.now in
    let ts = shown.terms.items in
    let i = c.loop-index.index in
    let f = atom_name c.args.pool.now in
    let g = term_of shown.pool in
    let vars = variable_text shown (as_terms (terms_in shown)) in
    let size : length ts ≤ i = subst (λ (l : List TermId). length l ≤ i) c.deref-term-items.ensures.value c.loop-index-test.false in
    let names : take i (map f ids) ≡ map f ids = take_all i (map f ids) (omega (arith, length-map ids f, size, c.requires.terms.0)) in
    let terms : take i (map g ts) ≡ map g ts = take_all i (map g ts) (omega (arith, length-map ts g, size)) in
    c.loop-index.invariant.text
    ∙ ap (λ (l : List Name). c.args.text.now.items ++ joined (codes ", ") (equals_text vars l (take i (map g ts)))) names
    ∙ ap (λ (l : List Term). c.args.text.now.items ++ joined (codes ", ") (equals_text vars (map f ids) l)) terms

pub loop-index-preserved : goal.loop-index-preserved
loop-index-preserved c =
    let shown = c.args.shown.now in
    let ids = c.args.names.now in
    let ts = shown.terms.items in
    let i = c.loop-index.index in
    let none : AtomId = record { number = 0 } in
    let nothing : TermId = record { number = 0 } in
    let met = c.deref-term-items.result.now in
    let same : met ≡ ts = c.deref-term-items.ensures.value in
    let size : i < length ts = subst (λ (l : List TermId). i < length l) same c.loop-index-test.true in
    let named : i < length ids = omega (arith, size, c.requires.terms.0) in
    let g = term_of shown.pool in
    let t : TermId = slice_index_or ts i nothing in
    let here : slice_index_or met i nothing ≡ t = ap (λ (l : List TermId). slice_index_or l i nothing) same in
    let all = terms_in shown in
    let vars = variable_text shown (as_terms all) in
    let keys = c.put_term.new.numbers.keys in
    let numbers : keys ≡ distinct (variables_in (take (i + 1) all)) =
    c.in_ok-put_term.ensures.numbers
    ∙ ap (λ (ks : List ℕ). inserted ks (variables_of (g (slice_index_or met i nothing)))) c.loop-index.invariant.numbers
    ∙ ap (λ (u : TermId). inserted (distinct (variables_in (take i all))) (variables_of (g u))) here
    ∙ sym (numbers_more (take i all) (take (i + 1) all) (g t) (one_more g ts i nothing size)) in
    let front = numbers_front all (i + 1) in
    let whole : keys ++ front.0 ≡ distinct (variables_in all) = ap (λ (ks : List ℕ). ks ++ front.0) numbers ∙ sym front.1 in
    let before = c.put_name.new.text.items in
    let last : c.put_term.new.text.items ≡ before ++ term_text Quoted vars 699 (g t) =
    c.in_ok-put_term.ensures.text front.0
    ∙ ap (λ (u : TermId). before ++ term_text Quoted (open_by (set_by c.args.sets.now) (keys ++ front.0)) 699 (g u)) here
    ∙ ap (λ (l : List ℕ). before ++ l)
    (text_by_same (set_by c.args.sets.now) (set_in shown.sets.items) (keys ++ front.0) (distinct (variables_in all)) Quoted 699 (g t) c.requires.sets whole) in
    let start = c.loop-index.text.items in
    let name = atom_name c.args.pool.now (slice_index_or ids i none) in
    let first = start ++ separator_at i (codes ", ") in
    let second = first ++ name in
    let put : before ≡ start ++ (separator_at i (codes ", ") ++ (name ++ codes " = ")) = search rules in
    let third : before ≡ second ++ codes " = " =
    put ∙ sym (append_assoc first name (codes " = ") ∙ append_assoc start (separator_at i (codes ", ")) (name ++ codes " = ")) in
    record {
      text = entry_step c.args.text.now.items start first second before c.put_term.new.text.items
          vars (atom_name c.args.pool.now) g ids ts i none nothing named size c.loop-index.invariant.text refl refl third last;
      numbers = numbers;
    }
