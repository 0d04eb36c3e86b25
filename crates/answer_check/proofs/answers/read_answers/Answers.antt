use Rattle.std.proofs.Common.{rules, ℕ, List, ◌≡◌, ◌≤◌, ◌<◌, ◌+◌, ◌∙◌, sym, ap, subst, drop, length, map, arith, None, Err, length-append, vec_len}
use Rattle.std.specs.Prelude.{All, MatchResult, Result}
use Rattle.term_pool.specs.declared.AtomId.{AtomId}
use Rattle.term_pool.specs.Contents.{atom_name}
use Rattle.answer_check.specs.declared.listed_answers.Answers.{Answers}
use Rattle.answer_check.specs.declared.outcome.Stop.{Stop}
use Rattle.answer_check.specs.declared.outcome.Stop.TheVariants as stop
use Rattle.byte_ports.specs.Lines.{first_line, lines_of}
use Rattle.answer_check.specs.Rows.{answer_in, IsRead, FindsRows, StopsRows}
use Rattle.byte_ports.proofs.Lemmas.{some_line}
use Rattle.answer_check.proofs.Lines.{behind_line, rest_longer, slice_end}
use Rattle.answer_check.proofs.RowReading.{answer_count, ends_early, row_more, ends_well, no_memory_rows, no_row, row_read, stands_behind}
use Rattle.answer_check.proofs.WholeQueries.{as_many, names_shown}
use Rattle.answer_check.proofs.answers.read_answers.Goals as goal

pub returns-then-behind-input : goal.returns-then-behind-input
returns-then-behind-input c = λ f i.
    let input = c.args.input.now in
    let at = c.loop-at.at in
    let line : c.first_line-line.result.now ≡ first_line (drop at input) = c.first_line-line.ensures.line ∙ ap first_line (slice_end input at) in
    stands_behind f.query _ c.args.from input at c.loop-at.values.items c.loop-at.count (names_shown f c.args.query.now i) (c.loop-at.invariant.read f i)
    c.loop-at-test.true c.first_line-line.result.now line
    (sym c.is_last_line.ensures ∙ c.if-is_last_line.true) c.if-behind-input.true c.bad_answer.result c.bad_answer.ensures

pub returns-then-is_last_line : goal.returns-then-is_last_line
returns-then-is_last_line c = λ f i.
    let many : vec_len c.args.query.now.names ≡ length c.args.query.now.names.items = search rules in
    let input = c.args.input.now in
    let at = c.loop-at.at in
    let line : c.first_line-line.result.now ≡ first_line (drop at input) = c.first_line-line.ensures.line ∙ ap first_line (slice_end input at) in
    ends_well f.query _ c.args.from input at c.loop-at.values.items c.loop-at.count (names_shown f c.args.query.now i) (c.loop-at.invariant.read f i)
    c.loop-at-test.true c.first_line-line.result.now line
    (sym c.is_last_line.ensures ∙ c.if-is_last_line.true) c.if-behind-input.false c.len-variables.result (c.len-variables.ensures ∙ many ∙ sym i.variables)

pub read_answer-requires : goal.read_answer-requires
read_answer-requires c = subst (All (λ (a : AtomId). a.number < length c.args.query.now.pool.names)) (sym c.deref.ensures.value) c.requires.names

pub returns-in_err-read_answer : goal.returns-in_err-read_answer
returns-in_err-read_answer c = λ f i.
    let ls = lines_of (drop c.args.from c.args.input.now) in
    let e : c.from_residual.result ≡ Err stop.NoMemory = search rules in
    subst (λ (r : Result Answers Stop). MatchResult r (FindsRows f.query c.args.from ls) (StopsRows f.query c.args.from ls)) (sym e)
    (no_memory_rows f.query _ c.args.from c.args.input.now (names_shown f c.args.query.now i))

pub returns-then-not-branch : goal.returns-then-not-branch
returns-then-not-branch c = λ f i.
    let input = c.args.input.now in
    let at = c.loop-at.at in
    let pool = c.args.query.now.pool in
    let row = c.first_line-line.result.now in
    let line : row ≡ first_line (drop at input) = c.first_line-line.ensures.line ∙ ap first_line (slice_end input at) in
    let read : answer_in (map (atom_name pool) c.deref.result.now) row ≡ None
    = subst (IsRead (answer_in (map (atom_name pool) c.deref.result.now) row) c.loop-at.values.items c.read_answer.new.values.items) c.if-not-branch.true c.in_ok-read_answer.ensures in
    no_row f.query _ c.args.from input at c.loop-at.values.items c.loop-at.count (names_shown f c.args.query.now i) (c.loop-at.invariant.read f i) c.loop-at-test.true row line
    (sym c.is_last_line.ensures ∙ c.if-is_last_line.false) (ap (λ ns. answer_in (map (atom_name pool) ns) row) (sym c.deref.ensures.value) ∙ read)
    c.bad_answer-then-not-branch.result c.bad_answer-then-not-branch.ensures

pub loop-at-preserved : goal.loop-at-preserved
loop-at-preserved c =
    let input = c.args.input.now in
    let at = c.loop-at.at in
    let pool = c.args.query.now.pool in
    let names = c.args.query.now.names.items in
    let row = c.first_line-line.result.now in
    let line : row ≡ first_line (drop at input) = c.first_line-line.ensures.line ∙ ap first_line (slice_end input at) in
    let read = subst (IsRead (answer_in (map (atom_name pool) c.deref.result.now) row) c.loop-at.values.items c.read_answer.new.values.items) c.if-not-branch.false c.in_ok-read_answer.ensures in
    let found = ap (λ ns. answer_in (map (atom_name pool) ns) row) (sym c.deref.ensures.value) ∙ read.1 in
    let some = some_line (drop at input) (rest_longer input at c.loop-at-test.true) in
    let longer : 0 < length row = subst (λ (l : List ℕ). 0 < length l) (sym line) some in
    let size : vec_len c.args.query.now.names ≡ length c.args.query.now.names.items = search rules in
    let many = answer_count (map (atom_name pool) names) row read.0 found ∙ as_many (atom_name pool) names in
    record {
      within = subst (λ (l : List ℕ). at + length l ≤ length input) (sym line) (behind_line input at (let t = c.loop-at-test.true in omega (arith, t)));
      few = (let k = c.loop-at.invariant.few in omega (arith, k, longer));
      whole = ap (λ ns. length ns) read.2 ∙ length-append c.loop-at.values.items read.0
          ∙ row_more (length c.loop-at.values.items) c.loop-at.count c.len-variables.result (length read.0) c.loop-at.invariant.whole
          (many ∙ sym (c.len-variables.ensures ∙ size));
      read = λ f i. row_read f.query _ c.args.from input at c.loop-at.values.items c.loop-at.count (names_shown f c.args.query.now i) (c.loop-at.invariant.read f i) c.loop-at-test.true row line
          read.0 c.read_answer.new.values.items (sym c.is_last_line.ensures ∙ c.if-is_last_line.false) found read.2;
    }

pub returns : goal.returns
returns c = λ f i.
    ends_early f.query _ c.args.from c.args.input.now c.loop-at.at c.loop-at.values.items c.loop-at.count (names_shown f c.args.query.now i)
    (c.loop-at.invariant.read f i) c.loop-at-test.false c.bad_answer-2.result c.bad_answer-2.ensures
