use Rattle.std.proofs.Common.{◌≡◌, length, ◌+◌, ◌≤◌, ◌++◌, ℕ, List, map, take, get_or, sym, ap, ◌∙◌, subst, arith, append_assoc, append-nil}
use Rattle.std.proofs.lemmas.Bool.Decides.{nat_tests}
use Rattle.text_warnings.specs.declared.Warning.{Warning}
use Rattle.text_warnings.specs.declared.Concern.TheVariants.{Single}
use Rattle.text_warnings.specs.WarningViews.{warning_in}
use Rattle.clpwhere.specs.WarnedLines.{warned, warned_lines}
use Rattle.clpwhere.proofs.WarnedText.{behind_moved, none_told, same_default, told_here, told_more}
use Rattle.clpwhere.proofs.warnings.put_told.Goals as goal

pub returns-then-is_empty : goal.returns-then-is_empty
returns-then-is_empty c =
    let out = c.args.out.now.items in
    let none : length c.args.files.now ≡ 0 = grind (arith, nat_tests) in
    sym (ap (λ (l : List ℕ). out ++ l) (none_told c.args.files.now (map (warning_in c.args.pool.now) c.args.warnings.now) none) ∙ append-nil out)

pub loop-warning-preserved : goal.loop-warning-preserved
loop-warning-preserved c =
    let files = c.args.files.now in
    let pool = c.args.pool.now in
    let ws = c.args.warnings.now in
    let i = c.loop-warning.warning-index in
    let d : Warning = record { place = 0; concern = Single (record { number = 0 }) } in
    let w = get_or ws i d in
    let old = c.args.out.now.items in
    let before = warned_lines files (map (warning_in pool) (take i ws)) in
    let own = warned files (warning_in pool w) in
    let l = c.loop-warning.invariant.order d c.loop-warning-test.true in
    let m = c.in_ok-move_to.ensures in
    record {
      out = c.in_ok-extend_from_slice.ensures.items
          ∙ ap (λ (l : List ℕ). c.loop-warning.out.items ++ l)
          (c.deref.ensures.value ∙ c.in_ok-lines.ensures ∙ sym (told_here files (warning_in pool w) c.loop-warning.at c.move_to.new.self l m c.loop-warning.invariant.behind))
          ∙ ap (λ (l : List ℕ). l ++ own) c.loop-warning.invariant.out
          ∙ append_assoc old before own
          ∙ ap (λ (l : List ℕ). old ++ l) (sym (told_more files pool ws i d c.loop-warning-test.true));
      cursor = m.cursor;
      behind = behind_moved files w.place c.loop-warning.at c.move_to.new.self l m c.loop-warning.invariant.behind;
      order = λ e h.
          subst (λ (p : ℕ). p ≤ (get_or ws (i + 1) e).place) (sym m.place)
          (subst (λ (v : Warning). v.place ≤ (get_or ws (i + 1) e).place) (same_default ws i e d c.loop-warning-test.true) (c.requires.rising i (i + 1) e (omega arith) h));
    }
