use Rattle.std.proofs.Common.{◌≡◌, ◌+◌, ◌∙◌, ℕ, true, sym, subst, arith}
use Rattle.std.specs.Char.{len_utf8}
use Rattle.char_tokens.specs.Views.{passes}
use Rattle.char_tokens.proofs.Runs.{IsAt, at_next, run_here, run_ends, run_none}
use Rattle.char_tokens.proofs.characters.run.Goals as goal
use Rattle.char_tokens.proofs.characters.run.Goals.{in-Some+then-not-passes, in_default}

pub loop-c-preserved : goal.loop-c-preserved
loop-c-preserved c =
    let h : passes c.args.class c.in-Some.c ≡ true = sym c.passes.ensures ∙ c.if-not-passes.false in
    let i = c.loop-c.invariant in
    let split = c.in-Some.ensures.split.1 in
    let n : c.len_utf8-size.result ≡ len_utf8 c.in-Some.c = c.len_utf8-size.ensures.value in
    let next = at_next c.args.text.now c.loop-c.rest.now c.in-Some.behind.now c.loop-c.size c.in-Some.c i.at split in
    record {
      utf8 = next.utf8;
      at = subst (λ (m : ℕ). IsAt c.args.text.now (c.loop-c.size + m) c.in-Some.behind.now) (sym n) next;
      so_far = omega (arith, i.so_far, run_here (passes c.args.class) c.loop-c.rest.now c.in-Some.behind.now c.in-Some.c i.utf8 split h, n);
    }

pub returns-clause-size : goal.returns-clause-size
returns-clause-size c =
    elim c.match-first_char.branch [
      | in-Some+then-not-passes w ↦ omega (
        arith,
        c.loop-c.invariant.so_far,
        run_ends (passes c.args.class) c.loop-c.rest.now w.in-Some.behind.now w.in-Some.c c.loop-c.invariant.utf8 w.in-Some.ensures.split.1
            (sym w.passes.ensures ∙ w.if-not-passes.true),
      )
      | in_default w ↦ omega (arith, c.loop-c.invariant.so_far, run_none (passes c.args.class) c.loop-c.rest.now w.in_default.ensures.split)
    ]
