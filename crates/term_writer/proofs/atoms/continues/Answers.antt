use Rattle.std.proofs.Common.{◌≡◌, ◌∙◌, ◌+◌, ℕ, Bool, true, false, length, drop, sym, ap, arith}
use Rattle.std.specs.Prelude.{◌&&◌}
use Rattle.std.specs.List.{list_all}
use Rattle.std.specs.Str.{chars}
use Rattle.std.proofs.lemmas.Iterator.{YieldsList-from_chars}
use Rattle.std.proofs.lemmas.List.{at_drop_all, length_push}
use Rattle.std.proofs.lemmas.Iterator.Consumers.{YieldsList-turn, YieldsList-end}
use Rattle.unicode_ident.specs.Ident.{is_xid_continue}
use Rattle.term_writer.proofs.Words.{all_here}
use Rattle.term_writer.proofs.atoms.continues.Goals as goal

pub returns-then-not-continues_word : goal.returns-then-not-continues_word
returns-then-not-continues_word c =
    let t = YieldsList-turn (YieldsList-from_chars c.args.text.now c.utf8.text cc) c.loop-c.yielded _ c.loop-c.yielded_by _ _ c.in-Some.c c.in-Some.is c.next.ensures.steps in
    let e = all_here is_xid_continue _ _ _ t in
    let h : is_xid_continue c.in-Some.c ≡ false = sym c.continues_word.ensures ∙ c.if-not-continues_word.true in
    sym (sym c.loop-c.invariant ∙ e ∙ ap (λ (b : Bool). b && list_all is_xid_continue (drop (length c.loop-c.yielded + 1) (chars c.args.text.now))) h)

pub loop-c-preserved : goal.loop-c-preserved
loop-c-preserved c =
    let t = YieldsList-turn (YieldsList-from_chars c.args.text.now c.utf8.text cc) c.loop-c.yielded _ c.loop-c.yielded_by _ _ c.in-Some.c c.in-Some.is c.next.ensures.steps in
    let e = all_here is_xid_continue _ _ _ t in
    let h : is_xid_continue c.in-Some.c ≡ true = sym c.continues_word.ensures ∙ c.if-not-continues_word.false in
    let n = length_push c.loop-c.yielded c.in-Some.c in
    ap (λ (m : ℕ). list_all is_xid_continue (drop m (chars c.args.text.now))) n
    ∙ sym (e ∙ ap (λ (b : Bool). b && list_all is_xid_continue (drop (length c.loop-c.yielded + 1) (chars c.args.text.now))) h)
    ∙ c.loop-c.invariant

pub returns : goal.returns
returns c =
    let t = YieldsList-end (YieldsList-from_chars c.args.text.now c.utf8.text cc) c.loop-c.yielded _ c.loop-c.yielded_by _ _ c.in-None.is c.next.ensures.steps in
    sym (sym c.loop-c.invariant ∙ at_drop_all (list_all is_xid_continue) (chars c.args.text.now) (length c.loop-c.yielded) (omega (arith, t.1)))
