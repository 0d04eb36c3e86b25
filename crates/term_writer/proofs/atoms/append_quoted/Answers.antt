use Rattle.std.proofs.Common.{◌≡◌, ◌∙◌, ℕ, ◌+◌, List, [], ◌∷◌, ◌++◌, drop, sym, ap, arith, append_assoc, append-nil}
use Rattle.std.proofs.lemmas.List.{at_drop_more, at_drop_all}
use Rattle.fd_language.specs.TermTexts.{quoted_bytes}
use Rattle.term_writer.proofs.atoms.append_quoted.Goals as goal

pub loop-byte-init : goal.loop-byte-init
loop-byte-init c = ap (λ (t : List ℕ). t ++ quoted_bytes c.args.name.now) c.in_ok-push.ensures.items

pub loop-byte-preserved : goal.loop-byte-preserved
loop-byte-preserved c =
    let name = c.args.name.now in
    let text = c.loop-byte.text.items in
    let rest : List ℕ = quoted_bytes (drop (c.loop-byte.byte-index + 1) name) in
    ap (λ (t : List ℕ). t ++ rest) c.in_ok-append_escaped.ensures ∙ append_assoc text _ rest
    ∙ ap (λ (r : List ℕ). text ++ r) (sym (at_drop_more quoted_bytes name c.loop-byte.byte-index 0 c.loop-byte-test.true)) ∙ c.loop-byte.invariant

pub returns : goal.returns
returns c =
    let name = c.args.name.now in
    let text = c.loop-byte.text.items in
    let old = c.args.text.now.items in
    let all : text ≡ (old ++ 39 ∷ []) ++ quoted_bytes name =
    sym (append-nil text) ∙ ap (λ (r : List ℕ). text ++ r) (sym (at_drop_all quoted_bytes name c.loop-byte.byte-index (omega arith))) ∙ c.loop-byte.invariant in
    c.in_ok-push-2.ensures.items ∙ ap (λ (t : List ℕ). t ++ 39 ∷ []) all ∙ append_assoc (old ++ 39 ∷ []) (quoted_bytes name) (39 ∷ []) ∙ append_assoc old (39 ∷ []) (quoted_bytes name ++ 39 ∷ [])
