use Rattle.std.proofs.Common.{◌≡◌, ◌∙◌, ◌<◌, ◌-◌, take, ◌+◌, List, ◌∷◌, length, get_or, drop, refl, sym, ap, subst}
use Rattle.std.specs.Prelude.{All}
use Rattle.std.proofs.lemmas.List.{take_rest}
use Rattle.std.proofs.lemmas.List.Elements.{All-tail}
use Rattle.fd_language.specs.TermTexts.{arguments_text, spelled_each}
use Rattle.term_pool.specs.declared.TermId.{TermId}
use Rattle.term_pool.specs.Terms.{terms_by, term_of}
use Rattle.term_writer.specs.Pieces.{piece_text, piece_weight, weights}
use Rattle.term_pool.proofs.Lemmas.{one_part}
use Rattle.term_writer.proofs.Forms.{no_parts, more_parts, tail_parts}
use Rattle.term_writer.proofs.Steps.{no_arguments, one_argument, more_arguments}
use Rattle.term_writer.proofs.terms.open_arguments.Goals as goal

pub returns-in-empty : goal.returns-in-empty
returns-in-empty c = λ pool mode vars text within. no_arguments pool mode vars c.args.parts.now text c.args.ahead.now.items (no_parts c.args.parts.now c.in-empty.len_below)

pub returns-in_ok-push-in-len1 : goal.returns-in_ok-push-in-len1
returns-in_ok-push-in-len1 c = λ pool mode vars text within.
    one_argument pool mode vars c.args.parts.now _ text c.args.ahead.now.items c.push.new.self.items within
    (one_part c.args.parts.now (record { number = 0 }) c.in-len1.len_at_least c.in-len1.len_below) c.in_ok-push-in-len1.ensures.items

pub returns-in_ok-extend_from_slice-in-len2-up : goal.returns-in_ok-extend_from_slice-in-len2-up
unfolding piece_text piece_weight
returns-in_ok-extend_from_slice-in-len2-up c = λ pool mode vars text within.
    let ts = c.args.parts.now in
    let d : TermId = record { number = 0 } in
    let inside : TermId → Type 0 = λ t. t.number < length pool.entries in
    let tail : take (length ts - 1) (drop 1 ts) ≡ get_or ts 1 d ∷ drop 2 ts = take_rest ts 1 ∙ tail_parts ts d c.in-len2-up.len_at_least in
    let whole : ts ≡ get_or ts 0 d ∷ get_or ts 1 d ∷ drop 2 ts = more_parts ts d c.in-len2-up.len_at_least in
    let behind : All inside (take (length ts - 1) (drop 1 ts)) = subst (All inside) (sym tail) (All-tail inside (get_or ts 0 d) (get_or ts 1 d ∷ drop 2 ts) (subst (All inside) whole within)) in
    more_arguments pool mode vars ts (drop 2 ts) (get_or ts 0 d) (get_or ts 1 d) text c.args.ahead.now.items c.extend_from_slice.new.self.items _ _ c.in_ok-extend_from_slice-in-len2-up.ensures.items
    (record { text = refl; light = refl; within = tt }) (ap (λ (us : List TermId). arguments_text (spelled_each mode vars (terms_by (term_of pool) us))) tail)
    (ap (λ (us : List TermId). weights (terms_by (term_of pool) us) + 1) tail)
    behind within whole
