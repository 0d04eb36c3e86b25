use Rattle.std.proofs.Common.{◌≡◌, ◌<◌, ◌∙◌, ℕ, pos, List, [], get_or, length, map, ap, ap₂, sym, arith}
use Rattle.std.proofs.lemmas.List.{get_or-map}
use Rattle.std.proofs.lemmas.Option.{get_or_from_slice_get}
use Rattle.wam_code.specs.declared.instruction.Key.{Key}
use Rattle.wam_code.specs.declared.instruction.Key.TheVariants as key
use Rattle.clause_code.specs.ClauseChoices.{list_of}
use Rattle.clause_compiler.specs.Sections.{IsListIn, its_row}
use Rattle.clause_compiler.proofs.Lists.{get_there}
use Rattle.clause_compiler.proofs.PieceOffsets.{put_one}
use Rattle.clause_compiler.proofs.choices.put_rows.Goals as goal

other_default : {X : Type 0} (xs : List X) (i : ℕ) (d e : X) → i < length xs → get_or xs i d ≡ get_or xs i e
other_default xs i d e l = let g = get_there xs i l in get_or_from_slice_get xs i g.0 d g.1 ∙ sym (get_or_from_slice_get xs i g.0 e g.1)

abbrev row_by : Key → ℕ → Key × ℕ
row_by x a = (x, a)

same_row : (x y : Key) (a b : ℕ) → x ≡ y → a ≡ b → row_by x a ≡ row_by y b
same_row x y a b e f = ap₂ row_by e f

pub loop-i-preserved : goal.loop-i-preserved
loop-i-preserved c =
    let keys = c.args.keys.now in
    let lists = c.args.lists.now in
    let l : c.loop-i.i < length keys = omega arith in
    let equal = c.requires in
    let m : c.loop-i.i < length lists = omega (arith, l, equal) in
    put_one (its_row keys) (IsListIn (map (λ g. g.items) lists)) c.loop-i.i c.args.code.now.items c.loop-i.code.items c.put_list.new.code.items
    c.loop-i.rows.items c.push.new.self.items c.loop-i.invariant
    (list_of c.deref.result.now) _
    (ap list_of (c.deref.ensures.value ∙ ap (λ g. g.items) c.index-lists-i.is ∙ sym (get_or-map (λ g. g.items) lists c.loop-i.i c.index-lists-i.result [] m)))
    (same_row _ _ c.len.result (length c.loop-i.code.items) (other_default keys c.loop-i.i _ (key.Int (pos 0)) l) (omega arith))
    c.in_ok-put_list.ensures
    c.in_ok-push.ensures.items
