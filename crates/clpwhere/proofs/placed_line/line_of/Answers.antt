use Rattle.std.proofs.Common.{rules, ◌≡◌, ◌++◌, ◌∙◌, length, take, drop, ap, subst, arith}
use Rattle.std.proofs.Math.Seq.{drop-append_seam, take-append_seam}
use Rattle.std.proofs.lemmas.List.{length-append}
use Rattle.std.specs.Str.{IsUtf8}
use Rattle.clpwhere.specs.Places.{before_place, from_place, characters}
use Rattle.clpwhere.proofs.LineParts.{two_texts}
use Rattle.clpwhere.proofs.placed_line.line_of.Goals as goal

pub returns : goal.returns
returns c =
    let bytes = c.args.text.now.bytes in
    let place = c.args.place in
    let cs = characters (before_place bytes place) in
    let ds = characters (from_place bytes place) in
    let all : c.extend_from_slice.new.self.items ≡ cs ++ ds = search rules in
    let at : c.len-at.result ≡ length cs = search rules in
    record {
      number = c.requires;
      within = omega (arith, at, ap length all, length-append cs ds);
      before = ap (λ n. take n c.extend_from_slice.new.self.items) at ∙ ap (take (length cs)) all ∙ take-append_seam cs ds;
      rest = ap (λ n. drop n c.extend_from_slice.new.self.items) at ∙ ap (drop (length cs)) all ∙ drop-append_seam cs ds;
      text = λ t.
          let both = two_texts c.before_place-before.result.now c.from_place-from.result.now c.are_text.result c.are_text.ensures t in
          (subst IsUtf8 c.before_place-before.ensures both.0, subst IsUtf8 c.from_place-from.ensures both.1);
    }
