use Rattle.std.proofs.Common.{◌≡◌, ◌∙◌, ◌∷◌, ◌++◌, ℕ, List, [], take, get_or, length, sym, ap, rules}
use Rattle.clpwhere.specs.Parts.{TextParts}
use Rattle.clpwhere.specs.Files.{joined}
use Rattle.clpwhere.proofs.FilePlaces.{begins_more, joined_more}
use Rattle.clpwhere.proofs.files.join.Goals as goal

pub loop-file-preserved : goal.loop-file-preserved
loop-file-preserved c =
    let files = c.args.files.now in
    let i = c.loop-file.file-index in
    let d = c.file-item.result in
    let is : d ≡ get_or files i d = search rules in
    let own : c.bytes.result.now ≡ (get_or files i d).bytes = c.bytes.ensures ∙ ap (λ (f : TextParts). f.bytes) is in
    let more : c.extend_from_slice.new.self.items ≡ c.loop-file.bytes.items ++ c.bytes.result.now = search rules in
    let next : c.push.new.self.items ≡ c.loop-file.begins.items ++ length c.loop-file.bytes.items ∷ [] = search rules in
    record {
      bytes = more ∙ ap (λ (l : List ℕ). l ++ c.bytes.result.now) c.loop-file.invariant.bytes ∙ ap (λ (l : List ℕ). joined (take i files) ++ l) own
          ∙ sym (joined_more files i d c.loop-file-test.true);
      begins = next ∙ ap (λ (l : List ℕ). c.loop-file.begins.items ++ length l ∷ []) c.loop-file.invariant.bytes
          ∙ ap (λ (l : List ℕ). l ++ length (joined (take i files)) ∷ []) c.loop-file.invariant.begins ∙ sym (begins_more files i d c.loop-file-test.true);
    }
