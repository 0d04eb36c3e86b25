-- The lines of a text, one after another.
use Rattle.std.proofs.Common.{◌≡◌, ℕ, ◌<◌, List, [], ◌∷◌, ◌++◌, length, drop, refl, sym, ap, ◌∙◌, subst, arith}
use Rattle.std.proofs.Common.{append_assoc, append-nil, Result, Err}
use Rattle.byte_ports.specs.Lines.{lines_of, first_line}
use Rattle.byte_ports.proofs.Lemmas.{lines_step}
use Rattle.text_output.specs.declared.fault.Fault.{Fault}
use Rattle.text_output.specs.Pieces.{PieceSink, GaveAll, GaveFront, Gave}
use Rattle.text_output.proofs.PieceWrites.{all_then, cut_then, cut_longer, gave_cut}

-- ---- lines that are given, each as a piece

module _ (text left line : List ℕ) (done : List (List ℕ)) (some : 0 < length left) (e : line ≡ first_line left) (is : lines_of text ≡ done ++ lines_of left) (old now new : PieceSink)
    (h : GaveAll old now done) where
  next : lines_of text ≡ done ++ line ∷ lines_of (drop (length line) left)
  next = is ∙ ap (λ ls. done ++ ls) (lines_step left some ∙ ap (λ l. l ∷ lines_of (drop (length l) left)) (sym e))

  -- one more of the lines
  pub line_more : GaveAll now new (line ∷ []) → (ls : List (List ℕ)) × (lines_of text ≡ ls ++ lines_of (drop (length line) left)) × GaveAll old new ls
  line_more g = (done ++ line ∷ [], next ∙ sym (append_assoc done (line ∷ []) (lines_of (drop (length line) left))), all_then old now new done (line ∷ []) h g)

  -- or it was cut short
  pub line_short : {A : Type 0} (result : Result A Fault) (f : Fault) → result ≡ Err f → GaveFront now new f (line ∷ []) → Gave old new result (lines_of text)
  line_short {A} result f err g =
      let later = lines_of (drop (length line) left) in
      gave_cut old new result f (lines_of text) err (subst (GaveFront old new f) (sym next) (cut_then old now new done (line ∷ later) f h (cut_longer now new (line ∷ []) later f g)))

no_line : (left : List ℕ) → length left ≡ 0 → left ≡ []
no_line [] e = refl
no_line (b ∷ bs) e = absurd (omega (arith, e))

-- all lines are given
pub lines_all : (text left : List ℕ) (done : List (List ℕ)) (old now : PieceSink) → length left ≡ 0 → lines_of text ≡ done ++ lines_of left → GaveAll old now done → GaveAll old now (lines_of text)
lines_all text left done old now e is h = subst (GaveAll old now) (sym (is ∙ ap (λ l. done ++ lines_of l) (no_line left e) ∙ append-nil done)) h
