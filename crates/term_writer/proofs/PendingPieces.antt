-- What the pieces that are left come to.
use Rattle.std.proofs.Common.{◌≡◌, ◌∙◌, ℕ, ◌+◌, ◌<◌, List, [], ◌∷◌, ◌++◌, refl, sym, ap, subst, arith}
use Rattle.std.specs.Prelude.{All}
use Rattle.std.proofs.lemmas.List.Elements.{All-append}
use Rattle.fd_language.specs.TermTexts.{Mode}
use Rattle.term_pool.specs.Contents.{Contents}
use Rattle.term_writer.specs.declared.pieces.Piece.{Piece}
use Rattle.term_writer.specs.Pieces.{joined, piece_text, piece_weight, finished, load, IsOf, Replaces}

pub finished-append : (c : Contents) (mode : Mode) (vars : ℕ → List ℕ) (text : List ℕ) (ps qs : List Piece)
    → finished c mode vars text (ps ++ qs) ≡ finished c mode vars (finished c mode vars text qs) ps
unfolding finished
finished-append c mode vars text [] qs = refl
finished-append c mode vars text (p ∷ ps) qs = ap (λ (t : List ℕ). joined t (piece_text c mode vars p)) (finished-append c mode vars text ps qs)

pub finished-push : (c : Contents) (mode : Mode) (vars : ℕ → List ℕ) (text : List ℕ) (ps : List Piece) (p : Piece)
    → finished c mode vars text (ps ++ p ∷ []) ≡ finished c mode vars (joined text (piece_text c mode vars p)) ps
unfolding finished
finished-push c mode vars text ps p = finished-append c mode vars text ps (p ∷ [])

load-append : (c : Contents) (ps qs : List Piece) → load c (ps ++ qs) ≡ load c ps + load c qs
unfolding load
load-append c [] qs = omega arith
load-append c (p ∷ ps) qs = omega (arith, load-append c ps qs)

load-one : (c : Contents) (p : Piece) → load c (p ∷ []) ≡ piece_weight c p
unfolding load
load-one c p = omega arith

pub same_whole : (c : Contents) (mode : Mode) (vars : ℕ → List ℕ) (p : Piece) (text text2 : List ℕ) (rest next : List Piece)
    → Replaces c mode vars (piece_text c mode vars p) (piece_weight c p) text rest text2 next → finished c mode vars text2 next ≡ finished c mode vars text (rest ++ p ∷ [])
same_whole c mode vars p text text2 rest next r =
    ap (finished c mode vars text2) r.pushed ∙ finished-append c mode vars text2 rest r.more
    ∙ ap (λ (t : List ℕ). finished c mode vars t rest) r.whole ∙ sym (finished-push c mode vars text rest p)

pub whole_kept : (c : Contents) (mode : Mode) (vars : ℕ → List ℕ) (p : Piece) (text text2 : List ℕ) (rest next ahead : List Piece) (whole : List ℕ)
    → Replaces c mode vars (piece_text c mode vars p) (piece_weight c p) text rest text2 next → ahead ≡ rest ++ p ∷ [] → finished c mode vars text ahead ≡ whole
    → finished c mode vars text2 next ≡ whole
whole_kept c mode vars p text text2 rest next ahead whole r e h = same_whole c mode vars p text text2 rest next r ∙ ap (finished c mode vars text) (sym e) ∙ h

pub smaller_load : (c : Contents) (mode : Mode) (vars : ℕ → List ℕ) (p : Piece) (text text2 : List ℕ) (rest next : List Piece)
    → Replaces c mode vars (piece_text c mode vars p) (piece_weight c p) text rest text2 next → load c next < load c (rest ++ p ∷ [])
smaller_load c mode vars p text text2 rest next r =
    subst (λ (ps : List Piece). load c ps < load c (rest ++ p ∷ [])) (sym r.pushed)
    (omega (arith, load-append c rest r.more, load-append c rest (p ∷ []), load-one c p, r.lighter))

pub still_within : (c : Contents) (mode : Mode) (vars : ℕ → List ℕ) (wanted : List ℕ) (heavy : ℕ) (text text2 : List ℕ) (rest next : List Piece)
    → Replaces c mode vars wanted heavy text rest text2 next → All (IsOf c) rest → All (IsOf c) next
still_within c mode vars wanted heavy text text2 rest next r h = subst (All (IsOf c)) (sym r.pushed) (All-append (IsOf c) rest r.more h r.within)
