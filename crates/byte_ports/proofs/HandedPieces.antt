-- One piece after another: what calls of a sink that write them are handed.
use Rattle.std.proofs.Common.{◌≡◌, ◌⊎◌, ℕ, ◌-◌, ◌<◌, ◌≤◌, List, [], ◌∷◌, ◌++◌, Option, Some, None, refl, sym, ap, ◌∙◌, subst, inl, inr}
use Rattle.std.proofs.Common.{append_assoc, append-nil, arith, take, drop, length}
use Rattle.std.specs.Prelude.{All, MatchOption, ⊤}
use Rattle.std.proofs.lemmas.List.Elements.{All-nil, All-push}
use Rattle.std.proofs.lemmas.List.{take_rest}
use Rattle.std.proofs.lemmas.Option.{same_Some}
use Rattle.byte_ports.specs.Ports.{HandedOne, IsRest, AreCallsOf, AreCalls, Handed, HandedFront}

abbrev Told : Type 0
Told = Option (List (List ℕ))

-- ---- the calls for one piece

-- so much of a piece was taken: the piece was handed over, unless nothing of it was taken
abbrev pub HandedWhole : Told → Told → List ℕ → Type 0
HandedWhole old new piece = MatchOption new ⊤ (λ after. (before : List (List ℕ)) × (rests : List (List ℕ)) × (old ≡ Some before) × (after ≡ before ++ piece ∷ rests) × All (IsRest piece) rests)

abbrev pub HandedTo : Told → Told → List ℕ → ℕ → Type 0
HandedTo old new piece done = ((done ≡ 0) × (new ≡ old)) ⊎ ((0 < done) × HandedWhole old new piece)

-- the first call
first_call : (a b : Told) (piece : List ℕ) → HandedOne a b piece → HandedWhole a b piece
first_call a None piece h = tt
first_call a (Some y) piece h = (h.0, [], h.1, h.2, All-nil (IsRest piece))

-- a call for the rest
rest_ends : (x y z : List (List ℕ)) (piece rest : List ℕ) (rests : List (List ℕ)) (w : List (List ℕ)) → y ≡ x ++ piece ∷ rests → y ≡ w → z ≡ w ++ rest ∷ [] → z ≡ x ++ piece ∷ (rests ++ rest ∷ [])
rest_ends x y z piece rest rests w e f g = let h : z ≡ (x ++ piece ∷ rests) ++ rest ∷ [] = cc in h ∙ append_assoc x (piece ∷ rests) (rest ∷ [])

rest_call : (a b c : Told) (piece rest : List ℕ) → HandedWhole a b piece → HandedOne b c rest → IsRest piece rest → HandedWhole a c piece
rest_call a b None piece rest h g i = tt
rest_call a None (Some z) piece rest h g i = absurd (cc (g.1))
rest_call a (Some y) (Some z) piece rest h g i = (
  h.0,
  h.1 ++ rest ∷ [],
  h.2,
  rest_ends h.0 y z piece rest h.1 g.0 h.3 (same_Some y g.0 g.1) g.2,
  All-push (IsRest piece) h.1 rest h.4 i,
)

-- one more call, for what was not taken yet
pub one_call : (a b c : Told) (piece : List ℕ) (done : ℕ) → HandedTo a b piece done → done < length piece → HandedOne b c (take (length piece - done) (drop done piece)) → HandedWhole a c piece
one_call a b c piece done h l g = by_part h (subst (HandedOne b c) (take_rest piece done) g)
  where
    by_part : HandedTo a b piece done → HandedOne b c (drop done piece) → HandedWhole a c piece
    by_part (inl n) k = subst (λ (o : Told). HandedWhole o c piece) n.1 (first_call b c piece (subst (λ (d : ℕ). HandedOne b c (drop d piece)) n.0 k))
    by_part (inr s) k = rest_call a b c piece (drop done piece) s.1 k (done, s.0, l, refl)

-- ---- a piece

whole_calls : (piece : List ℕ) (rests : List (List ℕ)) → 0 < length piece → All (IsRest piece) rests → AreCallsOf piece (piece ∷ rests)
whole_calls [] rests l h = absurd (omega arith)
whole_calls (b ∷ bs) rests l h = (rests, refl, h)

one_piece : (piece : List ℕ) (calls : List (List ℕ)) → AreCallsOf piece calls → AreCalls (piece ∷ []) calls
one_piece piece calls h = (calls, [], h, refl, sym (append-nil calls))

-- it was handed over, whatever was taken
pub handed_whole : (a b : Told) (piece : List ℕ) → 0 < length piece → HandedWhole a b piece → Handed a b (piece ∷ [])
handed_whole a None piece l h = tt
handed_whole a (Some y) piece l h = (h.0, piece ∷ h.1, h.2, h.3, one_piece piece (piece ∷ h.1) (whole_calls piece h.1 l h.4))

-- nothing is handed over by no call
pub handed_none : (a : Told) → Handed a a []
handed_none None = tt
handed_none (Some x) = (x, [], refl, sym (append-nil x), refl)

no_piece : (a : Told) → Handed a a ([] ∷ [])
no_piece None = tt
no_piece (Some x) = (x, [], refl, sym (append-nil x), one_piece [] [] refl)

no_bytes : (piece : List ℕ) → length piece ≤ 0 → piece ≡ []
no_bytes [] l = refl
no_bytes (b ∷ bs) l = absurd (omega arith)

-- of a piece that was taken whole
pub handed_all : (a b : Told) (piece : List ℕ) (done : ℕ) → HandedTo a b piece done → length piece ≤ done → done ≤ length piece → Handed a b (piece ∷ [])
handed_all a b piece done (inl n) l m =
    let none : piece ≡ [] = no_bytes piece (let e = n.0 in omega (arith, l, e)) in
    subst (λ (p : List ℕ). Handed a b (p ∷ [])) (sym none) (subst (λ (o : Told). Handed o b ([] ∷ [])) n.1 (no_piece b))
handed_all a b piece done (inr s) l m = handed_whole a b piece (let e = s.0 in omega (arith, m, e)) s.1

-- ---- pieces

calls_then : (ps qs calls more : List (List ℕ)) → AreCalls ps calls → AreCalls qs more → AreCalls (ps ++ qs) (calls ++ more)
calls_then [] qs calls more h g = subst (λ (c : List (List ℕ)). AreCalls qs (c ++ more)) (sym h) g
calls_then (p ∷ ps) qs calls more h g =
    (h.0, h.1 ++ more, h.2, calls_then ps qs h.1 more h.3 g, ap (λ (c : List (List ℕ)). c ++ more) h.4 ∙ append_assoc h.0 h.1 more)

handed_ends : (x y y' z p q : List (List ℕ)) → y ≡ x ++ p → y ≡ y' → z ≡ y' ++ q → z ≡ x ++ (p ++ q)
handed_ends x y y' z p q e f g = let h : z ≡ (x ++ p) ++ q = cc in h ∙ append_assoc x p q

-- pieces behind others
pub handed_then : (a b c : Told) (ps qs : List (List ℕ)) → Handed a b ps → Handed b c qs → Handed a c (ps ++ qs)
handed_then a b None ps qs h g = tt
handed_then a None (Some z) ps qs h g = absurd (cc (g.2))
handed_then a (Some y) (Some z) ps qs h g = (
  h.0,
  h.1 ++ g.1,
  h.2,
  handed_ends h.0 y g.0 z h.1 g.1 h.3 (same_Some y g.0 g.2) g.3,
  calls_then ps qs h.1 g.1 h.4 g.4,
)

-- all pieces are some from the first on
pub handed_front : (a b : Told) (ps qs : List (List ℕ)) → Handed a b ps → HandedFront a b (ps ++ qs)
handed_front a b ps qs h = (ps, qs, refl, h)

-- some from the first on, behind others
pub front_behind : (a b c : Told) (ps qs : List (List ℕ)) → Handed a b ps → HandedFront b c qs → HandedFront a c (ps ++ qs)
front_behind a b c ps qs h g = (ps ++ g.0, g.1, ap (λ (r : List (List ℕ)). ps ++ r) g.2 ∙ sym (append_assoc ps g.0 g.1), handed_then a b c ps g.0 h g.3)

-- and before others
pub front_before : (a b : Told) (ps qs : List (List ℕ)) → HandedFront a b ps → HandedFront a b (ps ++ qs)
front_before a b ps qs h = (h.0, h.1 ++ qs, ap (λ (r : List (List ℕ)). r ++ qs) h.2 ∙ append_assoc h.0 h.1 qs, h.3)
