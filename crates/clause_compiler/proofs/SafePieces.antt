-- A safe piece, where it stands in code.
use Rattle.std.proofs.Common.{◌≡◌, ℕ, zero, suc, ◌+◌, ◌<◌, ◌&&◌, IsTrue, List, [], ◌∷◌, map, Some, length, slice_get, refl, ap, sym, ◌∙◌, subst, arith}
use Rattle.std.proofs.lemmas.List.{length-map}
use Rattle.std.proofs.lemmas.Option.{slice_get_within}
use Rattle.fd_language.specs.Family.{has}
use Rattle.wam_code.specs.declared.instruction.Code.{Code}
use Rattle.wam_code.specs.declared.instruction.Code.TheVariants.{Call, Execute, TryMeElse, RetryMeElse, TrustMe, Try, Retry, Trust, SwitchOnTerm}
use Rattle.wam_code.specs.declared.instruction.Code.TheVariants.{SwitchOnConstant, SwitchOnInteger, SwitchOnStructure}
use Rattle.wam_code.specs.declared.parts.Entry.{Entry}
use Rattle.wam_code.specs.Area.{Area, State, HasState}
use Rattle.wam_code.specs.Effect.{are_given, has_frame, no_frame, when, plain_effect, effect_by, effect}
use Rattle.wam_code.specs.VerifiedCode.{named, goes_on, Leads, IsThere}
use Rattle.clause_code.specs.Pieces.{Predicate, predicate_of, base_of}
use Rattle.clause_code.specs.SafeCode.{unplaced, is_plain, aims, IsThereIn, IsSafePiece}
use Rattle.clause_compiler.proofs.Lists.{get_there, never}

-- ---- predicates without their places

abbrev placeless : Predicate → Entry
placeless s = record { name = s.name; arity = s.arity; at = 0 }

given_alike : (es : List Entry) (n : ℕ) (s : State) → are_given s (slice_get (map placeless (map predicate_of es)) n) ≡ are_given s (slice_get es n)
given_alike [] n s = refl
given_alike (e ∷ es) zero s = refl
given_alike (e ∷ es) (suc n) s = given_alike es n s

plain_alike : (es : List Entry) (i : Code) (s : State) → plain_effect (map placeless (map predicate_of es)) i s ≡ plain_effect es i s
plain_alike es (Call e) s = ap (λ b. when (has_frame s.frame && b) (record s { regs = [] })) (given_alike es e s)
plain_alike es (Execute e) s = ap (λ b. when (no_frame s.frame && b) s) (given_alike es e s)
plain_alike es _ s = refl

-- What an instruction does to a state has nothing to do with where predicates are.
pub effect_alike : (a : Area) (i : Code) (s : State) → effect (unplaced (base_of a)) i s ≡ effect a.entries i s
effect_alike a i s = by s.owed
  where
    by : (n : ℕ) → effect_by n (unplaced (base_of a)) i s ≡ effect_by n a.entries i s
    by zero = plain_alike a.entries i s
    by (suc n) = refl

-- ---- plain instructions

pub named_plain : (a : Area) (i : Code) → IsTrue (is_plain i) → named a i ≡ aims i
named_plain a (TryMeElse to) h = never h
named_plain a (RetryMeElse to) h = never h
named_plain a TrustMe h = never h
named_plain a (Try to) h = never h
named_plain a (Retry to) h = never h
named_plain a (Trust to) h = never h
named_plain a (SwitchOnTerm v c i s) h = never h
named_plain a (SwitchOnConstant t) h = never h
named_plain a (SwitchOnInteger t) h = never h
named_plain a (SwitchOnStructure t) h = never h
named_plain a _ h = refl

pub there_plain : (a : Area) (i : Code) → IsTrue (is_plain i) → IsThereIn (base_of a) i → IsThere a i
there_plain a (SwitchOnConstant t) h w = never h
there_plain a (SwitchOnInteger t) h w = never h
there_plain a (SwitchOnStructure t) h w = never h
there_plain a (Call e) h w = subst (λ n. e < n) (length-map a.entries predicate_of) w
there_plain a (Execute e) h w = subst (λ n. e < n) (length-map a.entries predicate_of) w
there_plain a _ h w = w

-- ---- the piece

module _ (a : Area) (start : ℕ) (is : List Code) (ss : List State) (first : State) (safe : IsSafePiece (base_of a) start is ss first) where
  pub piece_some : 0 < length is
  piece_some = let l = slice_get_within ss 0 first safe.begins in let e = safe.states in omega (arith, l, e)

  state_there : (n : ℕ) (i : Code) → slice_get is n ≡ Some i → (s : State) × (slice_get ss n ≡ Some s)
  state_there n i e = get_there ss n (let l = slice_get_within is n i e in let m = safe.states in omega (arith, l, m))

  -- It names places ahead, of its own.
  pub piece_names : (n : ℕ) (i : Code) (to : ℕ) → slice_get is n ≡ Some i → IsTrue (has (named a i) to) → (start + n < to) × (to < start + length is)
  piece_names n i to e h =
      let s = state_there n i e in
      let w = (safe.leads n i s.0 e s.1).2 to (subst (λ l. IsTrue (has l to)) (named_plain a i (safe.plain n i e)) h) in
      let l = slice_get_within ss w.1.0 w.1.2 w.1.3 in
      let m = safe.states in
      let k = w.1.1 in
      (w.0, omega (arith, l, m, k))

  -- It falls into places of its own.
  pub piece_falls : (n : ℕ) (i : Code) → slice_get is n ≡ Some i → IsTrue (goes_on i) → suc n < length is
  piece_falls n i e h =
      let s = state_there n i e in
      let w = (safe.leads n i s.0 e s.1).3 h in
      let l = slice_get_within ss w.0 w.2 w.3 in
      let m = safe.states in
      let k = w.1 in
      omega (arith, l, m, k)

  pub piece_there : (n : ℕ) (i : Code) → slice_get is n ≡ Some i → IsThere a i
  piece_there n i e = there_plain a i (safe.plain n i e) (safe.there n i e)

  -- Where its states are those of the places from its start on, its instructions find what they need.
  pub piece_leads : (all : List State) → ((m : ℕ) (t : State) → slice_get ss m ≡ Some t → HasState all (start + m) t) → (n : ℕ) (i : Code) (s : State)
      → slice_get is n ≡ Some i → slice_get ss n ≡ Some s → Leads a all (start + n) i s
  piece_leads all inside n i s e f =
      let w = safe.leads n i s e f in (
        w.0,
        sym (effect_alike a i s) ∙ w.1,
        (λ to h.
            let g = (w.2 to (subst (λ l. IsTrue (has l to)) (named_plain a i (safe.plain n i e)) h)).1 in
            (g.2, subst (λ m. HasState all m g.2) (sym g.1) (inside g.0 g.2 g.3), g.4)),
        λ h.
            let g = w.3 h in
            (g.2, subst (λ m. HasState all m g.2) (sym g.1) (inside g.0 g.2 g.3), g.4),
      )
