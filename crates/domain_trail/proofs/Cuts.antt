-- A set of the current store intersected with another one.
use Rattle.std.proofs.Common.{◌≡◌, ℕ, ◌<◌, ◌≤◌, List, [], ◌∷◌, filter, length, get_or, set, reverse, true, ℤ, pos, get_or-set_same, refl, ap, sym, ◌∙◌, subst}
use Rattle.std.proofs.Common.{arith}
use Rattle.std.specs.Prelude.{slice_set}
use Rattle.std.proofs.lemmas.List.{get_or-map, map-set, length-set}
use Rattle.fd_language.specs.declared.TheConstants.{INFINITY}
use Rattle.fd_language.specs.Family.{has, universe, IsRising}
use Rattle.fd_language.proofs.Lemmas.{has_high}
use Rattle.domain_ranges.specs.Spans.{members}
use Rattle.domain_ranges.specs.Narrowing.{all_but, AreEnds, IsInterval, IsPart, IsMembership}
use Rattle.domain_ranges.specs.declared.Part.TheVariants.{Within}
use Rattle.domain_ranges.specs.declared.Membership.TheVariants.{Among}
use Rattle.domain_ranges.proofs.Lemmas.{fewer_left, least_is, members_rising, own_ends}
use Rattle.domain_trail.specs.declared.Cell.{Cell}
use Rattle.domain_trail.specs.declared.Saved.{Saved}
use Rattle.domain_trail.specs.declared.Mark.{Mark}
use Rattle.domain_trail.specs.declared.Cut.TheVariants.{Changed}
use Rattle.domain_trail.specs.Stores.{Stores}
use Rattle.domain_trail.specs.Trails.{sets_of, stores_below, IsTrail, MayChange}
use Rattle.domain_trail.specs.Cuts.{set_at, IsCut}
use Rattle.domain_trail.proofs.Steps.{same_stores, same_length, written}

-- the set of a variable is that of its cell
pub set_of_cell : (cs : List Cell) (s : Stores) (k : ℕ) (x : Cell) → sets_of cs ≡ s.current → k < length s.current → x ≡ get_or cs k x → x.domain ≡ set_at s k
set_of_cell cs s k x e l h =
    let within : k < length cs = omega (arith, same_length cs s.current e, l) in
    ap (λ (c : Cell). c.domain) h ∙ sym (get_or-map (λ (c : Cell). c.domain) cs k x (universe INFINITY) within) ∙ ap (λ (q : List (List ℕ)). get_or q k (universe INFINITY)) e

own : (low high : ℕ) → low ≤ high → high ≤ INFINITY → AreEnds (low, high) (members ((low, high) ∷ []))
own low high l h =
    let w = own_ends (low, high) ((low, high) ∷ []) l h refl in
    record {
      some = (least_is INFINITY ((low, high) ∷ []) (members ((low, high) ∷ [])) w.spans refl (omega arith)).0;
      rising = members_rising 0 INFINITY ((low, high) ∷ []) w.spans;
      least = w.least;
      greatest = w.greatest;
    }

-- of an interval an interval is left
pub interval_cut : (set d : List ℕ) (k : ℕ) (old new : Stores) (low high : ℕ) (before : ℕ × ℕ) → d ≡ set_at old k → IsPart d set (Within low high)
    → IsInterval d → new ≡ record old { current = slice_set old.current k (members ((low, high) ∷ [])) } → AreEnds before (set_at old k)
    → IsCut set k old new (Changed before (low, high))
interval_cut set d k old new low high before e p i g b =
    let q : IsPart (set_at old k) set (Within low high) = subst (λ (x : List ℕ). IsPart x set (Within low high)) e p in
    let is : filter (has set) (set_at old k) ≡ members ((low, high) ∷ []) = q.3 (subst IsInterval e i) in (
      g ∙ ap (λ (l : List ℕ). record old { current = slice_set old.current k l }) (sym is),
      q.2,
      b,
      subst (AreEnds (low, high)) (sym is) (own low high q.0 q.1),
    )

-- a member is left out
pub number_cut : (d : List ℕ) (z : ℤ) (k n : ℕ) (old new : Stores) (before after : ℕ × ℕ) → d ≡ set_at old k → IsMembership d z (Among n)
    → IsRising 0 INFINITY d → new ≡ record old { current = slice_set old.current k (filter (has (all_but (pos n))) (set_at old k)) }
    → AreEnds before (set_at old k) → AreEnds after (filter (has (all_but (pos n))) (set_at old k))
    → IsCut (all_but z) k old new (Changed before after)
number_cut d z k n old new before after e m r g b a =
    let is : z ≡ pos n = m.0 in
    let there : has (set_at old k) n ≡ true = subst (λ (x : List ℕ). has x n ≡ true) e m.1 in
    let high : n ≤ INFINITY = has_high 0 INFINITY d n r m.1 in
    subst (λ (y : ℤ). IsCut (all_but y) k old new (Changed before after)) (sym is)
    (g, fewer_left (set_at old k) (filter (has (all_but (pos n))) (set_at old k)) (pos n) n refl refl high there, b, a)

-- the set that was written is there
pub set_there : (old new : Stores) (k : ℕ) (f : List ℕ) → new ≡ record old { current = slice_set old.current k f } → k < length old.current → (k < length new.current) × (set_at new k ≡ f)
set_there old new k f e l = subst (λ (s : Stores). (k < length s.current) × (set_at s k ≡ f)) (sym e) (omega (arith, length-set old.current k f), rw get_or-set_same refl)

-- a cell that is written in place
pub set_in_place : (ms : List Mark) (es : List Saved) (cs cs' : List Cell) (stamp k : ℕ) (x c : Cell) (old : Stores)
    → ◌≡◌ {A = Stores} (record { current = sets_of cs; below = stores_below (reverse ms) es cs }) old → k < length cs → x ≡ get_or cs k x
    → MayChange ms x.stamp stamp → IsTrail (reverse ms) es cs stamp → cs' ≡ set cs k c
    → ◌≡◌ {A = Stores} (record { current = sets_of cs'; below = stores_below (reverse ms) es cs' }) (record old { current = slice_set old.current k c.domain })
set_in_place ms es cs cs' stamp k x c old v l e m t g =
    subst (λ (o : Stores). ◌≡◌ {A = Stores} (record { current = sets_of cs'; below = stores_below (reverse ms) es cs' }) (record o { current = slice_set o.current k c.domain })) v
    (same_stores (ap sets_of g ∙ map-set (λ (y : Cell). y.domain) cs k c) (ap (stores_below (reverse ms) es) g ∙ (written ms es cs stamp k x c l e m t).below))
