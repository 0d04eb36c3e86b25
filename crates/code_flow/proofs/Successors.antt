-- Where instructions lead.
use Rattle.std.proofs.Common.{◌≡◌, ◌↔◌, ℕ, ◌<◌, ◌≤◌, ◌+◌, suc, Bool, true, false, IsTrue, List, ◌++◌, length, get_or, Some, None, option_map, refl, sym, ap}
use Rattle.std.proofs.Common.{◌∙◌, subst, arith}
use Rattle.std.proofs.lemmas.List.{length-map}
use Rattle.std.proofs.lemmas.Option.{slice_get-map, slice_get_read, slice_get_within}
use Rattle.wam_code.specs.declared.instruction.Code.{Code}
use Rattle.wam_code.specs.declared.instruction.Code.TheVariants.{GetVariable, Allocate}
use Rattle.fd_language.specs.Family.{has}
use Rattle.wam_code.specs.Area.{Area, State, Holds, HasState}
use Rattle.wam_code.specs.declared.parts.Entry.{Entry}
use Rattle.wam_code.specs.Effect.{when, effect}
use Rattle.wam_code.specs.VerifiedCode.{named, arms, goes_on, Covers}
use Rattle.code_listing.specs.declared.states.PlaceState.{PlaceState}
use Rattle.code_flow.specs.StateTransfer.{needs, changed, IsSame}
use Rattle.code_flow.specs.Successors.{direct, CoversAt, HandsOn, IsHandedOn, LeadsOn}
use Rattle.code_listing.specs.Listing.{table_of}
use Rattle.code_listing.specs.States.{state_of, states_of}
use Rattle.code_flow.proofs.Effects.{effect_is}
use Rattle.code_flow.proofs.Congruence.{needs_same, changed_same}
use Rattle.code_flow.proofs.StateEquivalence.{same_then, same_turned, same_covers}

pub named_is : (area : Area) (i : Code) → direct i ++ arms (table_of area.tables i) ≡ named area i
named_is area (GetVariable r a) = refl
named_is area i = refl

-- ---- to the place whose state is kept

has_state : (ss : List PlaceState) (to : ℕ) (p : PlaceState) → to < length ss → p ≡ get_or ss to p → HasState (states_of ss) to (state_of p)
has_state ss to p h e = slice_get-map state_of ss to ∙ ap (option_map state_of) (slice_get_read ss (length ss) to p refl h e)

pub handed_there : (ss : List PlaceState) (to : ℕ) (p : PlaceState) (t : State) (b : Bool) → to < length ss → p ≡ get_or ss to p
    → (IsTrue b ↔ Covers t (state_of p)) → IsTrue b ↔ CoversAt (states_of ss) t to
handed_there ss to p t b h e f = (λ g s k. subst (Covers t) (is s k) (f.0 g), λ g. f.1 (g (state_of p) (has_state ss to p h e)))
  where
    is : (s : State) → HasState (states_of ss) to s → state_of p ≡ s
    is s k = let same : Some (state_of p) ≡ Some s = sym (has_state ss to p h e) ∙ k in cc (same)

pub handed_past : (ss : List PlaceState) (to : ℕ) (t : State) → length ss ≤ to → CoversAt (states_of ss) t to
handed_past ss to t h s g = absurd (let z : ⊥ = omega (arith, h, slice_get_within (states_of ss) to s g, length-map ss state_of) in z)

-- ---- what an instruction hands on

handed_same : (ss : List State) (s t : State) (to : ℕ) → IsSame s t → CoversAt ss s to → CoversAt ss t to
handed_same ss s t to h g x k = same_covers s t x h (g x k)

-- what is made of the state that was found is made of the state itself
made_same : (es : List Entry) (i : Code) (s t : State) (w : IsHandedOn es i s t) → IsSame t (changed i s)
made_same es i s t w = same_then t (changed i w.found) (changed i s) w.made (changed_same w.found s w.same i)

effect_some : (es : List Entry) (i : Code) (s t : State) (w : IsHandedOn es i s t) → effect es i s ≡ Some (changed i s)
effect_some es i s t w = effect_is es i s ∙ ap (λ b. when b (changed i s)) (sym (needs_same w.found s w.same es i) ∙ w.meets)

module _ (a : Area) (ss : List State) (at : ℕ) (i : Code) (s : State) where
  pub leads_on : (t : State) → IsHandedOn a.entries i s t → HandsOn a ss at i t → LeadsOn a ss at i s
  leads_on t w h =
      let same = made_same a.entries i s t w in
      (changed i s, effect_some a.entries i s t w, (λ to g. handed_same ss t (changed i s) to same (h.there to g)), λ g. handed_same ss t (changed i s) (suc at) same (h.next g))

  pub leads_back : (t : State) → IsHandedOn a.entries i s t → LeadsOn a ss at i s → HandsOn a ss at i t
  leads_back t w l =
      let e : Some (changed i s) ≡ Some l.0 = sym (effect_some a.entries i s t w) ∙ l.1 in
      let is : changed i s ≡ l.0 = cc (e) in
      let same : IsSame l.0 t = subst (λ x. IsSame x t) is (same_turned t (changed i s) (made_same a.entries i s t w)) in
      record { there = λ to g. handed_same ss l.0 t to same (l.2 to g); next = λ g. handed_same ss l.0 t (suc at) same (l.3 g) }

  pub misses_needs : (h : State) → IsSame h s → needs a.entries i h ≡ false → ¬ LeadsOn a ss at i s
  misses_needs h same none l =
      let e : None ≡ Some l.0 = sym (ap (λ b. when b (changed i s)) (sym (needs_same h s same a.entries i) ∙ none)) ∙ sym (effect_is a.entries i s) ∙ l.1 in
      absurd (cc (e))

  -- where what it makes can't be handed to the next place
  pub misses_room : IsTrue (goes_on i) → ((x : State) → ¬ CoversAt ss (changed i x) (suc at)) → ¬ LeadsOn a ss at i s
  misses_room g none l = go (needs a.entries i s) refl
    where
      go : (b : Bool) → needs a.entries i s ≡ b → ⊥
      go true e =
          let f : Some (changed i s) ≡ Some l.0 = sym (effect_is a.entries i s ∙ ap (λ b. when b (changed i s)) e) ∙ l.1 in
          let is : l.0 ≡ changed i s = cc (f) in
          none s (subst (λ x. CoversAt ss x (suc at)) is (l.3 g))
      go false e =
          let f : None ≡ Some l.0 = sym (effect_is a.entries i s ∙ ap (λ b. when b (changed i s)) e) ∙ l.1 in
          absurd (cc (f))

-- where it makes a frame for a place that has no state
pub leads_unseen : (a : Area) (ss : List PlaceState) (at : ℕ) (i : Code) (s : State) (b : Bool) → (n : ℕ) × (i ≡ Allocate n) → length ss ≤ at + 1
    → b ≡ needs a.entries i s → IsTrue b ↔ LeadsOn a (states_of ss) at i s
leads_unseen a ss at i s b (n, is) h e = (there, back)
  where
    there : IsTrue b → LeadsOn a (states_of ss) at i s
    there t = (
      changed i s,
      effect_is a.entries i s ∙ ap (λ x. when x (changed i s)) (sym e ∙ t),
      (λ to g. absurd (let z : false ≡ true = subst (λ (j : Code). has (named a j) to ≡ true) is g in cc (z))),
      λ g. handed_past ss (suc at) (changed i s) (omega (arith, h)),
    )

    back : LeadsOn a (states_of ss) at i s → IsTrue b
    back l = go (needs a.entries i s) refl
      where
        go : (x : Bool) → needs a.entries i s ≡ x → b ≡ true
        go true f = e ∙ f
        go false f =
            let g : None ≡ Some l.0 = sym (effect_is a.entries i s ∙ ap (λ x. when x (changed i s)) f) ∙ l.1 in
            absurd (cc (g))

-- the frame of what is handed to a place is that of its state
pub room_frame : (ss : List PlaceState) (to : ℕ) (p : PlaceState) (t : State) → to < length ss → p ≡ get_or ss to p → CoversAt (states_of ss) t to → t.frame ≡ (state_of p).frame
room_frame ss to p t h e g = (g (state_of p) (has_state ss to p h e)).frame

pub no_state : (ss : List PlaceState) (at : ℕ) (s : State) → length ss ≤ at → HasState (states_of ss) at s → ⊥
no_state ss at s h g = absurd (omega (arith, h, slice_get_within (states_of ss) at s g, length-map ss state_of))

-- of the place's own instruction and state
pub leads_at : (a : Area) (ss : List PlaceState) (at : ℕ) (code : Code) (p : PlaceState) (b : Bool) → Holds a at code → at < length ss → p ≡ get_or ss at p
    → (IsTrue b ↔ LeadsOn a (states_of ss) at code (state_of p))
    → IsTrue b ↔ ((i : Code) (s : State) → Holds a at i → HasState (states_of ss) at s → LeadsOn a (states_of ss) at i s)
leads_at a ss at code p b h low is f = ((λ t i s g k. move t i s g k), λ q. f.1 (q code (state_of p) h (has_state ss at p low is)))
  where
    move : IsTrue b → (i : Code) (s : State) → Holds a at i → HasState (states_of ss) at s → LeadsOn a (states_of ss) at i s
    move t i s g k =
        let same : Some code ≡ Some i = sym h ∙ g in
        let own : code ≡ i = cc (same) in
        let alike : Some (state_of p) ≡ Some s = sym (has_state ss at p low is) ∙ k in
        let its : state_of p ≡ s = cc (alike) in
        subst (λ (j : Code). LeadsOn a (states_of ss) at j s) own (subst (λ (x : State). LeadsOn a (states_of ss) at code x) its (f.0 t))
