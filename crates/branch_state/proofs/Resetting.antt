-- The pair below given back, which stays below.
use Rattle.std.proofs.Common.{◌≡◌, ◌<◌, List, ◌∷◌, length, drop, refl, ap, sym, ◌∙◌, subst, arith}
use Rattle.fd_model.specs.Levels.{Level, Levels}
use Rattle.heap_cells.specs.Cells.{Cells, Heaps}
use Rattle.branch_state.specs.States.{State, ArePairs, IsSound, IsSoundBelow, IsUndone, with_pair, without_pairs}
use Rattle.branch_state.proofs.States.{dropped_sound}

module _ (s : State) (h : Heaps) (l : Levels) (o : IsSoundBelow s) (more : 1 < length s.heaps.below) (back : s.heaps.below ≡ h.now ∷ drop 1 s.heaps.below)
    (stays : h.below ≡ s.heaps.below) (given : s.levels.below ≡ l.current ∷ drop 1 s.levels.below) (left : l.below ≡ s.levels.below)
    (spent : l.spent ≡ s.levels.spent) where
  abbrev next : State
  next = record { atoms = s.atoms; infinity = s.infinity; heaps = h; levels = l }

  pairs : ArePairs s.atoms s.infinity (h.now ∷ drop 1 s.heaps.below) (l.current ∷ drop 1 s.levels.below)
  pairs =
      subst (λ (ls : List Level). ArePairs s.atoms s.infinity (h.now ∷ drop 1 s.heaps.below) ls) given
      (subst (λ (hs : List Cells). ArePairs s.atoms s.infinity hs s.levels.below) back o.below)

  heaps_same : h.below ≡ h.now ∷ drop 1 h.below
  heaps_same = stays ∙ back ∙ ap (λ (hs : List Cells). h.now ∷ drop 1 hs) (sym stays)

  levels_same : l.below ≡ l.current ∷ drop 1 l.below
  levels_same = left ∙ given ∙ ap (λ (ls : List Level). l.current ∷ drop 1 ls) (sym left)

  pub reset_sound : IsSound next
  reset_sound = record {
    greatest = o.greatest;
    unspent = spent ∙ o.unspent;
    marked = (let e = ap length stays in omega (arith, e, more));
    below = subst (λ (hs : List Cells). ArePairs s.atoms s.infinity hs l.below) (sym stays) (subst (λ (ls : List Level). ArePairs s.atoms s.infinity s.heaps.below ls) (sym left) o.below);
    now = pairs.0;
  }

  pub reset_under : IsSound (without_pairs next 1)
  reset_under = dropped_sound next 1 reset_sound (let e = ap length stays in omega (arith, e, more))

  pub reset_undone : IsUndone s (without_pairs next 1)
  reset_undone = record {
    atoms = refl;
    infinity = refl;
    heaps = sym stays ∙ heaps_same;
    levels = sym left ∙ levels_same;
  }

  pub reset_pair : next ≡ with_pair (without_pairs next 1)
  reset_pair =
      ap (λ (hs : List Cells). let r : State = record { atoms = s.atoms; infinity = s.infinity; heaps = record { now = h.now; below = hs }; levels = l } in r) heaps_same
      ∙ ap (λ (ls : List Level). let r : State = record {
        atoms = s.atoms;
        infinity = s.infinity;
        heaps = record { now = h.now; below = h.now ∷ drop 1 h.below };
        levels = record { current = l.current; below = ls; spent = l.spent };
      } in
      r) levels_same
