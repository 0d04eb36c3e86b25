-- The answers of a labelling are what its branch allows.
use Rattle.std.proofs.Common.{◌≡◌, ℕ, ◌≤◌, true, List, [], ◌∷◌, refl, ap, sym, ◌∙◌, subst, inl, inr}
use Rattle.fd_model.specs.declared.kinds.Order.{Order}
use Rattle.fd_language.specs.Term.{Term, Var, Int, Atom, Comp, Substitution, apply}
use Rattle.fd_language.specs.Family.{has}
use Rattle.fd_model.specs.Goal.{Program, Branch, End}
use Rattle.fd_model.specs.BranchViews.{IsConsistent}
use Rattle.fd_model.specs.Children.{look_in}
use Rattle.fd_model.specs.Labelling.{open_ones}
use Rattle.fd_model.specs.Members.{Member}
use Rattle.fd_language.specs.Lists.{Each}
use Rattle.fd_model.specs.Answers.{answers, EndsWith, Somewhere, Comes, Settles, AreAnswers}
use Rattle.fd_model.specs.LabellingLaws.{IsListed, IsLabelled, LabellingAnswers}
use Rattle.fd_model.proofs.Lists.{each_map, each_at}
use Rattle.fd_model.proofs.SearchAnswers.{searched, IsFound, found_by}
use Rattle.fd_model.proofs.ModelSubstitutions.{Heeds, look_heeds, through_look}
use Rattle.fd_model.proofs.PickedMembers.{IsInt, AllInts}
use Rattle.fd_model.proofs.OpenMembers.{open_var as left_open, zero_ground}
use Rattle.fd_model.proofs.Labels.{IsReady, Allows, leaf, part, whole}

-- answers by what one branch allows
module _ (M N : ℕ) (prog : Program) (o : Order) (vs : List ℕ) (Good : Branch → Type 0) (Allowed : Branch → List ℕ → Type 0) (b : Branch) (found left : List Branch) where
  only_one : (ns : List ℕ) → Somewhere (λ c. Allowed c ns) (b ∷ []) → Allowed b ns
  only_one ns (inl h) = h
  only_one ns (inr h) = absurd h

  pub answers_from : IsFound M N prog vs (Comes o) Good Allowed (b ∷ []) found left → AreAnswers M N o vs (Allowed b) found (left ≡ [])
  answers_from f = record {
    values = f.values;
    shown = f.shown;
    allowed = each_map (λ ns. Somewhere (λ c. Allowed c ns) (b ∷ [])) (Allowed b) only_one f.values f.allowed;
    order = f.order;
    missing = λ ns h. elim (f.complete ns (inl h)) [
      | inl k ↦ inl k
      | inr k ↦ inr (each_map (λ ms. Each (λ c. (ls : List ℕ) → Allowed c ls → Comes o ms ls) left) (λ ms. Comes o ms ns)
          (λ ms g. each_at (λ c. (ls : List ℕ) → Allowed c ls → Comes o ms ls) left (λ c. Allowed c ns) (Comes o ms ns) g k (λ c i j. i ns j)) f.values f.later)
    ];
    complete = λ e ns h. elim (f.complete ns (inl h)) [ inl k ↦ k | inr k ↦ absurd (subst (Somewhere (λ c. Allowed c ns)) e k) ];
  }

-- what answers are does not depend on how what is allowed is said
pub answers_map : (M N : ℕ) (o : Order) (vs : List ℕ) (A B : List ℕ → Type 0) (V W : Type 0) → ((ns : List ℕ) → A ns → B ns) → ((ns : List ℕ) → B ns → A ns)
    → (W → V) → (bs : List Branch) → AreAnswers M N o vs A bs V → AreAnswers M N o vs B bs W
answers_map M N o vs A B V W there back whole bs f = record {
  values = f.values;
  shown = f.shown;
  allowed = each_map A B there f.values f.allowed;
  order = f.order;
  missing = λ ns h. f.missing ns (back ns h);
  complete = λ w ns h. f.complete (whole w) ns (back ns h);
}

module _ (M N : ℕ) (b : Branch) (o : Order) (ms : List Member) (ws : List ℕ) (ok : IsConsistent M N b.equations b.posted) (l : IsLabelled M N b o ms ws) where
  abbrev look : Substitution
  look = look_in b l.unifier l.family

  heeds : Heeds M N b.equations b.posted look
  heeds = look_heeds M N b l.unifier l.family l.view ok

  pub open_var : (y : ℕ) → has (open_ones ms) y ≡ true → l.unifier y ≡ Var y
  open_var y h = left_open M N b l.unifier l.family l.view ok l.list ms l.read y h

  covered_by : (w : ℕ) (r : Term) → look w ≡ r → IsListed (open_ones ms) r → (u : Substitution) → Heeds M N b.equations b.posted u → AllInts u (open_ones ms) → IsInt (u w)
  covered_by w (Var y) e h u i ints = let k = ints y h in (k.0, sym (through_look M N b l.unifier l.family l.view ok u i w) ∙ ap (apply u) e ∙ k.1)
  covered_by w (Int z) e h u i ints = (z, sym (through_look M N b l.unifier l.family l.view ok u i w) ∙ ap (apply u) e)
  covered_by w (Atom a) e h u i ints = absurd h
  covered_by w (Comp f ts) e h u i ints = absurd h

  pub ready : (low : N ≤ M) (prog : Program) → Settles M b.posted ws → IsReady M N low prog o l.list ms look ws l.read b
  ready low prog settles = record {
    goals = inr l.goals;
    consistent = ok;
    follows = λ u h. through_look M N b l.unifier l.family l.view ok u h;
    settles = settles;
    covered = λ w c. elim (l.covered w c) [ inl h ↦ inl h | inr h ↦ inr (covered_by w (look w) refl h) ];
    inside = λ y z h all. absurd (let e = sym (open_var y h) ∙ all l.unifier l.view.general.unifies in cc);
    ground = zero_ground M N b l.unifier l.family l.view ok l.list ms l.read;
    finished = λ e. absurd (let k = sym e ∙ l.goals in cc);
  }

pub labelling_answers : LabellingAnswers
labelling_answers M N prog q n k b es r o ms ws low ok settles l run =
    let vs = open_ones ms in
    let Good = IsReady M N low prog o l.list ms (look_in b l.unifier l.family) ws l.read in
    let Allowed = Allows M N low prog o l.list ms (look_in b l.unifier l.family) ws l.read in
    let s = searched M N prog q run in
    let f = found_by M N prog vs (Comes o) Good Allowed (leaf M N low prog o l.list ms (look_in b l.unifier l.family) ws l.read)
    (part M N low prog o l.list ms (look_in b l.unifier l.family) ws l.read)
    (whole M N low prog o l.list ms (look_in b l.unifier l.family) ws l.read)
    s.1 (ready M N b o ms ws ok l low prog settles, tt) (tt, tt) in
    answers_map M N o vs (Allowed b) (Allowed b) (s.0 ≡ []) (EndsWith End es) (λ ns h. h) (λ ns h. h) s.2 (answers run) (answers_from M N prog o vs Good Allowed b (answers run) s.0 f)
