-- Variables that are forgotten: other equations that say the same of those that stay.
use Rattle.std.proofs.Common.{◌≡◌, ℕ, true, List, Option, ap, sym, ◌∙◌}
use Rattle.fd_language.specs.Term.{Term, Var, Int, Atom, Comp, Substitution, apply, apply_all}
use Rattle.fd_language.specs.Unifier.{Equation}
use Rattle.fd_language.specs.Family.{Family, has}
use Rattle.fd_language.specs.Range.{Indexical}
use Rattle.fd_model.specs.ClosedFamilies.{constrained}
use Rattle.fd_model.specs.Models.{IsModel}
use Rattle.fd_language.proofs.Lemmas.{solved}
use Rattle.fd_model.proofs.Lemmas.{one_term, has_general, weaker}
use Rattle.branch_meaning.specs.Heap.{EquationsOf, StandsForEquations}
use Rattle.branch_meaning.specs.Store.{IsStored, shown_set}
use Rattle.branch_meaning.specs.EquivalentEquations.{SaysSame}

-- the models are the same, where each constrained variable stays
pub same_model : (M N : ℕ) (P : ℕ → Type 0) (ds es : List Equation) (ps : List Indexical) (S : Family) → SaysSame P ds es
    → ((v : ℕ) → has (constrained ps) v ≡ true → P v) → IsModel M N es ps S → IsModel M N ds ps S
same_model M N P ds es ps S says used m =
    let w = says.back m.unifier m.general.unifies in
    let s = has_general ds w.0 w.1 (solved ds) in
    let shows : (v : ℕ) (t : Term) → has (constrained ps) v ≡ true → s.0 v ≡ t → m.unifier v ≡ apply w.0 t = λ v t c e. sym (w.2 v (used v c)) ∙ sym (s.1.general w.0 v w.1) ∙ ap (apply w.0) e in
    record {
      unifier = s.0;
      general = s.1;
      closed = record {
        family = m.closed.family;
        posted = m.closed.posted;
        values = λ v z n c e h. m.closed.values v z n c (shows v (Int z) c e) h;
        same = λ v u x c d e g. one_term M N es ps S m v u (w.0 x) c d (shows v (Var x) c e) (shows u (Var x) d g);
        atoms = λ v a c e. m.closed.atoms v a c (shows v (Atom a) c e);
        compounds = λ v f ts c e. m.closed.compounds v f (apply_all w.0 ts) c (shows v (Comp f ts) c e);
        within = m.closed.within;
      };
      full = m.full;
    }

module _ (M N : ℕ) (ds es : List Equation) (ps : List Indexical) (P Q : ℕ → Type 0) (h : ℕ) (look : Substitution) (link : ℕ → Option ℕ) (slot : ℕ → ℕ)
    (qs : List Indexical) (used : (v : ℕ) → has (constrained ps) v ≡ true → P v) (wider : (x : ℕ) → P x → Q x) where
  -- the others are forgotten
  pub stored_forget : SaysSame P ds es → EquationsOf P es → IsStored M N ds ps Q h look link slot qs → IsStored M N es ps P h look link slot qs
  stored_forget says below st = record {
    heap = record {
      scoped = below;
      unifies = says.there look st.heap.unifies;
      through = λ u k. (let w = says.back u k in let t = st.heap.through w.0 w.1 in (t.0, λ x p. t.1 x (wider x p) ∙ w.2 x p));
      cells = λ x p. st.heap.cells x (wider x p);
    };
    used = used;
    down = λ T m. weaker M N ds es ps (λ v. T (slot v)) says.there (st.down T m);
    up = λ S m. st.up S (same_model M N P ds es ps S says used m);
    agrees = st.agrees;
    slots = st.slots;
    linked = st.linked;
    from = st.from;
  }

  -- and come in, where the heap stands for the equations with them
  pub stored_more : (look' : Substitution) → SaysSame P ds es → StandsForEquations ds Q h look' → ((x : ℕ) → P x → look x ≡ look' x)
      → IsStored M N es ps P h look link slot qs → IsStored M N ds ps Q h look' link slot qs
  stored_more look' says heap same st = record {
    heap = heap;
    used = λ v c. wider v (used v c);
    down = λ T m. same_model M N P ds es ps (λ v. T (slot v)) says used (st.down T m);
    up = λ S m. st.up S (weaker M N ds es ps S says.there m);
    agrees = λ T m v c. ap (shown_set link T) (sym (same v (used v c))) ∙ st.agrees T m v c;
    slots = st.slots;
    linked = λ v c d e. st.linked v c d (same v (used v d) ∙ e);
    from = λ c k e. (let f = st.from c k e in (f.0, f.1, sym (same f.0 (used f.0 f.1)) ∙ f.2, f.3));
  }
