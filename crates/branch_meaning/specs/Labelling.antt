-- What a labelling takes, by a branch's view and by a heap and a store.
use Rattle.std.specs.Prelude.{ℕ, List, [], ◌∷◌, map, Option, Some, None, Result, Ok, Err}
use Rattle.fd_model.specs.declared.kinds.QueryFault.{QueryFault}
use Rattle.fd_model.specs.declared.kinds.Order.{Order}
use Rattle.fd_language.specs.Term.{Term, apply}
use Rattle.fd_model.specs.Members.{Member}
use Rattle.fd_model.specs.Labelling.{read_list, pick, values_by}
use Rattle.fd_language.specs.Family.{Family}
use Rattle.fd_model.specs.Goal.{Goal, Branch}
use Rattle.fd_model.specs.Children.{Offer, Faults, Gives, with_goals, by_value}
use Rattle.branch_meaning.specs.HeldBranches.{HeldState}
use Rattle.branch_meaning.specs.AnswerTexts.{cell_set}

-- the picked variable with its values, none where no member is open, or the list's fault
pub data Labelled : Type 0 where
  faults : QueryFault → Labelled
  done : Labelled
  labels : ℕ → List ℕ → Labelled

abbrev pub by_picked : (ℕ → List ℕ) → Option ℕ → Labelled
by_picked values None = done
by_picked values (Some x) = labels x (values x)

abbrev pub by_listing : Order → (ℕ → List ℕ) → Result (List Member) QueryFault → Labelled
by_listing o values (Err f) = faults f
by_listing o values (Ok ms) = by_picked values (pick o values ms)

-- what a labelling of this list does, where values gives each open variable's values
abbrev pub labelled : Order → (ℕ → List ℕ) → Term → Labelled
labelled o values t = by_listing o values (read_list t)

abbrev pub rename_labelled : (ℕ → ℕ) → Labelled → Labelled
rename_labelled f (faults e) = faults e
rename_labelled f done = done
rename_labelled f (labels x ns) = labels (f x) ns

-- the children of a labelling goal g, or its fault
abbrev pub by_labelled : Branch → Goal → List Goal → Labelled → Offer
by_labelled b g rest (faults f) = Faults f
by_labelled b g rest done = Gives (with_goals b rest ∷ [])
by_labelled b g rest (labels x ns) = Gives (map (by_value b (g ∷ rest) x) ns)

-- a labelling of the term t over cells, by a heap and a store with the sets T
abbrev pub held_label : ℕ → ℕ → HeldState → Family → Order → Term → Labelled
held_label M N f T o t = labelled o (λ d. values_by N (cell_set T (f.link d))) (apply f.heap t)
