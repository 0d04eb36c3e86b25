-- A labelling by the heap's list and the store's sets.
use Rattle.std.proofs.Common.{◌≡◌, ℕ, List, Option, Some, None, refl, Result, Ok, Err}
use Rattle.fd_model.specs.declared.kinds.QueryFault.{QueryFault}
use Rattle.fd_model.specs.declared.kinds.Order.{Order}
use Rattle.fd_model.specs.Goal.{Branch, Goal}
use Rattle.fd_model.specs.Children.{by_listing as by_list, by_pick}
use Rattle.fd_model.specs.Members.{Member}
use Rattle.fd_model.specs.Labelling.{pick}
use Rattle.branch_meaning.specs.Labelling.{by_listing, by_picked, by_labelled}

-- the branch's labelling goal gives what its list, as it is seen, gives
pub row_by : (M : ℕ) (b : Branch) (o : Order) (g : Goal) (others : List Goal) (here : ℕ → List ℕ) (l : Result (List Member) QueryFault)
    → by_list here b o g others l ≡ by_labelled b g others (by_listing o here l)
row_by M b o g others here (Err e) = refl
row_by M b o g others here (Ok ms) = picked (pick o here ms)
  where
    picked : (x : Option ℕ) → by_pick here b g others x ≡ by_labelled b g others (by_picked here x)
    picked None = refl
    picked (Some x) = refl
