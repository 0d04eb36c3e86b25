-- The statement of the law.
use Rattle.std.specs.Prelude.{ℕ, ◌<◌, Bool, List, map, Option}
use Rattle.fd_language.specs.Family.{Family}
use Rattle.fd_language.specs.Range.{Indexical}
use Rattle.fd_language.specs.Term.{Term, Substitution}
use Rattle.fd_model.specs.declared.kinds.Order.{Order}
use Rattle.fd_model.specs.BestPosted.{SoughtValues}
use Rattle.fd_model.specs.Goal.{Goal, Branch}
use Rattle.fd_model.specs.Labelling.{open_ones}
use Rattle.fd_model.specs.Members.{Member}
use Rattle.sought_leaves.specs.LeafSearch.{owned, IsSearched, IsFound}

-- Where a heap and a store stand for a branch, what a search finds from the store's posted ranges on, with bounds of new variables, is the best leaf of the
-- labelling in the branch.
abbrev pub SearchesAgree : Type 0
SearchesAgree =
    (M N : ℕ) (b : Branch) (t c : Term) (h : ℕ) (look : Substitution) (link : ℕ → Option ℕ) (slot : ℕ → ℕ) (qs : List Indexical) (G : Family) (ms : List Member)
    (cost : Member) (own : ℕ → ℕ) (ls : List Indexical)
    → 0 < N → IsSearched M N b t c h look link slot qs G ms cost own ls
    → (o : Order) (least : Bool) (rest : List Goal) (found : Option (List ℕ)) → SoughtValues M o (map (owned own) ms) (owned own cost) least ls found
    → IsFound M N b rest o least t c look (open_ones ms) found
