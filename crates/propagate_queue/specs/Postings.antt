-- What an agent stands for: a range with the arguments of its slots, posted on a target.
use Rattle.std.specs.Prelude.{◌≡◌, ℕ, ◌<◌, ◌&&◌, ◌==◌, ◌≤◌, List, [], ◌++◌, map, take, length, slice_index_or, refl, All}
use Rattle.std.specs.List.{list_any}
use Rattle.std.specs.Coded.{Coded, code_by, coded×, coded_ℕ, coded_list}
use Rattle.fd_language.specs.Range.{Range, Indexical, Dom}
use Rattle.fd_language.specs.Features.{range_features}
use Rattle.fd_model.specs.Levels.{range_coded}
use Rattle.range_code.specs.declared.frame.Arg.{Arg}
use Rattle.range_code.specs.contracts.frame.Arg as arg
use Rattle.range_code.specs.Frames.{IsArgumentFrame, posted}
use Rattle.dependency_chains.specs.declared.Change.{Change}
use Rattle.dependency_chains.specs.AgentReads.{AgentRead}
use Rattle.dependency_chains.specs.WokenAgents.{wakes, is_woken}

pub record Posting : Type 0 where
  pub range : Range
  pub target : ℕ
  pub args : List Arg

abbrev pub posting_coded : Coded Posting
posting_coded = code_by (Range × (ℕ × List Arg)) (coded× range_coded (coded× coded_ℕ (coded_list arg.the_row.coded))) (λ p. (p.range, (p.target, p.args)))
    (λ d. record { range = d.0; target = d.1.0; args = d.1.1 }) (λ _. refl)

abbrev pub postings_coded : Coded (List Posting)
postings_coded = coded_list posting_coded

-- the agent of a number
abbrev pub posting_at : List Posting → ℕ → Posting
posting_at ps number = slice_index_or ps number (record { range = Dom 0; target = 0; args = [] })

-- the range that is posted
abbrev pub ranged : Posting → Indexical
ranged p = record { target = p.target; range = posted p.range p.args }

-- the ranges that are posted, in order
abbrev pub ranges_of : List Posting → List Indexical
ranges_of is = map ranged is

-- the new agents are the old ones and the first of those to be added
pub record IsAdded (more old new : List Posting) : Type 0 where
  pub part : (rest : List Posting) × (new ++ rest ≡ old ++ more)
  pub many : length old ≤ length new
  pub front : take (length old) new ≡ old

-- its variables are among the first so many, and its integers meet their needs
abbrev pub IsPosting : ℕ → Posting → Type 0
IsPosting count p = (p.target < count) × IsArgumentFrame count p.range p.args

-- the agents that a change of x wakes are those that read what changed
pub record AreReaders (ps : List Indexical) (reads : List AgentRead) : Type 0 where
  pub known : All (λ r. r.agent < length ps) reads
  pub same : (a : ℕ) (d : Indexical) (x : ℕ) (c : Change) → a < length ps
      → list_any (λ r. (r.agent == a) && ((r.var == x) && wakes c r.feature)) reads ≡ is_woken c x (range_features (slice_index_or ps a d).range)
