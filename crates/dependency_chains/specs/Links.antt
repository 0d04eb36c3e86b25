-- The chains of links: one for each variable and feature, from its newest link to its oldest.
use Rattle.std.specs.Prelude.{◌≡◌, ℕ, zero, suc, ◌<◌, ◌≤◌, Bool, ◌&&◌, ◌==◌, if◌then◌else◌, List, [], ◌∷◌, map, length, slice_index_or, All}
use Rattle.fd_language.specs.declared.range_node.Feature.{Feature}
use Rattle.fd_language.specs.declared.range_node.Feature.TheVariants as feature
use Rattle.fd_language.specs.Features.{is_same_feature}
use Rattle.dependency_chains.specs.declared.Link.{Link}
use Rattle.dependency_chains.specs.declared.Heads.{Heads}
use Rattle.dependency_chains.specs.AgentReads.{AgentRead}

abbrev pub reading : Link → AgentRead
reading l = record { agent = l.agent; var = l.var; feature = l.feature }

abbrev pub reads_of : List Link → List AgentRead
reads_of ls = map reading ls

abbrev pub link_at : List Link → ℕ → Link
link_at ls n = slice_index_or ls n (record { agent = 0; var = 0; feature = feature.Min; next = 0 })

-- whether the link is in the chain of the variable and the feature
abbrev pub is_in : Link → ℕ → Feature → Bool
is_in l k f = (l.var == k) && is_same_feature l.feature f

-- one more than the place of the chain's newest link among the first n, and 0 where there is none
abbrev pub latest : List Link → ℕ → ℕ → Feature → ℕ
latest ls zero k f = zero
latest ls (suc n) k f = if is_in (link_at ls n) k f then suc n else latest ls n k f

-- the agents of a chain among the first n links, the newest first
abbrev pub agents_in : List Link → ℕ → ℕ → Feature → List ℕ
agents_in ls zero k f = []
agents_in ls (suc n) k f = if is_in (link_at ls n) k f then (link_at ls n).agent ∷ agents_in ls n k f else agents_in ls n k f

-- the agents of the chain that a place begins
abbrev pub agents_from : List Link → ℕ → List ℕ
agents_from ls zero = []
agents_from ls (suc n) = agents_in ls (suc n) (link_at ls n).var (link_at ls n).feature

abbrev pub head_of : Heads → Feature → ℕ
head_of h feature.Min = h.min
head_of h feature.Max = h.max
head_of h feature.Val = h.val
head_of h feature.Dom = h.dom

-- each link leads to the next older one of its chain
abbrev pub AreLinked : List Link → Type 0
AreLinked ls = (n : ℕ) → n < length ls → (link_at ls n).next ≡ latest ls n (link_at ls n).var (link_at ls n).feature

-- links are in the order of their agents, and each head is the newest link of its chain
pub record AreChains (ls : List Link) (hs : List Heads) : Type 0 where
  pub vars : All (λ l. l.var < length hs) ls
  pub rising : (i j : ℕ) → i ≤ j → j < length ls → (link_at ls i).agent ≤ (link_at ls j).agent
  pub linked : AreLinked ls
  pub heads : (k : ℕ) (d : Heads) (f : Feature) → k < length hs → head_of (slice_index_or hs k d) f ≡ latest ls (length ls) k f
