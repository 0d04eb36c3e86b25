-- What is posted: a range with the arguments of its slots stands for an indexical.
use Rattle.std.specs.Prelude.{ℕ, List, map}
use Rattle.fd_language.specs.Range.{Range, Indexical}
use Rattle.range_code.specs.declared.frame.Arg.{Arg}
use Rattle.propagate_queue.specs.declared.instance.Instance.{Instance}
use Rattle.propagate_queue.specs.Postings.{Posting, ranged, IsPosting}

-- a range with its target and the arguments of its slots
abbrev pub posting_of : Range → ℕ → List Arg → Posting
posting_of r target args = record { range = r; target = target; args = args }

abbrev pub posting : Instance → Posting
posting i = posting_of i.code.value i.target i.args.items

abbrev pub indexical : Instance → Indexical
indexical i = ranged (posting i)

-- the ranges that are posted, in order
abbrev pub posted_by : List Instance → List Indexical
posted_by is = map indexical is

-- its variables are among the first so many, and its integers meet their needs
abbrev pub IsInstance : ℕ → Instance → Type 0
IsInstance count i = IsPosting count (posting i)
