-- The forms of compounds, by the number of their parts.
use Rattle.std.proofs.Common.{◌≡◌, ◌<◌, ◌≤◌, List, [], ◌∷◌, ◌++◌, length, get_or, drop, Bool, false, cond, refl, ap, arith}
use Rattle.std.specs.Prelude.{codes}
use Rattle.std.specs.Str.{bytes_eq}
use Rattle.fd_language.specs.Term.{Name}
use Rattle.fd_language.specs.TermTexts.{spelled, spelled_alone, call_text}
use Rattle.term_pool.specs.declared.TermId.{TermId}
use Rattle.term_writer.specs.declared.pieces.CompoundForm.TheVariants as form
use Rattle.term_writer.specs.Pieces.{IsCompoundForm}

pub no_parts : (ts : List TermId) → length ts < 1 → ts ≡ []
no_parts [] h = refl
no_parts (t ∷ ts) h = absurd (omega arith)

pub call_none : (f : Name) (ts : List TermId) → length ts < 1 → IsCompoundForm f ts form.Call
call_none f [] h = λ mode vars part. refl
call_none f (t ∷ ts) h = absurd (omega arith)

pub call_one : (f : Name) (ts : List TermId) → bytes_eq f (codes "{}") ≡ false → 1 ≤ length ts → length ts < 2 → IsCompoundForm f ts form.Call
call_one f [] e l h = absurd (omega arith)
call_one f (t ∷ []) e l h = λ mode vars part.
    ap (λ (b : Bool). cond b (spelled_alone (codes "{" ++ ((spelled mode vars (part t)).at 1200 ++ codes "}"))) (spelled_alone (call_text mode f (spelled mode vars (part t) ∷ [])))) e
call_one f (t ∷ u ∷ ts) e l h = absurd (omega arith)

pub call_more : (f : Name) (ts : List TermId) → 3 ≤ length ts → IsCompoundForm f ts form.Call
call_more f [] h = absurd (omega arith)
call_more f (t ∷ []) h = absurd (omega arith)
call_more f (t ∷ u ∷ []) h = absurd (omega arith)
call_more f (t ∷ u ∷ v ∷ ts) h = λ mode vars part. refl

pub more_parts : (ts : List TermId) (d : TermId) → 2 ≤ length ts → ts ≡ get_or ts 0 d ∷ get_or ts 1 d ∷ drop 2 ts
more_parts [] d l = absurd (omega arith)
more_parts (t ∷ []) d l = absurd (omega arith)
more_parts (t ∷ u ∷ ts) d l = refl

pub tail_parts : (ts : List TermId) (d : TermId) → 2 ≤ length ts → drop 1 ts ≡ get_or ts 1 d ∷ drop 2 ts
tail_parts [] d l = absurd (omega arith)
tail_parts (t ∷ []) d l = absurd (omega arith)
tail_parts (t ∷ u ∷ ts) d l = refl
