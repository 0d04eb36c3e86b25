-- What a text begins with, by how it is read.
use Rattle.std.proofs.Common.{◌≡◌, ℕ, ◌+◌, ◌<◌, List, ◌∷◌, ◌++◌, Bool, true, false, refl, sym, ap, subst, eqb-true, ◌∙◌}
use Rattle.std.specs.Prelude.{encode_utf8, ◌==◌, ◌&&◌, if◌then◌else◌}
use Rattle.std.specs.Char.{len_utf8}
use Rattle.std.proofs.lemmas.Str.{encode_ascii}
use Rattle.unicode_ident.specs.Ident.{is_xid_start}
use Rattle.fd_language.specs.Characters.{is_layout, is_symbol, is_solo, is_punct, begins_variable, not_newline, is_digit_of, starts_with, tail, run_size}
use Rattle.fd_language.specs.Tokens as model
use Rattle.char_tokens.specs.declared.characters.Class.TheVariants as classes
use Rattle.char_tokens.specs.declared.token.Kind.TheVariants as kinds
use Rattle.char_tokens.specs.declared.token.TokenCause.TheVariants as causes
use Rattle.char_tokens.specs.declared.front.Lead.{Lead}
use Rattle.char_tokens.specs.declared.front.Lead.TheVariants as leads
use Rattle.char_tokens.specs.Views.{passes, kind_of, cause_of, lead_of}

abbrev pub front_led : Lead → ℕ → List ℕ → model.Front
front_led leads.Layout c cs = model.Gap (len_utf8 c)
front_led leads.Line c cs = model.Gap (len_utf8 c + run_size not_newline cs)
front_led leads.Digit c cs = model.integer_front c cs
front_led (leads.Run k r) c cs = model.Token (kind_of k) (len_utf8 c + run_size (passes r) cs)
front_led leads.Comment c cs = model.comment_front 2 (tail cs)
front_led (leads.Alone k) c cs = model.Token (kind_of k) (len_utf8 c)
front_led leads.Quote c cs = model.quoted_front model.Between 1 cs
front_led (leads.Offends e) c cs = model.Offends (cause_of e) 0

-- what is known of the characters
abbrev pub Known : Lead → ℕ → List ℕ → Type 0
Known leads.Digit c cs = is_digit_of 10 c ≡ true
Known leads.Comment c cs = (c == 47 && starts_with 42 cs) ≡ true
Known leads.Quote c cs = (c == 39) ≡ true
Known _ c cs = Unit {0}

abbrev pub Leads : Lead → model.Front → ℕ → List ℕ → Type 0
Leads l z c cs = (z ≡ front_led l c cs) × Known l c cs

first : (b : Bool) (x y : Lead) (z : model.Front) (c : ℕ) (cs : List ℕ) → (b ≡ true → Known x c cs) → Leads y z c cs → Leads (if b then x else y) (if b then front_led x c cs else z) c cs
first true x y z c cs k i = (refl, k refl)
first false x y z c cs k i = i

led : (c : ℕ) (cs : List ℕ) → Leads (lead_of c cs) (model.front_at c cs) c cs
led c cs =
    first (is_layout c) leads.Layout _ _ c cs (λ e. tt)
    (first (c == 37) leads.Line _ _ c cs (λ e. tt)
    (first (is_digit_of 10 c) leads.Digit _ _ c cs (λ e. e)
    (first (begins_variable c) (leads.Run kinds.Variable classes.Continue) _ _ c cs (λ e. tt)
    (first (is_xid_start c) (leads.Run kinds.Word classes.Continue) _ _ c cs (λ e. tt)
    (first (c == 47 && starts_with 42 cs) leads.Comment _ _ c cs (λ e. e)
    (first (c == 46 && model.ends_stop cs) (leads.Alone kinds.Stop) _ _ c cs (λ e. tt)
    (first (is_symbol c) (leads.Run kinds.Word classes.Symbol) _ _ c cs (λ e. tt)
    (first (is_solo c) (leads.Alone kinds.Word) _ _ c cs (λ e. tt)
    (first (is_punct c) (leads.Alone kinds.Punct) _ _ c cs (λ e. tt)
    (first (c == 39) leads.Quote _ _ c cs (λ e. e)
    (first (c == 34) (leads.Offends causes.StringOut) _ _ c cs (λ e. tt)
    (refl, tt))))))))))))

pub led_as : {l m : Lead} (c : ℕ) (cs : List ℕ) → l ≡ lead_of c cs → l ≡ m → Leads m (model.front_at c cs) c cs
led_as c cs e f = subst (λ (l : Lead). Leads l (model.front_at c cs) c cs) (sym e ∙ f) (led c cs)

pub both : (a b : Bool) → (a && b) ≡ true → (a ≡ true) × (b ≡ true)
both true b e = (refl, e)
both false b e = absurd cc

pub ascii_first : (a c : ℕ) (text behind : List ℕ) → a < 128 → (c == a) ≡ true → text ≡ encode_utf8 c ++ behind → text ≡ a ∷ behind
ascii_first a c text behind low e split = split ∙ ap (λ (n : ℕ). encode_utf8 n ++ behind) (eqb-true c a e) ∙ ap (λ (l : List ℕ). l ++ behind) (encode_ascii a low)
