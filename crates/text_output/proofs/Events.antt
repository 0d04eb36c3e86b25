-- The events of a machine, one after another.
use Rattle.std.proofs.lemmas.List.{length-map, get_or-map}
use Rattle.std.proofs.lemmas.Option.{slice_get_within, get_or_from_slice_get}
use Rattle.std.proofs.Math.Seq.{drop-cons}
use Rattle.std.proofs.Math.ListN.{drop_of_length-le}
use Rattle.std.proofs.Common.{◌≡◌, ℕ, suc, ◌+◌, ◌<◌, Bool, true, false, List, [], ◌∷◌, ◌++◌, length, drop, slice_get, Option, Some, None, Result, Err, refl, ap}
use Rattle.std.proofs.Common.{sym, ◌∙◌, subst, arith, append_assoc, append-nil, codes, decimal, map}
use Rattle.std.specs.List.{concat}
use Rattle.std.proofs.lemmas.List.Folds.{concat-append}
use Rattle.fd_language.specs.declared.TheConstants.{INFINITY}
use Rattle.fd_language.specs.Term.{Name}
use Rattle.fd_model.specs.Goal.{Event, Program, Query, start_of}
use Rattle.fd_model.specs.Goal as model
use Rattle.fd_model.specs.Lines.{event_bytes, events_bytes, line}
use Rattle.fd_model.specs.Output.{Queries, is_stop, or_stop}
use Rattle.fd_model.specs.Run.{Run}
use Rattle.branch_meaning.specs.NextEvent.{is_final, IsNext}
use Rattle.machine_events.specs.declared.MachineEvent.{MachineEvent}
use Rattle.machine_events.specs.declared.MachineEvent.TheVariants as events
use Rattle.machine_events.specs.Events.{event_of}
use Rattle.branch_meaning.proofs.Lemmas.{behind_other}
use Rattle.clause_check.specs.Programs.{FlatProgram, no_query, query_at, query_in, program_in}
use Rattle.wam_code.specs.Area.{Area}
use Rattle.code_machine.specs.States.{State, StandsFor, names_in, names_of}
use Rattle.text_output.specs.declared.fault.Fault.{Fault}
use Rattle.text_output.specs.declared.fault.Fault.TheVariants as fault
use Rattle.text_output.specs.Endings.{IsEnding}
use Rattle.text_output.specs.Pieces.{PieceSink, GaveAll, GaveFront, Gave, QueryPieces}
use Rattle.text_output.proofs.PieceWrites.{all_then, gave_nothing, gave_short, gave_cut, cut_then, cut_longer}

-- of the events es, those that are still to come
pub record Remain (m : State) (old now : PieceSink) (es : List Event) (r : ℕ) : Type 0 where
  pub done : List (List ℕ)
  pub later : List Event
  pub is : map event_bytes es ≡ done ++ map event_bytes later
  pub gave : GaveAll old now done
  pub stands : StandsFor m later r
  pub stops : is_stop es ≡ is_stop later

-- at the start
pub remain_all : (m : State) (s : PieceSink) (es : List Event) (r : ℕ) → StandsFor m es r → Remain m s s es r
remain_all m s es r h = record { done = []; later = es; is = refl; gave = gave_nothing s; stands = h; stops = refl }

-- what is still to be given begins with the piece of the next event
pub next_line : (m n : State) (old now : PieceSink) (es : List Event) (r : ℕ) (e : Event) (k : Remain m old now es r) → IsNext State StandsFor m e n
    → (rest : List (List ℕ)) × (map event_bytes es ≡ k.done ++ event_bytes e ∷ rest)
next_line m n old now es r e k h =
    let first = h k.later r k.stands in
    (map event_bytes first.0, k.is ∙ ap (λ (l : List Event). k.done ++ map event_bytes l) first.1)

pub final_names : (names : List Name) (ev : MachineEvent) → is_final (event_of names ev) ≡ is_final (event_of [] ev)
final_names names (events.Write s) = refl
final_names names events.Newline = refl
final_names names (events.Answer s) = refl
final_names names events.End = refl
final_names names events.Budget = refl
final_names names events.Limit = refl
final_names names (events.Fault f) = refl

pub last_names : (names : List Name) (ev : MachineEvent) → is_final (event_of [] ev) ≡ true → event_of names ev ≡ event_of [] ev
last_names names (events.Write s) h = absurd (cc)
last_names names events.Newline h = refl
last_names names (events.Answer s) h = absurd (cc)
last_names names events.End h = refl
last_names names events.Budget h = refl
last_names names events.Limit h = refl
last_names names (events.Fault f) h = refl

pub goes_on : (e : Event) (later : List Event) → is_final e ≡ false → is_stop (e ∷ later) ≡ is_stop later
goes_on (model.Wrote t) later h = refl
goes_on model.Newline later h = refl
goes_on (model.Answer t) later h = refl
goes_on model.End later h = refl
goes_on model.Budget later h = absurd (cc)
goes_on model.Limit later h = refl
goes_on (model.Fault f) later h = absurd (cc)

-- an event is given, and others follow
pub event_given : (m n : State) (old now new : PieceSink) (es : List Event) (r : ℕ) (e : Event) → is_final e ≡ false → Remain m old now es r
    → IsNext State StandsFor m e n → GaveAll now new (event_bytes e ∷ []) → Remain n old new es r
event_given m n old now new es r e more k h w =
    let first = h k.later r k.stands in
    let piece = event_bytes e ∷ [] in
    record {
      done = k.done ++ piece;
      later = first.0;
      is = k.is ∙ ap (λ (l : List Event). k.done ++ map event_bytes l) first.1 ∙ sym (append_assoc k.done piece (map event_bytes first.0));
      gave = all_then old now new k.done piece k.gave w;
      stands = subst (λ (l : List Event). StandsFor n l r) (behind_other e first.0 more) first.2;
      stops = k.stops ∙ ap is_stop first.1 ∙ goes_on e first.0 more;
    }

-- the last event is given, and all is given
pub last_given : (m : State) (old now new : PieceSink) (es : List Event) (r : ℕ) (e : Event) → Remain m old now es r
    → ((fs : List Event) (total : ℕ) → StandsFor m fs total → fs ≡ e ∷ []) → GaveAll now new (event_bytes e ∷ [])
    → GaveAll old new (map event_bytes es) × (is_stop es ≡ is_stop (e ∷ []))
last_given m old now new es r e k h w =
    let one = h k.later r k.stands in
    let whole : map event_bytes es ≡ k.done ++ event_bytes e ∷ [] = k.is ∙ ap (λ (l : List Event). k.done ++ map event_bytes l) one in
    (subst (GaveAll old new) (sym whole) (all_then old now new k.done (event_bytes e ∷ []) k.gave w), k.stops ∙ ap is_stop one)

-- ---- queries

-- of the pieces of queries, what is still to be given for those from the n-th on
pub record Behind (N steps : ℕ) (answers : Option ℕ) (prog : Program) (n : ℕ) (qs : List Query) (old now : PieceSink) (stopped : Bool) (out : List (List ℕ)) (stop : Bool) : Type 0 where
  pub done : List (List ℕ)
  pub rest : List (List ℕ)
  pub later : Bool
  pub is : out ≡ done ++ rest
  pub gave : GaveAll old now done
  pub queries : QueryPieces INFINITY N prog steps answers n qs rest later
  pub stops : stop ≡ or_stop stopped later

-- at the end
pub behind_all : (N steps : ℕ) (answers : Option ℕ) (prog : Program) (n : ℕ) (old now : PieceSink) (stopped : Bool) (out : List (List ℕ)) (stop : Bool)
    → Behind N steps answers prog n [] old now stopped out stop → GaveAll old now out × (stopped ≡ stop)
behind_all N steps answers prog n old now stopped out stop k =
    (subst (GaveAll old now) (sym (k.is ∙ ap (λ (b : List (List ℕ)). k.done ++ b) k.queries.0 ∙ append-nil k.done)) k.gave, sym (k.stops ∙ ap (or_stop stopped) k.queries.1 ∙ no_more stopped))
  where
    no_more : (b : Bool) → or_stop b false ≡ b
    no_more true = refl
    no_more false = refl

-- the next query: its run, and what its pieces are
pub record Next (N steps : ℕ) (answers : Option ℕ) (prog : Program) (n : ℕ) (q : Query) (qs : List Query) (old now : PieceSink) (stopped : Bool) (out : List (List ℕ)) (stop : Bool) : Type 0 where
  pub done : List (List ℕ)
  pub events : List Event
  pub spent : ℕ
  pub rest : List (List ℕ)
  pub later : Bool
  pub run : Run INFINITY N prog q steps answers (start_of q ∷ []) events spent
  pub is : out ≡ done ++ line (codes "query " ++ decimal n) ∷ (map event_bytes events ++ rest)
  pub gave : GaveAll old now done
  pub queries : QueryPieces INFINITY N prog steps answers (n + 1) qs rest later
  pub stops : stop ≡ or_stop stopped (or_stop (is_stop events) later)

pub next_query : (N steps : ℕ) (answers : Option ℕ) (prog : Program) (n : ℕ) (q : Query) (qs : List Query) (old now : PieceSink) (stopped : Bool) (out : List (List ℕ))
    (stop : Bool) → Behind N steps answers prog n (q ∷ qs) old now stopped out stop → Next N steps answers prog n q qs old now stopped out stop
next_query N steps answers prog n q qs old now stopped out stop k =
    let h = k.queries in record {
      done = k.done;
      events = h.0;
      spent = h.1;
      rest = h.2;
      later = h.3;
      run = h.4;
      is = k.is ∙ ap (λ (b : List (List ℕ)). k.done ++ b) h.6;
      gave = k.gave;
      queries = h.5;
      stops = k.stops ∙ ap (or_stop stopped) h.7;
    }

-- its pieces are given
pub query_given : (N steps : ℕ) (answers : Option ℕ) (prog : Program) (n : ℕ) (q : Query) (qs : List Query) (old now mid new : PieceSink)
    (stopped here then : Bool) (out : List (List ℕ)) (stop : Bool) (k : Next N steps answers prog n q qs old now stopped out stop)
    → GaveAll now mid (line (codes "query " ++ decimal n) ∷ []) → GaveAll mid new (map event_bytes k.events) → here ≡ is_stop k.events → then ≡ or_stop stopped here
    → Behind N steps answers prog (n + 1) qs old new then out stop
query_given N steps answers prog n q qs old now mid new stopped here then out stop k w v s t =
    let first = line (codes "query " ++ decimal n) ∷ [] in
    let events = map event_bytes k.events in record {
      done = (k.done ++ first) ++ events;
      rest = k.rest;
      later = k.later;
      is = k.is ∙ sym (append_assoc k.done first (events ++ k.rest)) ∙ sym (append_assoc (k.done ++ first) events k.rest);
      gave = all_then old mid new (k.done ++ first) events (all_then old now mid k.done first k.gave w) v;
      queries = k.queries;
      stops = k.stops ∙ or_assoc stopped (is_stop k.events) k.later ∙ ap (λ (b : Bool). or_stop (or_stop stopped b) k.later) (sym s) ∙ ap (λ (b : Bool). or_stop b k.later) (sym t);
    }
  where
    or_assoc : (a b c : Bool) → or_stop a (or_stop b c) ≡ or_stop (or_stop a b) c
    or_assoc true b c = refl
    or_assoc false b c = refl

-- ---- the loop over a machine's events

pub same_names : (m n : State) → m.area ≡ n.area → m.query ≡ n.query → names_of m ≡ names_of n
same_names m n e f = ap (λ (a : Area). names_in a m.query) e ∙ ap (λ (q : ℕ). names_in n.area q) f

-- memory was wanting
pub remain_short : {A : Type 0} (m : State) (old now : PieceSink) (es : List Event) (r : ℕ) (result : Result A Fault) → Remain m old now es r
    → result ≡ Err fault.NoMemory → Gave old now result (map event_bytes es)
remain_short {A} m old now es r result k e = subst (Gave old now result) (sym k.is) (gave_short old now result k.done (map event_bytes k.later) e k.gave)

-- the line of the next event was cut short
pub remain_cut : {A : Type 0} (m n : State) (old now new : PieceSink) (es : List Event) (r : ℕ) (e : Event) (bytes : List ℕ) (f : Fault)
    (result : Result A Fault) → Remain m old now es r → IsNext State StandsFor m e n → bytes ≡ event_bytes e
    → GaveFront now new f (bytes ∷ []) → result ≡ Err f → Gave old new result (map event_bytes es)
remain_cut {A} m n old now new es r e bytes f result k h b c is =
    let next = next_line m n old now es r e k h in
    gave_cut old new result f (map event_bytes es) is
    (subst (GaveFront old new f) (sym next.1)
    (cut_then old now new k.done (event_bytes e ∷ next.0) f k.gave (cut_longer now new (event_bytes e ∷ []) next.0 f (subst (λ (p : List ℕ). GaveFront now new f (p ∷ [])) b c))))

-- an event that others follow
pub remain_more : (m n : State) (old now new : PieceSink) (es : List Event) (r : ℕ) (names : List Name) (ev : MachineEvent) (bytes : List ℕ)
    → is_final (event_of [] ev) ≡ false → Remain m old now es r → IsNext State StandsFor m (event_of names ev) n
    → bytes ≡ event_bytes (event_of names ev) → GaveAll now new (bytes ∷ []) → Remain n old new es r
remain_more m n old now new es r names ev bytes more k h b w =
    event_given m n old now new es r (event_of names ev) (final_names names ev ∙ more) k h (subst (λ (p : List ℕ). GaveAll now new (p ∷ [])) b w)

-- the last event
pub remain_none : (m : State) (old now new : PieceSink) (es : List Event) (r : ℕ) (names : List Name) (ev : MachineEvent) (bytes : List ℕ) → is_final (event_of [] ev) ≡ true → Remain m old now es r
    → (is_final (event_of [] ev) ≡ true → (fs : List Event) (total : ℕ) → StandsFor m fs total → fs ≡ event_of [] ev ∷ []) → bytes ≡ event_bytes (event_of names ev) → GaveAll now new (bytes ∷ [])
    → GaveAll old new (map event_bytes es) × (is_stop es ≡ is_stop (event_of [] ev ∷ []))
remain_none m old now new es r names ev bytes final k h b w =
    last_given m old now new es r (event_of [] ev) k (h final) (subst (λ (p : List ℕ). GaveAll now new (p ∷ [])) (b ∙ ap event_bytes (last_names names ev final)) w)

-- an event that isn't told to be the last one
pub no_ending : (ev : MachineEvent) (o : Option Bool) → IsEnding ev o → ((b : Bool) → o ≡ Some b → ⊥) → is_final (event_of [] ev) ≡ false
no_ending ev None h none = h
no_ending ev (Some b) h none = absurd (none b refl)

-- ---- the loop over a program's queries

pub queries_from : (p : FlatProgram) (i : ℕ) → i < length p.queries → drop i (program_in p).queries ≡ query_in p (query_at p i) ∷ drop (i + 1) (program_in p).queries
queries_from p i l =
    let qs = (program_in p).queries in
    let size : i < length qs = subst (λ (n : ℕ). i < n) (sym (length-map p.queries (query_in p))) l in
    let one : suc i ≡ i + 1 = omega arith in
    drop-cons qs i (query_in p no_query) size
    ∙ ap (λ (q : Query). q ∷ drop (suc i) qs) (get_or-map (query_in p) p.queries i no_query (query_in p no_query) l)
    ∙ ap (λ (n : ℕ). query_in p (query_at p i) ∷ drop n qs) one

-- the queries of a program, from one of them on
pub queries_at : (qs : List Query) (i : ℕ) (q : Query) → slice_get qs i ≡ Some q → drop i qs ≡ q ∷ drop (i + 1) qs
queries_at qs i q e =
    let one : suc i ≡ i + 1 = omega arith in
    drop-cons qs i q (slice_get_within qs i q e) ∙ ap (λ (x : Query). x ∷ drop (suc i) qs) (get_or_from_slice_get qs i q q e) ∙ ap (λ (n : ℕ). q ∷ drop n qs) one

pub program_next : (N steps : ℕ) (answers : Option ℕ) (prog : Program) (i : ℕ) (q : Query) (old now : PieceSink) (stopped : Bool) (out : List (List ℕ)) (stop : Bool)
    → slice_get prog.queries i ≡ Some q → Behind N steps answers prog (i + 1) (drop i prog.queries) old now stopped out stop
    → Next N steps answers prog (i + 1) q (drop (i + 1) prog.queries) old now stopped out stop
program_next N steps answers prog i q old now stopped out stop e k =
    next_query N steps answers prog (i + 1) q (drop (i + 1) prog.queries) old now stopped out stop
    (subst (λ (qs : List Query). Behind N steps answers prog (i + 1) qs old now stopped out stop) (queries_at prog.queries i q e) k)

drop_all : (n : ℕ) (qs : List Query) → n ≡ length qs → drop n qs ≡ []
drop_all n qs e = drop_of_length-le qs (omega (arith, e))

-- all queries are given
pub program_given : (N steps : ℕ) (answers : Option ℕ) (prog : Program) (i : ℕ) (old now : PieceSink) (stopped : Bool) (out : List (List ℕ)) (stop : Bool)
    → i ≡ length prog.queries → Behind N steps answers prog (i + 1) (drop i prog.queries) old now stopped out stop
    → GaveAll old now out × (stopped ≡ stop)
program_given N steps answers prog i old now stopped out stop e k =
    behind_all N steps answers prog (i + 1) old now stopped out stop (subst (λ (qs : List Query). Behind N steps answers prog (i + 1) qs old now stopped out stop) (drop_all i prog.queries e) k)

-- the first line of a query was cut short
pub line_cut : {A : Type 0} (N steps : ℕ) (answers : Option ℕ) (prog : Program) (n : ℕ) (q : Query) (qs : List Query) (old now new : PieceSink) (stopped : Bool)
    (out : List (List ℕ)) (stop : Bool) (bytes : List ℕ) (f : Fault) (result : Result A Fault) → Next N steps answers prog n q qs old now stopped out stop
    → bytes ≡ line (codes "query " ++ decimal n) → GaveFront now new f (bytes ∷ []) → result ≡ Err f → Gave old new result out
line_cut {A} N steps answers prog n q qs old now new stopped out stop bytes f result k b c is =
    let first = line (codes "query " ++ decimal n) ∷ [] in
    let later = map event_bytes k.events ++ k.rest in
    gave_cut old new result f out is
    (subst (GaveFront old new f) (sym k.is) (cut_then old now new k.done (first ++ later) f k.gave (cut_longer now new first later f (subst (λ (p : List ℕ). GaveFront now new f (p ∷ [])) b c))))

-- its events were cut short
pub events_cut : {A : Type 0} (N steps : ℕ) (answers : Option ℕ) (prog : Program) (n : ℕ) (q : Query) (qs : List Query) (old now mid new : PieceSink)
    (stopped : Bool) (out : List (List ℕ)) (stop : Bool) (bytes : List ℕ) (f : Fault) (result : Result A Fault)
    (k : Next N steps answers prog n q qs old now stopped out stop)
    → bytes ≡ line (codes "query " ++ decimal n) → GaveAll now mid (bytes ∷ []) → GaveFront mid new f (map event_bytes k.events) → result ≡ Err f → Gave old new result out
events_cut {A} N steps answers prog n q qs old now mid new stopped out stop bytes f result k b w c is =
    let first = line (codes "query " ++ decimal n) ∷ [] in
    let events = map event_bytes k.events in
    let before = all_then old now mid k.done first k.gave (subst (λ (p : List ℕ). GaveAll now mid (p ∷ [])) b w) in
    gave_cut old new result f out is
    (subst (GaveFront old new f) (sym (k.is ∙ sym (append_assoc k.done first (events ++ k.rest))))
    (cut_then old mid new (k.done ++ first) (events ++ k.rest) f before (cut_longer mid new events k.rest f c)))

pub or_true : (b : Bool) → or_stop b true ≡ true
or_true true = refl
or_true false = refl

pub or_false : (b : Bool) → or_stop b false ≡ b
or_false true = refl
or_false false = refl

-- ---- the pieces of an output

events_joined : (es : List Event) → concat (map event_bytes es) ≡ events_bytes es
events_joined [] = refl
events_joined (e ∷ es) = ap (λ (b : List ℕ). event_bytes e ++ b) (events_joined es)

-- What queries write comes in pieces.
pub query_pieces : (M N : ℕ) (prog : Program) (budget : ℕ) (answers : Option ℕ) (n : ℕ) (qs : List Query) (out : List ℕ) (stop : Bool) → Queries M N prog budget answers n qs out stop
    → (ps : List (List ℕ)) × QueryPieces M N prog budget answers n qs ps stop × (concat ps ≡ out)
query_pieces M N prog budget answers n [] out stop h = ([], (refl, h.1), sym h.0)
query_pieces M N prog budget answers n (q ∷ qs) out stop h =
    let more = query_pieces M N prog budget answers (n + 1) qs h.2 h.3 h.5 in
    let first = line (codes "query " ++ decimal n) in
    let later : concat (map event_bytes h.0 ++ more.0) ≡ events_bytes h.0 ++ h.2 =
    concat-append (map event_bytes h.0) more.0 ∙ ap (λ (b : List ℕ). b ++ concat more.0) (events_joined h.0) ∙ ap (λ (b : List ℕ). events_bytes h.0 ++ b) more.2 in
    (first ∷ (map event_bytes h.0 ++ more.0), (h.0, h.1, more.0, h.3, h.4, more.1, refl, h.7), ap (λ (b : List ℕ). first ++ b) later ∙ sym h.6)
