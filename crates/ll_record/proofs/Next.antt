-- One more event with its line: the record is that of the events with it.
use Rattle.std.proofs.Common.{◌≡◌, ℕ, ◌+◌, ◌*◌, ◌≤◌, List, [], ◌∷◌, ◌++◌, ◌&&◌, Some, None, true, is_some, refl, ap, ap₂, ◌∙◌, sym, subst, length, take, drop, filter, arith}
use Rattle.std.proofs.lemmas.List.{drop-append-le, drop_all, flat_map_more, length-append, map-append, take-append-le, take_all}
use Rattle.std.proofs.lemmas.List.Elements.{filter-append}
use Rattle.std.proofs.lemmas.List.Folds.{list_all-append}
use Rattle.std.specs.List.{flat_map, list_all}
use Rattle.std.specs.Option.{option_map_or}
use Rattle.std.specs.Str.{is_utf8}
use Rattle.ll_entry.proofs.BlankLemmas.{fault-blank}
use Rattle.ll_entry.specs.Blank.{blank_entry, blank_event, blank_events}
use Rattle.ll_entry.specs.Entered.{event_of, fault_in}
use Rattle.ll_entry.specs.Lines.{IsSpelled, entry_line}
use Rattle.ll_entry.specs.declared.entry.Recorded.{Recorded}
use Rattle.ll_entry.specs.declared.entry.Recorded.TheVariants as recorded
use Rattle.ll_entry.specs.declared.version.Version.TheVariants.{Two}
use Rattle.ll_settings.specs.Settings.{Configuration, limit_broken}
use Rattle.ll_entry.proofs.LeadLemmas.{entry-next}
use Rattle.ll_entry.proofs.ToldLemmas.{right-whole, steps-many}
use Rattle.ll_entry.specs.Leads.{IsLed, with_end}
use Rattle.ll_entry.specs.Told.{can_happen, entry_of, line_of}
use Rattle.ll_room.specs.RoomValue.{RoomValue, IsSame, Stands, room_value}
use Rattle.ll_verdict.proofs.StepLemmas.{at, steps-snoc}
use Rattle.ll_verdict.specs.Events.{Event, Step, steps}
use Rattle.ll_verdict.specs.State.{state_of}
use Rattle.ll_record.specs.Kept.{spare}
use Rattle.ll_record.specs.Recording.{IsRecorded, Recording, is_call}

one_more : (events : List Event) (e : Event) → length (events ++ e ∷ []) ≡ length events + 1
one_more events e = length-append events (e ∷ [])

called : (at : ℕ) (events : List Event) (e : Event) → at ≤ length events
    → length (filter is_call (drop at (events ++ e ∷ []))) ≡ length (filter is_call (drop at events)) + length (filter is_call (e ∷ []))
called at events e early =
    ap (λ es. length (filter is_call es)) (drop-append-le at events (e ∷ []) early)
    ∙ ap length (filter-append is_call (drop at events) (e ∷ []))
    ∙ length-append (filter is_call (drop at events)) (filter is_call (e ∷ []))

longer : (at n m : ℕ) → at ≤ n → m ≡ n + 1 → at ≤ m
longer at n m a e = omega (arith, a, e)

-- ---- its entry

happened : (at_end : ℕ) (events : List Event) (e : Event) → at_end ≤ length events
    → drop at_end (steps (events ++ e ∷ [])) ≡ drop at_end (steps events) ++ at events e ∷ []
happened n events e early =
    ap (drop n) (steps-snoc events e) ∙ drop-append-le n (steps events) (at events e ∷ []) (subst (λ k. n ≤ k) (sym (steps-many [] events)) early)

line_is : (c : Configuration) (s : Step) (entry : Recorded) → entry_of c s ≡ Some entry → line_of c s ≡ with_end (entry_line c entry)
line_is c s entry is = ap (λ o. option_map_or (λ e. with_end (entry_line c e)) o []) is

spelled_next : (c : Configuration) (since : List Step) (s : Step) (lines : List ℕ) (entry : Recorded) → entry_of c s ≡ Some entry → lines ≡ flat_map (line_of c) since
    → lines ++ with_end (entry_line c entry) ≡ flat_map (line_of c) (since ++ s ∷ [])
spelled_next c since s lines entry is e = ap₂ (λ text line. text ++ line) e (sym (line_is c s entry is)) ∙ flat_map_more (line_of c) [] since s

told_next : (c : Configuration) (since : List Step) (s : Step) (entry : Recorded) → entry_of c s ≡ Some entry → list_all (can_happen c) since ≡ true
    → list_all (can_happen c) (since ++ s ∷ []) ≡ true
told_next c since s entry is e =
    list_all-append (can_happen c) since (s ∷ []) ∙ ap₂ (λ a b. a && (b && true)) e (ap is_some is)

event-blank : (entry : Recorded) → blank_event (event_of entry) ≡ event_of (blank_entry entry)
event-blank (recorded.Publish item) = refl
event-blank (recorded.Ask ask want reply) = refl
event-blank (recorded.Clock ms) = refl
event-blank (recorded.Collect ask reply) = refl
event-blank (recorded.Close ask) = refl

blanked : (events : List Event) (entry : Recorded) → blank_events (events ++ event_of entry ∷ []) ≡ blank_events events ++ event_of (blank_entry entry) ∷ []
blanked events entry = map-append blank_event events (event_of entry ∷ []) ∙ ap (λ e. blank_events events ++ e ∷ []) (event-blank entry)

-- how a recording changes with an entry
pub record IsNext (old new : Recording) (entry : Recorded) : Type 0 where
  pub room : IsSame old.room new.room
  pub at : new.at ≡ old.at
  pub lines : new.lines ≡ old.lines ++ with_end (entry_line old.room.settings entry)
  pub calls : new.calls ≡ old.calls + length (filter is_call (event_of entry ∷ []))

pub recorded-next : (old new : Recording) (events : List Event) (entry : Recorded) → limit_broken old.room.settings ≡ None → IsRecorded old events
    → IsSpelled old.room.settings entry → is_utf8 (entry_line old.room.settings entry) ≡ true → fault_in Two old.room.settings events entry ≡ None
    → Stands new.room (events ++ event_of entry ∷ []) → IsNext old new entry → IsRecorded new (events ++ event_of entry ∷ [])
recorded-next old new events entry within r spelled utf8 right stands n =
    let more = events ++ event_of entry ∷ [] in
    let c = old.room.settings in
    let first = blank_events (take old.at events) in
    let led : IsLed c first (old.lines ++ with_end (entry_line c entry)) (blank_events more) =
    subst (IsLed c first (old.lines ++ with_end (entry_line c entry))) (sym (blanked events entry))
    (entry-next c first (blank_events events) old.lines entry within spelled utf8 (fault-blank Two c events entry ∙ right) r.led) in
    let early : old.at ≤ length more = longer old.at (length events) (length more) r.early (one_more events (event_of entry)) in
    let begin : take new.at more ≡ take old.at events = ap (λ k. take k more) n.at ∙ take-append-le old.at events (event_of entry ∷ []) r.early in
    let is : entry_of old.room.settings (at events (event_of entry)) ≡ Some entry = right-whole old.room.settings events entry right in
    let since : drop new.at (steps more) ≡ drop old.at (steps events) ++ at events (event_of entry) ∷ [] =
    ap (λ k. drop k (steps more)) n.at ∙ happened old.at events (event_of entry) r.early in
    record {
      stands = stands;
      early = subst (λ k. k ≤ length more) (sym n.at) early;
      led =
          subst (λ (c : Configuration). IsLed c (blank_events (take new.at more)) new.lines (blank_events more)) (sym n.room.settings)
          (subst (λ es. IsLed c (blank_events es) new.lines (blank_events more)) (sym begin)
          (subst (λ text. IsLed c first text (blank_events more)) (sym n.lines) led));
      told =
          ap₂ (λ (c : Configuration) ss. list_all (can_happen c) ss) n.room.settings since
          ∙ told_next old.room.settings (drop old.at (steps events)) (at events (event_of entry)) entry is r.told;
      spelled =
          n.lines ∙ spelled_next old.room.settings (drop old.at (steps events)) (at events (event_of entry)) old.lines entry is r.spelled
          ∙ sym (ap₂ (λ (c : Configuration) ss. flat_map (line_of c) ss) n.room.settings since);
      calls =
          n.calls ∙ ap (λ k. k + length (filter is_call (event_of entry ∷ []))) r.calls
          ∙ sym (called old.at events (event_of entry) r.early) ∙ ap (λ k. length (filter is_call (drop k more))) (sym n.at);
    }

-- what doesn't count
pub uncounted : (n : ℕ) → n ≡ n + 0
uncounted n = omega arith

-- ---- a new record

nothing : (c : Configuration) (events : List Event) → IsLed c events [] events
nothing c events earlier rest = refl

-- before anything happened
pub recorded-new : (h : RoomValue) (channel : ℕ) (c : Configuration) (lines : List ℕ) → h ≡ room_value channel c (state_of c []) → lines ≡ []
    → IsRecorded (record { room = h; at = 0; lines = lines; calls = 0 }) []
recorded-new h channel c lines e none =
    subst (λ (x : RoomValue). IsRecorded (record { room = x; at = 0; lines = lines; calls = 0 }) []) (sym e)
    (subst (λ text. IsRecorded (record { room = room_value channel c (state_of c []); at = 0; lines = text; calls = 0 }) []) (sym none)
    (record { stands = refl; early = omega arith; led = nothing c []; calls = refl; told = refl; spelled = refl }))

-- the record begins anew: it has nothing of what happened before
pub recorded-anew : (r : Recording) (n : ℕ) (lines : List ℕ) (events : List Event) → n ≡ r.room.events → lines ≡ [] → IsRecorded r events
    → IsRecorded (record { room = r.room; at = n; lines = lines; calls = 0 }) events
recorded-anew r n lines events all none s =
    let c = r.room.settings in
    let is : n ≡ length events = all ∙ ap (λ (h : RoomValue). h.events) s.stands in
    let none_since : drop n (steps events) ≡ [] = drop_all n (steps events) (omega (arith, is, steps-many [] events)) in
    record {
      stands = s.stands;
      early = omega (arith, is);
      led =
          subst (λ text. IsLed c (blank_events (take n events)) text (blank_events events)) (sym none)
          (subst (λ es. IsLed c (blank_events es) [] (blank_events events)) (sym (take_all n events (omega (arith, is)))) (nothing c (blank_events events)));
      calls = ap (λ es. length (filter is_call es)) (sym (drop_all n events (omega (arith, is))));
      told = ap (list_all (can_happen c)) none_since;
      spelled = none ∙ ap (flat_map (line_of c)) (sym none_since);
    }

pub none-open : (h : RoomValue) (channel : ℕ) (c : Configuration) (free : ℕ) → h ≡ room_value channel c (state_of c []) → spare * length h.slots ≤ free
none-open h channel c free e = let n : length h.slots ≡ 0 = ap (λ (x : RoomValue). length x.slots) e in omega (arith, n)
