-- A script goes on the same after a question where a rendition stands, and the answer is the definition's.
use Rattle.std.proofs.Common.{◌≡◌, ℕ, ◌+◌, ◌<◌, ◌≤◌, ◌||◌, List, [], ◌∷◌, ◌++◌, Bool, true, false, Option, Some, None, Result, Ok, Err, is_some, refl, ap, ap₂, sym, ◌∙◌, subst, append-nil, append_assoc, arith, bytes_eq, fold, length, nat_le, nat_lt, option_map, slice_get, if◌then◌else◌}
use Rattle.std.proofs.lemmas.List.Quantifiers.{position-Some}
use Rattle.std.proofs.lemmas.List.Sums.{fold-append}
use Rattle.std.proofs.lemmas.Bool.Decides.{nat_tests}
use Rattle.std.proofs.lemmas.Option.{slice_get-map}
use Rattle.ll_settings.specs.Channels.{channel_of_name}
use Rattle.ll_item.specs.Items.{item_in, named, named_at}
use Rattle.ll_settings.specs.Settings.{rendition_named, Configuration}
use Rattle.ll_item.specs.Media.{media_limit}
use Rattle.ll_settings.specs.Names.{is_name}
use Rattle.ll_item.specs.declared.item.Item.{Item}
use Rattle.ll_item.specs.declared.item.ItemFault.{ItemFault}
use Rattle.ll_item.specs.declared.item.ItemFault.TheVariants as fault
use Rattle.ll_settings.proofs.ChannelLemmas.{named-within}
use Rattle.ll_publish.specs.Line.{Line}
use Rattle.ll_publish.specs.Line as says_line
use Rattle.ll_publish.specs.Lines.{line_of}
use Rattle.ll_publish.specs.declared.refusal.Refusal.TheVariants as refused
use Rattle.ll_replay.proofs.ScriptLaws.{line-means}
use Rattle.ll_replay.specs.Script.{BadLine, Ending, LineTooLong, Lot, Marked, Script, acted, counted, done_as, line, says, standing_text, start}
use Rattle.ll_replay.specs.Stream.{come_to}
use Rattle.ll_script_rooms.specs.World as rooms
use Rattle.ll_script_rooms.specs.World.{Channel, all_settings, standing_at}
use Rattle.ll_script_rooms.proofs.TieLemmas.{none_some, some_is}
use Rattle.ll_script.specs.Lines.{acts, at_by, at_in, item_act, offer_by, offer_to, offer_within, starved, without_bytes}
use Rattle.ll_script.specs.declared.act.Act.{Act}
use Rattle.ll_script.specs.declared.act.Act.TheVariants.{At, Refuse}
use Rattle.ll_verdict.specs.Events.{items}
use Rattle.ll_verdict.specs.Standing.{standing}
use Rattle.ll_script_laws.proofs.LineLemmas.{All, OfEach, acts-of}
use Rattle.ll_script_laws.proofs.ShiftLemmas.{later_by, lines-shifted, shifted}
use Rattle.ll_script_laws.specs.Standing.{IsTold, StandingLaw, one_later, with_line}
use Rattle.ll_script_laws.specs.Talks.{acts_in, listed}

-- ---- who is asked is there

abbrev IsAsked : List Configuration → Act → Type 0
IsAsked channels (At place rendition) = (c : Configuration) × (slice_get channels place ≡ Some c) × (rendition < length c.renditions)
IsAsked channels other = Unit

named-inside : (c : Configuration) (name : List ℕ) (r : ℕ) → named c name ≡ Ok r → r < length c.renditions
named-inside c name r e = by_name (is_name name) (rendition_named c name) refl e
  where
    by_name : (b : Bool) (o : Option ℕ) → rendition_named c name ≡ o → (if b then named_at o else Err fault.BadLine) ≡ Ok r → r < length c.renditions
    by_name true (Some i) at h =
        let is : i ≡ r = cc in
        subst (λ i. i < length c.renditions) is (position-Some (bytes_eq name) c.renditions i [] at).0
    by_name true None at h = absurd (cc)
    by_name false o at h = absurd (cc)

module _ (channels : List Configuration) where
  item-asked : (place : ℕ) (r : Result Item ItemFault) → IsAsked channels (item_act place r)
  item-asked place (Ok item) = tt
  item-asked place (Err f) = tt

  to-asked : (o : Option (ℕ × Configuration)) (item : List ℕ × List ℕ) → IsAsked channels (offer_to o item)
  to-asked None item = tt
  to-asked (Some channel) item = item-asked channel.0 (item_in channel.1 item.0 item.1)

  within-asked : (o : Option (ℕ × Configuration)) (item : List ℕ × List ℕ) → IsAsked channels (offer_within o item)
  within-asked o item = by_many (nat_le (length item.1) media_limit)
    where
      by_many : (b : Bool) → IsAsked channels (if b then offer_to o item else Refuse refused.MediaTooLong)
      by_many true = to-asked o item
      by_many false = tt

  at-asked : (name rendition : List ℕ) (o : Option (ℕ × Configuration)) → channel_of_name channels 0 name ≡ o → IsAsked channels (at_in o rendition)
  at-asked name rendition None e = tt
  at-asked name rendition (Some f) e = by_name (named f.1 rendition) refl
    where
      by_name : (q : Result ℕ ItemFault) → named f.1 rendition ≡ q → IsAsked channels (at_by f.0 q)
      by_name (Ok r) n =
          let at = named-within channels 0 f.0 name f.1 e in
          let same : at.0 ≡ f.0 = omega (arith, at.1) in
          (f.1, ap (slice_get channels) (sym same) ∙ at.2, named-inside f.1 rendition r n)
      by_name (Err fault) n = tt

  offer-asked : (l : Line) → IsAsked channels (offer_by channels l)
  offer-asked (says_line.Item name line media) = within-asked (channel_of_name channels 0 name) (without_bytes line)
  offer-asked (says_line.At name rendition) = at-asked name rendition (channel_of_name channels 0 name) refl
  offer-asked says_line.Bad = tt
  offer-asked says_line.TooLong = tt
  offer-asked says_line.MediaTooLong = tt

  each-asked : OfEach (IsAsked channels) channels
  each-asked = record {
    declares = λ c within. tt;
    offers = λ text. offer-asked (line_of text);
    asks = λ id place want. tt;
    answers = λ id fault. tt;
    closes = λ id. tt;
    clocks = λ place ms. tt;
    late = tt;
    comes = λ n piece. tt;
    drops = λ n. tt;
  }

-- a line that asks, after what the lines before it came to
record Asks (w : Script) (l : Marked) (place rendition : ℕ) : Type 0 where
  going : w.ending ≡ None
  there : IsAsked (all_settings w.rooms) (At place rendition)
  is : line w l ≡ says (counted w) (standing_text (rooms.standing place rendition w.rooms))

done-at : (lots : List Lot) (w : Script) (place rendition : ℕ)
    → acted lots w (Some (At place rendition ∷ [])) ≡ says w (standing_text (rooms.standing place rendition w.rooms))
done-at [] w place rendition = refl
done-at (lot ∷ lots) w place rendition = by_lot lot.refused
  where
    by_lot : (b : Bool) → done_as lot w (if b then starved (At place rendition) else At place rendition) ≡ says w (standing_text (rooms.standing place rendition w.rooms))
    by_lot true = refl
    by_lot false = refl

asks : (w : Script) (l : Marked) (place rendition : ℕ) → acts_in w l ≡ At place rendition ∷ [] → Asks w l place rendition
asks w l place rendition e =
    by w.ending (nat_lt 65536 (length l.text)) (acts (all_settings w.rooms) w.last_id l.text) refl refl refl e
  where
    by : (o : Option Ending) (long : Bool) (means : Option (List Act)) → w.ending ≡ o → nat_lt 65536 (length l.text) ≡ long
        → acts (all_settings w.rooms) w.last_id l.text ≡ means → (if is_some o || long then [] else listed means) ≡ At place rendition ∷ [] → Asks w l place rendition
    by (Some ending) long means a b c h = absurd (cc)
    by None true means a b c h = absurd (cc)
    by None false None a b c h = absurd (cc)
    by None false (Some list) a b c h =
        let short : length l.text ≤ 65536 = grind (arith, nat_tests, b) in
        let is : acts (all_settings w.rooms) w.last_id l.text ≡ Some (At place rendition ∷ []) = c ∙ ap Some h in
        record {
          going = a;
          there = (subst (All (IsAsked (all_settings w.rooms))) is (acts-of (IsAsked (all_settings w.rooms)) (all_settings w.rooms) (each-asked (all_settings w.rooms)) w.last_id l.text)).0;
          is = line-means w l (Some (At place rendition ∷ [])) a short is ∙ done-at l.lots (counted w) place rendition;
        }

-- the answer
told : (w : Script) (place rendition : ℕ) → IsAsked (all_settings w.rooms) (At place rendition)
    → IsTold w place rendition (standing_text (rooms.standing place rendition w.rooms))
told w place rendition there = by_channel (slice_get w.rooms.channels place) refl
  where
    by_channel : (o : Option Channel) → slice_get w.rooms.channels place ≡ o → IsTold w place rendition (standing_text (standing_at rendition o))
    by_channel None e =
        absurd (none_some there.0 (sym (slice_get-map (λ (c : Channel). c.settings) w.rooms.channels place ∙ ap (option_map (λ (c : Channel). c.settings)) e) ∙ there.1))
    by_channel (Some c) e =
        let same : c.settings ≡ there.0 =
        some_is c.settings there.0 (sym (slice_get-map (λ (c : Channel). c.settings) w.rooms.channels place ∙ ap (option_map (λ (c : Channel). c.settings)) e) ∙ there.1) in
        let inside : rendition < length c.settings.renditions = subst (λ (s : Configuration). rendition < length s.renditions) (sym same) there.2 in
        let has : nat_lt rendition (length c.settings.renditions) ≡ true = grind (arith, nat_tests, inside) in
        record {
          channel = c;
          there = e;
          has = inside;
          is = ap (λ b. standing_text (if b then Some (standing c.settings (items c.settings c.events) rendition) else None)) has;
        }

-- ---- the law

-- what a script is without what it wrote
abbrev unwritten : Script → Script
unwritten w = record w { text = [] }

no_more : (n : ℕ) → n + 0 ≡ n
no_more n = omega arith

same-ending : (o : Option Ending) → option_map (later_by 0) o ≡ o
same-ending None = refl
same-ending (Some (BadLine n)) = ap (λ n. Some (BadLine n)) (no_more n)
same-ending (Some (LineTooLong n)) = ap (λ n. Some (LineTooLong n)) (no_more n)

later-ending : (o : Option Ending) → option_map (later_by 1) o ≡ option_map one_later o
later-ending None = refl
later-ending (Some (BadLine n)) = refl
later-ending (Some (LineTooLong n)) = refl

-- nothing more was read, and all of this was written
is-written : (t : List ℕ) (v : Script) → shifted 0 t v ≡ record v { text = t ++ v.text }
is-written t v = ap₂ (λ n o. record v { lines = n; text = t ++ v.text; ending = o }) (no_more v.lines) (same-ending v.ending)

pub standing-told : StandingLaw
standing-told before later l place rendition e =
    let w = come_to before in
    let a = asks w l place rendition e in
    let answer = standing_text (rooms.standing place rendition w.rooms) in
    let u = unwritten w in
    let v = fold line u later in
    let without : come_to (before ++ later) ≡ record v { text = w.text ++ v.text } =
    fold-append line start before later
    ∙ ap (λ x. fold line x later) (ap (λ x. record w { text = x }) (sym (append-nil w.text)) ∙ sym (is-written w.text u))
    ∙ lines-shifted 0 w.text u later ∙ is-written w.text v in
    let here : line w l ≡ shifted 1 (w.text ++ answer) u =
    a.is
    ∙ ap₂ (λ x o. record w { lines = w.lines + 1; text = x; ending = o }) (sym (append-nil (w.text ++ answer))) (a.going ∙ sym (ap (option_map (later_by 1)) a.going)) in
    let asked : come_to (before ++ l ∷ later) ≡ shifted 1 (w.text ++ answer) v =
    fold-append line start before (l ∷ later) ∙ ap (λ x. fold line x later) here ∙ lines-shifted 1 (w.text ++ answer) u later in (
      answer,
      v.text,
      told w place rendition a.there,
      ap (λ (x : Script). x.text) without,
      asked
          ∙ ap₂ (λ x o. record v { lines = v.lines + 1; text = x; ending = o }) (append_assoc w.text answer v.text) (later-ending v.ending)
          ∙ sym (ap (λ x. with_line x (w.text ++ (answer ++ v.text))) without),
    )
