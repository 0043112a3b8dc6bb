-- What holds of each act that a line makes happen, by the kinds of lines.
use Rattle.std.proofs.Common.{◌≡◌, ℕ, ◌+◌, ◌^◌, Bool, true, false, List, [], ◌∷◌, Option, Some, None, is_none, Result, Ok, Err, refl, subst, codes, nat_le, if◌then◌else◌, option_map}
use Rattle.std.specs.Str.{is_utf8}
use Rattle.ll_attr.specs.Numbers.{number_in}
use Rattle.ll_attr.specs.Words.{after, words}
use Rattle.ll_directive.specs.Targets.{WantValue, want_in}
use Rattle.ll_directive.specs.declared.fault.TargetFault.{TargetFault}
use Rattle.ll_settings.specs.Channels.{channel_of_name}
use Rattle.ll_settings.specs.Settings.{Configuration, IsWithin, configuration_of, limit_broken, settings_by, settings_in, unless_broken}
use Rattle.ll_settings.specs.declared.settings.SettingsFault.{SettingsFault}
use Rattle.ll_settings.proofs.WithinLimits.{within}
use Rattle.ll_script.specs.Hex.{bytes_in_hex}
use Rattle.ll_script.specs.Lines.{Kind, acts, acts_by, alone, ask, ask_in, begun, begun_by, bytes_by, bytes_of, clocks_from, close_of, declaration, drop_of, get_by, get_of, is_passed_over, kinds, offer, reading, rises}
use Rattle.ll_script.specs.declared.act.Act.{Act}
use Rattle.ll_script.specs.declared.act.Act.TheVariants.{Declare, Ask, Answer, Close, Clock, RefuseClock, Bytes, Drop}
use Rattle.ll_verdict.proofs.ListLemmas.{Each}

-- it holds of each kind of act that a line can make happen where these channels are declared
pub record OfEach (P : Act → Type 0) (channels : List Configuration) : Type 0 where
  pub declares : (c : Configuration) → IsWithin c → P (Declare c)
  pub offers : (text : List ℕ) → P (offer channels text)
  pub asks : (id place : ℕ) (want : WantValue) → P (Ask id place want)
  pub answers : (id : ℕ) (fault : TargetFault) → P (Answer id fault)
  pub closes : (id : ℕ) → P (Close id)
  pub clocks : (place ms : ℕ) → P (Clock place ms)
  pub late : P RefuseClock
  pub comes : (n : ℕ) (piece : List ℕ) → P (Bytes n piece)
  pub drops : (n : ℕ) → P (Drop n)

module _ (P : Act → Type 0) where
  abbrev pub All : Option (List Act) → Type 0
  All None = Unit
  All (Some list) = Each P list

  abbrev If : Option Act → Type 0
  If None = Unit
  If (Some a) = P a

  alone-all : (o : Option Act) → If o → All (alone o)
  alone-all None h = tt
  alone-all (Some a) h = (h, tt)

  module _ (channels : List Configuration) (each : OfEach P channels) where
    -- ---- requests and the clock

    ask_in-of : (id : ℕ) (want : WantValue) (o : Option (ℕ × Configuration)) → P (ask_in id want o)
    ask_in-of id want None = each.answers id _
    ask_in-of id want (Some channel) = each.asks id channel.0 want

    ask-of : (id : ℕ) (r : Result WantValue TargetFault) → P (ask channels id r)
    ask-of id (Ok want) = ask_in-of id want (channel_of_name channels 0 want.channel)
    ask-of id (Err fault) = each.answers id fault

    if-of : (b : Bool) (a : Act) → P a → If (if b then Some a else None)
    if-of true a h = h
    if-of false a h = tt

    get_by-of : (last id : Option ℕ) (target : List ℕ) → If (get_by channels last id target)
    get_by-of last None target = tt
    get_by-of last (Some id) target = if-of (rises last id) (ask channels id (want_in target)) (ask-of id (want_in target))

    get_of-of : (last : Option ℕ) (ws : List (List ℕ)) → If (get_of channels last ws)
    get_of-of last (id ∷ (b ∷ target) ∷ []) = get_by-of last (number_in 9 id) (b ∷ target)
    get_of-of last other = tt

    close_of-of : (id : Option ℕ) → If (option_map (λ id. Close id) id)
    close_of-of None = tt
    close_of-of (Some id) = each.closes id

    clocks-of : (place : ℕ) (list : List Configuration) (ms : ℕ) → Each P (clocks_from place list ms)
    clocks-of place [] ms = tt
    clocks-of place (c ∷ more) ms = (each.clocks place ms, clocks-of (place + 1) more ms)

    reading_by-of : (b : Bool) (ms : ℕ) → Each P (if b then clocks_from 0 channels ms else RefuseClock ∷ [])
    reading_by-of true ms = clocks-of 0 channels ms
    reading_by-of false ms = (each.late, tt)

    clock_of-of : (ms : Option ℕ) → All (option_map (reading channels) ms)
    clock_of-of None = tt
    clock_of-of (Some ms) = reading_by-of (nat_le ms (2 ^ 60)) ms

    -- ---- declarations

    broken-by : (o : Option SettingsFault) (d c : Configuration) → limit_broken d ≡ o → unless_broken o d ≡ Ok c → IsWithin c
    broken-by None d c e h = let is : d ≡ c = cc in subst IsWithin is (within d e)
    broken-by (Some fault) d c e h = cc

    settings-within : (o : Option Configuration) (c : Configuration) → settings_by o ≡ Ok c → IsWithin c
    settings-within None c h = cc
    settings-within (Some d) c h = broken-by (limit_broken d) d c refl h

    declaration-of : (r : Result Configuration SettingsFault) → ((c : Configuration) → r ≡ Ok c → IsWithin c) → If (declaration channels r)
    declaration-of (Err fault) f = tt
    declaration-of (Ok c) f = if-of (is_none (channel_of_name channels 0 c.channel)) (Declare c) (each.declares c (f c refl))

    -- ---- lines

    bytes_by-of : (number : Option ℕ) (piece : Option (List ℕ)) → If (bytes_by number piece)
    bytes_by-of None piece = tt
    bytes_by-of (Some n) None = tt
    bytes_by-of (Some n) (Some piece) = each.comes n piece

    bytes_of-of : (ws : List (List ℕ)) → If (bytes_of ws)
    bytes_of-of (number ∷ (b ∷ hex) ∷ []) = bytes_by-of (number_in 9 number) (bytes_in_hex (b ∷ hex))
    bytes_of-of other = tt

    drop_of-of : (number : Option ℕ) → If (option_map (λ n. Drop n) number)
    drop_of-of None = tt
    drop_of-of (Some n) = each.drops n

    begun_by-of : (o : Option (List ℕ)) (means : List ℕ → Option (List Act)) (other : Option (List Act)) → ((text : List ℕ) → All (means text)) → All other
        → All (begun_by o means other)
    begun_by-of None means other m s = s
    begun_by-of (Some text) means other m s = m text

    begun-of : (ks : List Kind) (line : List ℕ) (other : Option (List Act)) → Each (λ k. (text : List ℕ) → All (k.1 text)) ks → All other → All (begun ks line other)
    begun-of [] line other e s = s
    begun-of (k ∷ ks) line other e s = begun_by-of (after k.0 line) k.1 (begun ks line other) e.0 (begun-of ks line other e.1 s)

    kinds-of : (last : Option ℕ) → Each (λ k. (text : List ℕ) → All (k.1 text)) (kinds channels last)
    kinds-of last = (
      λ text. alone-all (get_of channels last (words text)) (get_of-of last (words text)),
      (
        λ text. alone-all (close_of text) (close_of-of (number_in 9 text)),
        (
          λ text. clock_of-of (number_in 20 text),
          (
            λ text. alone-all (bytes_of (words text)) (bytes_of-of (words text)),
            (
              λ text. alone-all (drop_of text) (drop_of-of (number_in 9 text)),
              tt,
            ),
          ),
        ),
      ),
    )

    where-of : (b : Bool) (o : Option (List Act)) → All o → All (if b then o else None)
    where-of true o h = h
    where-of false o h = tt

    acts_by-of : (last : Option ℕ) (line : List ℕ) (o : Option (List ℕ)) → All (acts_by channels last line o)
    acts_by-of last line (Some text) = (each.offers text, tt)
    acts_by-of last line None =
        where-of (is_utf8 line) (begun (kinds channels last) line (alone (declaration channels (settings_in line))))
        (begun-of (kinds channels last) line (alone (declaration channels (settings_in line))) (kinds-of last)
        (alone-all (declaration channels (settings_in line)) (declaration-of (settings_in line) (λ c h. settings-within (configuration_of (words line)) c h))))

    unless-of : (b : Bool) (o : Option (List Act)) → All o → All (if b then Some [] else o)
    unless-of true o h = tt
    unless-of false o h = h

    -- of each act of any line
    pub acts-of : (last : Option ℕ) (line : List ℕ) → All (acts channels last line)
    acts-of last line = unless-of (is_passed_over line) (acts_by channels last line (after (codes "pub ") line)) (acts_by-of last line (after (codes "pub ") line))
