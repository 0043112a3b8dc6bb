-- A settings line has nine words, of which the second is the channel's name.
use Rattle.std.proofs.Common.{◌≡◌, ◌&&◌, List, [], ◌∷◌, ℕ, Bool, true, false, Option, Some, None, Ok, refl, ap, subst, ◌∙◌}
use Rattle.std.specs.Prelude.{bytes_eq, codes, if◌then◌else◌}
use Rattle.std.proofs.lemmas.Option.{none-some, same_Some}
use Rattle.ll_attr.specs.Words.{words}
use Rattle.ll_settings.specs.Names.{is_name}
use Rattle.ll_settings.specs.Settings.{Configuration, ◌>>=◌, configuration_of, limit_broken, names_in, number_of, settings_by, settings_in, unless_broken, value_of}
use Rattle.ll_settings.specs.declared.settings.SettingsFault.{SettingsFault}

-- more than two words, of which this is the second
abbrev HasSecond : List (List ℕ) → List ℕ → Type 0
HasSecond [] name = ⊥
HasSecond (a ∷ []) name = ⊥
HasSecond (a ∷ b ∷ []) name = ⊥
HasSecond (a ∷ b ∷ c ∷ rest) name = b ≡ name

-- the name goes into the settings as it is
named-by_rest : (name : List ℕ) (t p s w : Option ℕ) (r : Option (List ℕ)) (f u : Option ℕ) (c : Configuration)
    → (t >>= (λ target. p >>= (λ part. s >>= (λ skip. w >>= (λ window. r >>= (λ renditions. f >>= (λ first. u >>= (λ start.
    Some (record { channel = name; target = target; part_target = part; skip = skip; window = window; renditions = names_in renditions; first = first; start = start })))))))))
    ≡ Some c → name ≡ c.channel
named-by_rest name (Some t) (Some p) (Some s) (Some w) (Some r) (Some f) (Some u) c e = ap (λ (d : Configuration). d.channel) (same_Some _ c e)
named-by_rest name None p s w r f u c e = absurd (none-some c e)
named-by_rest name (Some t) None s w r f u c e = absurd (none-some c e)
named-by_rest name (Some t) (Some p) None w r f u c e = absurd (none-some c e)
named-by_rest name (Some t) (Some p) (Some s) None r f u c e = absurd (none-some c e)
named-by_rest name (Some t) (Some p) (Some s) (Some w) None f u c e = absurd (none-some c e)
named-by_rest name (Some t) (Some p) (Some s) (Some w) (Some r) None u c e = absurd (none-some c e)
named-by_rest name (Some t) (Some p) (Some s) (Some w) (Some r) (Some f) None c e = absurd (none-some c e)

named-by : (b : Bool) (name : List ℕ) (rest : List ℕ → Option Configuration) (c : Configuration)
    → ((if b then Some name else None) >>= rest) ≡ Some c → rest name ≡ Some c
named-by true name rest c e = e
named-by false name rest c e = absurd (none-some c e)

second-of_words : (ws : List (List ℕ)) (c : Configuration) → configuration_of ws ≡ Some c → HasSecond ws c.channel
unfolding configuration_of
second-of_words (kind ∷ name ∷ t ∷ p ∷ s ∷ w ∷ r ∷ f ∷ u ∷ []) c e =
    named-by_rest name (number_of (codes "target=") t) (number_of (codes "part=") p) (number_of (codes "skip=") s) (number_of (codes "window=") w)
    (value_of (codes "renditions=") r) (number_of (codes "first=") f) (number_of (codes "start=") u) c
    (named-by (bytes_eq kind (codes "channel") && is_name name) name _ c e)
second-of_words other c e = absurd (none-some c e)

unless-broken : (o : Option SettingsFault) (d c : Configuration) → unless_broken o d ≡ Ok c → d ≡ c
unless-broken None d c e = cc
unless-broken (Some f) d c e = absurd (cc)

second : (line : List ℕ) (c : Configuration) → settings_in line ≡ Ok c → HasSecond (words line) c.channel
second line c e = by_configuration (configuration_of (words line)) refl e
  where
    by_configuration : (o : Option Configuration) → configuration_of (words line) ≡ o → settings_by o ≡ Ok c → HasSecond (words line) c.channel
    by_configuration None e h = absurd (cc)
    by_configuration (Some d) e h = second-of_words (words line) c (e ∙ ap Some (unless-broken (limit_broken d) d c h))

-- a line of one word or of two is no settings line
pub not-of_one : (line a : List ℕ) (c : Configuration) → words line ≡ a ∷ [] → settings_in line ≡ Ok c → ⊥
not-of_one line a c ws e = subst (λ xs. HasSecond xs c.channel) ws (second line c e)

pub not-of_two : (line a b rest : List ℕ) (c : Configuration) → words line ≡ a ∷ words rest → words rest ≡ b ∷ [] → settings_in line ≡ Ok c → ⊥
not-of_two line a b rest c ws more e = subst (λ xs. HasSecond xs c.channel) (ws ∙ ap (λ xs. a ∷ xs) more) (second line c e)

-- and one of more words has the name second
pub second-is : (line a b rest : List ℕ) (later : List (List ℕ)) (c : Configuration) → words line ≡ a ∷ words rest → words rest ≡ b ∷ later → settings_in line ≡ Ok c → b ≡ c.channel
second-is line a b rest later c ws more e = by_later later (subst (λ xs. HasSecond xs c.channel) (ws ∙ ap (λ xs. a ∷ xs) more) (second line c e))
  where
    by_later : (later : List (List ℕ)) → HasSecond (a ∷ b ∷ later) c.channel → b ≡ c.channel
    by_later [] h = absurd h
    by_later (l ∷ ls) h = h
