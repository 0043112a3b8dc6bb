-- The line of settings is read as the settings, and is one line.
use Rattle.std.proofs.Common.{◌≡◌, ℕ, ◌<◌, ◌^◌, true, List, [], ◌∷◌, ◌++◌, refl, ap, ◌∙◌, arith, codes, decimal, None, Option, Some, Ok, if◌then◌else◌}
use Rattle.std.specs.Prelude.{option_and_then}
use Rattle.ll_attr.specs.Numbers.{number_in}
use Rattle.ll_attr.specs.Words.{joined}
use Rattle.ll_format.specs.Words.{is_one_line}
use Rattle.ll_format.proofs.FormatLaws.{key_again}
use Rattle.ll_settings.specs.Names.{is_name}
use Rattle.ll_settings.specs.Settings.{Configuration, IsWithin, limit_broken, settings_in, settings_by, configuration_of, number_of, names_in, unless_broken, ◌>>=◌}
use Rattle.ll_settings.proofs.WithinLimits.{within}
use Rattle.ll_entry.specs.ItemLaws.{SettingsLaw}
use Rattle.ll_entry.specs.SettingsLine.{names_text, settings_line}
use Rattle.ll_entry.proofs.Cuts.{AreWords, no_more, also, IsWord, words_back, words_line, keyed}
use Rattle.ll_entry.proofs.Names.{name-word, names_back, names-word}
use Rattle.ll_entry.proofs.Numbers.{number-back, number-word}

-- the words of the line

abbrev fields : Configuration → List (List ℕ)
fields c =
    c.channel ∷ (codes "target=" ++ decimal c.target) ∷ (codes "part=" ++ decimal c.part_target) ∷ (codes "skip=" ++ decimal c.skip)
    ∷ (codes "window=" ++ decimal c.window) ∷ (codes "renditions=" ++ names_text c.renditions) ∷ (codes "first=" ++ decimal c.first)
    ∷ (codes "start=" ++ decimal c.start) ∷ []

joined_fields : (c : Configuration) → settings_line c ≡ joined (codes "channel" ∷ fields c)
unfolding settings_line
joined_fields c = refl

-- the numbers of settings are below 2^64
record AreSmall (c : Configuration) : Type 0 where
  target : c.target < 2 ^ 64
  part_target : c.part_target < 2 ^ 64
  skip : c.skip < 2 ^ 64
  window : c.window < 2 ^ 64
  first : c.first < 2 ^ 64
  start : c.start < 2 ^ 64

small : (c : Configuration) → IsWithin c → AreSmall c
small c w = record {
  target = omega arith;
  part_target = omega arith;
  skip = omega arith;
  window = omega arith;
  first = omega arith;
  start = omega arith;
}

numbered : (key : List ℕ) (n : ℕ) → IsWord key → n < 2 ^ 64 → IsWord (key ++ decimal n)
numbered key n k low = keyed key (decimal n) k (number-word n low)

field_words : (c : Configuration) → IsWithin c → AreSmall c → AreWords (codes "channel" ∷ fields c)
field_words c w s =
    also (record { spaceless = refl; one_line = refl })
    (also (name-word c.channel w.channel_named)
    (also (numbered (codes "target=") c.target (record { spaceless = refl; one_line = refl }) s.target)
    (also (numbered (codes "part=") c.part_target (record { spaceless = refl; one_line = refl }) s.part_target)
    (also (numbered (codes "skip=") c.skip (record { spaceless = refl; one_line = refl }) s.skip)
    (also (numbered (codes "window=") c.window (record { spaceless = refl; one_line = refl }) s.window)
    (also (keyed (codes "renditions=") (names_text c.renditions) (record { spaceless = refl; one_line = refl }) (names-word c.renditions w.renditions_named))
    (also (numbered (codes "first=") c.first (record { spaceless = refl; one_line = refl }) s.first)
    (also (numbered (codes "start=") c.start (record { spaceless = refl; one_line = refl }) s.start) no_more))))))))

-- and what these words mean

number_after : (key : List ℕ) (n : ℕ) → n < 2 ^ 64 → number_of key (key ++ decimal n) ≡ Some n
number_after key n small = ap (option_and_then (number_in 20)) (key_again key (decimal n)) ∙ number-back n small

-- the settings that a line's words give, if each option has the configuration's value
gathered : (c : Configuration) (channel : Option (List ℕ)) (target part skip window first start : Option ℕ)
    → channel ≡ Some c.channel → target ≡ Some c.target → part ≡ Some c.part_target → skip ≡ Some c.skip → window ≡ Some c.window
    → first ≡ Some c.first → start ≡ Some c.start → names_in (names_text c.renditions) ≡ c.renditions
    → (channel >>= λ channel. target >>= λ target. part >>= λ part. skip >>= λ skip. window >>= λ window. first >>= λ first. start >>= λ start.
    Some (record {
      channel = channel;
      target = target;
      part_target = part;
      skip = skip;
      window = window;
      renditions = names_in (names_text c.renditions);
      first = first;
      start = start;
    })) ≡ Some c
gathered c channel target part skip window first start a b d e f g h names = rw (a, b, d, e, f, g, h, names) refl

named_by : (name : List ℕ) → is_name name ≡ true → (let o : Option (List ℕ) = if is_name name then Some name else None in o) ≡ Some name
named_by name h = rw h refl

read_back : (c : Configuration) → is_name c.channel ≡ true → AreSmall c → names_in (names_text c.renditions) ≡ c.renditions
    → configuration_of (codes "channel" ∷ fields c) ≡ Some c
unfolding configuration_of
read_back c named s names =
    gathered c _ _ _ _ _ _ _ (named_by c.channel named) (number_after (codes "target=") c.target s.target) (number_after (codes "part=") c.part_target s.part_target)
    (number_after (codes "skip=") c.skip s.skip) (number_after (codes "window=") c.window s.window) (number_after (codes "first=") c.first s.first)
    (number_after (codes "start=") c.start s.start) names

within_back : (c : Configuration) → limit_broken c ≡ None → IsWithin c → (settings_in (settings_line c) ≡ Ok c) × (is_one_line (settings_line c) ≡ true)
within_back c limits w =
    let all = field_words c w (small c w) in (
      ap settings_in (joined_fields c)
          ∙ ap (λ ws. settings_by (configuration_of ws)) (words_back (codes "channel") (fields c) all)
          ∙ ap settings_by (read_back c w.channel_named (small c w) (names_back c.renditions w.renditions_named (omega arith)))
          ∙ ap (λ fault. unless_broken fault c) limits,
      ap is_one_line (joined_fields c) ∙ words_line (codes "channel" ∷ fields c) all,
    )

pub settings_back : SettingsLaw
settings_back c limits = within_back c limits (within c limits)
