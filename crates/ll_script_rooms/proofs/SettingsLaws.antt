-- No act but a declaration changes the settings of the channels.
use Rattle.std.proofs.Common.{◌≡◌, ℕ, zero, suc, List, [], ◌∷◌, Some, map, refl, ap, sym, ◌∙◌, slice_get, slice_set}
use Rattle.ll_directive.specs.Targets.{WantValue}
use Rattle.ll_script_rooms.specs.declared.owner.Owner.{Owner}
use Rattle.ll_settings.specs.Settings.{Configuration}
use Rattle.ll_item.specs.declared.item.Item.{Item}
use Rattle.ll_verdict.specs.Events.{Event}
use Rattle.ll_script_rooms.specs.World as rooms
use Rattle.ll_script_rooms.proofs.EventLaws as events
use Rattle.ll_script_rooms.proofs.TieLemmas.{some_is}

abbrev pub settings_of : List rooms.Channel → List Configuration
settings_of cs = map (λ (c : rooms.Channel). c.settings) cs

pub set_keeps : (cs : List rooms.Channel) (i : ℕ) (c : rooms.Channel) (e : Event) → slice_get cs i ≡ Some c
    → settings_of (slice_set cs i (rooms.with_event e c)) ≡ settings_of cs
set_keeps [] i c e h = refl
set_keeps (d ∷ cs) zero c e h = ap (λ (c : rooms.Channel). c.settings ∷ settings_of cs) (sym (some_is d c h))
set_keeps (d ∷ cs) (suc i) c e h = ap (λ all. d.settings ∷ all) (set_keeps cs i c e h)

abbrev Any : Event → Type 0
Any e = Unit {0}

module _ (w : rooms.World) where
  abbrev Same : List rooms.Channel → Type 0
  Same cs = settings_of cs ≡ rooms.all_settings w

  same : (cs : List rooms.Channel) (i : ℕ) (c : rooms.Channel) (e : Event) → Any e → slice_get cs i ≡ Some c → Same cs → Same (slice_set cs i (rooms.with_event e c))
  same cs i c e any h q = set_keeps cs i c e h ∙ q

  pub offer-keeps : (i : ℕ) (item : Item) → rooms.all_settings (rooms.offer i item w) ≡ rooms.all_settings w
  offer-keeps i item = events.offer-keeps Same Any same w i item tt refl

  pub ask-keeps : (owner : Owner) (i : ℕ) (want : WantValue) → rooms.all_settings (rooms.ask owner i want w) ≡ rooms.all_settings w
  ask-keeps owner i want = events.ask-keeps Same Any same w owner i want tt refl

  pub close-keeps : (owner : Owner) → rooms.all_settings (rooms.close owner w) ≡ rooms.all_settings w
  close-keeps owner = events.close-keeps Same Any same w owner (λ t. tt) refl

  pub clock-keeps : (i ms : ℕ) → rooms.all_settings (rooms.clock i ms w) ≡ rooms.all_settings w
  clock-keeps i ms = events.clock-keeps Same Any same w i ms tt refl

  pub next_reply-keeps : (i : ℕ) → rooms.all_settings (rooms.next_reply i w) ≡ rooms.all_settings w
  next_reply-keeps i = events.next_reply-keeps Same Any same w i (λ t. tt) refl
