-- The room at a channel's place says where a rendition stands.
use Rattle.std.proofs.Common.{◌≡◌, ℕ, ◌<◌, ◌≤◌, true, false, Option, Some, None, if◌then◌else◌, length, nat_lt, slice_get, ap, sym, ◌∙◌, arith, refl}
use Rattle.std.proofs.lemmas.Bool.Decides.{nat_tests}
use Rattle.std.specs.Prelude.{List, MatchOption}
use Rattle.ll_settings.specs.Settings.{Configuration}
use Rattle.ll_room.specs.RoomValue.{RoomValue, Stands}
use Rattle.ll_script_rooms.specs.Kept.{Kept, kept_world}
use Rattle.ll_script_rooms.specs.World.{World, standing, standing_at}
use Rattle.ll_script_rooms.proofs.StandLemmas.{channel_of, no_channel, stands_for}
use Rattle.ll_verdict.specs.Events.{Event, items}
use Rattle.ll_verdict.specs.Standing as verdict
use Rattle.ll_verdict.specs.declared.standing.Standing.{Standing}

-- what a room says of where a rendition stands
abbrev pub Tells : RoomValue → ℕ → Option Standing → Type 0
Tells h r o = (events : List Event) → Stands h events
    → MatchOption o (length h.settings.renditions ≤ r) (λ s. (r < length h.settings.renditions) × (s ≡ verdict.standing h.settings (items h.settings events) r))

-- a rendition that the channel has, and one that it hasn't
told-by : (c : Configuration) (events : List Event) (r : ℕ) (o : Option Standing)
    → MatchOption o (length c.renditions ≤ r) (λ s. (r < length c.renditions) × (s ≡ verdict.standing c (items c events) r))
    → o ≡ (if nat_lt r (length c.renditions) then Some (verdict.standing c (items c events) r) else None)
told-by c events r None past =
    let none : nat_lt r (length c.renditions) ≡ false = grind (arith, nat_tests, past) in
    sym (ap (λ b. if b then Some (verdict.standing c (items c events) r) else None) none)
told-by c events r (Some s) told =
    let inside = told.0 in
    let has : nat_lt r (length c.renditions) ≡ true = grind (arith, nat_tests, inside) in
    ap Some told.1 ∙ sym (ap (λ b. if b then Some (verdict.standing c (items c events) r) else None) has)

-- if there is no channel
pub nowhere-stands : (old : Kept) (w : World) (i r : ℕ) → old ≡ kept_world w → slice_get old.rooms i ≡ None → None ≡ standing i r w
nowhere-stands old w i r e at = no_channel old.rooms w.channels i (ap (λ (k : Kept). k.rooms) e) at (λ d. None ≡ standing_at r d) refl

-- if there is a room
pub there-stands : (old : Kept) (w : World) (i r : ℕ) (h : RoomValue) (o : Option Standing) → old ≡ kept_world w → slice_get old.rooms i ≡ Some h → Tells h r o
    → o ≡ standing i r w
there-stands old w i r h o e at tells =
    channel_of old.rooms w.channels i h (ap (λ (k : Kept). k.rooms) e) at (λ d. o ≡ standing_at r d)
    (λ c there is.
    told-by h.settings c.events r o (tells c.events (stands_for i c h is))
    ∙ ap (λ (h : RoomValue). if nat_lt r (length h.settings.renditions) then Some (verdict.standing h.settings (items h.settings c.events) r) else None) is)
