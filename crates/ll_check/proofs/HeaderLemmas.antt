-- The chain of a chunk, from its first three lines and what is kept of the chains before it.
use Rattle.std.proofs.Common.{◌≡◌, ◌≢◌, ℕ, [], true, cond, Option, Some, None, Result, Ok, Err, IsOk, MatchOption, refl, ap, ap₂, ◌∙◌, sym, subst, true≢false}
use Rattle.std.specs.Option.{unwrap_or}
use Rattle.ll_check.specs.Found.{ChainValue}
use Rattle.ll_check.specs.Joined.{IsBegun, met}
use Rattle.ll_entry.specs.Chain.{Chain, another, begun_by, entries, is_channel, joined_at}
use Rattle.ll_entry.specs.declared.fault.CheckKind.{CheckKind}
use Rattle.ll_entry.specs.declared.fault.CheckKind.TheVariants.{Memory, OtherChannel}
use Rattle.ll_entry.specs.declared.version.Version.{Version}
use Rattle.ll_settings.specs.Settings.{Configuration}
use Rattle.ll_settings.specs.declared.settings.SettingsFault.{SettingsFault}
use Rattle.ll_room.specs.RoomValue.{RoomValue, room_value}
use Rattle.ll_verdict.specs.State.{state_of}

-- another chain begins with a room to which nothing has happened
pub another-is : (before : Option Chain) (v : Version) (c : Configuration) (room : RoomValue) (earlier : ℕ) → is_channel before c ≡ true
    → room ≡ room_value 0 c (state_of c []) → earlier ≡ entries before
    → IsBegun (Some (record { room = room; version = v; earlier = earlier; inside = true })) (another before v c)
another-is before v c room earlier is new n =
    let kept : ChainValue = record { room = room; version = v; earlier = earlier; inside = true } in
    let ch : Chain = record { settings = c; version = v; earlier = entries before; events = [] } in
    subst (λ b. IsBegun (Some kept) (cond b (Ok ch) (Err OtherChannel))) (sym is)
    (record {
      chain = ap₂ (λ s m. record { settings = s; version = v; earlier = m; events = [] }) (sym (ap (λ (h : RoomValue). h.settings) new)) (sym n);
      stands = subst (λ (h : RoomValue). h ≡ room_value h.channel h.settings (state_of h.settings [])) (sym new) refl;
    })

-- a chunk can't be where it is, whatever its settings, which are settings
pub place-first : (before : Option Chain) (v : Version) (s : Result Configuration SettingsFault) (at : ℕ) (fault : Option CheckKind) (kind : CheckKind) → IsOk s
    → ((c : Configuration) → MatchOption fault (joined_at before v c at ≡ met before v c at) (λ k. joined_at before v c at ≡ Err k))
    → kind ≡ unwrap_or fault Memory → kind ≢ Memory → begun_by before (Some v) s (Some at) ≡ Err kind
place-first before v (Ok c) at (Some k) kind ok place e other = place c ∙ ap Err (sym e)
place-first before v (Ok c) at None kind ok place e other = absurd (other e)
place-first before v (Err fault) at o kind ok place e other = absurd (true≢false (sym ok))
