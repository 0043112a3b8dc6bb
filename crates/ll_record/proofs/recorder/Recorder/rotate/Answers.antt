use Rattle.std.proofs.Common.{◌≡◌, ◌≤◌, ◌^◌, List, None, true, ap, ap₂, arith, subst, sym, ◌∙◌}
use Rattle.std.specs.Str.{is_utf8}
use Rattle.ll_settings.specs.Settings.{limit_broken}
use Rattle.ll_entry.specs.Leads.{chunk_text}
use Rattle.ll_entry.specs.SettingsLine.{settings_line}
use Rattle.ll_record.proofs.ChunkText.{faithful}
use Rattle.ll_verdict.specs.Events.{Event}
use Rattle.ll_record.proofs.Next.{recorded-anew}
use Rattle.ll_record.specs.Chunk.{ChunkValue}
use Rattle.ll_record.specs.Recording.{IsRecorded, Recording}
use Rattle.ll_record.specs.contracts.recorder.Recorder.{the_view}
use Rattle.ll_record.proofs.recorder.Recorder.rotate.Goals as goal

pub returns-clause-faithful : goal.returns-clause-faithful
returns-clause-faithful c =
    faithful (the_view c.self.inside) c.args.self.now c.in_ok-chunk.chunk c.self.view_is
    (subst (λ s. limit_broken s ≡ None) c.settings.ensures c.within_limits.ensures)
    (subst (λ s. is_utf8 (settings_line s) ≡ true) c.settings-2.ensures c.in_ok-chunk.ensures.settings)
    (subst (λ n. n ≤ 2 ^ 61) c.events-events.ensures.value c.events-events.ensures.few)
    (ap (λ (k : ChunkValue). k.text) c.in_ok-chunk.ensures.text ∙ ap₂ (λ s lines. chunk_text s c.self.inside.at lines) c.settings-2.ensures c.text.ensures)

anew : (c : goal.After-clear) (events : List Event) → IsRecorded (the_view c.self.inside) events
    → IsRecorded (record { room = c.self.inside.room; at = c.events-events.result; lines = c.clear.new.self.lines; calls = 0 }) events
anew c events r = recorded-anew (the_view c.self.inside) c.events-events.result c.clear.new.self.lines events c.events-events.ensures.value c.clear.ensures.lines r

pub invariant_of-self-2 : goal.invariant_of-self-2
invariant_of-self-2 c = record {
  events = c.self.invariant.events;
  recorded = anew c c.self.invariant.events c.self.invariant.recorded;
  room = omega (arith, c.self.invariant.room, c.clear.ensures.no_less);
}

pub returns-clause-recorded : goal.returns-clause-recorded
returns-clause-recorded c events r = anew c events (subst (λ (x : Recording). IsRecorded x events) (sym c.self.view_is) r)
