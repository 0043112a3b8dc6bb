use Rattle.std.proofs.Common.{◌≡◌, ◌+◌, ◌++◌, ◌∷◌, [], List, None, true, ap, ap₂, ◌∙◌, subst, refl, sym, length}
use Rattle.std.specs.Str.{is_utf8}
use Rattle.ll_entry.specs.Lines.{entry_line}
use Rattle.ll_entry.specs.declared.entry.Recorded.TheVariants as recorded
use Rattle.ll_settings.specs.Settings.{limit_broken}
use Rattle.ll_entry.specs.Leads.{with_end}
use Rattle.ll_verdict.specs.Events.{Event, Clock}
use Rattle.ll_record.proofs.Spare.{spare-left, spare-same}
use Rattle.ll_record.proofs.Steps.{IsTold, at-view, clock-step, kept-after}
use Rattle.ll_record.specs.Recording.{IsRecorded, Recording}
use Rattle.ll_record.specs.contracts.recorder.Recorder.{the_view}
use Rattle.ll_record.proofs.recorder.Recorder.clock.Goals as goal

abbrev after : goal.After-row_known-in-Ok-clock-1 → Recording
after c = record { room = c.clock.new.self; at = c.self.inside.at; lines = c.put.new.self.lines; calls = c.self.inside.calls + 1 }

line-is : (c : goal.After-row_known-in-Ok-clock-1) → c.as_str.result.now ≡ entry_line c.self.inside.room.settings (recorded.Clock c.args.ms)
line-is c = c.as_str.ensures.value ∙ c.clock_line-line.ensures.text c.self.inside.room.settings

told : (c : goal.After-row_known-in-Ok-clock-1) → IsTold (the_view c.self.inside) (after c) (recorded.Clock c.args.ms)
told c = record {
  within = subst (λ s. limit_broken s ≡ None) c.settings.ensures c.within_limits.ensures;
  utf8 = subst (λ t. is_utf8 t ≡ true) (line-is c) c.put.ensures.text;
  next = record {
    room = c.clock.ensures.same;
    at = refl;
    lines = c.put.ensures.lines ∙ ap₂ (λ lines line. lines ++ with_end line) c.reserve.ensures.lines (line-is c);
    calls = refl;
  };
}

next : (c : goal.After-row_known-in-Ok-clock-1) (events : List Event) → IsRecorded (the_view c.self.inside) events → IsRecorded (after c) (events ++ Clock c.args.ms ∷ [])
next c =
    clock-step (the_view c.self.inside) (after c) c.args.ms (told c) (sym c.is_full.ensures ∙ c.if-is_full.false) c.if-ms-gt-LAST_TIME.false
    (c.clock_line-line.ensures.spelled c.self.inside.room.settings) c.in-Ok-clock.ensures.passed

pub invariant_of-self-2 : goal.invariant_of-self-2
invariant_of-self-2 c =
    kept-after (the_view c.self.inside) (after c) (Clock c.args.ms) c.self.inside.lines.free c.put.new.self.free c.self.invariant (next c)
    (spare-same c.self.inside.room c.clock.new.self c.put.new.self.free c.clock.ensures.still_open
    (spare-left (length c.self.inside.room.slots) c.len.result (length c.as_str.result.now) c.open_requests.result c.reserve.new.self.free c.put.new.self.free
    (c.len.ensures.value ∙ ap length (sym c.as_str.ensures.value)) c.open_requests.ensures.value c.in-Ok.ensures.free c.put.ensures.free))

pub returns-clause-passed : goal.returns-clause-passed
returns-clause-passed c = at-view (the_view c.self.inside) c.args.self.now (after c) (Clock c.args.ms) c.self.view_is (next c)
