use Rattle.std.proofs.Common.{◌≡◌, ◌+◌, ◌++◌, ◌∷◌, [], List, None, true, ap₂, ◌∙◌, subst, refl, sym, length, string_bytes}
use Rattle.std.specs.Str.{is_utf8}
use Rattle.ll_entry.specs.Lines.{entry_line}
use Rattle.ll_entry.specs.declared.entry.Recorded.TheVariants as recorded
use Rattle.ll_settings.specs.Settings.{limit_broken}
use Rattle.ll_entry.specs.Leads.{with_end}
use Rattle.ll_room.specs.Full.{refusal_by}
use Rattle.ll_verdict.specs.Events.{Event, Publish}
use Rattle.ll_record.proofs.Spare.{spare-left, spare-same}
use Rattle.ll_record.proofs.Steps.{IsTold, at-view, kept-after, publish-step}
use Rattle.ll_record.specs.Recording.{IsRecorded, Recording}
use Rattle.ll_record.specs.contracts.recorder.Recorder.{the_view}
use Rattle.ll_record.proofs.recorder.Recorder.take_in.Goals as goal

abbrev after : goal.After-row_known-1 → Recording
after c = record { room = c.accept.new.self; at = c.self.inside.at; lines = c.put_line.new.self.lines; calls = c.self.inside.calls + 1 }

line-is : (c : goal.After-row_known-1) → string_bytes c.in_ok-line.line ≡ entry_line c.self.inside.room.settings (recorded.Publish c.args.item)
line-is c = c.in_ok-line.ensures.text

told : (c : goal.After-row_known-1) → IsTold (the_view c.self.inside) (after c) (recorded.Publish c.args.item)
told c = record {
  within = subst (λ s. limit_broken s ≡ None) c.settings.ensures c.within_limits.ensures;
  utf8 = subst (λ t. is_utf8 t ≡ true) (line-is c) c.put_line.ensures.text;
  next = record {
    room = c.accept.ensures.same;
    at = refl;
    lines = c.put_line.ensures.lines ∙ ap₂ (λ lines line. lines ++ with_end line) c.item_line.ensures.lines (line-is c);
    calls = refl;
  };
}

next : (c : goal.After-row_known-1) (events : List Event) → IsRecorded (the_view c.self.inside) events → IsRecorded (after c) (events ++ Publish c.args.item ∷ [])
next c =
    publish-step (the_view c.self.inside) (after c) c.args.item (told c)
    (subst (λ (x : Recording). refusal_by x.room c.args.item ≡ None) (sym c.self.view_is) c.requires.allowed)
    c.in_ok-line.ensures.spelled c.in_ok-count.ensures.accepted

pub invariant_of-self-2 : goal.invariant_of-self-2
invariant_of-self-2 c =
    kept-after (the_view c.self.inside) (after c) (Publish c.args.item) c.self.inside.lines.free c.put_line.new.self.free c.self.invariant (next c)
    (spare-same c.self.inside.room c.accept.new.self c.put_line.new.self.free c.accept.ensures.still_open
    (spare-left (length c.self.inside.room.slots) (length (string_bytes c.in_ok-line.line)) (length (string_bytes c.in_ok-line.line)) (length c.self.inside.room.slots)
    c.item_line.new.lines.free c.put_line.new.self.free refl refl c.in_ok-line.ensures.free c.put_line.ensures.free))

pub returns-clause-accepted : goal.returns-clause-accepted
returns-clause-accepted c = at-view (the_view c.self.inside) c.args.self.now (after c) (Publish c.args.item) c.self.view_is (next c)
