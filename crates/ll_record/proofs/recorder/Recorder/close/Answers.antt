use Rattle.std.proofs.Common.{◌≡◌, ◌+◌, ◌++◌, ◌∷◌, [], List, None, true, ap, ◌∙◌, subst, refl, length}
use Rattle.std.specs.Str.{is_utf8}
use Rattle.ll_entry.specs.Lines.{IsSpelled, entry_line}
use Rattle.ll_entry.specs.declared.entry.Recorded.TheVariants as recorded
use Rattle.ll_settings.specs.Settings.{limit_broken}
use Rattle.ll_entry.specs.Leads.{with_end}
use Rattle.ll_verdict.specs.Events.{Event, Close}
use Rattle.ll_record.proofs.Next.{uncounted}
use Rattle.ll_record.proofs.Right.{closed-open}
use Rattle.ll_record.proofs.Spare.{short-line, spare-less}
use Rattle.ll_record.proofs.Steps.{IsTold, at-view, close-step, kept-after}
use Rattle.ll_record.specs.Recording.{IsRecorded, Recording}
use Rattle.ll_record.specs.contracts.recorder.Recorder.{the_view}
use Rattle.ll_record.proofs.recorder.Recorder.close.Goals as goal

abbrev after : goal.After-put → Recording
after c = record { room = c.close.new.self; at = c.self.inside.at; lines = c.put.new.self.lines; calls = c.self.inside.calls }

line-is : (c : goal.After-put) → c.as_str.result.now ≡ entry_line c.self.inside.room.settings (recorded.Close c.args.parked.ticket)
line-is c =
    c.as_str.ensures.value ∙ c.close_line.ensures.text c.self.inside.room.settings
    ∙ ap (λ t. entry_line c.self.inside.room.settings (recorded.Close t)) c.ticket-ticket.ensures

told : (c : goal.After-put) → IsTold (the_view c.self.inside) (after c) (recorded.Close c.args.parked.ticket)
told c = record {
  within = subst (λ s. limit_broken s ≡ None) c.settings.ensures c.within_limits.ensures;
  utf8 = subst (λ t. is_utf8 t ≡ true) (line-is c) c.put.ensures.text;
  next = record {
    room = c.close.ensures.same;
    at = refl;
    lines = c.put.ensures.lines ∙ ap (λ line. c.self.inside.lines.lines ++ with_end line) (line-is c);
    calls = uncounted c.self.inside.calls;
  };
}

next : (c : goal.After-put) (events : List Event) → IsRecorded (the_view c.self.inside) events → IsRecorded (after c) (events ++ Close c.args.parked.ticket ∷ [])
next c =
    close-step (the_view c.self.inside) (after c) c.args.parked (told c)
    (subst (λ t. IsSpelled c.self.inside.room.settings (recorded.Close t)) c.ticket-ticket.ensures (c.close_line.ensures.spelled c.self.inside.room.settings))
    c.in-Done.ensures.answer (c.in-Done.ensures.given_up refl)

pub invariant_of-self-2 : goal.invariant_of-self-2
invariant_of-self-2 c =
    kept-after (the_view c.self.inside) (after c) (Close c.args.parked.ticket) c.self.inside.lines.free c.put.new.self.free c.self.invariant (next c)
    (spare-less c.self.inside.room c.close.new.self c.args.parked.ticket (length c.as_str.result.now + 1) c.self.inside.lines.free c.put.new.self.free
    (closed-open c.self.inside.room c.args.parked c.in-Done.ensures.answer) (c.in-Done.ensures.fewer refl) c.self.invariant.room
    (short-line (length c.as_str.result.now) _ (ap length c.as_str.ensures.value) c.close_line.ensures.short) c.put.ensures.free)

pub returns-clause-given_up : goal.returns-clause-given_up
returns-clause-given_up c done = at-view (the_view c.self.inside) c.args.self.now (after c) (Close c.args.parked.ticket) c.self.view_is (next c)
