use Rattle.std.proofs.Common.{◌≡◌, ◌+◌, ◌++◌, ◌∷◌, [], List, None, true, ap, ap₂, ◌∙◌, subst, refl, length}
use Rattle.std.specs.Str.{is_utf8}
use Rattle.ll_entry.specs.Lines.{IsSpelled, entry_line}
use Rattle.ll_entry.specs.declared.entry.Recorded.TheVariants as recorded
use Rattle.ll_settings.specs.Settings.{limit_broken}
use Rattle.ll_entry.specs.Leads.{with_end}
use Rattle.ll_verdict.specs.Events.{Event, Collect}
use Rattle.ll_verdict.specs.Outcome.{outcome_of}
use Rattle.ll_record.proofs.Next.{uncounted}
use Rattle.ll_record.proofs.Right.{collected-open}
use Rattle.ll_record.proofs.Spare.{short-line, spare-less}
use Rattle.ll_record.proofs.Steps.{IsTold, at-view, collect-step, kept-after}
use Rattle.ll_record.specs.Recording.{IsRecorded, Recording}
use Rattle.ll_record.specs.contracts.recorder.Recorder.{the_view}
use Rattle.ll_record.proofs.recorder.Recorder.collect.Goals as goal

abbrev after : goal.After-put → Recording
after c = record { room = c.collect.new.self; at = c.self.inside.at; lines = c.put.new.self.lines; calls = c.self.inside.calls }

outcome-is : (c : goal.After-put) → c.outcome.result ≡ outcome_of c.in-Got.reply.value
outcome-is c = c.outcome.ensures ∙ ap outcome_of c.get.ensures

line-is : (c : goal.After-put) → c.as_str.result.now ≡ entry_line c.self.inside.room.settings (recorded.Collect c.args.parked.ticket (outcome_of c.in-Got.reply.value))
line-is c =
    c.as_str.ensures.value ∙ c.collect_line.ensures.text c.self.inside.room.settings
    ∙ ap₂ (λ t o. entry_line c.self.inside.room.settings (recorded.Collect t o)) c.ticket-ticket.ensures (outcome-is c)

told : (c : goal.After-put) → IsTold (the_view c.self.inside) (after c) (recorded.Collect c.args.parked.ticket (outcome_of c.in-Got.reply.value))
told c = record {
  within = subst (λ s. limit_broken s ≡ None) c.settings.ensures c.within_limits.ensures;
  utf8 = subst (λ t. is_utf8 t ≡ true) (line-is c) c.put.ensures.text;
  next = record {
    room = c.collect.ensures.same;
    at = refl;
    lines = c.put.ensures.lines ∙ ap (λ line. c.self.inside.lines.lines ++ with_end line) (line-is c);
    calls = uncounted c.self.inside.calls;
  };
}

next : (c : goal.After-put) (events : List Event) → IsRecorded (the_view c.self.inside) events → IsRecorded (after c) (events ++ Collect c.args.parked.ticket ∷ [])
next c =
    collect-step (the_view c.self.inside) (after c) c.args.parked c.in-Got.reply (told c)
    (subst (λ t. IsSpelled c.self.inside.room.settings (recorded.Collect t (outcome_of c.in-Got.reply.value))) c.ticket-ticket.ensures
    (subst (λ o. IsSpelled c.self.inside.room.settings (recorded.Collect c.ticket-ticket.result o)) (outcome-is c) (c.collect_line.ensures.spelled c.self.inside.room.settings)))
    c.in-Got.ensures.answer (c.in-Got.ensures.handed refl)

pub invariant_of-self-2 : goal.invariant_of-self-2
invariant_of-self-2 c =
    kept-after (the_view c.self.inside) (after c) (Collect c.args.parked.ticket) c.self.inside.lines.free c.put.new.self.free c.self.invariant (next c)
    (spare-less c.self.inside.room c.collect.new.self c.args.parked.ticket (length c.as_str.result.now + 1) c.self.inside.lines.free c.put.new.self.free
    (collected-open c.self.inside.room c.args.parked c.in-Got.reply c.in-Got.ensures.answer) (c.in-Got.ensures.fewer refl) c.self.invariant.room
    (short-line (length c.as_str.result.now) _ (ap length c.as_str.ensures.value) c.collect_line.ensures.short) c.put.ensures.free)

pub returns-clause-handed : goal.returns-clause-handed
returns-clause-handed c got = at-view (the_view c.self.inside) c.args.self.now (after c) (Collect c.args.parked.ticket) c.self.view_is (next c)
