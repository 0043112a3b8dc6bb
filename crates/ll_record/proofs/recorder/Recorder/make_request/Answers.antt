use Rattle.std.proofs.Common.{◌≡◌, ◌+◌, ◌++◌, ◌∷◌, [], List, None, true, false, ap, ap₂, ◌∙◌, subst, refl, sym, length, string_bytes}
use Rattle.std.specs.Str.{is_utf8}
use Rattle.ll_entry.specs.Lines.{entry_line}
use Rattle.ll_entry.specs.declared.entry.Recorded.{Recorded}
use Rattle.ll_entry.specs.declared.entry.Recorded.TheVariants as recorded
use Rattle.ll_directive.specs.Files.{is_playlist}
use Rattle.ll_settings.specs.Settings.{limit_broken}
use Rattle.ll_entry.specs.Leads.{with_end}
use Rattle.std.specs.Prelude.{option_map}
use Rattle.ll_room.specs.Answers.{new_tickets}
use Rattle.ll_room.specs.RoomValue.{Stands}
use Rattle.ll_verdict.specs.Full.{is_full}
use Rattle.ll_verdict.specs.Events.{Event, Ask}
use Rattle.ll_verdict.specs.Outcome.{outcome_of}
use Rattle.ll_verdict.specs.Verdict.{at_once, held}
use Rattle.ll_record.proofs.Spare.{one-new, spare-left-more, spare-more}
use Rattle.ll_record.proofs.Steps.{IsTold, ask-step, asked-same, kept-after}
use Rattle.ll_record.specs.Recording.{IsRecorded, Recording, of_channel}
use Rattle.ll_record.specs.contracts.recorder.Recorder.{the_view}
use Rattle.ll_record.proofs.recorder.Recorder.make_request.Goals as goal

abbrev after : goal.After-row_known-1 → Recording
after c = record { room = c.ask_decided.new.self; at = c.self.inside.at; lines = c.put_line.new.self.lines; calls = c.self.inside.calls + 1 }

abbrev entry : goal.After-row_known-1 → Recorded
entry c = recorded.Ask (c.self.inside.room.asks + 1) (of_channel c.self.inside.room.settings c.args.want) c.outcome-outcome.result

line-is : (c : goal.After-row_known-1) → string_bytes c.in_ok-line.line ≡ entry_line c.self.inside.room.settings (entry c)
line-is c =
    let h = c.self.inside.room in
    c.in_ok-line.ensures.text h.settings ∙ asked-same (is_playlist c.args.want.what) (h.asks + 1) h.settings c.args.want c.outcome-outcome.result

told : (c : goal.After-row_known-1) → IsTold (the_view c.self.inside) (after c) (entry c)
told c = record {
  within = subst (λ s. limit_broken s ≡ None) c.settings.ensures c.within_limits.ensures;
  utf8 = subst (λ t. is_utf8 t ≡ true) (line-is c) c.put_line.ensures.text;
  next = record {
    room = c.ask_decided.ensures.same;
    at = refl;
    lines = c.put_line.ensures.lines ∙ ap₂ (λ lines line. lines ++ with_end line) c.request_line.ensures.lines (line-is c);
    calls = refl;
  };
}

-- what is written is the result of the request
outcome-is : (c : goal.After-row_known-1) (events : List Event) → Stands c.self.inside.room events
    → c.outcome-outcome.result ≡ option_map outcome_of (at_once c.self.inside.room.settings (held c.self.inside.room.settings events) events c.args.want)
outcome-is c events stands =
    c.outcome-outcome.ensures ∙ ap (option_map outcome_of) (sym (c.decide-decision.ensures.reply events stands))

next : (c : goal.After-row_known-1) (events : List Event) → IsRecorded (the_view c.self.inside) events
    → IsRecorded (after c) (events ++ Ask (of_channel c.self.inside.room.settings c.args.want) ∷ [])
next c =
    ask-step (the_view c.self.inside) (after c) c.args.want c.outcome-outcome.result (told c)
    (subst (λ (x : Recording). is_full x.room.events ≡ false) (sym c.self.view_is) c.requires.few)
    (c.in_ok-line.ensures.spelled c.self.inside.room.settings) (outcome-is c) c.in_ok-asked.ensures.asked

pub invariant_of-self-2 : goal.invariant_of-self-2
invariant_of-self-2 c =
    kept-after (the_view c.self.inside) (after c) (Ask (of_channel c.self.inside.room.settings c.args.want)) c.self.inside.lines.free c.put_line.new.self.free c.self.invariant
    (next c)
    (spare-more c.self.inside.room c.ask_decided.new.self (new_tickets c.in_ok-asked.asked) c.put_line.new.self.free c.in_ok-asked.ensures.opened (one-new c.in_ok-asked.asked)
    (spare-left-more (length c.self.inside.room.slots) (length (string_bytes c.in_ok-line.line)) (length (string_bytes c.in_ok-line.line)) (length c.self.inside.room.slots)
    c.request_line.new.lines.free c.put_line.new.self.free refl refl c.in_ok-line.ensures.free c.put_line.ensures.free))

pub returns-clause-asked : goal.returns-clause-asked
returns-clause-asked c =
    subst (λ (x : Recording). (events : List Event) → IsRecorded x events → IsRecorded (after c) (events ++ Ask (of_channel x.room.settings c.args.want) ∷ []))
    c.self.view_is (next c)
