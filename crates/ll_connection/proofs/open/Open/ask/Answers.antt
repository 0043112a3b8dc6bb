-- A request names no channel, or its channel answers it or lets it wait, or it is out of memory.
use Rattle.std.proofs.Common.{Err, ap, sym, true, false, ◌∙◌}
use Rattle.ll_settings.specs.Channels.{channel_of_name}
use Rattle.ll_script_rooms.specs.World.{silent}
use Rattle.ll_connection.proofs.OpenLemmas.{is_asked, is_starved, is_unknown}
use Rattle.ll_connection.proofs.open.Open.ask.Goals as goal

pub returns-in_default : goal.returns-in_default
returns-in_default c = record {
  asked = λ w e d.
      let both = is_unknown c.args.self.now.number c.args.want w c.args.declared.now _ d
      (ap (channel_of_name c.args.declared.now 0) (sym c.channel.ensures.value) ∙ c.in_default.ensures) e in
      (true, both.0, both.1);
}

pub returns-in-Ok : goal.returns-in-Ok
returns-in-Ok c = record {
  asked = λ w e d.
      let both = is_asked c.args.self.now.number c.args.want w c.args.declared.now c.in-Some.place c.in-Some.field-0-1.now c.ask.new.self c.in-Ok.said d
      (ap (channel_of_name c.args.declared.now 0) (sym c.channel.ensures.value) ∙ c.in-Some.ensures) (c.in-Ok.ensures.asked (silent w) e) in
      (true, both.0, c.spoken.ensures ∙ both.1);
}

pub returns-in-Err-Request : goal.returns-in-Err-Request
returns-in-Err-Request c = record {
  asked = λ w e d.
      let both = is_starved c.args.self.now.number c.args.want w c.args.declared.now c.in-Some.place c.in-Some.field-0-1.now c.ask.new.self d
      (ap (channel_of_name c.args.declared.now 0) (sym c.channel.ensures.value) ∙ c.in-Some.ensures) (c.in-Err-Request.ensures.unchanged (ap Err c.in-Err-Request.field-0-is) ∙ e) in
      (false, both.0, both.1);
}
