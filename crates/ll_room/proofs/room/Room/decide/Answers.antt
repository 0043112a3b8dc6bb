-- The channel has no rendition of that name.
use Rattle.std.proofs.Common.{ap, sym, ◌∙◌}
use Rattle.ll_verdict.proofs.StateLemmas.{at_once-is}
use Rattle.ll_verdict.specs.State.{state_of}
use Rattle.ll_verdict.specs.Verdict.{wanted_of}
use Rattle.ll_room.specs.RoomValue.{RoomValue}
use Rattle.ll_room.proofs.AskLemmas.{unknown}
use Rattle.ll_room.proofs.room.Room.decide.Goals as goal

pub returns-in_default : goal.returns-in_default
returns-in_default c =
    let h = c.args.self.now in
    record {
      asks = tt;
      reply = λ es stands.
          at_once-is h.settings es c.args.want.now
          ∙ unknown h.settings (state_of h.settings es) c.args.want.now
          (ap (λ (x : RoomValue). wanted_of x.settings c.args.want.now) (sym c.self.view_is) ∙ sym c.in_default.ensures.value);
    }
