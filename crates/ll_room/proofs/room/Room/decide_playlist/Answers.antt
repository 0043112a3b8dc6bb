-- Each decision is the reply at once, for the reason of its branch.
use Rattle.std.proofs.Common.{ap, is_some, ◌∙◌}
use Rattle.ll_verdict.proofs.StateLemmas.{at_once-is}
use Rattle.ll_verdict.specs.State.{state_of}
use Rattle.ll_presentation.proofs.HereLemmas.{page-here}
use Rattle.ll_room.specs.RoomValue.{presentation_in}
use Rattle.ll_room.specs.contracts.room.Room.{the_view}
use Rattle.ll_room.proofs.AskLemmas.{few-now, is-busy, known, page-reply, there, told-far, told-there, too_far}
use Rattle.ll_room.proofs.room.Room.decide_playlist.Goals as goal

pub returns-then-is_there : goal.returns-then-is_there
returns-then-is_there c =
    let h = c.args.self.now in
    let a = c.args.wanted in
    record {
      asks = (c.requires.asks, c.requires.within, ap is_some (page-here (presentation_in h) a c.requires.playlist));
      reply = λ es stands.
          at_once-is h.settings es c.args._want.now
          ∙ there h.settings (state_of h.settings es) c.args._want.now a c.requires.asks c.requires.playlist
          (told-there h (the_view c.self.inside) es a _ stands c.self.view_is c.is_there.ensures ∙ c.if-is_there.true)
          ∙ page-reply h es a stands c.requires.playlist;
    }

pub returns-then-is_far : goal.returns-then-is_far
returns-then-is_far c =
    let h = c.args.self.now in
    let a = c.args.wanted in
    record {
      asks = tt;
      reply = λ es stands.
          at_once-is h.settings es c.args._want.now
          ∙ too_far h.settings (state_of h.settings es) c.args._want.now a c.requires.asks c.requires.playlist
          (told-there h (the_view c.self.inside) es a _ stands c.self.view_is c.is_there.ensures ∙ c.if-is_there.false)
          (told-far h (the_view c.self.inside) es a _ stands c.self.view_is c.is_far.ensures ∙ c.if-is_far.true);
    }

pub returns-then-is_busy : goal.returns-then-is_busy
returns-then-is_busy c =
    let h = c.args.self.now in
    let a = c.args.wanted in
    record {
      asks = tt;
      reply = λ es stands.
          at_once-is h.settings es c.args._want.now
          ∙ known h.settings (state_of h.settings es) c.args._want.now a _ _ _ c.requires.asks c.requires.playlist
          (told-there h (the_view c.self.inside) es a _ stands c.self.view_is c.is_there.ensures ∙ c.if-is_there.false)
          (told-far h (the_view c.self.inside) es a _ stands c.self.view_is c.is_far.ensures ∙ c.if-is_far.false)
          (is-busy h (the_view c.self.inside) es c.is_busy.result stands c.self.view_is c.is_busy.ensures ∙ c.if-is_busy.true);
    }

pub returns : goal.returns
returns c =
    let h = c.args.self.now in
    let a = c.args.wanted in
    record {
      asks = (c.requires.asks, few-now h (the_view c.self.inside) c.is_busy.result c.self.view_is c.is_busy.ensures c.if-is_busy.false);
      reply = λ es stands.
          at_once-is h.settings es c.args._want.now
          ∙ known h.settings (state_of h.settings es) c.args._want.now a _ _ _ c.requires.asks c.requires.playlist
          (told-there h (the_view c.self.inside) es a _ stands c.self.view_is c.is_there.ensures ∙ c.if-is_there.false)
          (told-far h (the_view c.self.inside) es a _ stands c.self.view_is c.is_far.ensures ∙ c.if-is_far.false)
          (is-busy h (the_view c.self.inside) es c.is_busy.result stands c.self.view_is c.is_busy.ensures ∙ c.if-is_busy.false);
    }
