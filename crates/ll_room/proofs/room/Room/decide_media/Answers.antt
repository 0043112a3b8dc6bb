-- Each decision is the reply at once, for the reason of its branch.
use Rattle.std.proofs.Common.{ap, ap₂, nat_le, refl, ◌∙◌}
use Rattle.ll_verdict.proofs.StateLemmas.{at_once-is}
use Rattle.ll_verdict.specs.State.{state_of, waiting_in}
use Rattle.ll_verdict.specs.Verdict.{waiting_limit}
use Rattle.ll_presentation.proofs.HereLemmas.{media-there}
use Rattle.ll_room.specs.RoomValue.{presentation_in}
use Rattle.ll_room.specs.contracts.room.Room.{the_view}
use Rattle.ll_room.proofs.AskLemmas.{few-now, is-busy, media-reply, media-missing, media-told, told-hinted, without_media}
use Rattle.ll_room.proofs.room.Room.decide_media.Goals as goal

pub returns-then-has_media : goal.returns-then-has_media
returns-then-has_media c =
    let h = c.args.self.now in
    let a = c.args.wanted in
    let found = media-told h (the_view c.self.inside) a _ _ c.self.view_is c.has_media.ensures c.if-has_media.true in
    record {
      asks = (c.requires.asks, c.requires.within, media-there (presentation_in h) a c.requires.media found);
      reply = λ es stands. at_once-is h.settings es c.args._want.now ∙ media-reply h es c.args._want.now a stands c.requires.asks c.requires.media c.requires.within found;
    }

pub returns-then-not-is_hinted : goal.returns-then-not-is_hinted
returns-then-not-is_hinted c =
    let h = c.args.self.now in
    let a = c.args.wanted in
    record {
      asks = tt;
      reply = λ es stands.
          at_once-is h.settings es c.args._want.now
          ∙ media-missing h es c.args._want.now a _ _ stands c.requires.asks c.requires.media c.requires.within
          (media-told h (the_view c.self.inside) a _ _ c.self.view_is c.has_media.ensures c.if-has_media.false)
          (told-hinted h (the_view c.self.inside) es a _ stands c.self.view_is c.is_hinted.ensures) refl
          ∙ ap (λ x. without_media x (nat_le waiting_limit (waiting_in (state_of h.settings es).slots))) c.if-not-is_hinted.true;
    }

pub returns-then-is_busy : goal.returns-then-is_busy
returns-then-is_busy c =
    let h = c.args.self.now in
    let a = c.args.wanted in
    record {
      asks = tt;
      reply = λ es stands.
          at_once-is h.settings es c.args._want.now
          ∙ media-missing h es c.args._want.now a _ _ stands c.requires.asks c.requires.media c.requires.within
          (media-told h (the_view c.self.inside) a _ _ c.self.view_is c.has_media.ensures c.if-has_media.false)
          (told-hinted h (the_view c.self.inside) es a _ stands c.self.view_is c.is_hinted.ensures)
          (is-busy h (the_view c.self.inside) es c.is_busy.result stands c.self.view_is c.is_busy.ensures)
          ∙ ap₂ without_media c.if-not-is_hinted.false c.if-is_busy.true;
    }

pub returns : goal.returns
returns c =
    let h = c.args.self.now in
    let a = c.args.wanted in
    record {
      asks = (c.requires.asks, few-now h (the_view c.self.inside) c.is_busy.result c.self.view_is c.is_busy.ensures c.if-is_busy.false);
      reply = λ es stands.
          at_once-is h.settings es c.args._want.now
          ∙ media-missing h es c.args._want.now a _ _ stands c.requires.asks c.requires.media c.requires.within
          (media-told h (the_view c.self.inside) a _ _ c.self.view_is c.has_media.ensures c.if-has_media.false)
          (told-hinted h (the_view c.self.inside) es a _ stands c.self.view_is c.is_hinted.ensures)
          (is-busy h (the_view c.self.inside) es c.is_busy.result stands c.self.view_is c.is_busy.ensures)
          ∙ ap₂ without_media c.if-not-is_hinted.false c.if-is_busy.false;
    }
