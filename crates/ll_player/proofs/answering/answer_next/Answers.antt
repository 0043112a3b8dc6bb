-- The next request is asked, and its answer put out.
use Rattle.std.proofs.Common.{refl, sym, ◌∙◌}
use Rattle.ll_player.proofs.TurnLemmas.{half-turn, held-half, held-turn, on-err, shut-turn, told-half, told-turn, took}
use Rattle.ll_player.proofs.answering.answer_next.Goals as goal

pub returns-in_err-answer-clause-half : goal.returns-in_err-answer-clause-half
returns-in_err-answer-clause-half g c =
    on-err _
    (half-turn (g.C.Clock.shows c.args.service.now.clock.now) c.args.service.now.hub.now _ _ _ c.next_want.new.self c.in-Some.want _
    (took _ _ c.in_ok-want.field-0 _ c.in_ok-want.ensures.want c.in-Some.is c.in_ok-want.ensures.ok) refl c.in_err-answer.ensures.unasked.grows)

pub returns-in_err-put_out-in-Ok-clause-half : goal.returns-in_err-put_out-in-Ok-clause-half
returns-in_err-put_out-in-Ok-clause-half g c =
    on-err _
    (told-half (g.C.Clock.shows c.args.service.now.clock.now) c.args.service.now.hub.now _ _ _ c.next_want.new.self c.in-Some.want (λ held. held.claim) c.in_ok-answer.field-0
    c.in-Ok.answer _ (took _ _ c.in_ok-want.field-0 _ c.in_ok-want.ensures.want c.in-Some.is c.in_ok-want.ensures.ok) c.in_ok-answer.ensures.right c.in-Ok.is
    c.in_err-put_out-in-Ok.ensures.unchanged)

pub returns-in_err-feed-in-Err-clause-half : goal.returns-in_err-feed-in-Err-clause-half
returns-in_err-feed-in-Err-clause-half g c =
    on-err _
    (held-half (g.C.Clock.shows c.args.service.now.clock.now) c.args.service.now.hub.now _ _ _ c.next_want.new.self c.in-Some.want (λ held. held.claim) c.in_ok-answer.field-0
    c.in-Err.held _ (took _ _ c.in_ok-want.field-0 _ c.in_ok-want.ensures.want c.in-Some.is c.in_ok-want.ensures.ok) c.in_ok-answer.ensures.right c.in-Err.is
    c.in_err-feed-in-Err.ensures.err)

pub returns-then-shut-clause-turn : goal.returns-then-shut-clause-turn
returns-then-shut-clause-turn g c =
    shut-turn (g.C.Clock.shows c.args.service.now.clock.now) c.args.service.now.hub.now _ _ _ c.next_want.new.self c.in-Some.want (λ held. held.claim) c.in_ok-answer.field-0
    c.in-Err.held _ (took _ _ c.in_ok-want.field-0 _ c.in_ok-want.ensures.want c.in-Some.is c.in_ok-want.ensures.ok) c.in_ok-answer.ensures.right c.in-Err.is
    c.in_ok-feed-in-Err.ensures.ok (sym c.shut.ensures ∙ c.if-shut.true)

pub returns-in_ok-put_out-in-Ok-clause-turn : goal.returns-in_ok-put_out-in-Ok-clause-turn
returns-in_ok-put_out-in-Ok-clause-turn g c =
    told-turn (g.C.Clock.shows c.args.service.now.clock.now) c.args.service.now.hub.now _ _ _ c.next_want.new.self c.in-Some.want (λ held. held.claim) c.in_ok-answer.field-0
    c.in-Ok.answer _ (took _ _ c.in_ok-want.field-0 _ c.in_ok-want.ensures.want c.in-Some.is c.in_ok-want.ensures.ok) c.in_ok-answer.ensures.right c.in-Ok.is
    c.in_ok-put_out-in-Ok.ensures.put

pub returns-else-shut-clause-turn : goal.returns-else-shut-clause-turn
returns-else-shut-clause-turn g c =
    held-turn (g.C.Clock.shows c.args.service.now.clock.now) c.args.service.now.hub.now _ _ _ c.next_want.new.self c.in-Some.want (λ held. held.claim) c.in_ok-answer.field-0
    c.in-Err.held _ (took _ _ c.in_ok-want.field-0 _ c.in_ok-want.ensures.want c.in-Some.is c.in_ok-want.ensures.ok) c.in_ok-answer.ensures.right c.in-Err.is
    c.in_ok-feed-in-Err.ensures.ok (sym c.shut.ensures ∙ c.if-shut.false)
