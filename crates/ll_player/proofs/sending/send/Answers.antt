-- Each write takes some bytes of the first answer that is left.
use Rattle.std.proofs.Common.{◌∙◌, ◌≤◌, IfSome, length, refl, subst, take}
use Rattle.std.specs.Io.KnownBytes.{Appends}
use Rattle.ll_player.proofs.SendLemmas.{sent-more, sent-none}
use Rattle.ll_player.proofs.sending.send.Goals as goal

pub loop-init : goal.loop-init
loop-init g c = record { steady = refl; unread = refl; sent = sent-none _ _ }

pub loop-preserved : goal.loop-preserved
loop-preserved g c =
    let most = subst (λ done. IfSome done (λ n. n ≤ length c.in-Some-first_answer.answer)) c.in-Ok-Some.field-0-is c.in-Ok-Some.ensures.count in
    let wrote =
    subst
    (λ done. IfSome done (λ n. Appends (g.P.Writer.written c.loop.link) (g.P.Writer.written c.write_some.new.link) (take n c.in-Some-first_answer.answer)))
    c.in-Ok-Some.field-0-is c.in-Ok-Some.ensures.bytes
    in
    record {
      steady = c.in-Ok-Some.ensures.steady ∙ c.loop.invariant.steady;
      unread = c.in-Ok-Some.ensures.unread ∙ c.loop.invariant.unread;
      sent =
          sent-more _ _ _ c.args.session.now c.loop.session c.sent.new.self c.in-Some-first_answer.answer c.in-Ok-Some.count c.loop.invariant.sent
          c.in-Some-first_answer.ensures most wrote c.sent.ensures;
    }
