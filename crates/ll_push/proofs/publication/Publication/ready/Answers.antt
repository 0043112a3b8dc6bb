-- A piece that was announced has a message, which is the first.
use Rattle.std.proofs.Common.{Some, refl, subst}
use Rattle.ll_push.specs.Meaning.{targeted}
use Rattle.ll_push.specs.Next.{IsFront}
use Rattle.ll_push.specs.declared.publication.Publication.{Publication}
use Rattle.ll_push.proofs.NextLemmas.{first-spoken}
use Rattle.ll_push.proofs.publication.Publication.ready.Goals as goal

pub returns-clause-next : goal.returns-clause-next
returns-clause-next g c left a told =
    let p = c.args.self.now in
    let mid : Publication = record { place = p.place; course = p.course; kept = c.pop.new.self; cutter = c.front_piece.new.cutter; ends = p.ends } in
    first-spoken (targeted c.args.target.now) p mid c.announce.new.self c.in-Some-2.piece (g.C.Calendar.coming c.args.clock.now) (g.C.Calendar.coming c.announce.new.clock)
    c.in_ok-announce.ensures.said c.in_default.ensures.1 c.pop-2.new.self c.in-Some-pop.message c.in-Some-pop.ensures c.in_default.ensures.0 refl refl refl
    (subst (IsFront p.cutter c.front_piece.new.cutter) c.in-Some-2.is c.in_ok-piece.ensures.piece) left a told
