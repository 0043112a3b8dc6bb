-- The last place is the target's if and only if the reading ends there.
use Rattle.std.proofs.Common.{◌∙◌, sym, ap, fold, arith}
use Rattle.std.proofs.lemmas.List.{drop_all}
use Rattle.ll_wire.specs.Places.{next_place}
use Rattle.ll_wire.proofs.PlaceLemmas.{at_target, at_other}
use Rattle.ll_wire.proofs.place.ends_in_target.Goals as goal

pub returns-in-Target : goal.returns-in-Target
returns-in-Target c =
    let none = ap (fold next_place c.loop-b.place) (sym (drop_all c.loop-b.b-index c.args.bytes.now (omega arith))) in
    sym (at_target c.args.bytes.now c.loop-b.place (none ∙ c.loop-b.invariant) c.in-Target.is)

pub returns-in_default : goal.returns-in_default
returns-in_default c =
    let none = ap (fold next_place c.loop-b.place) (sym (drop_all c.loop-b.b-index c.args.bytes.now (omega arith))) in
    sym (at_other c.args.bytes.now c.loop-b.place (none ∙ c.loop-b.invariant) c.in_default.not-Target)
