-- A piece that is there comes first; if none is, one more unit is taken.
use Rattle.std.proofs.Common.{◌<◌, ◌∙◌, ap, refl, subst}
use Rattle.ll_parts.specs.Stream.{CutterValue}
use Rattle.ll_push.specs.Next.{IsPieceFault}
use Rattle.ll_push.proofs.PieceLemmas.{comes-after, err-of, fault-later, fewer, fuel, no-unit, popped, unit-taken}
use Rattle.ll_push.proofs.publication.front_piece.Goals as goal

pub loop-piece-init : goal.loop-piece-init
loop-piece-init c = record { same = λ input. refl }

pub returns-in-Some-clause-piece : goal.returns-in-Some-clause-piece
returns-in-Some-clause-piece c = popped c.args.cutter.now c.loop-piece.cutter c.pop.new.self c.in-Some.piece c.loop-piece.invariant.same c.in-Some.ensures

pub returns-in_err-take_unit-clause-fault : goal.returns-in_err-take_unit-clause-fault
returns-in_err-take_unit-clause-fault c =
    err-of c.from_residual.result c.in_err-take_unit.field-0.0 (IsPieceFault c.args.cutter.now) c.from_residual.ensures.1
    (fault-later c.args.cutter.now c.pop.new.self c.in_err-take_unit.field-0.0
    (comes-after c.args.cutter.now c.loop-piece.cutter c.pop.new.self c.loop-piece.invariant.same c.in_default.ensures.0)
    (ap (λ (x : CutterValue). x.progress.pieces) c.in_default.ensures.0 ∙ c.in_default.ensures.1) c.in_err-take_unit.ensures.fault)

pub returns-then-not-branch-clause-piece : goal.returns-then-not-branch-clause-piece
returns-then-not-branch-clause-piece c =
    no-unit c.args.cutter.now c.loop-piece.cutter c.pop.new.self c.take_unit.new.cutter c.in_ok-take_unit.field-0 c.loop-piece.invariant.same c.in_default.ensures.0
    c.in_default.ensures.1 c.in_ok-take_unit.ensures.taken c.in_ok-take_unit.ensures.going c.if-not-branch.true

pub loop-piece-smaller : goal.loop-piece-smaller
loop-piece-smaller c =
    subst (λ x. fuel c.take_unit.new.cutter < fuel x) c.in_default.ensures.0
    (fewer c.pop.new.self c.take_unit.new.cutter c.in_ok-take_unit.field-0 c.in_ok-take_unit.ensures.taken c.if-not-branch.false)

pub loop-piece-preserved : goal.loop-piece-preserved
loop-piece-preserved c = record {
  same =
      unit-taken c.args.cutter.now c.pop.new.self c.take_unit.new.cutter c.in_ok-take_unit.field-0
      (comes-after c.args.cutter.now c.loop-piece.cutter c.pop.new.self c.loop-piece.invariant.same c.in_default.ensures.0) c.in_ok-take_unit.ensures.taken
      c.in_ok-take_unit.ensures.going;
}
