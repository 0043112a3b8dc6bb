-- A turn counts the date range at its place if it may be skipped, and there is one at each place.
use Rattle.std.proofs.Common.{◌≡◌, ◌+◌, ℕ, Bool, true, false, not, nat_le, nat_lt, ap, ◌∙◌, arith}
use Rattle.std.proofs.lemmas.Bool.Decides.{nat_tests}
use Rattle.ll_range.specs.Announced.{Announced, is_skipped}
use Rattle.ll_range.proofs.Recent.{next-skipped}
use Rattle.ll_range.proofs.ranges.Ranges.skipped.Goals as goal
use Rattle.ll_range.proofs.ranges.Ranges.skipped.Goals.{in-Some+then-not-is_recent, in-Some+else-not-is_recent, in_default}

-- a date range is skipped if its adding is not recent
either_way : (added limit end : ℕ) (b : Bool) → b ≡ nat_le end (added + limit) → nat_lt (added + limit) end ≡ not b
either_way added limit end true e = grind (arith, nat_tests)
either_way added limit end false e = grind (arith, nat_tests)

pub loop-place-preserved : goal.loop-place-preserved
loop-place-preserved c =
    elim c.match-listed.branch [
      | in-Some+then-not-is_recent w ↦
          let limit = ap (λ (a : Announced). nat_le c.args.end (w.in-Some.range.added + a.limit)) c.self.view_is in
          let test = either_way w.in-Some.range.added c.args.self.now.limit c.args.end w.is_recent.result (w.is_recent.ensures ∙ limit) in (
            next-skipped (is_skipped c.args.self.now.limit c.args.end) c.loop-place.count c.match-listed.count _ c.args.self.now.listed c.loop-place.place _ true
                w.in-Some.ensures (test ∙ ap not w.if-not-is_recent.true) w.count-is c.loop-place.invariant.0,
            omega (arith, c.loop-place.invariant.1, w.count-is),
          )
      | in-Some+else-not-is_recent w ↦
          let limit = ap (λ (a : Announced). nat_le c.args.end (w.in-Some.range.added + a.limit)) c.self.view_is in
          let test = either_way w.in-Some.range.added c.args.self.now.limit c.args.end w.is_recent.result (w.is_recent.ensures ∙ limit) in
          let same : c.match-listed.count ≡ c.loop-place.count + 0 = omega (arith, w.count-is) in (
            next-skipped (is_skipped c.args.self.now.limit c.args.end) c.loop-place.count c.match-listed.count _ c.args.self.now.listed c.loop-place.place _ false
                w.in-Some.ensures (test ∙ ap not w.if-not-is_recent.false) same c.loop-place.invariant.0,
            omega (arith, c.loop-place.invariant.1, w.count-is),
          )
      | in_default w ↦ absurd (omega (arith, w.in_default.ensures, c.loop-place-test.true, c.count-place-end.ensures))
    ]
