-- A turn adds the id of the removal at its place if it is recent, and there is one at each place.
use Rattle.std.proofs.Common.{◌+◌, ◌++◌, [], ◌∷◌, true, false, length, nat_le, ap, sym, ◌∙◌, arith}
use Rattle.std.proofs.lemmas.List.{append-nil, length-map}
use Rattle.ll_range.specs.Announced.{Announced}
use Rattle.ll_range.specs.Kept.{removal_at}
use Rattle.ll_range.proofs.Recent.{next_recent}
use Rattle.ll_range.proofs.ranges.Ranges.recent.Goals as goal
use Rattle.ll_range.proofs.ranges.Ranges.recent.Goals.{in-Some+then-is_recent+in_ok-from_str+in_ok-push, in-Some+else-is_recent, in_default}

pub loop-place-preserved : goal.loop-place-preserved
loop-place-preserved c =
    elim c.match-removal.branch [
      | in-Some+then-is_recent+in_ok-from_str+in_ok-push w ↦
          next_recent _ c.loop-place.ids.items c.match-removal.ids.items _ c.args.self.now.recent c.loop-place.place _ true w.in-Some.ensures
          (ap (λ (a : Announced). nat_le c.args.end (w.in-Some.removed + a.limit)) (sym c.self.view_is) ∙ sym w.is_recent.ensures ∙ w.if-is_recent.true)
          (ap (λ v. v.items) w.ids-is ∙ w.in_ok-push.ensures.items ∙ ap (λ id. c.loop-place.ids.items ++ id ∷ []) w.in_ok-from_str.ensures) c.loop-place.invariant
      | in-Some+else-is_recent w ↦
          next_recent _ c.loop-place.ids.items c.match-removal.ids.items _ c.args.self.now.recent c.loop-place.place _ false w.in-Some.ensures
          (ap (λ (a : Announced). nat_le c.args.end (w.in-Some.removed + a.limit)) (sym c.self.view_is) ∙ sym w.is_recent.ensures ∙ w.if-is_recent.false)
          (ap (λ v. v.items) w.ids-is ∙ sym (append-nil c.loop-place.ids.items)) c.loop-place.invariant
      | in_default w ↦
          let all = length-map c.self.inside.recent.entries removal_at in
          let same = ap (λ (a : Announced). length a.recent) c.self.view_is in
          absurd (omega (arith, w.in_default.ensures, c.len-place-end.ensures.len, c.loop-place-test.true, all, same))
    ]
