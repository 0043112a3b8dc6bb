-- The first segment that keeps its parts is far, or none of those that keep theirs is.
use Rattle.std.proofs.Common.{◌≡◌, Some, ap, arith, refl, slice_get, slice_set, sym, ◌∙◌}
use Rattle.std.proofs.lemmas.Option.{slice_get_read}
use Rattle.ll_window.specs.Rows.{Row}
use Rattle.ll_window.specs.Window.{listed}
use Rattle.ll_window.proofs.HideLemmas.{as_listed, far_so, lasting-after, listed-hidden, none_there, one-hidden, set-same}
use Rattle.ll_window.proofs.finished.Finished.hide_next.Goals as goal

pub returns-in_default-clause-done : goal.returns-in_default-clause-done
returns-in_default-clause-done c =
    let f = c.args.self.now in
    as_listed c.args.near c.args.open_duration f.far f.rows.items c.requires.hidden.given_up (far_so f c.args.near c.args.open_duration c.requires.hidden c.requires.far)
    (λ r at. absurd (none_there f.rows.items f.rows.len f.far r f.rows.ok.0 c.in_default.ensures.variant.1 at))

pub returns-then-after-open_duration-clause-done : goal.returns-then-after-open_duration-clause-done
returns-then-after-open_duration-clause-done c =
    let f = c.args.self.now in
    let r = c.in-Some.first.now in
    let at : slice_get f.rows.items f.far ≡ Some r = slice_get_read f.rows.items _ f.far r f.rows.ok.0 (c.in-Some.ensures.variant.0 refl) c.in-Some.ensures.value in
    let d = ap (λ (x : Row). x.segment.duration) c.first.view_is in
    let a = lasting-after f.rows.items f.far r at in
    let s = c.requires.hidden.sum in
    let near = c.if-after-open_duration.true in
    let same = set-same f.far f.rows.items r at in
    same
    ∙ as_listed c.args.near c.args.open_duration f.far f.rows.items c.requires.hidden.given_up (far_so f c.args.near c.args.open_duration c.requires.hidden c.requires.far)
    (λ q there. omega (arith, a, s, d, near))
    ∙ ap (listed c.args.near c.args.open_duration) (sym same)

pub returns-clause-rows : goal.returns-clause-rows
returns-clause-rows c =
    let f = c.args.self.now in
    let r = c.in-Some.first.now in
    let at : slice_get f.rows.items f.far ≡ Some r = slice_get_read f.rows.items _ f.far r f.rows.ok.0 (c.in-Some.ensures.variant.0 refl) c.in-Some.ensures.value in
    let d = ap (λ (x : Row). x.segment.duration) c.first.view_is in
    let a = lasting-after f.rows.items f.far r at in
    let s = c.requires.hidden.sum in
    let far = c.if-after-open_duration.false in
    ap (λ x. listed c.args.near c.args.open_duration (slice_set f.rows.items f.far x)) c.hide.ensures
    ∙ listed-hidden c.args.near c.args.open_duration f.far f.rows.items r at (omega (arith, a, s, d, far))

pub returns-clause-hidden : goal.returns-clause-hidden
returns-clause-hidden c =
    let f = c.args.self.now in
    let r = c.in-Some.first.now in
    let at : slice_get f.rows.items f.far ≡ Some r = slice_get_read f.rows.items _ f.far r f.rows.ok.0 (c.in-Some.ensures.variant.0 refl) c.in-Some.ensures.value in
    let d = ap (λ (x : Row). x.segment.duration) c.first.view_is in
    let a = lasting-after f.rows.items f.far r at in
    let s = c.requires.hidden.sum in
    let lt = c.in-Some.ensures.variant.0 refl in
    let len = f.rows.ok.0 in
    one-hidden f _ r _ c.requires.hidden at (omega (arith, lt, len)) c.hide.ensures refl refl (omega (arith, a, s, d))
