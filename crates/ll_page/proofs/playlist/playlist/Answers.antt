-- The lines, added one kind after another, are the whole text.
use Rattle.std.proofs.Common.{◌≡◌, ◌++◌, ◌∙◌, ◌==◌, ap, arith, map, string_bytes}
use Rattle.std.proofs.lemmas.Grind.{common_steps}
use Rattle.ll_range.specs.Announced.{Announced}
use Rattle.ll_line.specs.Line.{DateRange}
use Rattle.ll_line.specs.Text.{text_of}
use Rattle.ll_page.specs.Full.{range_line}
use Rattle.ll_page.proofs.DeltaLemmas.{skips_by, skips-none, skips-some, spelled, text_by}
use Rattle.ll_page.proofs.playlist.playlist.Goals as goal
use Rattle.ll_page.proofs.playlist.playlist.Goals.{then-skipped-eq0+in_ok-push_ranges, else-skipped-eq0+in_ok-push_skipped}

pub returns : goal.returns
returns c =
    let v = c.args.view.now in
    let head = string_bytes c.push_head.new.text in
    let begun : string_bytes c.if-skipped-eq0.text ≡ head ++ skips_by c.args.kind v c.args.skipped =
    elim c.if-skipped-eq0.branch [
      | then-skipped-eq0+in_ok-push_ranges w ↦
          ap string_bytes w.text-is ∙ w.in_ok-push_ranges.ensures
          ∙ ap (λ (a : Announced). head ++ text_of (map DateRange (map range_line a.listed))) w.ranges-then-skipped-eq0.ensures
          ∙ ap (λ t. head ++ t) (skips-none c.args.kind v c.args.skipped w.if-skipped-eq0.true)
      | else-skipped-eq0+in_ok-push_skipped w ↦
          ap string_bytes w.text-is ∙ w.in_ok-push_skipped.ensures
          ∙ ap (λ t. head ++ t) (skips-some c.args.kind v c.args.skipped w.if-skipped-eq0.false)
    ] in
    let lines : string_bytes c.push_last_line.new.text ≡ text_by (c.args.skipped == 0) c.args.pieces.now c.args.kind v c.args.skipped = grind (arith, common_steps, begun) in
    lines ∙ ap (λ ps. text_by (c.args.skipped == 0) ps c.args.kind v c.args.skipped) c.requires ∙ spelled c.args.kind v c.args.skipped
