-- One more section is copied.
use Rattle.std.proofs.Common.{rules, ◌≡◌, ◌<◌, ◌++◌, List, refl, sym, subst, ◌∙◌, length, take, get_or, arith}
use Rattle.std.proofs.lemmas.List.{take_all, take_more}
use Rattle.ll_layout.specs.Held.{sections_text}
use Rattle.ll_layout.specs.declared.side.Side.TheVariants.{A}
use Rattle.ll_layout.specs.declared.stored.StoredSection.{StoredSection}
use Rattle.ll_spool.specs.Files.{IsChanged, IsSourceOf}
use Rattle.ll_spool.proofs.FileLemmas.{copied_more, copied_none, rest_same, rest_then, source_at}
use Rattle.ll_spool.proofs.bytes.copy_sections.Goals as goal

pub loop-section-init : goal.loop-section-init
loop-section-init g c = (refl, (λ of all. copied_none c.args.rendition c.args.side of (g.D.Disk.files c.args.disk.now)), rest_same c.args.rendition (g.D.Disk.files c.args.disk.now), refl)

pub loop-section-preserved : goal.loop-section-preserved
loop-section-preserved g c =
    let i = c.loop-section.section-index in
    let ss = c.args.sections.now in
    let d : StoredSection = record { map = 0; stored = record { count = 0; place = record { side = A; offset = 0; length = 0 } } } in
    let first = g.D.Disk.files c.args.disk.now in
    let more : i < length ss = omega (arith, c.loop-section-test.true) in (
      c.in_ok-copy.ensures.text ∙ c.loop-section.invariant.0,
      (λ of all. subst (λ (done : List StoredSection). IsChanged c.args.rendition c.args.side (λ file. file ++ sections_text of done) first (g.D.Disk.files c.copy.new.disk)) (sym (take_more ss i d more))
          (copied_more of c.args.rendition c.args.side (get_or ss i d) (take i ss) first (g.D.Disk.files c.loop-section.disk) (g.D.Disk.files c.copy.new.disk)
          (source_at (λ (s : StoredSection). IsSourceOf c.args.rendition c.args.side of s.stored first) ss i d more all)
          (c.loop-section.invariant.1 of all) c.in_ok-copy.ensures.copied)),
      rest_then c.args.rendition first (g.D.Disk.files c.loop-section.disk) (g.D.Disk.files c.copy.new.disk) c.loop-section.invariant.2 c.in_ok-copy.ensures.others,
      c.in_ok-copy.ensures.steady ∙ c.loop-section.invariant.3,
    )

pub returns : goal.returns
returns g c =
    let ss = c.args.sections.now in
    let end : c.loop-section.section-index ≡ length ss = search rules in
    let done : take c.loop-section.section-index ss ≡ ss = take_all c.loop-section.section-index ss (omega (arith, end)) in
    record {
      text = c.loop-section.invariant.0;
      copied = λ of all. subst (λ (s : List StoredSection). IsChanged c.args.rendition c.args.side (λ file. file ++ sections_text of s) (g.D.Disk.files c.args.disk.now) (g.D.Disk.files c.loop-section.disk))
          done (c.loop-section.invariant.1 of all);
      others = c.loop-section.invariant.2;
      steady = c.loop-section.invariant.3;
      failed = tt;
    }
