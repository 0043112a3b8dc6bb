-- All files are cut to the bytes that they need.
use Rattle.std.proofs.Common.{◌≡◌, List, subst}
use Rattle.ll_layout.specs.Held.{Each, LayoutValue}
use Rattle.ll_spool.proofs.BeginLemmas.{begun_held}
use Rattle.ll_spool.specs.Files.{AreCut, IsInside}
use Rattle.ll_spool.proofs.spool.Spool.cut.Goals as goal

pub returns-clause-held : goal.returns-clause-held
returns-clause-held g c = λ of all.
    let ls = c.args.self.now.layouts.items in
    let old = g.D.Disk.files c.args.self.now.disk in
    let mid = g.D.Disk.files c.cut_text.new.self in
    let new = g.D.Disk.files c.cut_sides.new.disk in
    let same : c.deref.result.now ≡ ls = c.deref.ensures.value in
    let cut : AreCut ls mid new = subst (λ (ks : List LayoutValue). AreCut ks mid new) same c.in_ok-cut_sides.ensures.cut in
    begun_held of ls old new (subst (λ files. AreCut ls files new) c.cut_text.ensures.files cut) (subst (Each IsInside) same c.in_ok-cut_sides.ensures.inside) all
