-- What was read is what stands there.
use Rattle.std.proofs.Common.{rules, ◌≡◌, ◌++◌, ap, sym, subst, ◌∙◌, length}
use Rattle.ll_spool.proofs.FileLemmas.{changed_rest, copied_bytes, same_slice}
use Rattle.ll_spool.specs.Files.{IsChanged, IsReadAt}
use Rattle.ll_spool.proofs.bytes.copy.Goals as goal

pub returns-clause-copied : goal.returns-clause-copied
returns-clause-copied g c = λ bytes same at.
    let old = g.D.Disk.files c.args.disk.now in
    let new = g.D.Disk.files c.append.new.self in
    let change : IsChanged c.args.rendition c.args.side (λ file. file ++ c.deref.result.now) old new =
    subst (λ files. IsChanged c.args.rendition c.args.side (λ file. file ++ c.deref.result.now) files new) c.read.ensures.files c.in_ok-append.ensures.appended in
    let long : length c.read.new.bytes ≡ length bytes = search rules in
    let read : IsReadAt old c.args.rendition c.args.place c.read.new.bytes = search rules in
    let all : c.in_ok-bytes.bytes.len ≡ length c.read.new.bytes = search rules in
    let is = c.deref.ensures.value ∙ same_slice c.in_ok-bytes.bytes.len c.read.new.bytes _ all in
    copied_bytes c.args.rendition c.args.side c.args.place old new c.deref.result.now bytes (ap length is ∙ long)
    (subst (IsReadAt old c.args.rendition c.args.place) (sym is) read) at change

pub returns-clause-others : goal.returns-clause-others
returns-clause-others g c =
    let new = g.D.Disk.files c.append.new.self in
    changed_rest c.args.rendition c.args.side (λ file. file ++ c.deref.result.now) (g.D.Disk.files c.args.disk.now) new
    (subst (λ files. IsChanged c.args.rendition c.args.side (λ file. file ++ c.deref.result.now) files new) c.read.ensures.files c.in_ok-append.ensures.appended)
