-- The item's bytes stand at the end of the current side.
use Rattle.std.proofs.Common.{◌++◌, subst}
use Rattle.ll_item.specs.Items.{media_of}
use Rattle.ll_spool.specs.Files.{IsChanged}
use Rattle.ll_spool.proofs.FileLemmas.{added_held, changed_rest, rest_then}
use Rattle.ll_spool.proofs.LayoutLemmas.{laid_by}
use Rattle.ll_spool.proofs.bytes.keep_bytes.Goals as goal

pub returns-clause-held : goal.returns-clause-held
returns-clause-held g c = λ of held is.
    let r = c.args.rendition in
    let l = c.make_room.new.layout in
    let mid = g.D.Disk.files c.make_room.new.disk in
    let new = g.D.Disk.files c.append_item.new.disk in
    let bytes = media_of c.args.item.now in
    let appended : IsChanged r l.side (λ file. file ++ bytes) mid new = subst (λ side. IsChanged r side (λ file. file ++ bytes) mid new) c.side.ensures c.in_ok-append_item.ensures.appended in
    added_held of r l c.add.new.self bytes mid new (c.in_ok-make_room.ensures.held of held) appended (λ files h. c.in_ok-add.ensures.holds files of h is)

pub returns-clause-others : goal.returns-clause-others
returns-clause-others g c =
    rest_then c.args.rendition (g.D.Disk.files c.args.disk.now) (g.D.Disk.files c.make_room.new.disk) (g.D.Disk.files c.append_item.new.disk) c.in_ok-make_room.ensures.others
    (changed_rest c.args.rendition c.side.result (λ file. file ++ media_of c.args.item.now) (g.D.Disk.files c.make_room.new.disk) (g.D.Disk.files c.append_item.new.disk) c.in_ok-append_item.ensures.appended)

pub returns-clause-laid : goal.returns-clause-laid
returns-clause-laid g c =
    laid_by c.args.count c.args.item.now c.args.layout.now c.make_room.new.layout c.add.new.self c.in_ok-make_room.ensures.laid c.in_ok-add.ensures.added c.in_ok-add.ensures.window
