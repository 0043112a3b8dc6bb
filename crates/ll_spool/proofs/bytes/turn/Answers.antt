-- The other side has the sections then, and the older parts stand where they did.
use Rattle.std.proofs.Common.{rules, ◌≡◌, ◌++◌, [], List, subst, sym}
use Rattle.ll_layout.specs.Held.{Each, IsWithin, other, sections_text}
use Rattle.ll_layout.specs.declared.stored.StoredSection.{StoredSection}
use Rattle.ll_spool.specs.Files.{IsChanged, IsSourceOf}
use Rattle.ll_spool.proofs.FileLemmas.{all_sources, changed_rest, rest_then, turned_held}
use Rattle.ll_spool.proofs.bytes.turn.Goals as goal

pub returns-clause-held : goal.returns-clause-held
returns-clause-held g c = λ of held.
    let l = c.args.layout.now in
    let r = c.args.rendition in
    let old = g.D.Disk.files c.args.disk.now in
    let mid = g.D.Disk.files c.clear.new.self in
    let new = g.D.Disk.files c.copy_sections.new.disk in
    let all = c.sections.result.now in
    let side : c.other-side.result ≡ other l.side = search rules in
    let same : all ≡ l.sections = c.sections.ensures.value in
    let cleared : IsChanged r (other l.side) (λ file. []) old mid = subst (λ s. IsChanged r s (λ file. []) old mid) side c.in_ok-clear.ensures.cleared in
    let within : Each (λ (s : StoredSection). IsWithin l.side l.end s.stored) l.sections = subst (Each (λ (s : StoredSection). IsWithin l.side l.end s.stored)) same c.sections.ensures.within in
    let sources = subst (λ t. Each (λ (s : StoredSection). IsSourceOf r t of s.stored mid) all) (sym side)
    (subst (Each (λ (s : StoredSection). IsSourceOf r (other l.side) of s.stored mid)) (sym same) (all_sources of r l old mid held cleared within)) in
    let copied = subst (λ t. IsChanged r t (λ file. file ++ sections_text of l.sections) mid new) side
    (subst (λ (ss : List StoredSection). IsChanged r c.other-side.result (λ file. file ++ sections_text of ss) mid new) same (c.in_ok-copy_sections.ensures.copied of sources)) in
    turned_held of r l c.turn.new.self old mid new held cleared copied (λ files h. c.in_ok-turn.ensures.holds files of h)

pub returns-clause-others : goal.returns-clause-others
returns-clause-others g c =
    rest_then c.args.rendition (g.D.Disk.files c.args.disk.now) (g.D.Disk.files c.clear.new.self) (g.D.Disk.files c.copy_sections.new.disk)
    (changed_rest c.args.rendition c.other-side.result (λ file. []) (g.D.Disk.files c.args.disk.now) (g.D.Disk.files c.clear.new.self) c.in_ok-clear.ensures.cleared)
    c.in_ok-copy_sections.ensures.others
