-- The sections so far are copied.
use Rattle.std.proofs.Common.{◌≡◌, ◌++◌, ℕ, List, take}
use Rattle.ll_layout.specs.Held.{Each, sections_text}
use Rattle.ll_layout.specs.declared.stored.StoredSection.{StoredSection}
use Rattle.ll_spool.specs.Files.{AreRestSame, IsChanged, IsSourceOf}
use Rattle.ll_spool.proofs.bytes.copy_sections.Given as goal

abbrev pub invariant-loop-section : goal.invariant-loop-section
invariant-loop-section g l =
    (g.D.Disk.lines l.disk ≡ g.D.Disk.lines l.fn.disk)
    × ((of : ℕ → List ℕ) → Each (λ (s : StoredSection). IsSourceOf l.rendition l.side of s.stored (g.D.Disk.files l.fn.disk)) l.sections
    → IsChanged l.rendition l.side (λ file. file ++ sections_text of (take l.section-index l.sections)) (g.D.Disk.files l.fn.disk) (g.D.Disk.files l.disk))
    × AreRestSame l.rendition (g.D.Disk.files l.fn.disk) (g.D.Disk.files l.disk)
    × (g.D.Disk.failures l.disk ≡ g.D.Disk.failures l.fn.disk)
